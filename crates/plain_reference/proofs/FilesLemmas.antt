-- What one call after another appends, and the files of a tree, range by range.
use Rattle.std.proofs.Common.{T, ◌≡◌, ℕ, zero, suc, ◌-◌, ◌<◌, List, [], ◌∷◌, ◌++◌, length, get_or, take, map, refl, sym, ap, ◌∙◌, append_assoc, arith}
use Rattle.std.specs.FinMap.Entries.{below_all}
use Rattle.std.proofs.lemmas.List.{append-nil}
use Rattle.lake_base.specs.Digest.{sha256}
use Rattle.lake_values.specs.Entry.{EntryValue}
use Rattle.lake_format.specs.Spelling.{path_at, range_spelling, line_of, metarange_spelling, file_name}
use Rattle.lake_format.specs.Cutting.{ranges, metarange_of, files, tree_id}
use Rattle.lake_values.specs.KeyMap.{KeyMapValue}
use Rattle.lake_base.specs.Maps.{byte_order, HasAscendingKeys}
use Rattle.lake_format.specs.declared.cut.Cut.{Cut}
use Rattle.lake_base.specs.declared.digest.Digest.{Digest}
use Rattle.lake_format.specs.declared.range_line.RangeLine.{RangeLine}
use Rattle.lake_base.proofs.MapsLemmas.{first, second, both, head_below, tail_ascends}
use Rattle.lake_format.proofs.CutLemmas.{ranges_none}

-- ---- appends

-- the parts of a commit
pub eight : (head root generation date count parents committer message metadata all o1 o2 o3 o4 o5 o6 o7 : List ℕ)
    → o1 ≡ head → o2 ≡ o1 ++ root → o3 ≡ o2 ++ generation → o4 ≡ o3 ++ date → o5 ≡ o4 ++ (count ++ parents)
    → o6 ≡ o5 ++ committer → o7 ≡ o6 ++ message → all ≡ o7 ++ metadata
    → all ≡ head ++ (root ++ (generation ++ (date ++ (count ++ (parents ++ (committer ++ (message ++ metadata)))))))
eight head root generation date count parents committer message metadata all o1 o2 o3 o4 o5 o6 o7 e1 e2 e3 e4 e5 e6 e7 e8 =
    rw (e8, e7, e6, e5, e4, e3, e2, e1) (simp append_assoc)

-- the path at a place
pub path_is : (rows : List (List ℕ × EntryValue)) (i : ℕ) (d : List ℕ × EntryValue) → i < length rows → (get_or rows i d).0 ≡ path_at rows i
path_is [] i d lt = absurd (omega arith)
path_is (row ∷ rows) zero d lt = refl
path_is (row ∷ rows) (suc i) d lt = path_is rows i d (omega arith)

-- what is said of a range of these rows, part by part
pub line_is : (rows : List (List ℕ × EntryValue)) (line : RangeLine) → line.name.0 ≡ sha256 (range_spelling rows) → line.rows ≡ length rows
    → line.first ≡ path_at rows 0 → line.last ≡ path_at rows (length rows - 1) → line ≡ line_of rows
unfolding line_of
line_is rows line name len low high = λ i. record { name = record { 0 = name i }; rows = len i; first = low i; last = high i }

-- ---- files

-- one more file or line, and one range less
pub one_more : {A B : Type 0} (h : A → B) (old : List B) (new : B) (x : A) (xs rest : List A) (all : List B)
    → old ++ map h xs ≡ all → xs ≡ x ∷ rest → new ≡ h x → (old ++ new ∷ []) ++ map h rest ≡ all
one_more h old new x xs rest all so_far is same =
    append_assoc old (new ∷ []) (map h rest) ∙ ap (λ y. old ++ y ∷ map h rest) same ∙ sym (ap (λ l. old ++ map h l) is) ∙ so_far

-- all of them, once no row is left
pub all_done : {B : Type 0} (h : List (List ℕ × EntryValue) → B) (cut : Cut) (rows rest : List (List ℕ × EntryValue)) (done : List B)
    → rest ≡ [] → done ++ map h (ranges cut rest) ≡ map h (ranges cut rows) → done ≡ map h (ranges cut rows)
all_done h cut rows rest done none so_far =
    let nothing : ranges cut rest ≡ [] = ap (ranges cut) none ∙ ranges_none cut in
    sym (append-nil done) ∙ sym (ap (λ r. done ++ map h r) nothing) ∙ so_far

-- the files, once no row is left
pub tree_is : (cut : Cut) (rows rest : List (List ℕ × EntryValue)) (done : List (List ℕ)) (metarange : List ℕ) (lines : List RangeLine)
    → rest ≡ [] → done ++ map range_spelling (ranges cut rest) ≡ map range_spelling (ranges cut rows)
    → lines ++ map line_of (ranges cut rest) ≡ map line_of (ranges cut rows)
    → metarange ≡ metarange_spelling lines
    → metarange ∷ done ≡ metarange_spelling (map line_of (ranges cut rows)) ∷ map range_spelling (ranges cut rows)
tree_is cut rows rest done metarange lines none made said head =
    let all_made = all_done range_spelling cut rows rest done none made in
    let all_said = all_done line_of cut rows rest lines none said in
    ap (λ l. metarange ∷ l) all_made ∙ ap (λ h. h ∷ map range_spelling (ranges cut rows)) (head ∙ ap metarange_spelling all_said)

-- ---- paths that ascend

below_front : (key : List ℕ) (n : ℕ) (rows : List (List ℕ × EntryValue)) → T (below_all byte_order key rows) → T (below_all byte_order key (take n rows))
below_front key zero rows h = tt
below_front key (suc n) [] h = tt
below_front key (suc n) (row ∷ rows) h = both _ _ (first _ _ h) (below_front key n rows (second _ _ h))

-- a front of rows whose paths ascend
pub ascends_take : (n : ℕ) (rows : List (List ℕ × EntryValue)) → HasAscendingKeys rows → HasAscendingKeys (take n rows)
ascends_take zero rows h = tt
ascends_take (suc n) [] h = tt
ascends_take (suc n) (row ∷ rows) h = both _ _ (below_front row.0 n rows (head_below row rows h)) (ascends_take n rows (tail_ascends row rows h))

-- ---- ids

-- a digest of a file's bytes is its name
pub named : (digest : Digest) (bytes : List ℕ) → digest.0 ≡ sha256 bytes → digest ≡ file_name bytes
named digest bytes is = λ i. record { 0 = is i }

-- the files of a tree aren't none
pub some_file : (cut : Cut) (objects : KeyMapValue) (all : List (List ℕ)) → all ≡ files cut objects → 0 < length all
unfolding files
some_file cut objects [] is = absurd cc
some_file cut objects (file ∷ all) is = omega arith

-- the first of them is the metarange, by which the tree is known
pub first_file : (cut : Cut) (objects : KeyMapValue) (all : List (List ℕ)) (d : List ℕ) → all ≡ files cut objects
    → file_name (get_or all 0 d) ≡ tree_id cut objects
unfolding files tree_id
first_file cut objects [] d is = absurd cc
first_file cut objects (file ∷ all) d is =
    let head : file ≡ metarange_of cut objects = cc in
    ap file_name head
