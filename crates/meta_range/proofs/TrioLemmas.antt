-- Three trees agree exactly where their ranges match, and files agree or clash.
use Rattle.std.proofs.Common.{◌≡◌, ◌⊎◌, ◌↔◌, inl, inr, ℕ, zero, suc, ◌<◌, Bool, true, false, cond, ◌&&◌, List, [], ◌∷◌, ◌++◌, length, get_or, map, Option, Some}
use Rattle.std.proofs.Common.{None, refl, sym, ap, subst, ◌∙◌, arith}
use Rattle.std.specs.Prelude.{◌≢◌}
use Rattle.std.specs.List.{AllByRecursion, Contains}
use Rattle.std.specs.Option.{option_map_or}
use Rattle.std.specs.Str.{bytes_eq}
use Rattle.std.proofs.lemmas.Bool.{cases_Bool}
use Rattle.std.proofs.lemmas.List.Elements.{All-contains, Contains-append_cases, Contains-append_left, Contains-append_right}
use Rattle.std.proofs.lemmas.List.Sums.{AllPass-from_list_all}
use Rattle.std.proofs.lemmas.Slice.Eq.{bytes_eq-Decides}
use Rattle.lake_base.specs.declared.digest.Digest.{Digest}
use Rattle.lake_values.specs.Ancestry.{same_id}
use Rattle.lake_format.specs.Spelling.{file_name, range_spelling, IsRange}
use Rattle.range_file.specs.Rows.{RowValue}
use Rattle.range_file.proofs.ReadingLemmas.{apart}
use Rattle.meta_range.specs.Files.{Clash}
use Rattle.meta_range.specs.RangeNames.{first_named, range_name, same_rows, is_matched, are_matched, all_matched}
use Rattle.meta_range.specs.Ranges.{tree_of}
use Rattle.meta_range.specs.Trio.{TrioValue, range_files, Agree}
use Rattle.meta_range.proofs.NamesLemmas.{same_rows_are}

abbrev Files : Type 0
Files = List (List ℕ)

abbrev Ranges : Type 0
Ranges = List (List RowValue)

-- files of the one and of the other that have one name have the same bytes
abbrev Same : Files → Files → Type 0
Same all others = (file other : List ℕ) → Contains all file → Contains others other → file_name file ≡ file_name other → file ≡ other

abbrev spelled : Ranges → Files
spelled ranges = map range_spelling ranges

-- ---- what a list contains

behind : {X : Type 0} (y : X) (xs : List X) (x : X) → Contains xs x → Contains (y ∷ xs) x
behind y xs x has = (suc has.0, omega (arith, has.1), has.2)

-- it is the first, or stands behind it
first_or : {X : Type 0} (y : X) (xs : List X) (x : X) → Contains (y ∷ xs) x → (y ≡ x) ⊎ Contains xs x
first_or y xs x has = by has.0 has.1 has.2
  where
    by : (k : ℕ) → k < length (y ∷ xs) → get_or (y ∷ xs) k x ≡ x → (y ≡ x) ⊎ Contains xs x
    by zero lt is = inl is
    by (suc k) lt is = inr (k, omega arith, is)

map_contains : {X Y : Type 0} (f : X → Y) (xs : List X) (x : X) → Contains xs x → Contains (map f xs) (f x)
map_contains f [] x has = absurd (omega (arith, has.1))
map_contains f (y ∷ xs) x has =
    elim (first_or y xs x has) [
      | inl is ↦ (0, omega arith, ap f is)
      | inr more ↦ behind (f y) (map f xs) (f x) (map_contains f xs x more)
    ]

map_from : {X Y : Type 0} (f : X → Y) (xs : List X) (y : Y) → Contains (map f xs) y → (x : X) × Contains xs x × (f x ≡ y)
map_from f [] y has = absurd (omega (arith, has.1))
map_from f (x ∷ xs) y has =
    elim (first_or (f x) (map f xs) y has) [
      | inl is ↦ (x, (0, omega arith, refl), is)
      | inr more ↦ let rest = map_from f xs y more in (rest.0, behind x xs rest.0 rest.1, rest.2)
    ]

-- ---- ranges by name

-- what is found by a name is one of the ranges, and has the name
found_is : (name : Digest) (ranges : Ranges) (first : List RowValue) → first_named range_name name ranges ≡ Some first
    → Contains ranges first × (range_name first ≡ name)
found_is name [] first found = absurd cc
found_is name (range ∷ ranges) first found = by (same_id (range_name range) name) refl (found_is name ranges first) found
  where
    by : (b : Bool)
        → same_id (range_name range) name ≡ b → (first_named range_name name ranges ≡ Some first → Contains ranges first × (range_name first ≡ name))
        → cond b (Some range) (first_named range_name name ranges) ≡ Some first → Contains (range ∷ ranges) first × (range_name first ≡ name)
    by true same rest is =
        let here : range ≡ first = cc in
        let bytes = (bytes_eq-Decides (range_name range).0 name.0).0 same in
        let named : range_name range ≡ name = λ i. record { 0 = bytes i } in
        ((0, omega arith, here), ap range_name (sym here) ∙ named)
    by false other rest is = (behind range ranges first (rest is).0, (rest is).1)

-- one of the ranges is found by the name of one that is there
first_there : (ranges : Ranges) (range : List RowValue) → Contains ranges range
    → (first : List RowValue) × (first_named range_name (range_name range) ranges ≡ Some first)
first_there [] range has = absurd (omega (arith, has.1))
first_there (next ∷ ranges) range has =
    elim (cases_Bool (same_id (range_name next) (range_name range))) [
      | inl same ↦ (next, ap (λ b. cond b (Some next) (first_named range_name (range_name range) ranges)) same)
      | inr other ↦
          let rest = first_there ranges range (later other) in
          (rest.0, ap (λ b. cond b (Some next) (first_named range_name (range_name range) ranges)) other ∙ rest.1)
    ]
  where
    later : same_id (range_name next) (range_name range) ≡ false → Contains ranges range
    later other =
        elim (first_or next ranges range has) [
          | inl is ↦ absurd (cc (sym ((bytes_eq-Decides (range_name next).0 (range_name range).0).1 (ap (λ r. (range_name r).0) is)) ∙ other))
          | inr more ↦ more
        ]

-- ---- ranges that match

-- a range that matches has the rows of the first of its name
is_first : (others : Ranges) (range first : List RowValue) → is_matched others range ≡ true → first_named range_name (range_name range) others ≡ Some first
    → range ≡ first
is_first others range first matched found = (same_rows_are range first).0 (sym (ap (λ o. option_map_or (same_rows range) o true) found) ∙ matched)

one_matches : (others ranges : Ranges) (range : List RowValue) → are_matched others ranges ≡ true → Contains ranges range → is_matched others range ≡ true
one_matches others ranges range all = All-contains (λ r. is_matched others r ≡ true) ranges range (AllPass-from_list_all (is_matched others) ranges all)

-- where ranges match others, and these each other, their files of one name have the same bytes
same_files : (others ranges : Ranges) → are_matched others others ≡ true → are_matched others ranges ≡ true → Same (spelled ranges) (spelled others)
same_files others ranges own all file other here there named =
    let r = map_from range_spelling ranges file here in
    let s = map_from range_spelling others other there in
    let names : range_name r.0 ≡ range_name s.0 = ap file_name r.2 ∙ named ∙ sym (ap file_name s.2) in
    let first = first_there others s.0 s.1 in
    let left = is_first others r.0 first.0 (one_matches others ranges r.0 all r.1) (ap (λ n. first_named range_name n others) names ∙ first.1) in
    let right = is_first others s.0 first.0 (one_matches others others s.0 own s.1) first.1 in
    sym r.2 ∙ ap range_spelling (left ∙ sym right) ∙ s.2

-- and the other way round
matched_from : (others ranges : Ranges) → AllByRecursion IsRange others → AllByRecursion IsRange ranges → Same (spelled ranges) (spelled others)
    → are_matched others ranges ≡ true
matched_from others [] each_other each same = refl
matched_from others (range ∷ ranges) each_other each same =
    ap (λ b. b && are_matched others ranges) (by (first_named range_name (range_name range) others) refl)
    ∙ matched_from others ranges each_other each.1 (λ file other here. same file other (behind (range_spelling range) (spelled ranges) file here))
  where
    is_range : (xs : Ranges) (x : List RowValue) → AllByRecursion IsRange xs → Contains xs x → IsRange x
    is_range [] x all has = absurd (omega (arith, has.1))
    is_range (y ∷ xs) x all has = elim (first_or y xs x has) [ inl is ↦ subst IsRange is all.0 | inr more ↦ is_range xs x all.1 more ]

    by : (o : Option (List RowValue)) → first_named range_name (range_name range) others ≡ o → option_map_or (same_rows range) o true ≡ true
    by None none = refl
    by (Some first) found =
        let is = found_is (range_name range) others first found in
        let bytes = same (range_spelling range) (range_spelling first) (0, omega arith, refl) (map_contains range_spelling others first is.0) (sym is.1) in
        (same_rows_are range first).1 (apart range first each.0 (is_range others first each_other is.0) bytes)

-- ---- three lists of files

flip : (all others : Files) → Same all others → Same others all
flip all others same file other here there named = sym (same other file there here (sym named))

joined : (all more others : Files) → Same all others → Same more others → Same (all ++ more) others
joined all more others left right file other here there named =
    elim (Contains-append_cases all more file here) [ inl has ↦ left file other has there named | inr has ↦ right file other has there named ]

-- of each of three
beside : (all one two three : Files) → Same all one → Same all two → Same all three → Same all (one ++ (two ++ three))
beside all one two three a b c =
    flip (one ++ (two ++ three)) all (joined one (two ++ three) all (flip all one a) (joined two three all (flip all two b) (flip all three c)))

abbrev trio : Ranges → Ranges → Ranges → TrioValue
trio base source dest = record { base = tree_of base; source = tree_of source; dest = tree_of dest }

parts : (a b : Bool) → (a && b) ≡ true → (a ≡ true) × (b ≡ true)
parts true b e = (refl, e)
parts false b e = absurd cc

module _ (base source dest : Ranges) where
  agree_if : all_matched base source dest ≡ true → Agree (trio base source dest)
  agree_if all =
      let p = parts _ (are_matched dest source) all in
      let q = parts _ (are_matched dest base) p.0 in
      let r = parts _ (are_matched source base) q.0 in
      let s = parts _ (are_matched dest dest) r.0 in
      let t = parts (are_matched base base) (are_matched source source) s.0 in
      let bb = same_files base base t.0 t.0 in
      let ss = same_files source source t.1 t.1 in
      let dd = same_files dest dest s.1 s.1 in
      let bs = same_files source base t.1 r.1 in
      let bd = same_files dest base s.1 q.1 in
      let sd = same_files dest source s.1 p.1 in
      let b = spelled base in
      let s = spelled source in
      let d = spelled dest in
      joined b (s ++ d) (b ++ (s ++ d)) (beside b b s d bb bs bd)
      (joined s d (b ++ (s ++ d)) (beside s b s d (flip b s bs) ss sd) (beside d b s d (flip b d bd) (flip s d sd) dd))

  matched_if : AllByRecursion IsRange base → AllByRecursion IsRange source → AllByRecursion IsRange dest → Agree (trio base source dest)
      → all_matched base source dest ≡ true
  matched_if is_base is_source is_dest agree =
      let b = spelled base in
      let s = spelled source in
      let d = spelled dest in
      let in_b : (file : List ℕ) → Contains b file → Contains (b ++ (s ++ d)) file = λ file has. Contains-append_left b (s ++ d) file has in
      let in_s : (file : List ℕ) → Contains s file → Contains (b ++ (s ++ d)) file =
      λ file has. Contains-append_right b (s ++ d) file (Contains-append_left s d file has) in
      let in_d : (file : List ℕ) → Contains d file → Contains (b ++ (s ++ d)) file =
      λ file has. Contains-append_right b (s ++ d) file (Contains-append_right s d file has) in
      let bb = matched_from base base is_base is_base (λ file other here there. agree file other (in_b file here) (in_b other there)) in
      let ss = matched_from source source is_source is_source (λ file other here there. agree file other (in_s file here) (in_s other there)) in
      let dd = matched_from dest dest is_dest is_dest (λ file other here there. agree file other (in_d file here) (in_d other there)) in
      let bs = matched_from source base is_source is_base (λ file other here there. agree file other (in_b file here) (in_s other there)) in
      let bd = matched_from dest base is_dest is_base (λ file other here there. agree file other (in_b file here) (in_d other there)) in
      let sd = matched_from dest source is_dest is_source (λ file other here there. agree file other (in_s file here) (in_d other there)) in
      rw (bb, ss, dd, bs, bd, sd) refl

  pub agree_exactly : AllByRecursion IsRange base → AllByRecursion IsRange source → AllByRecursion IsRange dest
      → (all_matched base source dest ≡ true) ↔ Agree (trio base source dest)
  agree_exactly is_base is_source is_dest = (agree_if, matched_if is_base is_source is_dest)

-- ---- files agree or clash

clash_behind : (file : List ℕ) (all others : Files) → Clash all others → Clash (file ∷ all) others
clash_behind file all others clash = record {
  file = clash.file;
  other = clash.other;
  here = behind file all clash.file clash.here;
  there = clash.there;
  name = clash.name;
  apart = clash.apart;
}

-- whether a file is the same as those of its name
one_or : (file : List ℕ) (others : Files) → ((other : List ℕ) → Contains others other → file_name file ≡ file_name other → file ≡ other)
    ⊎ ((other : List ℕ) × Contains others other × (file_name file ≡ file_name other) × (file ≢ other))
one_or file [] = inl (λ other has named. absurd (omega (arith, has.1)))
one_or file (next ∷ others) =
    elim (one_or file others) [
      | inr clash ↦ inr (clash.0, behind next others clash.0 clash.1, clash.2, clash.3)
      | inl same ↦
          elim (cases_Bool (bytes_eq file next)) [
            | inl equal ↦ inl (λ other has named.
                elim (first_or next others other has) [ inl is ↦ (bytes_eq-Decides file next).0 equal ∙ is | inr more ↦ same other more named ])
            | inr apart ↦
                elim (cases_Bool (bytes_eq (file_name file).0 (file_name next).0)) [
                  | inl named ↦
                      let bytes = (bytes_eq-Decides (file_name file).0 (file_name next).0).0 named in
                      inr (next, (0, omega arith, refl), λ i. record { 0 = bytes i }, λ is. absurd (cc (sym ((bytes_eq-Decides file next).1 is) ∙ apart)))
                  | inr other_name ↦ inl (λ other has named.
                      elim (first_or next others other has) [
                        | inl is ↦ absurd (cc (sym
                            ((bytes_eq-Decides (file_name file).0 (file_name next).0).1 (ap (λ (n : Digest). n.0) (named ∙ sym (ap file_name is))))
                            ∙ other_name))
                        | inr more ↦ same other more named
                      ])
                ]
          ]
    ]

same_or : (all others : Files) → Same all others ⊎ Clash all others
same_or [] others = inl (λ file other here. absurd (omega (arith, here.1)))
same_or (file ∷ all) others =
    elim (one_or file others) [
      | inr clash ↦ inr (record { file = file; other = clash.0; here = (0, omega arith, refl); there = clash.1; name = clash.2; apart = clash.3 })
      | inl one ↦
          elim (same_or all others) [
            | inr clash ↦ inr (clash_behind file all others clash)
            | inl same ↦ inl (λ next other here there named.
                elim (first_or file all next here) [
                  | inl is ↦ sym is ∙ one other there (ap file_name is ∙ named)
                  | inr more ↦ same next other more there named
                ])
          ]
    ]

pub agree_or_clash : (trio : TrioValue) → Agree trio ⊎ Clash (range_files trio) (range_files trio)
agree_or_clash trio = same_or (range_files trio) (range_files trio)
