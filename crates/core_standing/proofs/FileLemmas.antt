-- Files under their names: what is found after some are put there, of which those of one name are the same.
use Rattle.std.proofs.Common.{◌≡◌, ℕ, Bool, true, false, cond, List, [], ◌∷◌, ◌++◌, ◌⊎◌, inl, inr, refl, sym, ap, subst, ◌∙◌}
use Rattle.std.proofs.lemmas.Slice.Eq.{bytes_eq-Decides}
use Rattle.std.specs.Prelude.{Option, Some}
use Rattle.std.specs.Str.{bytes_eq}
use Rattle.std.specs.Cmp.Lexicographic.{same_text}
use Rattle.std.specs.FinMap.{get}
use Rattle.std.specs.List.{Contains}
use Rattle.lake_base.specs.Maps.{ByteMap}
use Rattle.lake_values.proofs.OrderLemmas.{Contains-first, Contains-later, Contains-nothing, first_or_later}
use Rattle.lake_format.specs.Spelling.{file_name}
use Rattle.byte_map.proofs.ByteMapLemmas.{get_insert}
use Rattle.lake_model.specs.Commits.{StandsBefore}
use Rattle.core_changes.proofs.ChangedLemmas.{all_inserted}
use Rattle.core_state.specs.NewCommits.{with_files}

-- ---- files of one name in a list

-- of two that share a name, one before the other, the later one is the earlier
abbrev AreApart : List (List ℕ) → Type 0
AreApart files = (one kept : List ℕ) → StandsBefore files kept one → file_name one ≡ file_name kept → one ≡ kept

-- a list before and after one in it
record Parts (xs : List (List ℕ)) (x : List ℕ) : Type 0 where
  before : List (List ℕ)
  after : List (List ℕ)
  parts : xs ≡ before ++ x ∷ after

parts_by : (y : List ℕ) (ys : List (List ℕ)) (x : List ℕ) → (Contains ys x → Parts ys x) → (y ≡ x) ⊎ Contains ys x → Parts (y ∷ ys) x
parts_by y ys x more (inl same) = record { before = []; after = ys; parts = ap (λ z. z ∷ ys) same }
parts_by y ys x more (inr later) =
    let rest = more later in record { before = y ∷ rest.before; after = rest.after; parts = ap (λ zs. y ∷ zs) rest.parts }

parts_at : (xs : List (List ℕ)) (x : List ℕ) → Contains xs x → Parts xs x
parts_at [] x within = absurd (Contains-nothing x within)
parts_at (y ∷ ys) x within = parts_by y ys x (parts_at ys x) (first_or_later y x ys within)

-- the first stands before each of the others
first_before : (y : List ℕ) (ys : List (List ℕ)) (x : List ℕ) → Contains ys x → StandsBefore (y ∷ ys) y x
first_before y ys x within =
    let rest = parts_at ys x within in
    record {
      before = y ∷ rest.before;
      after = rest.after;
      parts = ap (λ zs. y ∷ zs) rest.parts;
      among = Contains-first y rest.before;
    }

-- and those stand as they did without it
later_before : (y : List ℕ) (ys : List (List ℕ)) (one other : List ℕ) → StandsBefore ys one other → StandsBefore (y ∷ ys) one other
later_before y ys one other stands = record {
  before = y ∷ stands.before;
  after = stands.after;
  parts = ap (λ zs. y ∷ zs) stands.parts;
  among = Contains-later y one stands.before stands.among;
}

same_by : (y : List ℕ) (ys : List (List ℕ)) → AreApart (y ∷ ys) → (one other : List ℕ) → file_name one ≡ file_name other
    → (Contains ys one → Contains ys other → one ≡ other)
    → (y ≡ one) ⊎ Contains ys one → (y ≡ other) ⊎ Contains ys other → one ≡ other
same_by y ys apart one other name more (inl a) (inl b) = sym a ∙ b
same_by y ys apart one other name more (inl a) (inr b) =
    sym a ∙ sym (apart other y (first_before y ys other b) (sym name ∙ ap file_name (sym a)))
same_by y ys apart one other name more (inr a) (inl b) = apart one y (first_before y ys one a) (name ∙ ap file_name (sym b)) ∙ b
same_by y ys apart one other name more (inr a) (inr b) = more a b

-- two that share a name are the same
pub same_file : (files : List (List ℕ)) → AreApart files → (one other : List ℕ) → Contains files one → Contains files other
    → file_name one ≡ file_name other → one ≡ other
same_file [] apart one other within also name = absurd (Contains-nothing one within)
same_file (y ∷ ys) apart one other within also name =
    same_by y ys apart one other name
    (λ a b. same_file ys (λ new kept stands. apart new kept (later_before y ys kept new stands)) one other a b name)
    (first_or_later y one ys within) (first_or_later y other ys also)

-- ---- what is found

put_by : (file bytes : List ℕ) (o : Option (List ℕ)) (test : Bool) → (test ≡ true → file ≡ bytes) → (test ≡ false → o ≡ Some bytes)
    → cond test (Some file) o ≡ Some bytes
put_by file bytes o true here other = ap Some (here refl)
put_by file bytes o false here other = other refl

-- each of these that has the name is these bytes
abbrev AreAll : List (List ℕ) → List ℕ → List ℕ → Type 0
AreAll files name bytes = (file : List ℕ) → Contains files file → (file_name file).0 ≡ name → file ≡ bytes

module _ (kept : ByteMap (List ℕ)) where
  -- what was found is found
  pub old_found : (files : List (List ℕ)) (name bytes : List ℕ) → AreAll files name bytes → get kept name ≡ Some bytes
      → get (with_files files kept) name ≡ Some bytes
  old_found [] name bytes all is = is
  old_found (file ∷ files) name bytes all is =
      get_insert (with_files files kept) (file_name file).0 file name
      ∙ put_by file bytes (get (with_files files kept) name) (bytes_eq name (file_name file).0)
      (λ tie. all file (Contains-first file files) (sym (same_text name (file_name file).0 (sym tie))))
      (λ apart. old_found files name bytes (λ one within. all one (Contains-later file one files within)) is)

  -- one of the files that isn't the first is another
  another : (file : List ℕ) (files : List (List ℕ)) (bytes : List ℕ) → bytes_eq (file_name bytes).0 (file_name file).0 ≡ false
      → (file ≡ bytes) ⊎ Contains files bytes → Contains files bytes
  another file files bytes apart (inl same) =
      absurd (let tie : bytes_eq (file_name bytes).0 (file_name file).0 ≡ true =
      (bytes_eq-Decides (file_name bytes).0 (file_name file).0).1 (ap (λ (b : List ℕ). (file_name b).0) (sym same)) in cc)
  another file files bytes apart (inr later) = later

  -- each of the files is found under its name
  pub new_found : (files : List (List ℕ)) (bytes : List ℕ) → AreAll files (file_name bytes).0 bytes → Contains files bytes
      → get (with_files files kept) (file_name bytes).0 ≡ Some bytes
  new_found [] bytes all within = absurd (Contains-nothing bytes within)
  new_found (file ∷ files) bytes all within =
      get_insert (with_files files kept) (file_name file).0 file (file_name bytes).0
      ∙ put_by file bytes (get (with_files files kept) (file_name bytes).0) (bytes_eq (file_name bytes).0 (file_name file).0)
      (λ tie. all file (Contains-first file files) (sym (same_text (file_name bytes).0 (file_name file).0 (sym tie))))
      (λ apart. new_found files bytes (λ one also. all one (Contains-later file one files also))
      (another file files bytes apart (first_or_later file bytes files within)))

  -- what holds of each file under its name, and of what was found, holds of what is found
  pub each_found : (P : List ℕ → List ℕ → Type 0) (files : List (List ℕ))
      → ((file : List ℕ) → Contains files file → P (file_name file).0 file)
      → ((name bytes : List ℕ) → get kept name ≡ Some bytes → P name bytes)
      → (name bytes : List ℕ) → get (with_files files kept) name ≡ Some bytes → P name bytes
  each_found P [] new old = old
  each_found P (file ∷ files) new old =
      all_inserted P (with_files files kept) (file_name file).0 file
      (λ q tie. subst (λ n. P n file) (sym (same_text q (file_name file).0 (sym tie))) (new file (Contains-first file files)))
      (λ q y apart is. each_found P files (λ one within. new one (Contains-later file one files within)) old q y is)
