-- The files of one map that share a name and differ.
use Rattle.std.proofs.Common.{◌≡◌, ℕ, Bool, true, false, cond, List, [], ◌∷◌, ◌++◌, append_assoc, ◌⊎◌, inl, inr, refl, sym, ap, subst, ◌∙◌}
use Rattle.std.proofs.lemmas.List.Elements.{Contains-append_cases, Contains-append_left, Contains-append_right}
use Rattle.std.proofs.lemmas.Slice.Eq.{bytes_eq-Decides}
use Rattle.std.specs.Prelude.{Option, Some, None, find, option_map}
use Rattle.std.specs.List.{Contains}
use Rattle.lake_base.specs.declared.digest.Digest.{Digest}
use Rattle.lake_values.specs.Ancestry.{same_id}
use Rattle.lake_values.proofs.OrderLemmas.{Contains-first, Contains-later, Contains-nothing, find_none, first_or_later}
use Rattle.lake_format.specs.Spelling.{file_name}
use Rattle.meta_range.specs.RangeNames.{first_named}
use Rattle.lake_model.specs.Commits.{StandsBefore}
use Rattle.lake_model.specs.Refusals.{Clash}
use Rattle.core_causes.specs.Clashing.{first_twins, other_than, twin_clash}
use Rattle.core_causes.proofs.FaultLemmas.{mapped_none, or_none, or_some, other_none, other_some}

-- of two files, one before the other, both are among them
pub stands_within : (files : List (List ℕ)) (one other : List ℕ) → StandsBefore files one other → Contains files one × Contains files other
stands_within files one other stands = (
  subst (λ all. Contains all one) (sym stands.parts) (Contains-append_left stands.before (other ∷ stands.after) one stands.among),
  subst (λ all. Contains all other) (sym stands.parts)
      (Contains-append_right stands.before (other ∷ stands.after) other (Contains-first other stands.after)),
)

-- a file, and an earlier one of its name that differs
pub record AreTwins (files : List (List ℕ)) (clash : Clash) : Type 0 where
  pub stands : StandsBefore files clash.kept clash.new
  pub name_of_new : clash.name ≡ file_name clash.new
  pub name_of_kept : clash.name ≡ file_name clash.kept
  pub apart : clash.new ≡ clash.kept → ⊥

-- two such, or there are none
abbrev pub AreTwinsOrNone : List (List ℕ) → Option Clash → Type 0
AreTwinsOrNone files None = (new kept : List ℕ) → StandsBefore files kept new → file_name new ≡ file_name kept → new ≡ kept
AreTwinsOrNone files (Some clash) = AreTwins files clash

-- what is found is among them, and passes
found_some : {X : Type 0} (p : X → Bool) (xs : List X) (x : X) → find p xs ≡ Some x → Contains xs x × (p x ≡ true)
found_some p [] x is = absurd cc
found_some p (y ∷ ys) x is = by (p y) refl is (found_some p ys x)
  where
    by : (b : Bool) → p y ≡ b → cond b (Some y) (find p ys) ≡ Some x → (find p ys ≡ Some x → Contains ys x × (p x ≡ true))
        → Contains (y ∷ ys) x × (p x ≡ true)
    by true passes here more =
        let same : y ≡ x = cc in (subst (Contains (y ∷ ys)) same (Contains-first y ys), subst (λ z. p z ≡ true) same passes)
    by false fails there more = let rest = more there in (Contains-later y x ys rest.0, rest.1)

same_name : (id other : Digest) → same_id id other ≡ true → id ≡ other
same_name id other same = let bytes = (bytes_eq-Decides id.0 other.0).0 same in λ i. record { 0 = bytes i }

-- of some files those of one name are the same
abbrev AreSame : List (List ℕ) → Type 0
AreSame files = (one other : List ℕ) → Contains files one → Contains files other → file_name one ≡ file_name other → one ≡ other

-- a file that has no twin before it: those of its name are the same
module _ (earlier : List (List ℕ)) (new : List ℕ) (none : twin_clash earlier new ≡ None) where
  kept_same : (o : Option (List ℕ)) → first_named file_name (file_name new) earlier ≡ o → AreSame earlier
      → (kept : List ℕ) → Contains earlier kept → file_name kept ≡ file_name new → kept ≡ new
  kept_same None is same kept within name =
      absurd (find_none (λ file. same_id (file_name file) (file_name new)) earlier is kept within
      ((bytes_eq-Decides (file_name kept).0 (file_name new).0).1 (ap (λ (n : Digest). n.0) name)))
  kept_same (Some first) is same kept within name =
      let there = found_some (λ file. same_id (file_name file) (file_name new)) earlier first is in
      let first_is : new ≡ first =
      other_none new (first_named file_name (file_name new) earlier) first
      (mapped_none _ (other_than new (first_named file_name (file_name new) earlier)) none) is in
      same kept first within there.0 (name ∙ sym (same_name (file_name first) (file_name new) there.1)) ∙ sym first_is

  same_more : AreSame earlier → AreSame (earlier ++ new ∷ [])
  same_more same one other within also name =
      by (Contains-append_cases earlier (new ∷ []) one within) (Contains-append_cases earlier (new ∷ []) other also)
    where
      is_new : (file : List ℕ) → Contains (new ∷ []) file → new ≡ file
      is_new file here = elim (first_or_later new file [] here) [ inl is ↦ is | inr later ↦ absurd (Contains-nothing file later) ]

      is_kept : (file : List ℕ) → Contains earlier file → file_name file ≡ file_name new → file ≡ new
      is_kept = kept_same (first_named file_name (file_name new) earlier) refl same

      by : Contains earlier one ⊎ Contains (new ∷ []) one → Contains earlier other ⊎ Contains (new ∷ []) other → one ≡ other
      by (inl a) (inl b) = same one other a b name
      by (inl a) (inr b) = is_kept one a (name ∙ sym (ap file_name (is_new other b))) ∙ is_new other b
      by (inr a) (inl b) = sym (is_new one a) ∙ sym (is_kept other b (sym name ∙ sym (ap file_name (is_new one a))))
      by (inr a) (inr b) = sym (is_new one a) ∙ is_new other b

-- one after others is among all of them
seam : (earlier : List (List ℕ)) (new : List ℕ) (later : List (List ℕ)) → (earlier ++ new ∷ []) ++ later ≡ earlier ++ new ∷ later
seam earlier new later = simp append_assoc

twins_none : (earlier later : List (List ℕ)) → AreSame earlier → first_twins earlier later ≡ None → AreSame (earlier ++ later)
twins_none earlier [] same none =
    λ one other within also. same one other
    (elim (Contains-append_cases earlier [] one within) [ inl there ↦ there | inr absent ↦ absurd (Contains-nothing one absent) ])
    (elim (Contains-append_cases earlier [] other also) [ inl there ↦ there | inr absent ↦ absurd (Contains-nothing other absent) ])
twins_none earlier (new ∷ later) same none =
    let both = or_none (twin_clash earlier new) (first_twins (earlier ++ new ∷ []) later) none in
    subst AreSame (seam earlier new later) (twins_none (earlier ++ new ∷ []) later (same_more earlier new both.0 same) both.1)

-- a file that has a twin before it
module _ (earlier : List (List ℕ)) (new : List ℕ) (later : List (List ℕ)) (clash : Clash) where
  twin_by : (o : Option (List ℕ)) → other_than new (first_named file_name (file_name new) earlier) ≡ o
      → option_map (λ kept. record { name = file_name new; kept = kept; new = new }) o ≡ Some clash → AreTwins (earlier ++ new ∷ later) clash
  twin_by None other is = absurd cc
  twin_by (Some kept) other is =
      let both = other_some new (first_named file_name (file_name new) earlier) kept other in
      let there = found_some (λ file. same_id (file_name file) (file_name new)) earlier kept both.0 in
      let made : Clash = record { name = file_name new; kept = kept; new = new } in
      let same : made ≡ clash = cc in
      subst (AreTwins (earlier ++ new ∷ later)) same (record {
        stands = record { before = earlier; after = later; parts = refl; among = there.0 };
        name_of_new = refl;
        name_of_kept = sym (same_name (file_name kept) (file_name new) there.1);
        apart = both.1;
      })

twins_some : (earlier later : List (List ℕ)) (clash : Clash) → first_twins earlier later ≡ Some clash → AreTwins (earlier ++ later) clash
twins_some earlier [] clash is = absurd cc
twins_some earlier (new ∷ later) clash is = elim (or_some (twin_clash earlier new) (first_twins (earlier ++ new ∷ []) later) clash is) [
  | inl here ↦ twin_by earlier new later clash (other_than new (first_named file_name (file_name new) earlier)) refl here
  | inr there ↦ subst (λ all. AreTwins all clash) (seam earlier new later) (twins_some (earlier ++ new ∷ []) later clash there)
]

-- the first twins among some files are two, or there are none
pub twins_answer : (files : List (List ℕ)) → AreTwinsOrNone files (first_twins [] files)
twins_answer files = by (first_twins [] files) refl
  where
    by : (o : Option Clash) → first_twins [] files ≡ o → AreTwinsOrNone files o
    by (Some clash) is = twins_some [] files clash is
    by None none = λ new kept stands name.
        let both = stands_within files kept new stands in
        twins_none [] files (λ one other within also name. absurd (Contains-nothing one within)) none new kept both.1 both.0 name
