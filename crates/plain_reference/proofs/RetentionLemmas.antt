-- What tests of ids tell, items that are found or not in a list, heads, and the days of the first rule of a name.
use Rattle.std.proofs.Common.{◌≡◌, ℕ, ◌+◌, ◌<◌, ◌≤◌, arith, Bool, true, false, List, length, get_or, sym, ap, subst, refl, ◌∙◌}
use Rattle.std.specs.List.{Contains, AllWithin}
use Rattle.std.specs.Str.{bytes_eq}
use Rattle.std.specs.Bool.{Decides}
use Rattle.std.proofs.lemmas.List.Elements.{at_read, AllWithin-more}
use Rattle.std.proofs.lemmas.Slice.Eq.{bytes_eq-Decides}
use Rattle.lake_values.specs.Retention.{IsHead}
use Rattle.lake_base.specs.declared.digest.Digest.{Digest}

-- no number is below 0
zero_least : (k : ℕ) → 0 ≤ k
zero_least k = omega arith

-- ids are equal where their bytes are
pub same_id : (a b : Digest) → a.0 ≡ b.0 → a ≡ b
same_id a b same = ap (λ (bytes : List ℕ). let d : Digest = record { 0 = bytes } in d) same

-- what `==` on the bytes of two ids tells
pub told_ids : (a b : Digest) (xs ys : List ℕ) (r : Bool) → xs ≡ a.0 → ys ≡ b.0 → r ≡ bytes_eq xs ys → Decides r (a ≡ b)
told_ids a b xs ys r left right says = (
  λ (holds : r ≡ true). same_id a b (sym left ∙ (bytes_eq-Decides xs ys).0 (sym says ∙ holds) ∙ right),
  λ (same : a ≡ b). says ∙ (bytes_eq-Decides xs ys).1 (left ∙ ap (λ (d : Digest). d.0) same ∙ sym right),
)

-- ids that differ, where the test failed
pub told_apart : (a b : Digest) (xs ys : List ℕ) (r : Bool) → xs ≡ a.0 → ys ≡ b.0 → r ≡ bytes_eq xs ys → r ≡ false → a ≡ b → ⊥
told_apart a b xs ys r left right says fails same = let holds : r ≡ true = (told_ids a b xs ys r left right says).1 same in cc

-- a test that doesn't fail holds
pub holds_else : (r : Bool) → (r ≡ false → ⊥) → r ≡ true
holds_else true refuted = refl
holds_else false refuted = absurd (refuted refl)

-- a test that failed, where the fact is refuted
pub refuted : {P : Type 0} → (P → ⊥) → Decides false P
refuted refute = (λ (holds : false ≡ true). cc, λ fact. absurd (refute fact))

-- an item that was read at a place stands in the list
pub stands_in : {X : Type 0} (xs : List X) (i : ℕ) (x : X) → i < length xs → x ≡ get_or xs i x → Contains xs x
stands_in xs i x within is = (i, within, sym is)

-- what holds of no item of a list holds of none that stands in it
pub none_stands : {X : Type 0} (P : X → Type 0) (xs : List X) (i : ℕ) → length xs ≤ i → AllWithin (λ x. P x → ⊥) xs 0 i → (x : X) → Contains xs x → P x → ⊥
none_stands P xs i whole none x stands holds =
    let below : stands.0 < i = omega (arith, stands.1) in
    none stands.0 x (zero_least stands.0) below (subst P (sym stands.2) holds)

-- nor does it hold of one item more
pub none_more : {X : Type 0} (P : X → Type 0) (xs : List X) (i : ℕ) (x : X) → i < length xs → x ≡ get_or xs i x → AllWithin (λ y. P y → ⊥) xs 0 i → (P x → ⊥)
    → AllWithin (λ y. P y → ⊥) xs 0 (i + 1)
none_more P xs i x within is none refute = AllWithin-more (λ y. P y → ⊥) xs 0 i none (at_read xs (λ y. P y → ⊥) i x within is refute)

-- a branch whose head is the commit
pub head_found : (heads : List (List ℕ × Digest)) (id : Digest) (i : ℕ) (item : List ℕ × Digest) → i < length heads → item ≡ get_or heads i item → item.1 ≡ id
    → IsHead heads id
head_found heads id i item within is same =
    (item.0, subst (λ (x : List ℕ × Digest). Contains heads x) (ap (λ (d : Digest). (item.0, d)) same) (stands_in heads i item within is))
