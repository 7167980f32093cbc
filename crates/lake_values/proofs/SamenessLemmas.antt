-- Lists that are compared place by place, and what a test of sameness tells.
use Rattle.std.proofs.Common.{◌≡◌, ℕ, ◌≤◌, ◌&&◌, Bool, true, false, List, [], length, drop, refl, ap, subst, ◌∙◌}
use Rattle.std.proofs.lemmas.List.{drop_all}
use Rattle.std.proofs.lemmas.Bool.Decides.{Decides-eqb}
use Rattle.std.proofs.lemmas.Slice.Eq.{bytes_eq-Decides, slice_eq-Decides}
use Rattle.std.specs.Bool.{Decides, ◌==◌}
use Rattle.std.specs.Cmp.Lexicographic.{pointwise}
use Rattle.std.specs.Str.{bytes_eq}
use Rattle.lake_values.specs.Entry.{EntryValue}
use Rattle.lake_values.specs.Sameness.{same_place, same_pair, same_entry}
use Rattle.lake_base.specs.declared.digest.Digest.{Digest}
use Rattle.lake_values.specs.declared.entry.Place.{Place}
use Rattle.lake_values.specs.declared.entry.Place.TheVariants.{Own, External}

module _ {A : Type 0} (E : A → A → Bool) where
  -- from their ends on lists are the same
  pub same_end : (i : ℕ) (xs ys : List A) → length xs ≤ i → length ys ≤ i → pointwise E (drop i xs) (drop i ys) ≡ true
  same_end i xs ys h k = ap (λ l. pointwise E l (drop i ys)) (drop_all i xs h) ∙ ap (pointwise E []) (drop_all i ys k)

-- ---- what the tests of sameness tell

and_parts : (a b : Bool) → (a && b) ≡ true → (a ≡ true) × (b ≡ true)
and_parts true b e = (refl, e)
and_parts false b e = cc

both_true : (a b : Bool) → a ≡ true → b ≡ true → (a && b) ≡ true
both_true a b e f = ap (λ x. x && b) e ∙ f

same_bytes : (xs ys : List ℕ) → bytes_eq xs ys ≡ true → xs ≡ ys
same_bytes xs ys e = (bytes_eq-Decides xs ys).0 e

bytes_same : (xs : List ℕ) → bytes_eq xs xs ≡ true
bytes_same xs = (bytes_eq-Decides xs xs).1 refl

same_number : (x y : ℕ) → (x == y) ≡ true → x ≡ y
same_number x y e = (Decides-eqb x y).0 e

number_same : (x : ℕ) → (x == x) ≡ true
number_same x = (Decides-eqb x x).1 refl

same_digest : (digest other : Digest) → bytes_eq digest.0 other.0 ≡ true → digest ≡ other
same_digest digest other e = ap (λ bytes. record { 0 = bytes }) (same_bytes digest.0 other.0 e)

same_placed : (p q : Place) → same_place p q ≡ true → p ≡ q
same_placed (Own n d) (Own m c) e =
    let parts = and_parts _ _ e in
    let numbers = same_number n m parts.0 in
    let digests = same_digest d c parts.1 in
    cc
same_placed (Own n d) (External a c) e = cc
same_placed (External a c) (Own n d) e = cc
same_placed (External a c) (External b d) e =
    let parts = and_parts _ _ e in
    let places = same_bytes a b parts.0 in
    let checksums = same_bytes c d parts.1 in
    cc

placed_same : (p : Place) → same_place p p ≡ true
placed_same (Own n d) = both_true _ _ (number_same n) (bytes_same d.0)
placed_same (External a c) = both_true _ _ (bytes_same a) (bytes_same c)

same_paired : (p q : List ℕ × List ℕ) → Decides (same_pair p q) (p ≡ q)
same_paired p q = (
  λ e.
      let parts = and_parts _ _ e in
      let keys = same_bytes p.0 q.0 parts.0 in
      let values = same_bytes p.1 q.1 parts.1 in
      λ i. (keys i, values i),
  λ e. subst (λ r. same_pair p r ≡ true) e (both_true _ _ (bytes_same p.0) (bytes_same p.1)),
)

same_metadata : (xs ys : List (List ℕ × List ℕ)) → Decides (pointwise same_pair xs ys) (xs ≡ ys)
same_metadata xs ys = slice_eq-Decides same_paired xs ys (pointwise same_pair xs ys) refl

same_object : (entry other : EntryValue) → same_entry entry other ≡ true → entry ≡ other
unfolding same_entry
same_object entry other e =
    let parts = and_parts _ _ e in
    let more = and_parts _ _ parts.0 in
    let rest = and_parts _ _ more.0 in
    let last = and_parts _ _ rest.0 in
    let places = same_placed _ _ last.0 in
    let sizes = same_number _ _ last.1 in
    let times = same_number _ _ rest.1 in
    let kinds = same_bytes _ _ more.1 in
    let pairs = (same_metadata _ _).0 parts.1 in
    λ i. record { place = places i; size = sizes i; mtime = times i; content_type = kinds i; metadata = pairs i }

object_same : (entry : EntryValue) → same_entry entry entry ≡ true
unfolding same_entry
object_same entry =
    both_true _ _
    (both_true _ _ (both_true _ _ (both_true _ _ (placed_same entry.place) (number_same entry.size)) (number_same entry.mtime)) (bytes_same entry.content_type))
    ((same_metadata entry.metadata entry.metadata).1 refl)

-- entries are told the same exactly where they are equal
pub same_entry_decides : (entry other : EntryValue) → Decides (same_entry entry other) (entry ≡ other)
same_entry_decides entry other = (same_object entry other, λ e. subst (λ o. same_entry entry o ≡ true) e (object_same entry))
