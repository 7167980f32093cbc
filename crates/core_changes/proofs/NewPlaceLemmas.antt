-- The places of files in an index, after one was put there.
use Rattle.std.proofs.Common.{◌≡◌, ◌⊎◌, inl, inr, ℕ, Bool, true, false, List, refl, sym, ap, subst, ◌∙◌}
use Rattle.std.specs.Prelude.{Option, Some, None, option_and_then}
use Rattle.std.specs.Str.{bytes_eq}
use Rattle.std.specs.Cmp.Lexicographic.{same_text}
use Rattle.std.specs.FinMap.{get, insert}
use Rattle.lake_base.specs.Maps.{ByteMap}
use Rattle.lake_format.specs.Spelling.{file_name}
use Rattle.meta_range.specs.Ranges.{TreeValue}
use Rattle.byte_map.specs.Values.{some_values}
use Rattle.byte_map.proofs.ValuesLemmas.{get_some_values}
use Rattle.core_state.specs.declared.file_place.FilePlace.{FilePlace}
use Rattle.core_changes.specs.NewPlaces.{AreNamedPlaces, HasNewPlaces, IsPlaceIn}
use Rattle.core_changes.proofs.ChangedLemmas.{all_inserted}

module _ {X : Type 0} where
  stands_by : (o : Option (Option X)) (x : X) → option_and_then (λ place. place) o ≡ Some x → o ≡ Some (Some x)
  stands_by None x is = absurd cc
  stands_by (Some place) x is = ap Some is

  -- what stands in a place stands where the same values stand
  pub same_stands : (before after : ByteMap (Option X)) → some_values (λ place. place) after ≡ some_values (λ place. place) before
      → (name : List ℕ) (x : X) → get after name ≡ Some (Some x) → get before name ≡ Some (Some x)
  same_stands before after same name x is =
      stands_by (get before name) x (sym (get_some_values (λ place. place) before name) ∙ sym (ap (λ (m : ByteMap X). get m name) same)
      ∙ get_some_values (λ place. place) after name ∙ ap (option_and_then (λ place. place)) is)

module _ (before : ByteMap (Option FilePlace)) (name : List ℕ) (place : FilePlace) where
  -- one was put under its name
  pub still_named : AreNamedPlaces before → (file_name place.bytes).0 ≡ name → AreNamedPlaces (insert before name (Some place))
  still_named named is q found there =
      all_inserted (λ q (o : Option FilePlace). (found : FilePlace) → o ≡ Some found → (file_name found.bytes).0 ≡ q) before name (Some place)
      (λ q tie found same. ap (λ (o : Option FilePlace). (file_name (bytes_of o)).0) (sym same) ∙ is ∙ sym (same_text q name (sym tie)))
      (λ q o apart was found same. named q found (was ∙ ap Some same)) q (Some found) there found refl
    where
      bytes_of : Option FilePlace → List ℕ
      bytes_of None = place.bytes
      bytes_of (Some found) = found.bytes

  -- what stands there then stood there, or is the one
  put_told : (q : List ℕ) (found : FilePlace) → get (insert before name (Some place)) q ≡ Some (Some found)
      → (get before q ≡ Some (Some found)) ⊎ (place ≡ found)
  put_told q found there =
      all_inserted (λ q (o : Option FilePlace). (found : FilePlace) → o ≡ Some found → (get before q ≡ Some (Some found)) ⊎ (place ≡ found))
      before name (Some place) (λ q tie found same. inr cc) (λ q o apart was found same. inl (was ∙ ap Some same)) q (Some found) there found refl

  -- one of a file of a tree was put
  pub place_put : (after : ByteMap (Option FilePlace)) (tree : TreeValue) → after ≡ insert before name (Some place) → AreNamedPlaces before
      → (file_name place.bytes).0 ≡ name → IsPlaceIn tree place → HasNewPlaces before after tree
  place_put after tree put named is within = subst (λ (m : ByteMap (Option FilePlace)). HasNewPlaces before m tree) (sym put) (record {
    named = still_named named is;
    told = λ q found there. elim (put_told q found there) [
      | inl was ↦ inl was
      | inr same ↦ inr (subst (IsPlaceIn tree) same within)
    ];
  })

-- places came to an index, and then others of the same tree
pub places_more : (before middle after : ByteMap (Option FilePlace)) (tree : TreeValue) → HasNewPlaces before middle tree
    → HasNewPlaces middle after tree → HasNewPlaces before after tree
places_more before middle after tree first then = record {
  named = then.named;
  told = λ name place there. elim (then.told name place there) [
    | inl was ↦ first.told name place was
    | inr within ↦ inr within
  ];
}
