-- Maps of which one value was looked at or changed.
use Rattle.std.proofs.Common.{◌≡◌, ℕ, List, refl, sym, ap, subst, ◌∙◌}
use Rattle.std.specs.Prelude.{Option, Some, None, IfSome, option_map}
use Rattle.std.specs.Option.{option_and_then, option_map_or}
use Rattle.std.specs.FinMap.{get, insert}
use Rattle.lake_base.specs.Maps.{ByteMap}
use Rattle.byte_map.specs.Values.{some_values}
use Rattle.byte_map.proofs.ByteMapLemmas.{get_inserted, insert_over, insert_same}
use Rattle.byte_map.proofs.ValuesLemmas.{get_some_values}
use Rattle.lake_model.specs.Parts.{changed_at}

-- ---- what is told of the value in a place is told of what f makes of it
module _ {X Y : Type 0} (f : X → Y) (m : ByteMap (Option X)) (k : List ℕ) where
  said : (o : Option (Option X)) → o ≡ get m k → get (some_values (option_map f) m) k ≡ option_and_then (option_map f) o
  said o is = get_some_values (option_map f) m k ∙ ap (option_and_then (option_map f)) (sym is)

  pub told_there : (P : Y → Type 0) (place : Option X) → Some place ≡ get m k → IfSome place (λ x. P (f x))
      → (y : Y) → get (some_values (option_map f) m) k ≡ Some y → P y
  told_there P None is holds y there = absurd (let none = said (Some None) is in cc)
  told_there P (Some x) is holds y there =
      let found : Some (f x) ≡ Some y = sym (said (Some (Some x)) is) ∙ there in
      let same : f x ≡ y = cc in
      subst P same holds

  -- where there is no place, nothing is found
  pub told_nowhere : None ≡ get m k → (y : Y) → get (some_values (option_map f) m) k ≡ Some y → ⊥
  told_nowhere is y there = absurd (let none = said None is in cc)

-- ---- what stands under a key is changed
module _ {X : Type 0} (m : ByteMap X) (k : List ℕ) (f : X → X) where
  -- a change that leaves it as it is
  pub changed_same : ((x : X) → get m k ≡ Some x → f x ≡ x) → changed_at k f m ≡ m
  changed_same same = by (get m k) refl
    where
      by : (o : Option X) → get m k ≡ o → option_map_or (λ x. insert m k (f x)) o m ≡ m
      by None is = refl
      by (Some x) is = ap (insert m k) (same x is) ∙ insert_same m k x is

  -- a change that is taken back
  pub changed_back : (g : X → X) → ((x : X) → get m k ≡ Some x → g (f x) ≡ x) → changed_at k g (changed_at k f m) ≡ m
  changed_back g back = by (get m k) refl
    where
      by : (o : Option X) → get m k ≡ o → changed_at k g (option_map_or (λ x. insert m k (f x)) o m) ≡ m
      by None is = ap (λ o. option_map_or (λ x. insert m k (g x)) o m) is
      by (Some x) is =
          ap (λ o. option_map_or (λ y. insert (insert m k (f x)) k (g y)) o (insert m k (f x))) (get_inserted m k (f x))
          ∙ insert_over m k (f x) (g (f x)) ∙ ap (insert m k) (back x is) ∙ insert_same m k x is

  -- what is then found there is what the change made
  pub found_changed : (P : X → Type 0) → ((x : X) → get m k ≡ Some x → P (f x)) → (y : X) → get (changed_at k f m) k ≡ Some y → P y
  found_changed P holds = by (get m k) refl
    where
      by : (o : Option X) → get m k ≡ o → (y : X) → get (option_map_or (λ x. insert m k (f x)) o m) k ≡ Some y → P y
      by None is y there = absurd (let none = sym is ∙ there in cc)
      by (Some x) is y there =
          let found : Some (f x) ≡ Some y = sym (get_inserted m k (f x)) ∙ there in
          let same : f x ≡ y = cc in
          subst P same (holds x is)
