-- What holds of each thing in a map after one was changed, was put there or went.
use Rattle.std.proofs.Common.{◌≡◌, ℕ, Bool, true, false, cond, List, refl, sym, ap, subst, ◌∙◌}
use Rattle.std.specs.Prelude.{Option, Some, None}
use Rattle.std.specs.Option.{option_map_or}
use Rattle.std.specs.Str.{bytes_eq}
use Rattle.std.specs.Cmp.Lexicographic.{same_text}
use Rattle.std.specs.FinMap.{get, insert, remove}
use Rattle.lake_base.specs.Maps.{ByteMap}
use Rattle.byte_map.proofs.ByteMapLemmas.{get_insert, get_remove}
use Rattle.lake_model.specs.Parts.{changed_at}

-- under a name that is the same the same stands
pub same_there : {X : Type 0} (map : ByteMap X) (name q : List ℕ) → bytes_eq q name ≡ true → get map q ≡ get map name
same_there map name q tie = ap (get map) (same_text q name (sym tie))

module _ {X : Type 0} (P : List ℕ → X → Type 0) (map : ByteMap X) (name : List ℕ) where
  inserted_by : (x : X) (q : List ℕ) (y : X) (test : Bool) → bytes_eq q name ≡ test → (bytes_eq q name ≡ true → P q x)
      → (bytes_eq q name ≡ false → get map q ≡ Some y → P q y) → cond test (Some x) (get map q) ≡ Some y → P q y
  inserted_by x q y true tie here other there = let same : x ≡ y = cc in subst (P q) same (here tie)
  inserted_by x q y false tie here other there = other tie there

  -- one was put under the name
  pub all_inserted : (x : X) → ((q : List ℕ) → bytes_eq q name ≡ true → P q x)
      → ((q : List ℕ) (y : X) → bytes_eq q name ≡ false → get map q ≡ Some y → P q y)
      → (q : List ℕ) (y : X) → get (insert map name x) q ≡ Some y → P q y
  all_inserted x here other q y there =
      inserted_by x q y (bytes_eq q name) refl (here q) (other q y) (sym (get_insert map name x q) ∙ there)

  left_by : (q : List ℕ) (y : X) (test : Bool) → (get map q ≡ Some y → P q y) → cond test None (get map q) ≡ Some y → P q y
  left_by q y true other there = absurd cc
  left_by q y false other there = other there

  -- the one under the name went
  pub all_left : ((q : List ℕ) (y : X) → get map q ≡ Some y → P q y) → (q : List ℕ) (y : X) → get (remove map name) q ≡ Some y → P q y
  all_left other q y there = left_by q y (bytes_eq q name) (other q y) (sym (get_remove map name q) ∙ there)

  nowhere_by : (q : List ℕ) (y : X) (test : Bool) → bytes_eq q name ≡ test → get map name ≡ None
      → (bytes_eq q name ≡ false → get map q ≡ Some y → P q y) → get map q ≡ Some y → P q y
  nowhere_by q y true tie is other there = let none = same_there map name q tie in absurd cc
  nowhere_by q y false tie is other there = other tie there

  module _ (change : X → X) (here : (q : List ℕ) (x : X) → bytes_eq q name ≡ true → get map q ≡ Some x → P q (change x))
      (other : (q : List ℕ) (y : X) → bytes_eq q name ≡ false → get map q ≡ Some y → P q y) where
    changed_by : (o : Option X) → get map name ≡ o → (q : List ℕ) (y : X)
        → get (option_map_or (λ x. insert map name (change x)) o map) q ≡ Some y → P q y
    changed_by None is q y there = nowhere_by q y (bytes_eq q name) refl is (other q y) there
    changed_by (Some x) is q y there = all_inserted (change x) (λ p tie. here p x tie (same_there map name p tie ∙ is)) other q y there

    -- the one under the name was changed
    pub all_changed : (q : List ℕ) (y : X) → get (changed_at name change map) q ≡ Some y → P q y
    all_changed = changed_by (get map name) refl

module _ {X : Type 0} (map : ByteMap X) (name : List ℕ) where
  unput : (x : X) (q : List ℕ) (test : Bool) → cond test (Some x) (get map q) ≡ None → get map q ≡ None
  unput x q true none = absurd cc
  unput x q false none = none

  -- where nothing is after one was put, nothing was
  pub none_inserted : (x : X) (q : List ℕ) → get (insert map name x) q ≡ None → get map q ≡ None
  none_inserted x q none = unput x q (bytes_eq q name) (sym (get_insert map name x q) ∙ none)

  module _ (change : X → X) where
    none_by : (o : Option X) (q : List ℕ) → get (option_map_or (λ x. insert map name (change x)) o map) q ≡ None → get map q ≡ None
    none_by None q none = none
    none_by (Some x) q none = none_inserted (change x) q none

    -- where nothing is after a change, nothing was
    pub none_changed : (q : List ℕ) → get (changed_at name change map) q ≡ None → get map q ≡ None
    none_changed = none_by (get map name)
