-- What stands under a name that may be room for it.
use Rattle.std.proofs.Common.{◌≡◌, ℕ, List, sym, ap, ◌∙◌}
use Rattle.std.specs.Prelude.{Option, Some, None}
use Rattle.std.specs.Option.{option_and_then}
use Rattle.std.specs.FinMap.{get}
use Rattle.lake_base.specs.Maps.{ByteMap}
use Rattle.byte_map.specs.Values.{some_values}
use Rattle.byte_map.proofs.ValuesLemmas.{get_some_values}

module _ {X Y : Type 0} (f : X → Option Y) (m : ByteMap X) (k : List ℕ) where
  -- what is found of a place that is there
  pub found_at : (x : X) → Some x ≡ get m k → f x ≡ get (some_values f m) k
  found_at x is = ap (option_and_then f) is ∙ sym (get_some_values f m k)

  -- nothing is found where there is no place
  pub none_at : None ≡ get m k → None ≡ get (some_values f m) k
  none_at is = ap (option_and_then f) is ∙ sym (get_some_values f m k)
