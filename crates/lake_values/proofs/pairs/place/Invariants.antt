use Rattle.std.proofs.Common.{◌≡◌}
use Rattle.std.specs.List.{AllWithin}
use Rattle.std.specs.declared.cmp.Ordering.TheVariants.{Less}
use Rattle.lake_base.specs.Maps.{byte_order}
use Rattle.lake_values.proofs.pairs.place.Given as goal

-- the keys so far are below
abbrev pub invariant-loop-at : goal.invariant-loop-at
invariant-loop-at l = AllWithin (λ item. byte_order item.0 l.key ≡ Less) l.pairs 0 l.at
