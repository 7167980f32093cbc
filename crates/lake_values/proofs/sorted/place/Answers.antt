use Rattle.std.proofs.Common.{rules}
use Rattle.std.proofs.lemmas.Fn.{always_returns_same}
use Rattle.lake_base.specs.Maps.{byte_order}
use Rattle.lake_base.proofs.MapsLemmas.{searched}
use Rattle.lake_values.proofs.sorted.place.Goals as goal

pub returns : goal.returns
returns g c =
    let found = c.binary_search_by.ensures in
    let by_path = found.position (λ item. byte_order item.0 c.args.path.now) (always_returns_same _ _ _ (λ a r f k. search rules)) in
    searched c.args.items.now c.args.path.now c.requires _ found.bound by_path
