use Rattle.std.proofs.Common.{ap, ◌∙◌}
use Rattle.std.specs.FinMap.{from_sorted, insert}
use Rattle.std.proofs.lemmas.Result.{on_ok_weaker}
use Rattle.lake_base.specs.Maps.{byte_order}
use Rattle.lake_base.proofs.MapsLemmas.{map_put}
use Rattle.lake_values.proofs.changes.Changes.set.Goals as goal

pub returns-clause-set : goal.returns-clause-set
returns-clause-set c =
    on_ok_weaker c.put_at.result (λ e.
    ap (from_sorted {R = byte_order}) e
    ∙ map_put c.self.inside.changes.items c.args.path c.args.change c.self.invariant.0
    ∙ ap (λ m. insert m c.args.path c.args.change) c.self.view_is) c.put_at.ensures.put
