use Rattle.std.proofs.Common.{ℕ, ap}
use Rattle.std.specs.Ordering.{nat_cmp}
use Rattle.std.specs.FinMap.{FinMap}
use Rattle.core_state.specs.LakeStates.{lake_value}
use Rattle.opening_parts.proofs.GoneLemmas.{insert_from}
use Rattle.opening_parts.proofs.bases.put_gone.Goals as goal

pub returns : goal.returns
unfolding lake_value
returns c =
    let l = lake_value c.args.lake.now in
    ap (λ (gone : FinMap nat_cmp (Unit {0})). record l { gone = gone })
    (insert_from c.args.lake.now.gone.entries c.insert.new.self.entries c.args.number tt c.in_ok-insert.ensures.updates.0)
