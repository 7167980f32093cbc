use Rattle.std.proofs.Common.{◌∙◌, ap, subst}
use Rattle.lake_core.specs.Faults.{HasFault}
use Rattle.shared_lake.specs.SeatSteps.{LakeSeat}
use Rattle.lake_generator.proofs.run.last_head.Goals as goal

pub close_lone_lake-requires-clause-own : goal.close_lone_lake-requires-clause-own
close_lone_lake-requires-clause-own g c = ap (λ (s : LakeSeat). s.turn) c.main_map-head.ensures.same ∙ c.requires.own

pub returns-clause-none : goal.returns-clause-none
returns-clause-none g c =
    subst (λ (s : LakeSeat). HasFault s.seen → ⊥) c.main_map-head.ensures.same
    (c.close_lone_lake.ensures.none (ap (λ (s : LakeSeat). s.alone) c.main_map-head.ensures.same ∙ c.requires.main.alone))
