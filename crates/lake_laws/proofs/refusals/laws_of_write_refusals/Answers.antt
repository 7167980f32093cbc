use Rattle.std.proofs.Common.{refl}
use Rattle.lake_model.specs.Refusals.{causes_of_change}
use Rattle.lake_laws.proofs.CauseLemmas.{none_holds, not_full, not_stopped}
use Rattle.lake_laws.proofs.CopyRefusalLemmas.{copy_none}
use Rattle.lake_laws.proofs.RefusalLemmas.{seal_none, stage_none, write_none}
use Rattle.lake_laws.proofs.refusals.laws_of_write_refusals.Goals as goal

pub returns-clause-take : goal.returns-clause-take
returns-clause-take c state by repo branch number may = write_none state _ may repo branch may.possible.0

pub returns-clause-drop : goal.returns-clause-drop
returns-clause-drop c state by number may =
    none_holds (causes_of_change state) (not_stopped state _ may) (not_full state _ may) refl refl refl refl refl refl refl refl refl refl refl

pub returns-clause-stage : goal.returns-clause-stage
returns-clause-stage c state given by repo branch path change may = stage_none state _ may repo given branch may.possible.0

pub returns-clause-copy : goal.returns-clause-copy
returns-clause-copy c state given by repo branch path e source from entry may origin =
    copy_none state _ may repo given branch e source from entry may.possible origin

pub returns-clause-reset : goal.returns-clause-reset
returns-clause-reset c state by repo branch what may = write_none state _ may repo branch may.possible

pub returns-clause-seal : goal.returns-clause-seal
returns-clause-seal c state by repo branch why may = seal_none state _ may repo branch why may.possible
