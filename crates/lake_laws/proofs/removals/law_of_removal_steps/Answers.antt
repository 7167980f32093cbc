use Rattle.std.proofs.Common.{refl}
use Rattle.std.proofs.lemmas.Bool.{eq-eqb}
use Rattle.lake_model.specs.Refusals.{causes_of_change}
use Rattle.lake_model.specs.Steps as steps
use Rattle.lake_laws.proofs.CauseLemmas.{allowed, cause_not, no_cause, none_holds, not_full, not_stopped}
use Rattle.lake_laws.proofs.removals.law_of_removal_steps.Goals as goal

pub returns-clause-expire : goal.returns-clause-expire
returns-clause-expire c state given by version now commits none may =
    let no = no_cause (steps.expire_causes state given version) none in
    allowed state _ no.stopped no.full may

pub returns-clause-condemn : goal.returns-clause-condemn
returns-clause-condemn c state by numbers none may =
    let no = no_cause (causes_of_change state) none in
    allowed state _ no.stopped no.full may

pub returns-clause-expire_causes : goal.returns-clause-expire_causes
returns-clause-expire_causes c state given by now commits may =
    none_holds (steps.expire_causes state given given.references) (not_stopped state _ may) (not_full state _ may) refl refl refl refl refl refl refl
    (cause_not _ _ (eq-eqb given.references given.references refl)) refl refl refl

pub returns-clause-condemn_causes : goal.returns-clause-condemn_causes
returns-clause-condemn_causes c state by numbers may =
    none_holds (causes_of_change state) (not_stopped state _ may) (not_full state _ may) refl refl refl refl refl refl refl refl refl refl refl
