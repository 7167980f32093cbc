use Rattle.std.proofs.Common.{refl, ap}
use Rattle.std.specs.Prelude.{None, is_some}
use Rattle.std.specs.FinMap.{get}
use Rattle.lake_model.specs.declared.fault.StepFault.TheVariants.{Exists}
use Rattle.lake_model.specs.Commits.{bare_repository, first_draft}
use Rattle.lake_model.specs.Steps.{create_repository_causes}
use Rattle.lake_laws.proofs.CauseLemmas.{allowed, cause_fails, no_cause, none_holds, not_full, not_stopped, test_fails}
use Rattle.lake_laws.proofs.PlaceLemmas.{none_there}
use Rattle.lake_laws.proofs.LawsRepositoryLemmas.{first_admissible}
use Rattle.lake_laws.proofs.SwapRefusalLemmas.{no_clash}
use Rattle.lake_laws.proofs.repositories.law_of_repository_steps.Goals as goal

pub returns-clause-create_repository : goal.returns-clause-create_repository
returns-clause-create_repository c state by repo branch date plain none clash =
    let no = no_cause (create_repository_causes state repo None) none in
    allowed state _ no.stopped no.full (record {
      fresh = none_there (get state.repositories repo) (test_fails _ Exists no.exists);
      plain = plain;
      admissible = first_admissible state branch date clash;
    })

pub returns-clause-causes : goal.returns-clause-causes
returns-clause-causes c state by repo branch date may =
    none_holds (create_repository_causes state repo None) (not_stopped state _ may) (not_full state _ may) refl refl refl refl
    (cause_fails _ Exists (ap is_some may.possible.fresh)) refl refl refl refl refl refl

pub returns-clause-clash : goal.returns-clause-clash
returns-clause-clash c state by repo branch date may = no_clash state (bare_repository date branch) (first_draft date) may.possible.admissible
