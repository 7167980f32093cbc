use Rattle.lake_model.specs.declared.history.Operation.TheVariants.{RepoCreate}
use Rattle.core_state.specs.LakeStates.{state_of}
use Rattle.core_changes.specs.LakeChanges.{after_repository_create}
use Rattle.core_standing.specs.Standing.{versions_since}
use Rattle.core_standing.proofs.MakingLemmas.{may_make}
use Rattle.core_standing.proofs.PresentLemmas.{isnt_there, present_sound}
use Rattle.core_standing.proofs.RepositoryLemmas.{no_clash}
use Rattle.core_standing.proofs.repositories.law_of_repository.Goals as goal

pub returns : goal.returns
returns c opened history l by repo branch date clash stands causes is plain =
    let free = no_clash (state_of l) repo branch date clash causes is in
    let allowed = c.law_of_repository_steps.ensures.create_repository (state_of l) by repo branch date plain free.causes free.none in
    let unused = isnt_there l repo allowed.possible.fresh in
    let sound = present_sound c.law_of_soundness.ensures.replay opened history l stands in
    may_make opened history l by (RepoCreate repo branch date) stands allowed (after_repository_create repo branch date)
    (c.laws_of_states.ensures.repository_create l by repo branch date)
    (λ has. c.laws_of_counts.ensures.repository_create (versions_since opened history) l by repo branch date has unused)
    (c.laws_of_tokens.ensures.repository_create l repo branch date)
    (c.laws_of_few.ensures.repository_create l repo branch date) (c.laws_of_few.ensures.fault l)
    (λ has. c.laws_of_indexes.ensures.repository_create l repo branch date has sound unused allowed.possible.admissible)
    (c.laws_of_indexes.ensures.fault l)
