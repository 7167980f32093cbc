use Rattle.core_state.specs.RepositoryStates.{repository_value}
use Rattle.core_changes.specs.RepositoryChanges.{FitsRepository, repository_after}
use Rattle.core_changes.proofs.PlacesLemmas.{asked_there, changed_nowhere, changed_place}
use Rattle.core_changes.proofs.lake.change_at.Goals as goal

pub change_here-requires-clause-possible : goal.change_here-requires-clause-possible
change_here-requires-clause-possible c =
    asked_there repository_value c.args.repositories.now c.args.repo.now (FitsRepository c.args.change) c.requires.possible c.in-Some.place.now
    c.in-Some.ensures.value

pub returns-in-Some : goal.returns-in-Some
returns-in-Some c =
    changed_place repository_value c.args.repositories.now c.args.repo.now (repository_after c.args.change)
    c.in-Some.place.now c.change_here.new.place c.in-Some.ensures.value c.change_here.ensures

pub returns-in_default : goal.returns-in_default
returns-in_default c =
    changed_nowhere repository_value c.args.repositories.now c.args.repo.now (repository_after c.args.change) c.in_default.ensures.value
