use Rattle.core_state.specs.BranchStates.{branch_value}
use Rattle.core_changes.specs.BranchChanges.{FitsBranch, branch_after}
use Rattle.core_changes.proofs.PlacesLemmas.{asked_there, changed_nowhere, changed_place}
use Rattle.core_changes.proofs.repository.change_branch_at.Goals as goal

pub change_branch_here-requires-clause-possible : goal.change_branch_here-requires-clause-possible
change_branch_here-requires-clause-possible c =
    asked_there branch_value c.args.branches.now c.args.name.now (FitsBranch c.args.change) c.requires.possible c.in-Some.place.now c.in-Some.ensures.value

pub returns-in-Some : goal.returns-in-Some
returns-in-Some c =
    changed_place branch_value c.args.branches.now c.args.name.now (branch_after c.args.change)
    c.in-Some.place.now c.change_branch_here.new.place c.in-Some.ensures.value c.change_branch_here.ensures

pub returns-in_default : goal.returns-in_default
returns-in_default c =
    changed_nowhere branch_value c.args.branches.now c.args.name.now (branch_after c.args.change) c.in_default.ensures.value
