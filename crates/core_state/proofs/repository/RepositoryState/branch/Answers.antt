use Rattle.std.proofs.Common.{ap, ◌∙◌, option_map}
use Rattle.core_state.specs.BranchStates.{branch_value}
use Rattle.core_state.proofs.PlacesLemmas.{found_at, none_at}
use Rattle.core_state.proofs.repository.RepositoryState.branch.Goals as goal

pub returns-in-Some : goal.returns-in-Some
returns-in-Some c =
    ap (option_map branch_value) c.as_ref.ensures.value
    ∙ found_at (option_map branch_value) c.args.self.now.branches c.args.name.now c.in-Some.place.now c.in-Some.ensures

pub returns-in-None : goal.returns-in-None
returns-in-None c = none_at (option_map branch_value) c.args.self.now.branches c.args.name.now c.in-None.ensures
