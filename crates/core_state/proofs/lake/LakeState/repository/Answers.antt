use Rattle.std.proofs.Common.{ap, ◌∙◌, option_map}
use Rattle.core_state.specs.LakeStates.{lake_value}
use Rattle.core_state.specs.RepositoryStates.{repository_value}
use Rattle.core_state.proofs.PlacesLemmas.{found_at, none_at}
use Rattle.core_state.proofs.lake.LakeState.repository.Goals as goal

pub returns-in-Some : goal.returns-in-Some
unfolding lake_value
returns-in-Some c =
    ap (option_map repository_value) c.as_ref.ensures.value
    ∙ found_at (option_map repository_value) c.args.self.now.repositories c.args.repo.now c.in-Some.place.now c.in-Some.ensures

pub returns-in-None : goal.returns-in-None
unfolding lake_value
returns-in-None c = none_at (option_map repository_value) c.args.self.now.repositories c.args.repo.now c.in-None.ensures
