use Rattle.std.proofs.Common.{◌∙◌}
use Rattle.core_state.specs.LakeStates.{lake_value}
use Rattle.core_state.proofs.PlacesLemmas.{found_at, none_at}
use Rattle.core_state.proofs.lake.LakeState.home.Goals as goal

pub returns-in-Some : goal.returns-in-Some
unfolding lake_value
returns-in-Some c =
    c.as_ref.ensures.value
    ∙ found_at (λ place. place) c.args.self.now.names.homes c.args.id.now.0 c.in-Some.place.now c.in-Some.ensures

pub returns-in-None : goal.returns-in-None
unfolding lake_value
returns-in-None c = none_at (λ place. place) c.args.self.now.names.homes c.args.id.now.0 c.in-None.ensures
