use Rattle.std.proofs.Common.{ap, ◌∙◌}
use Rattle.core_state.specs.LakeStates.{lake_value}
use Rattle.core_state.specs.NameIndexes.{bytes_in}
use Rattle.core_state.proofs.PlacesLemmas.{found_at, none_at}
use Rattle.core_state.proofs.lake.LakeState.file.Goals as goal

pub returns-in-Some : goal.returns-in-Some
unfolding lake_value
returns-in-Some c =
    ap bytes_in c.as_ref.ensures.value
    ∙ found_at bytes_in c.args.self.now.names.files c.args.name.now.0 c.in-Some.place.now c.in-Some.ensures

pub returns-in-None : goal.returns-in-None
unfolding lake_value
returns-in-None c = none_at bytes_in c.args.self.now.names.files c.args.name.now.0 c.in-None.ensures
