use Rattle.std.proofs.lemmas.Result.{on_ok_weaker}
use Rattle.core_state.specs.BranchStates.{branch_value}
use Rattle.core_changes.specs.BranchChanges.{HasRoom}
use Rattle.core_changes.proofs.PlacesLemmas.{same_place, holds_there}
use Rattle.core_changes.proofs.repository.make_room_at.Goals as goal

pub returns-in-Some-clause-same : goal.returns-in-Some-clause-same
returns-in-Some-clause-same c =
    same_place branch_value c.args.branches.now c.args.name.now c.in-Some.place.now c.make_room_here.new.place c.in-Some.ensures.value
    c.make_room_here.ensures.same

pub returns-in-Some-clause-room : goal.returns-in-Some-clause-room
returns-in-Some-clause-room c =
    on_ok_weaker c.make_room_here.result (holds_there c.args.branches.now c.args.name.now HasRoom c.make_room_here.new.place) c.make_room_here.ensures.room
