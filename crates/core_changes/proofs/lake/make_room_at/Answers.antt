use Rattle.std.proofs.Common.{ap}
use Rattle.std.proofs.lemmas.Result.{on_ok_weaker}
use Rattle.lake_base.specs.Maps.{ByteMap}
use Rattle.core_state.specs.RepositoryStates.{RepositoryStateValue, repository_value}
use Rattle.core_state.specs.LakeStates.{lake_value}
use Rattle.core_changes.specs.RepositoryChanges.{HasRoomIn}
use Rattle.core_changes.proofs.PlacesLemmas.{same_place, holds_there}
use Rattle.core_changes.proofs.lake.make_room_at.Goals as goal

pub returns-in-Some-clause-same : goal.returns-in-Some-clause-same
unfolding lake_value
returns-in-Some-clause-same c =
    let l = lake_value c.args.lake.now in
    ap (λ (m : ByteMap RepositoryStateValue). record l { repositories = m })
    (same_place repository_value c.args.lake.now.repositories c.args.repo.now c.in-Some.place.now c.make_room_here.new.place c.in-Some.ensures.value
    c.make_room_here.ensures.same)

pub returns-in-Some-clause-room : goal.returns-in-Some-clause-room
returns-in-Some-clause-room c =
    on_ok_weaker c.make_room_here.result
    (holds_there c.args.lake.now.repositories c.args.repo.now (HasRoomIn c.args.room) c.make_room_here.new.place) c.make_room_here.ensures.room
