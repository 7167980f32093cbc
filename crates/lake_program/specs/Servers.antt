-- A server on a fresh lake in memory.
use Rattle.std.specs.FinMap.{empty}
use Rattle.std.specs.Prelude.{◌≡◌, ◌⊎◌, true, All, List, length, replicate, Some}
use Rattle.lake_base.specs.Outside.{Rose}
use Rattle.keeper.specs.Keepers.{KeptPairs}
use Rattle.lake_model.specs.History.{IsLegal}
use Rattle.lake_model.specs.Soundness.{fresh}
use Rattle.lake_core.specs.Lakes.{Holds, LakeValue}
use Rattle.shared_lake.specs.SeatSteps.{LakeSeat}
use Rattle.fresh_lakes.specs.FreshLakes.{AreFreshSeats, sure_view, usual_cut}
use Rattle.folder_server.specs.HostWords.{HostView}
use Rattle.folder_server.specs.HostWords.{HasServedAll}
use Rattle.folder_server.specs.HostWords.{StoreView}
use Rattle.folder_server.specs.HostWords.{ServerEnd}
use Rattle.folder_server.specs.ServerEnds as end
use Rattle.batch_lines.specs.declared.status.ExitStatus.{ExitStatus}
use Rattle.batch_lines.specs.declared.status.ExitStatus.TheVariants.{Done, HostFailed, OutOfMemory}
use Rattle.program_words.specs.ProgramWords.{Serving}

-- how a run ends whose server ended so
abbrev pub status_of : ServerEnd → ExitStatus
status_of end.Done = Done
status_of end.Failed = HostFailed
status_of end.NoMemory = OutOfMemory

-- a store of objects that holds nothing, and has counted nothing
abbrev pub empty_store : StoreView
empty_store = record { held = Some empty; faults = 0; misses = 0; missed = 0 }

-- A SERVER HAS SERVED, on a fresh lake in memory, at this address: a worker at each of its seats, as many as were asked for, each with
-- an empty store of objects of its own, none of which counted a failure. What they did is one legal history of the fresh lake, and what
-- each seat has seen is a front of it. It ended well where each worker has served its share of the connections, and failed where a
-- listener failed one.
pub record IsServed (serving : Serving) (before after : HostView) (status : ExitStatus) : Type 0 where
  pub seats : List LakeSeat
  pub begun : AreFreshSeats seats
  pub count : length seats ≡ serving.service.workers
  -- a lone worker has the only seat
  pub alone : serving.service.workers ≡ 1 → All (λ (seat : LakeSeat). seat.alone ≡ true) seats
  pub lake : LakeValue KeptPairs
  pub end : ServerEnd
  pub left : List StoreView
  pub served : HasServedAll sure_view seats (replicate serving.service.workers empty_store) serving.at serving.service.connections
      before after end lake left
  pub calm : All (λ (store : StoreView). store.faults ≡ 0) left
  pub legal : IsLegal (fresh usual_cut) lake.history
  pub holds : Holds sure_view lake
  pub tells : status ≡ status_of end

-- a server that didn't begin: no listener was given; memory ran out, or the host failed, and counted that
pub record IsUnserved (before after : HostView) (status : ExitStatus) : Type 0 where
  pub opened : after.opened ≡ before.opened
  pub returned : after.returned ≡ before.returned
  pub why : (status ≡ OutOfMemory) ⊎ ((status ≡ HostFailed) × Rose before.faults after.faults)
