-- The lines of a batch at a desk: on one seat of a lake, with a store of its objects.
use Rattle.std.specs.Prelude.{◌≡◌, ◌<◌, ℕ, List, [], Option, Result, codes, vec_len, vec_capacity}
use Rattle.lake_base.specs.declared.outside.Trouble.{Trouble}
use Rattle.shared_lake.specs.SeatSteps.{LakeSeat}
use Rattle.batch_lines.specs.Outcome.{Outcome}
use Rattle.batch_lines.specs.declared.status.ExitStatus.{ExitStatus}
use Rattle.lakectl_commands.specs.HeldFiles.{HeldFiles}
use Rattle.lake_batch.specs.CommandWords.{CommandEnds}
use Rattle.lakectl_shown.specs.declared.showing.Shown.{Shown}
use Rattle.program_words.specs.declared.batch.Timing.{Timing}
use Rattle.program_words.specs.declared.batch.Timing.TheVariants.{Clock, At}
use Rattle.lake_batch.specs.BatchViews.{BatchView, trace_of}
use Rattle.lake_batch.specs.Batches.{AreAtMoment}
use Rattle.folder_batch.specs.declared.desk.OpenDesk.{OpenDesk}
use Rattle.lake_batch.specs.CommandWords.{CommandView, GoesThrough, LineEnds, StoreView}

-- a desk that is open: the seat is one of its lake, and there is room to put it back among the seats
pub record IsReady {K B : Type 0} (desk : OpenDesk K B) : Type 0 where
  pub turn : desk.seat.turn ≡ desk.lake
  pub none : desk.room.items ≡ []
  pub room : vec_len desk.room < vec_capacity desk.room

-- a desk, as it shows: a seat, and a store of objects
pub record Desk : Type 0 where
  pub store : StoreView
  pub seat : LakeSeat

-- what commands work on at a desk
pub record IsAtDesk (desk : Desk) (view : CommandView) : Type 0 where
  pub store : view.lake.store ≡ desk.store
  pub seat : view.lake.seat ≡ desk.seat

-- Requests were made at the clock's next readings, or all at one moment; and then the clock isn't read.
abbrev pub IsTimedBy : Timing → (before after : Option (List ℕ)) → (begin end : CommandView) → Type 0
IsTimedBy Clock before after begin end = (begin.lake.readings ≡ before) × (end.lake.readings ≡ after)
IsTimedBy (At moment) before after begin end = (after ≡ before) × AreAtMoment moment begin end

-- WHAT BECAME OF A BATCH at a desk, of at most `limit` bytes, whose source gives at most `most` at once. Its lines are commands, and each works
-- on what the one before left; the status tells how far it came.
pub record IsServedAt (timing : Timing) (limit most : ℕ) (before after : BatchView) (old new : Desk) (input : List ℕ) (status : ExitStatus)
    : Type 0 where
  pub begin : CommandView
  pub end : CommandView
  pub begins : IsAtDesk old begin
  pub ends : IsAtDesk new end
  pub files_before : begin.files ≡ before.files
  pub files : after.files ≡ end.files
  pub timed : IsTimedBy timing before.readings after.readings begin end
  pub outcome : Outcome LineEnds limit most (trace_of begin before) (trace_of end after) input after.left status
  -- what its commands made goes on from what the seat had seen, as one legal history
  pub goes : GoesThrough old.seat new.seat

-- ---- a command

-- what a command reads and writes beside a desk: the clock's readings, and files
pub record CommandAround : Type 0 where
  pub readings : Option (List ℕ)
  pub files : Option HeldFiles

-- WHAT BECAME OF A COMMAND at a desk
pub record IsCommandAt (timing : Timing) (words : List (List ℕ)) (before after : CommandAround) (old new : Desk) (result : Result Shown Trouble)
    : Type 0 where
  pub begin : CommandView
  pub end : CommandView
  pub begins : IsAtDesk old begin
  pub ends : IsAtDesk new end
  pub files_before : begin.files ≡ before.files
  pub files : after.files ≡ end.files
  pub timed : IsTimedBy timing before.readings after.readings begin end
  pub command : CommandEnds (codes "localhost") words begin end result
  pub goes : GoesThrough old.seat new.seat
