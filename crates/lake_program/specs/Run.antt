-- What a run of the program promises.
use Rattle.std.specs.Prelude.{◌≡◌, ◌≢◌, ◌≤◌, ◌⊎◌, ℕ, false, List, [], ◌∷◌, ◌++◌, Some, IfSome, Result, Ok, Err, codes}
use Rattle.lake_base.specs.Outside.{Rose, Quiet}
use Rattle.http_wire.specs.SinkFronts.{Wrote, WroteFront}
use Rattle.batch_lines.specs.Lines.{batch_lines, end_text}
use Rattle.batch_lines.specs.Outcome.{IsReadOut, batch_status}
use Rattle.batch_lines.specs.ServedLines.{AreServed, LineEffect, any_failed, text_of}
use Rattle.batch_lines.specs.Status.{status_number}
use Rattle.batch_lines.specs.declared.status.ExitStatus.{ExitStatus}
use Rattle.batch_lines.specs.declared.status.ExitStatus.TheVariants.{Usage, SourceFailed, SinkFailed, HostFailed, PairsRefused, OutOfMemory}
use Rattle.core_puts.specs.KeeperViews.{KeeperView}
use Rattle.lake_core.specs.Faults.{HasFault}
use Rattle.folder_batch.specs.BatchWords.{BatchView}
use Rattle.folder_batch.specs.BatchWords.{HoldsBodies, IsBegun, IsServedBatch, IsTimed}
use Rattle.folder_batch.specs.BatchWords.{CommandView, GoesThrough, LineEnds}
use Rattle.batch_laws.specs.LikeRuns.{IsOnlyRun}
use Rattle.lake_generator.specs.Generated.{Generates, SinkView}
use Rattle.program_words.specs.declared.batch.Timing.{Timing}
use Rattle.program_words.specs.declared.generator.Generator.{Generator}
use Rattle.folder_batch.specs.Desks.{CommandAround}
use Rattle.folder_batch.specs.FolderBatches.{FolderEnds}
use Rattle.folder_batch.specs.FolderCommands.{FolderCommandEnds}
use Rattle.folder_server.specs.FolderServers.{FolderServes}
use Rattle.lakectl_shown.specs.declared.showing.Shown.{Shown}
use Rattle.program_words.specs.ProgramWords.{Asked, Batch, Control, Generate, LocalBatch, LocalCommand, LocalServing, Nothing, Send, Serve, Serving, asked_of}
use Rattle.program_words.specs.ProgramWords.{BatchIn, CommandIn, ServeIn}
use Rattle.lake_program.specs.Controls.{AreUntouched, ControlView, Controls, Prints}
use Rattle.lake_program.specs.OneGenerations.{HasOneText}
use Rattle.lake_program.specs.Servers.{IsServed, IsUnserved}
use Rattle.lake_program.specs.Views.{RunView}

-- ---- a batch

-- neither the source nor the sink nor a file failed
pub record AreQuiet (before after : RunView) : Type 0 where
  pub source : Quiet before.source_faults after.source_faults
  pub sink : Quiet before.batch.sink_faults after.batch.sink_faults
  pub files : Quiet before.file_faults after.file_faults

-- A RUN IN WHICH EACH LINE of this input was served, where the sink had got `written` before
pub record IsBatchRun (timing : Timing) (input written : List ℕ) (before after : BatchView) (status : ExitStatus) : Type 0 where
  -- each line works on what the one before left, the first on a fresh lake in memory, and none of them failed
  pub begin : CommandView
  pub end : CommandView
  pub fresh : IsBegun before begin
  pub effects : List LineEffect
  pub each : AreServed LineEnds (batch_lines 1073741824 input) begin effects end
  pub sound : any_failed effects ≡ false
  -- the files hold what the last left
  pub files : after.files ≡ end.files
  -- the requests took the clock's next readings, or all one moment
  pub timed : IsTimed timing before after begin end
  -- the sink got just what the lines show, one after the other, and where the batch is too long that it is
  pub text : after.written ≡ Some (written ++ (text_of effects ++ end_text 1073741824 input []))
  -- nothing is left of the source, or it gave more than the limit, by at most what is read at once
  pub read : IsReadOut 1073741824 65536 input after.left
  -- 7 where memory ran out at a line, else 0 where each was done and the batch isn't too long, else 1
  pub tells : status ≡ batch_status 1073741824 input effects
  -- what the commands made is one legal history of the fresh lake, whose bodies are all held; the store of objects never
  -- failed, and neither did the store of pairs
  pub goes : GoesThrough begin.lake.seat end.lake.seat
  pub bodies : HoldsBodies end
  pub calm : end.lake.store.faults ≡ 0
  pub pairs : HasFault end.lake.seat.seen → ⊥
  -- and any other run of these lines in which nothing failed either comes to the same
  pub only : IsOnlyRun timing (batch_lines 1073741824 input) before begin effects end each

-- memory ran out before the first line: nothing was tried, so that no count of faults rose either
pub record IsUnbegun (before after : RunView) (status : ExitStatus) : Type 0 where
  pub starved : status ≡ OutOfMemory
  pub same : after ≡ before

-- A BATCH WAS RUN
pub record RunsBatch (timing : Timing) (before after : RunView) (number : ℕ) : Type 0 where
  pub status : ExitStatus
  pub tells : number ≡ status_number status
  pub possible : status ≢ Usage
  pub no_pairs : status ≢ PairsRefused
  -- Where neither the source nor the sink nor a file failed, each line was served, and the sink got just what they show,
  -- unless memory ran out before the first.
  pub quiet : AreQuiet before after → IfSome before.batch.left (λ input. IfSome before.batch.written (λ written.
      IsBatchRun timing input written before.batch after.batch status ⊎ IsUnbegun before after status))
  -- Whatever failed, the sink got a front of what the lines show that were served, and all of it where the sink didn't fail,
  -- unless memory ran out before the first. Where the sink failed, no more than a piece was read after that; where a file
  -- did, nothing was.
  pub prefix : IsUnbegun before after status ⊎ IfSome before.batch.left (λ input.
      IsServedBatch timing 1073741824 65536 before.batch after.batch input status)
  -- nothing else was touched
  pub alone : after ≡ record before { batch = after.batch; source_faults = after.source_faults; file_faults = after.file_faults }
  -- each failure was counted
  pub source_failed : status ≡ SourceFailed → Rose before.source_faults after.source_faults
  pub sink_failed : status ≡ SinkFailed → Rose before.batch.sink_faults after.batch.sink_faults
  pub file_failed : status ≡ HostFailed → Rose before.file_faults after.file_faults

-- ---- a server

-- A SERVER WAS RUN: it has served, each of its connections a session, on one lake; or it didn't begin. Nothing but the host was touched.
pub record RunsServer (serving : Serving) (before after : RunView) (number : ℕ) : Type 0 where
  pub status : ExitStatus
  pub tells : number ≡ status_number status
  pub serves : IsServed serving before.host after.host status ⊎ IsUnserved before.host after.host status
  pub alone : after ≡ record before { host = after.host }

-- ---- a command that goes to a server

-- what such a command works on
abbrev pub control_view : RunView → ControlView
control_view run = record {
  client = record { files = run.batch.files; file_faults = run.file_faults; dial = run.dial };
  written = run.batch.written;
  sink_faults = run.batch.sink_faults;
  errors = run.errors;
  errors_faults = run.errors_faults;
}

-- A COMMAND WAS SENT, or stopped; and what it shows was printed. Nothing of the source, the clock and the host changed.
pub record RunsControl (control : Control) (before after : RunView) (number : ℕ) : Type 0 where
  pub controls : Controls (control_view before) (control_view after) control number
  pub left : after.batch.left ≡ before.batch.left
  pub source_faults : after.source_faults ≡ before.source_faults
  pub readings : after.batch.readings ≡ before.batch.readings
  pub host : after.host ≡ before.host
  pub folders : after.folders ≡ before.folders

-- ---- the generator

-- what its sink got
abbrev pub sink_view : RunView → SinkView
sink_view run = record { written = run.batch.written; faults = run.batch.sink_faults }

-- THE GENERATOR WAS RUN, and told the sink what its lines came to, or nothing. Nothing but the sink was touched.
pub record RunsGenerator (generator : Generator) (before after : RunView) (number : ℕ) : Type 0 where
  pub status : ExitStatus
  pub tells : number ≡ status_number status
  pub generates : Generates generator (sink_view before) (sink_view after) status
  -- and what it tells is what any other run of it does
  pub only : HasOneText generator
  pub alone : after ≡ record before { batch = record before.batch { written = after.batch.written; sink_faults = after.batch.sink_faults } }

-- ---- on the lake of a folder

-- A BATCH WAS RUN on the lake of a folder. Nothing but its streams, the clock, the files and the folder was touched.
pub record RunsBatchIn (local : LocalBatch) (before after : RunView) (number : ℕ) : Type 0 where
  pub status : ExitStatus
  pub tells : number ≡ status_number status
  pub possible : status ≢ Usage
  pub ends : FolderEnds local.folder local.timing 1073741824 65536 before.folders after.folders before.batch after.batch status
  pub alone : after ≡ record before {
    batch = after.batch;
    source_faults = after.source_faults;
    file_faults = after.file_faults;
    folders = after.folders;
  }
  pub source_failed : status ≡ SourceFailed → Rose before.source_faults after.source_faults
  pub sink_failed : status ≡ SinkFailed → Rose before.batch.sink_faults after.batch.sink_faults

-- A SERVER WAS RUN on the lake of a folder. Nothing but the host and the folder was touched.
pub record RunsServerIn {K : Type 0} (view : KeeperView K) (local : LocalServing) (before after : RunView) (number : ℕ) : Type 0 where
  pub status : ExitStatus
  pub tells : number ≡ status_number status
  pub serves : FolderServes view local before.host after.host before.folders after.folders status
  pub alone : after ≡ record before { host = after.host; folders = after.folders }

-- the clock's readings and the files of a run
abbrev pub around : RunView → CommandAround
around run = record { readings = run.batch.readings; files = run.batch.files }

-- what a command shows was printed; or it stopped, and nothing was
abbrev pub IsPrinted : (old now : ControlView) → Result Shown ExitStatus → ℕ → Type 0
IsPrinted old now (Ok shown) number = Prints old now shown number
IsPrinted old now (Err status) number = AreUntouched old now × (number ≡ status_number status)

-- A COMMAND WAS SERVED on the lake of a folder, and what it shows was printed. Nothing of the source, the host and the network changed.
pub record RunsCommandIn (local : LocalCommand) (before after : RunView) (number : ℕ) : Type 0 where
  pub result : Result Shown ExitStatus
  pub ends : FolderCommandEnds local.folder local.timing local.words before.folders after.folders (around before) (around after) result
  pub printed : IsPrinted (control_view before) (control_view after) result number
  pub left : after.batch.left ≡ before.batch.left
  pub source_faults : after.source_faults ≡ before.source_faults
  pub host : after.host ≡ before.host
  pub dial : after.dial ≡ before.dial

-- ---- other words

-- what is said of them
abbrev pub usage_text : List ℕ
usage_text = codes "Error: usage" ++ 10 ∷ []

-- That was said on `errors`, or a front of it, where that failed and counted it. Nothing else was touched.
pub record RunsNothing (before after : RunView) (number : ℕ) : Type 0 where
  pub says : ((number ≡ 2) × Wrote before.errors after.errors usage_text)
      ⊎ ((number ≡ 4) × WroteFront before.errors after.errors usage_text × Rose before.errors_faults after.errors_faults)
  pub alone : after ≡ record before { errors = after.errors; errors_faults = after.errors_faults }

-- ---- all of it

-- WHAT CAME OF A RUN, by what its words ask for
abbrev pub RunsAs : {K : Type 0} → KeeperView K → Asked → (before after : RunView) → (number : ℕ) → Type 0
RunsAs view (Batch timing) before after number = RunsBatch timing before after number
RunsAs view (Serve serving) before after number = RunsServer serving before after number
RunsAs view (Send control) before after number = RunsControl control before after number
RunsAs view (Generate generator) before after number = RunsGenerator generator before after number
RunsAs view (BatchIn local) before after number = RunsBatchIn local before after number
RunsAs view (ServeIn local) before after number = RunsServerIn view local before after number
RunsAs view (CommandIn local) before after number = RunsCommandIn local before after number
RunsAs view Nothing before after number = RunsNothing before after number

-- no count of failures falls
pub record CountsStay (before after : RunView) : Type 0 where
  pub source : before.source_faults ≤ after.source_faults
  pub sink : before.batch.sink_faults ≤ after.batch.sink_faults
  pub errors : before.errors_faults ≤ after.errors_faults
  pub files : before.file_faults ≤ after.file_faults
  pub host : before.host.faults ≤ after.host.faults
  pub dial : before.dial.faults ≤ after.dial.faults
  pub folders : before.folders.faults ≤ after.folders.faults

-- WHAT IS PROMISED of a run with these words that ended with this number; `view` tells what a folder's keeper shows
pub record Runs {K : Type 0} (view : KeeperView K) (words : List (List ℕ)) (before after : RunView) (number : ℕ) : Type 0 where
  pub came : RunsAs view (asked_of words) before after number
  pub counts : CountsStay before after
