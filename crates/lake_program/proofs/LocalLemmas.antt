-- What was done on the lake of a folder, and a usage fault that was shown.
use Rattle.std.proofs.Common.{◌≡◌, ◌≢◌, ◌≤◌, ◌⊎◌, inl, inr, ⊎_elim, ℕ, List, Option, Some, None, Result, sym, ◌∙◌, ap}
use Rattle.std.proofs.Common.{subst, arith}
use Rattle.lake_base.specs.Outside.{Rose}
use Rattle.http_wire.specs.SinkFronts.{Wrote, WroteFront}
use Rattle.batch_lines.specs.Status.{status_number}
use Rattle.batch_lines.specs.declared.status.ExitStatus.{ExitStatus}
use Rattle.batch_lines.specs.declared.status.ExitStatus.TheVariants as exit
use Rattle.core_puts.specs.KeeperViews.{KeeperView}
use Rattle.folder_batch.specs.FolderBatches.{FolderEnds}
use Rattle.folder_batch.specs.FolderCommands.{FolderCommandEnds}
use Rattle.folder_server.specs.FolderServers.{FolderServes}
use Rattle.folder_server.specs.HostWords.{HostView}
use Rattle.lakectl_client.specs.Dialing.{DialView}
use Rattle.lakectl_shown.specs.declared.showing.Shown.{Shown}
use Rattle.program_words.specs.ProgramWords.{Asked, BatchIn, CommandIn, LocalBatch, LocalCommand, LocalServing, Nothing, ServeIn}
use Rattle.program_words.specs.ProgramWords.{first_local, local_asked_of, local_batch_of, local_command_of, local_serving_of}
use Rattle.lake_program.specs.Run.{CountsStay, IsPrinted, RunsAs, around, control_view, usage_text}
use Rattle.lake_program.specs.Views.{RunView}

module _ {K : Type 0} (view : KeeperView K) (words : List (List ℕ)) (before after : RunView) (number : ℕ) where
  -- what came of words that ask for this
  as_local : (asked : Asked) → local_asked_of words ≡ asked → RunsAs view asked before after number → CountsStay before after
      → RunsAs view (local_asked_of words) before after number × CountsStay before after
  as_local asked is came counts = (subst (λ (a : Asked). RunsAs view a before after number) (sym is) came, counts)

  pub batch_ran : (local : LocalBatch) (status : ExitStatus) → local_batch_of words ≡ Some local → number ≡ status_number status
      → status ≢ exit.Usage
      → FolderEnds local.folder local.timing 1073741824 65536 before.folders after.folders before.batch after.batch status
      → (before.source_faults ≤ after.source_faults) × (status ≡ exit.SourceFailed → Rose before.source_faults after.source_faults)
      → (before.batch.sink_faults ≤ after.batch.sink_faults) × (status ≡ exit.SinkFailed → Rose before.batch.sink_faults after.batch.sink_faults)
      → before.file_faults ≤ after.file_faults → before.folders.faults ≤ after.folders.faults
      → after ≡ record before {
        batch = after.batch;
        source_faults = after.source_faults;
        file_faults = after.file_faults;
        folders = after.folders;
      }
      → RunsAs view (local_asked_of words) before after number × CountsStay before after
  batch_ran local status is tells no_usage ends source sink files folders same =
      as_local (BatchIn local) (ap (λ (b : Option LocalBatch). first_local b (local_serving_of words) (local_command_of words)) is)
      (record {
        status = status;
        tells = tells;
        possible = no_usage;
        ends = ends;
        alone = same;
        source_failed = source.1;
        sink_failed = sink.1;
      })
      (record {
        source = source.0;
        sink = sink.0;
        errors = let count = ap (λ (v : RunView). v.errors_faults) same in omega (arith, count);
        files = files;
        host = let count = ap (λ (v : RunView). v.host.faults) same in omega (arith, count);
        dial = let count = ap (λ (v : RunView). v.dial.faults) same in omega (arith, count);
        folders = folders;
      })

  pub server_ran : (local : LocalServing) (status : ExitStatus) → local_batch_of words ≡ None → local_serving_of words ≡ Some local
      → number ≡ status_number status → FolderServes view local before.host after.host before.folders after.folders status
      → before.host.faults ≤ after.host.faults → before.folders.faults ≤ after.folders.faults
      → after ≡ record before { host = after.host; folders = after.folders }
      → RunsAs view (local_asked_of words) before after number × CountsStay before after
  server_ran local status no_batch is tells serves host folders same =
      as_local (ServeIn local) (λ i. first_local (no_batch i) (is i) (local_command_of words))
      (record { status = status; tells = tells; serves = serves; alone = same })
      (record {
        source = let count = ap (λ (v : RunView). v.source_faults) same in omega (arith, count);
        sink = let count = ap (λ (v : RunView). v.batch.sink_faults) same in omega (arith, count);
        errors = let count = ap (λ (v : RunView). v.errors_faults) same in omega (arith, count);
        files = let count = ap (λ (v : RunView). v.file_faults) same in omega (arith, count);
        host = host;
        dial = let count = ap (λ (v : RunView). v.dial.faults) same in omega (arith, count);
        folders = folders;
      })

  pub command_ran : (local : LocalCommand) (ended : Result Shown ExitStatus) → local_batch_of words ≡ None → local_serving_of words ≡ None
      → local_command_of words ≡ Some local
      → FolderCommandEnds local.folder local.timing local.words before.folders after.folders (around before) (around after) ended
      → IsPrinted (control_view before) (control_view after) ended number
      → before.batch.sink_faults ≤ after.batch.sink_faults → before.errors_faults ≤ after.errors_faults → before.file_faults ≤ after.file_faults
      → before.folders.faults ≤ after.folders.faults
      → (after.batch.left ≡ before.batch.left) × (after.source_faults ≡ before.source_faults) × (after.host ≡ before.host)
      × (after.dial ≡ before.dial)
      → RunsAs view (local_asked_of words) before after number × CountsStay before after
  command_ran local ended no_batch no_server is ends printed sink errors files folders same =
      as_local (CommandIn local) (λ i. first_local (no_batch i) (no_server i) (is i))
      (record { result = ended; ends = ends; printed = printed; left = same.0; source_faults = same.1; host = same.2; dial = same.3 })
      (record {
        source = let count = same.1 in omega (arith, count);
        sink = sink;
        errors = errors;
        files = files;
        host = let count = ap (λ (h : HostView). h.faults) same.2 in omega (arith, count);
        dial = let count = ap (λ (d : DialView). d.faults) same.3 in omega (arith, count);
        folders = folders;
      })

  pub usage_shown : (status : ExitStatus) → local_batch_of words ≡ None → local_serving_of words ≡ None → local_command_of words ≡ None
      → number ≡ status_number status
      → ((status ≡ exit.Usage) × Wrote before.errors after.errors usage_text)
      ⊎ ((status ≡ exit.SinkFailed) × WroteFront before.errors after.errors usage_text × Rose before.errors_faults after.errors_faults)
      → after ≡ record before { errors = after.errors; errors_faults = after.errors_faults } → before.errors_faults ≤ after.errors_faults
      → RunsAs view (local_asked_of words) before after number × CountsStay before after
  usage_shown status no_batch no_server no_command tells says same errors =
      as_local Nothing (λ i. first_local (no_batch i) (no_server i) (no_command i))
      (record {
        says = ⊎_elim (λ whole. inl (tells ∙ ap status_number whole.0, whole.1)) (λ failed. inr (tells ∙ ap status_number failed.0, failed.1, failed.2)) says;
        alone = same;
      })
      (record {
        source = let count = ap (λ (v : RunView). v.source_faults) same in omega (arith, count);
        sink = let count = ap (λ (v : RunView). v.batch.sink_faults) same in omega (arith, count);
        errors = errors;
        files = let count = ap (λ (v : RunView). v.file_faults) same in omega (arith, count);
        host = let count = ap (λ (v : RunView). v.host.faults) same in omega (arith, count);
        dial = let count = ap (λ (v : RunView). v.dial.faults) same in omega (arith, count);
        folders = let count = ap (λ (v : RunView). v.folders.faults) same in omega (arith, count);
      })
