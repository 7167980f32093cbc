-- Two runs of one batch.
use Rattle.std.specs.Prelude.{◌≡◌, ◌≢◌, ℕ, List, Some}
use Rattle.lakectl_commands.specs.HeldFiles.{HeldFiles}
use Rattle.batch_lines.specs.Lines.{batch_lines}
use Rattle.batch_lines.specs.declared.status.ExitStatus.{ExitStatus}
use Rattle.batch_lines.specs.declared.status.ExitStatus.TheVariants.{OutOfMemory}
use Rattle.folder_batch.specs.BatchWords.{BatchView}
use Rattle.seat_laws.specs.Clashes.{NoneClashes}
use Rattle.batch_laws.specs.LikeRuns.{HaveOneClock}
use Rattle.batch_laws.specs.ToldReplies.{told_in}
use Rattle.program_words.specs.declared.batch.Timing.{Timing}
use Rattle.lake_program.specs.Run.{IsBatchRun}

module _ (timing other_timing : Timing) (input written : List ℕ) (before after other_before other_after : BatchView) (status other_status : ExitStatus)
    (run : IsBatchRun timing input written before after status) (other : IsBatchRun other_timing input written other_before other_after other_status) where
  -- ONE BATCH WAS RUN TWICE, and nothing failed: from the same files, at one moment or at the same readings of the clock, as far as both are told;
  -- memory never ran out, and no two contents have one name
  pub record IsRunTwice : Type 0 where
    pub files : HeldFiles
    pub told : before.files ≡ Some files
    pub other_told : other_before.files ≡ Some files
    pub clock : HaveOneClock timing other_timing run.begin run.end other.begin other.end
    pub memory : status ≢ OutOfMemory
    pub other_memory : other_status ≢ OutOfMemory
    pub apart : NoneClashes (told_in (batch_lines 1073741824 input) run.begin run.effects run.end run.each)
        (told_in (batch_lines 1073741824 input) other.begin other.effects other.end other.each)

  -- BOTH CAME TO THE SAME: the same output and status, the same files, and lakes of the same history
  pub record AreOneBatch : Type 0 where
    pub output : after.written ≡ other_after.written
    pub status_is : status ≡ other_status
    pub files : after.files ≡ other_after.files
    pub history : run.end.lake.seat.seen ≡ other.end.lake.seat.seen
