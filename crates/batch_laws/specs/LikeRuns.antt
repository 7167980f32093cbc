-- Two runs of the same lines.
use Rattle.std.specs.Prelude.{◌≡◌, ◌⊎◌, ◌++◌, ℕ, false, List, Some}
use Rattle.lake_core.specs.Faults.{HasFault}
use Rattle.lakectl_commands.specs.HeldFiles.{HeldFiles}
use Rattle.lake_batch.specs.CommandWords.{CommandView, LineEnds}
use Rattle.batch_lines.specs.ServedLines.{AreServed, LineEffect, any_failed, any_starved}
use Rattle.lake_batch.specs.BatchViews.{BatchView}
use Rattle.lake_batch.specs.Batches.{IsBegun, IsTimed}
use Rattle.program_words.specs.declared.batch.Timing.{Timing}
use Rattle.program_words.specs.declared.batch.Timing.TheVariants.{At}
use Rattle.seat_laws.specs.Clashes.{NoneClashes}
use Rattle.seat_laws.specs.LikeMoments.{Agree}
use Rattle.batch_laws.specs.ToldReplies.{told_in}

-- NOTHING FAILED in a run: memory ran out at no line, and no file failed; the store of objects counted no fault; and the history has no note
-- that the store of pairs failed
pub record WentWell (effects : List LineEffect) (end : CommandView) : Type 0 where
  pub memory : any_starved effects ≡ false
  pub files : any_failed effects ≡ false
  pub objects : end.lake.store.faults ≡ 0
  pub pairs : HasFault end.lake.seat.seen → ⊥

-- the clock's readings that a run took, where they are told
pub record Takes (begin end : CommandView) (taken : List ℕ) : Type 0 where
  pub before : List ℕ
  pub begins : begin.lake.readings ≡ Some before
  pub ends : end.lake.readings ≡ Some (before ++ taken)

-- TWO RUNS TOOK THE SAME READINGS, as far as both took any; and both tell which
pub record TookAlike (begin end other_begin other_end : CommandView) : Type 0 where
  pub taken : List ℕ
  pub other_taken : List ℕ
  pub takes : Takes begin end taken
  pub other_takes : Takes other_begin other_end other_taken
  pub agree : Agree taken other_taken

-- what two runs have in common of the clock: the moment at which all their requests were to be made, or the readings that they took
abbrev pub HaveOneClock : (timing other_timing : Timing) → (begin end other_begin other_end : CommandView) → Type 0
HaveOneClock timing other_timing begin end other_begin other_end =
    ((moment : ℕ) × (timing ≡ At moment) × (other_timing ≡ At moment)) ⊎ TookAlike begin end other_begin other_end

-- TWO RUNS CAME TO THE SAME: each line to the same, and so their output and their status; the same files; the same history, and so lakes of one
-- state; and they took the same readings
pub record AreOneRun (effects others : List LineEffect) (begin end other_begin other_end : CommandView) : Type 0 where
  pub lines : effects ≡ others
  pub files : end.files ≡ other_end.files
  pub history : end.lake.seat.seen ≡ other_end.lake.seat.seen
  pub taken : List ℕ
  pub takes : Takes begin end taken
  pub other_takes : Takes other_begin other_end taken

-- ANY OTHER RUN OF THESE LINES CAME TO THE SAME, also one on a fresh lake, where nothing failed in either: from the same files, at one moment or
-- at the same readings of the clock, as far as both are told, and where no two contents have one name
abbrev pub IsOnlyRun : (timing : Timing) (lines : List (List ℕ)) (before : BatchView) (begin : CommandView) (effects : List LineEffect)
    (end : CommandView) → AreServed LineEnds lines begin effects end → Type 0
IsOnlyRun timing lines before begin effects end run =
    (other_timing : Timing) (other_before other_after : BatchView) (other_begin other_end : CommandView) (others : List LineEffect)
    (other_run : AreServed LineEnds lines other_begin others other_end) (files : HeldFiles)
    → IsBegun other_before other_begin → IsTimed other_timing other_before other_after other_begin other_end
    → before.files ≡ Some files → other_before.files ≡ Some files → HaveOneClock timing other_timing begin end other_begin other_end
    → WentWell effects end → WentWell others other_end
    → NoneClashes (told_in lines begin effects end run) (told_in lines other_begin others other_end other_run)
    → AreOneRun effects others begin end other_begin other_end
