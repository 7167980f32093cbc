-- What came of the generator.
use Rattle.std.specs.Prelude.{◌≡◌, ℕ, true, false, List, [], ◌∷◌, ◌++◌, Option, Some}
use Rattle.std.specs.FinMap.{empty}
use Rattle.lake_base.specs.Outside.{Rose}
use Rattle.lake_base.specs.declared.digest.Digest.{Digest}
use Rattle.lake_model.specs.History.{replay}
use Rattle.lake_model.specs.Soundness.{fresh}
use Rattle.lake_core.specs.Faults.{HasFault}
use Rattle.fresh_lakes.specs.FreshLakes.{IsLoneSeat, usual_cut}
use Rattle.lake_batch.specs.Batches.{AreAtMoment, HoldsBodies}
use Rattle.lake_batch.specs.CommandWords.{GoesThrough}
use Rattle.http_wire.specs.SinkFronts.{Wrote, WroteFront}
use Rattle.lake_batch.specs.CommandWords.{CommandView, LineEnds}
use Rattle.batch_lines.specs.ServedLines.{AreServed, LineEffect}
use Rattle.batch_lines.specs.declared.status.ExitStatus.{ExitStatus}
use Rattle.batch_lines.specs.declared.status.ExitStatus.TheVariants.{Done, OutOfMemory, SinkFailed}
use Rattle.program_words.specs.declared.generator.Generator.{Generator}
use Rattle.lake_generator.specs.Counting.{any_failure, failure_status, heads_done, is_failure, uploads_done}
use Rattle.lake_generator.specs.GeneratedLines.{generated_lines}
use Rattle.lake_generator.specs.MainHead.{IsMainMap}
use Rattle.lake_generator.specs.Report.{told_text}

-- what a sink got, and how often it has failed
pub record SinkView : Type 0 where
  pub written : Option (List ℕ)
  pub faults : ℕ

-- what commands work on before the first line: a fresh lake, a store that holds no object, no files, and the moment 0
pub record IsBegun (begin : CommandView) : Type 0 where
  pub seat : IsLoneSeat begin.lake.seat
  pub store : begin.lake.store ≡ record { held = Some empty; faults = 0; misses = 0; missed = 0 }
  pub files : begin.files ≡ Some empty
  pub moment : begin.lake.readings ≡ Some (0 ∷ [])

-- LINES ARE COMMANDS on a fresh lake in memory: each works on what the one before left, at the moment 0; and what they made is one legal
-- history. Its bodies are all held; the store of objects counted no failure, and that of pairs never failed.
pub record AreRun (lines : List (List ℕ)) (effects : List LineEffect) : Type 0 where
  pub begin : CommandView
  pub end : CommandView
  pub fresh : IsBegun begin
  pub each : AreServed LineEnds lines begin effects end
  pub still : AreAtMoment 0 begin end
  pub goes : GoesThrough begin.lake.seat end.lake.seat
  pub bodies : HoldsBodies end
  pub calm : end.lake.store.faults ≡ 0
  pub pairs : HasFault end.lake.seat.seen → ⊥

-- ALL LINES of the generator were run, and none failed
pub record HasRun (asked : Generator) : Type 0 where
  pub effects : List LineEffect
  pub run : AreRun (generated_lines asked.number asked.objects) effects
  pub fine : any_failure effects ≡ false

-- they were run up to one that failed
pub record HasFailed (asked : Generator) : Type 0 where
  pub served : List (List ℕ)
  pub unserved : List (List ℕ)
  pub whole : served ++ unserved ≡ generated_lines asked.number asked.objects
  pub effects : List LineEffect
  pub last : LineEffect
  pub run : AreRun served (effects ++ last ∷ [])
  pub fine : any_failure effects ≡ false
  pub failed : is_failure last ≡ true

-- WHAT IS TOLD of lines that were all run: how many objects were uploaded, how many commits and merges were made, and what main's head has at
-- the end
pub record IsTold (asked : Generator) (text : List ℕ) : Type 0 where
  pub lines : HasRun asked
  pub paths : ℕ
  pub id : Digest
  pub head : IsMainMap (replay (fresh usual_cut) lines.run.end.lake.seat.seen) paths id
  pub is : text ≡ told_text (uploads_done (generated_lines asked.number asked.objects) lines.effects)
      (heads_done (generated_lines asked.number asked.objects) lines.effects) paths id

-- why nothing was told: a line failed; or memory ran out before the first line, or behind the last
pub data IsUntold (asked : Generator) (status : ExitStatus) : Type 0 where
  AtLine : (lines : HasFailed asked) → status ≡ failure_status lines.last → IsUntold asked status
  Before : status ≡ OutOfMemory → IsUntold asked status
  Behind : HasRun asked → status ≡ OutOfMemory → IsUntold asked status

-- WHAT CAME OF THE GENERATOR: it told of its lines; or a front of that was written, and the sink failed and counted that; or nothing was told,
-- and nothing written
pub data Generates (asked : Generator) (before after : SinkView) (status : ExitStatus) : Type 0 where
  Told : (text : List ℕ) → IsTold asked text → Wrote before.written after.written text → status ≡ Done → Generates asked before after status
  Cut : (text : List ℕ) → IsTold asked text → WroteFront before.written after.written text → Rose before.faults after.faults
      → status ≡ SinkFailed → Generates asked before after status
  Untold : IsUntold asked status → after ≡ before → Generates asked before after status
