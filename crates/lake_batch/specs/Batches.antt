-- A batch of commands on a fresh lake in memory.
use Rattle.std.specs.Prelude.{◌≡◌, ℕ, List, [], ◌∷◌, All, Some}
use Rattle.std.specs.FinMap.{empty, get}
use Rattle.block_store.specs.Blocks.{HeldObjects}
use Rattle.lake_model.specs.History.{replay}
use Rattle.lake_model.specs.Soundness.{fresh}
use Rattle.fresh_lakes.specs.FreshLakes.{HasFault, IsLoneSeat, usual_cut}
use Rattle.lake_calls.specs.HeldBodies.{FitsState}
use Rattle.batch_lines.specs.Outcome.{Outcome}
use Rattle.batch_lines.specs.declared.status.ExitStatus.{ExitStatus}
use Rattle.program_words.specs.declared.batch.Timing.{Timing}
use Rattle.program_words.specs.declared.batch.Timing.TheVariants.{Clock, At}
use Rattle.lake_batch.specs.BatchViews.{BatchView, trace_of}
use Rattle.lake_batch.specs.CommandWords.{CommandView, GoesThrough, LineEnds}

-- what commands work on before the first line: a fresh lake, a store of objects that holds none, and the files
pub record IsBegun (batch : BatchView) (begin : CommandView) : Type 0 where
  pub seat : IsLoneSeat begin.lake.seat
  pub store : begin.lake.store ≡ record { held = Some empty; faults = 0; misses = 0; missed = 0 }
  pub files : begin.files ≡ batch.files

-- ALL REQUESTS WERE MADE AT ONE MOMENT: a clock that had given it once has given nothing else since, and tells all that.
pub record AreAtMoment (moment : ℕ) (begin end : CommandView) : Type 0 where
  pub begins : begin.lake.readings ≡ Some (moment ∷ [])
  pub taken : List ℕ
  pub ends : end.lake.readings ≡ Some (moment ∷ taken)
  pub still : All (λ reading. reading ≡ moment) taken

-- The requests are made at the clock's next readings, or all at one moment; and then the clock isn't read.
abbrev pub IsTimed : Timing → (before after : BatchView) → (begin end : CommandView) → Type 0
IsTimed Clock before after begin end = (begin.lake.readings ≡ before.readings) × (end.lake.readings ≡ after.readings)
IsTimed (At moment) before after begin end = (after.readings ≡ before.readings) × AreAtMoment moment begin end

-- the store holds the body of each object that a branch or a commit which isn't expired names: bytes of the size and the
-- digest of its entry
abbrev pub HoldsBodies : CommandView → Type 0
HoldsBodies view = (objects : HeldObjects) × (view.lake.store.held ≡ Some objects)
    × FitsState (replay (fresh usual_cut) view.lake.seat.seen) (get objects)

-- WHAT BECAME OF A BATCH of at most `limit` bytes, whose source gives at most `most` at once. Its lines are commands on a
-- fresh lake in memory, and each works on what the one before left; the status tells how far it came.
pub record IsServedBatch (timing : Timing) (limit most : ℕ) (before after : BatchView) (input : List ℕ) (status : ExitStatus) : Type 0 where
  pub begin : CommandView
  pub end : CommandView
  pub fresh : IsBegun before begin
  pub files : after.files ≡ end.files
  pub timed : IsTimed timing before after begin end
  pub outcome : Outcome LineEnds limit most (trace_of begin before) (trace_of end after) input after.left status
  -- what its commands made is one legal history of the fresh lake, whose bodies are all held; the store of objects never
  -- failed, and neither did the store of pairs
  pub goes : GoesThrough begin.lake.seat end.lake.seat
  pub bodies : HoldsBodies end
  pub calm : end.lake.store.faults ≡ 0
  pub pairs : HasFault end.lake.seat.seen → ⊥
