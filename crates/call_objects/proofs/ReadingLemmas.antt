-- A call that is answered by a reading of the lake alone is answered.
use Rattle.std.proofs.Common.{◌≡◌, inl, ℕ, true, ◌++◌, Option, None, refl, sym, ap, subst, ◌∙◌, arith}
use Rattle.std.specs.Prelude.{All}
use Rattle.std.specs.FinMap.{get}
use Rattle.std.proofs.lemmas.List.{append-nil, append_cancel_left}
use Rattle.lake_model.specs.declared.history.HistoryEntry.{HistoryEntry}
use Rattle.read_flow.specs.FlowWords.{BlockCounts, GoesOn, KeepsFitting, LakeOrigin, LakeSeat, state_at, still}
use Rattle.block_store.specs.Blocks.{HeldObjects}
use Rattle.call_placement.specs.Points.{Came}
use Rattle.call_placement.specs.Sessions.{caller}
use Rattle.lake_calls.specs.CallExceptions.{CallMet, no_counts}
use Rattle.lake_calls.specs.HeldBodies.{FitsState}
use Rattle.lake_calls.specs.LakeRules.{lake_rules}
use Rattle.lake_calls.specs.declared.call.Call.{Call}
use Rattle.read_flow.proofs.FlowLemmas.{none_of_both}
use Rattle.call_readings.specs.declared.answers.Answered.{Answered}
use Rattle.call_readings.specs.AnsweredReadings.{IsReadingAnswered}
use Rattle.call_objects.specs.AnsweredCalls.{IsCallAnswered}
use Rattle.call_objects.proofs.AnsweredLemmas.{IsOtherCall, other_answered}

-- a seat that is alone, and adds nothing, has seen nothing more
pub seen_same : (origin : LakeOrigin) (number : ℕ) (old new : LakeSeat) → GoesOn origin number old new
    → Came lake_rules (caller old.number number) old.seen new.seen → old.alone ≡ true → new.seen ≡ old.seen
seen_same origin number old new goes came alone =
    let same : goes.added ≡ came.0 = append_cancel_left old.seen goes.added came.0 (sym goes.seen ∙ came.2) in
    let none = none_of_both old.number came.0 came.1
    (subst (λ xs. All (λ (e : HistoryEntry). e.by.seat ≡ old.number) xs) same (goes.alone alone)) in
    came.2 ∙ ap (λ xs. old.seen ++ xs) none ∙ append-nil old.seen

-- so bodies that fitted fit still
pub fits_seen : (old new : LakeSeat) (held : Option HeldObjects) → (old.alone ≡ true → new.seen ≡ old.seen) → KeepsFitting old new held held
fits_seen old new held same origin objects alone from is fits =
    (objects, is, subst (λ es. FitsState (state_at origin es) (get objects)) (sym (same alone)) fits)

-- what a call met of a store of objects that counted nothing
abbrev met_still : BlockCounts → CallMet
met_still blocks = record {
  store_faults = no_counts;
  block_faults = blocks.faults;
  misses = blocks.misses;
  missed_last = blocks.missed_last;
  bytes = None;
  changed = 0;
  missed = 0;
}

-- A CALL THAT A READING ANSWERED IS ANSWERED, unless it reads an object's bytes, over a store of objects that counted nothing and
-- holds what it held: a call that only reads, or one at which memory ran out before its flow.
pub of_reading : (old new : LakeSeat) (number : ℕ) (call : Call) (moment faults misses missed : ℕ) (held : Option HeldObjects) (answer : Answered)
    → IsReadingAnswered old new call answer → IsOtherCall call
    → IsCallAnswered old new number call moment (still faults misses missed) held held answer
of_reading old new number call moment faults misses missed held answer read other =
    let blocks : BlockCounts = still faults misses missed in
    let met : CallMet = met_still blocks in
    let flow = read.flow number moment met in
    other_answered old new number call moment blocks held held answer met answer.reply flow (inl refl) refl refl refl (omega arith, omega arith)
    (fits_seen old new held (seen_same flow.origin number old new flow.goes (read.others number)))
    other read.turn
