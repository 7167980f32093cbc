-- A call that one change answered is answered.
use Rattle.std.proofs.Common.{◌≡◌, ◌≢◌, inl, ℕ, Option, None, refl, sym, subst, arith}
use Rattle.block_store.specs.Blocks.{HeldObjects}
use Rattle.call_heads.specs.AnswerWords.{Answered, IsCallAnswered, LakeSeat, asked_at, still}
use Rattle.lake_calls.specs.CallExceptions.{CallMet}
use Rattle.lake_calls.specs.Calls.{UploadCall}
use Rattle.lake_calls.specs.Requests.{Asks}
use Rattle.lake_calls.specs.declared.call.Call.{Call}
use Rattle.lake_calls.specs.declared.call.Call.TheVariants.{Objects}
use Rattle.lake_calls.specs.declared.objects.ObjectCall.TheVariants as object
use Rattle.call_heads.proofs.AnswerLemmas.{IsOtherCall, fits_unchanged, other_answered}
use Rattle.call_changes.specs.AnsweredChanges.{IsChangeAnswered}

-- a call that uploads no body
abbrev pub UploadsNone : Call → Type 0
UploadsNone call = (u : UploadCall) → Asks call ≢ Asks (Objects (object.Upload u))

-- what a change met: where the store of pairs failed its count rose, and that of objects counted nothing
abbrev met_still : (faults misses missed : ℕ) → CallMet
met_still faults misses missed = record {
  store_faults = record { before = 0; now = 1 };
  block_faults = record { before = faults; now = faults };
  misses = record { before = misses; now = misses };
  missed_last = missed;
  bytes = None;
  changed = 0;
  missed = 0;
}

-- A CALL THAT A CHANGE ANSWERED IS ANSWERED, over a store of objects that counted nothing and holds what it held.
pub of_change : (old new : LakeSeat) (number : ℕ) (call : Call) (moment faults misses missed : ℕ) (held : Option HeldObjects) (answer : Answered)
    → IsChangeAnswered old new number call moment answer → IsOtherCall call → UploadsNone call
    → IsCallAnswered old new number call moment (still faults misses missed) held held answer
of_change old new number call moment faults misses missed held answer change other uploads =
    let met : CallMet = met_still faults misses missed in
    let flow = change.flow met (λ failed counting. omega arith) in
    other_answered old new number call moment (still faults misses missed) held held answer met answer.reply flow (inl refl) refl refl refl
    (omega arith, omega arith)
    (fits_unchanged old new number (asked_at call moment) met answer.reply answer.position answer.edge held held flow uploads refl)
    other change.turn

-- a call that is another way of writing one that was answered
pub same_call : (old new : LakeSeat) (number : ℕ) (moment faults misses missed : ℕ) (held : Option HeldObjects) (answer : Answered) (call written : Call)
    → call ≡ written → IsCallAnswered old new number written moment (still faults misses missed) held held answer
    → IsCallAnswered old new number call moment (still faults misses missed) held held answer
same_call old new number moment faults misses missed held answer call written is =
    subst (λ c. IsCallAnswered old new number c moment (still faults misses missed) held held answer) (sym is)
