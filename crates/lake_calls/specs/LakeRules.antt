-- THE LAKE'S CALLS AS AN INSTANCE of the rules of placement.
use Rattle.std.specs.Prelude.{◌≡◌, ◌||◌, ℕ, Bool, not, nat_lt, List, []}
use Rattle.lake_model.specs.declared.history.By.{By}
use Rattle.lake_model.specs.declared.history.HistoryEntry.{HistoryEntry}
use Rattle.lake_model.specs.declared.history.Operation.{Operation}
use Rattle.lake_model.specs.State.{State}
use Rattle.lake_model.specs.History.{accepted_entry, after, faulted_entry}
use Rattle.call_placement.specs.Rules.{Caller, Rules}
use Rattle.lake_calls.specs.CallExceptions.{CallMet, HasRisen, IsException}
use Rattle.lake_calls.specs.CallRefusals.{PointPasses, PointRefused}
use Rattle.lake_calls.specs.Courses.{CallPoint, Fixed, call_course, made_by}
use Rattle.lake_calls.specs.DoneReplies.{IsDone, is_reply_done, is_upload, owed_behind}
use Rattle.lake_calls.specs.Requests.{Asked, Asks, CallRequest, Malformed, form_of}
use Rattle.lake_calls.specs.declared.reply.CallReply.{CallReply}
use Rattle.lake_calls.specs.declared.reply.CallReply.TheVariants as reply
use Rattle.lake_calls.specs.declared.reply.Done.{Done}
use Rattle.lake_calls.specs.declared.reply.Refusal.TheVariants as refusal

-- who makes an entry, as entries say it
abbrev pub by_caller : Caller → By
by_caller caller = record { seat = caller.seat; call = caller.call }

abbrev pub caller_of : HistoryEntry → Caller
caller_of entry = record { seat = entry.by.seat; call = entry.by.call }

-- a lake takes no more changes: the store failed, or the history is full
abbrev pub is_closed : State → Bool
is_closed state = state.stopped || not (nat_lt state.entries 4194304)

-- the points of what is asked; a request of no form has none
abbrev pub asked_course : Asked → (moment : ℕ) → Fixed → List CallPoint
asked_course (Asks call) moment fixed = call_course call moment fixed
asked_course (Malformed refused) moment fixed = []

-- what holds of a point of the call that is asked
abbrev pub AskedPasses : Asked → CallPoint → State → Type 0
AskedPasses (Asks call) point state = PointPasses call point state
AskedPasses (Malformed refused) point state = ⊥

abbrev pub AskedRefused : Asked → CallPoint → State → CallReply → Type 0
AskedRefused (Asks call) point state told = PointRefused call point state told
AskedRefused (Malformed refused) point state told = ⊥

-- the reply of a course that went by
abbrev pub IsAnswerOf : Asked → (moment : ℕ) → CallMet → List CallPoint → State → CallReply → Type 0
IsAnswerOf (Asks call) moment met course state told =
    (fixed : Fixed) × (course ≡ call_course call moment fixed) × (done : Done) × IsDone call moment fixed met state done × (told ≡ reply.Done done)
IsAnswerOf (Malformed refused) moment met course state told = ⊥

abbrev pub IsExceptionOf : Asked → (seat : ℕ) → (left : List CallPoint) → CallMet → State → (from : ℕ) → List HistoryEntry → CallReply → Type 0
IsExceptionOf (Asks call) seat left met opened from seen told = IsException seat (is_upload call) left met opened from seen told
IsExceptionOf (Malformed refused) seat left met opened from seen told = ⊥

-- THE RULES
abbrev pub lake_rules : Rules HistoryEntry State Operation CallRequest Fixed CallPoint CallMet CallReply
lake_rules = record {
  maker = caller_of;
  accepted = λ by operation. accepted_entry (by_caller by) operation;
  faulted = λ by operation. faulted_entry (by_caller by) operation;
  after = after;
  is_shut = is_closed;
  form = λ request. form_of request.asked;
  course = λ request fixed. asked_course request.asked request.moment fixed;
  makes = made_by;
  passes = λ by request point state. AskedPasses request.asked point state;
  refuses = λ by request point state told. AskedRefused request.asked point state told;
  answers = λ by request met course state told. IsAnswerOf request.asked request.moment met course state told;
  excepts = λ by request left met opened from seen told. IsExceptionOf request.asked by.seat left met opened from seen told;
  excepts_behind = λ by request met opened from seen told. ⊥;
  store_fails = λ met told. HasRisen met.store_faults × (told ≡ reply.Refused refusal.StoreFault);
  is_no_memory = λ told. told ≡ reply.NoMemory;
  owed = λ request passed. owed_behind passed;
  is_done = is_reply_done;
}
