-- The lake's rules are lawful, and tell what is done and that the store failed.
use Rattle.std.proofs.Common.{◌≡◌, ◌≤◌, ◌+◌, ◌||◌, ℕ, Bool, true, false, not, nat_lt, List, [], ◌∷◌, length, drop, refl, ap, sym, ◌∙◌, subst, arith}
use Rattle.std.specs.Prelude.{Option, Some, None}
use Rattle.std.specs.List.{filter}
use Rattle.std.proofs.lemmas.Bool.{lt-ltb, ltb-true}
use Rattle.std.proofs.lemmas.List.{length-append}
use Rattle.std.proofs.lemmas.List.Elements.{filter-append}
use Rattle.std.proofs.lemmas.List.Folds.{drop_split}
use mathlib.Core.Logic.{inl, inr}
use Rattle.lake_model.specs.declared.history.EntryKind.{EntryKind}
use Rattle.lake_model.specs.declared.history.EntryKind.TheVariants.{Accepted, Faulted}
use Rattle.lake_model.specs.declared.history.HistoryEntry.{HistoryEntry}
use Rattle.lake_model.specs.declared.history.Operation.{Operation}
use Rattle.lake_model.specs.declared.history.Operation.TheVariants.{Stage, Expire}
use Rattle.lake_model.specs.declared.history.RepositoryCommit.{RepositoryCommit}
use Rattle.lake_model.specs.State.{State}
use Rattle.lake_model.specs.Parts.{in_repository}
use Rattle.lake_model.specs.Uncommitted.{put_number, without_ticket}
use Rattle.lake_model.specs.Removal.{after_expire, with_expired}
use Rattle.lake_model.specs.History.{after, after_kind, after_operation}
use Rattle.lake_laws.specs.VersionGivers.{count_of, of_other_seat}
use Rattle.call_placement.specs.Placed.{Lawful, TellsDone, TellsFault}
use Rattle.lake_calls.specs.CallExceptions.{CallMet, HasMissedEnough, HasTriedEnough, IsException, IsLost, IsReadException, gives_guarded}
use Rattle.lake_calls.specs.Courses.{CallPoint, Answers, Finds, ResolvesSource, ResolvesParent, Looks, Prepares, Makes}
use Rattle.lake_calls.specs.DoneReplies.{is_reply_done, is_upload}
use Rattle.lake_calls.specs.LakeRules.{AskedRefused, IsAnswerOf, IsExceptionOf, is_closed, lake_rules}
use Rattle.lake_calls.specs.Requests.{Asked, Asks, Malformed}
use Rattle.lake_calls.specs.declared.objects.ReadCall.{ReadCall}
use Rattle.lake_calls.specs.declared.reply.CallReply.{CallReply}
use Rattle.lake_calls.specs.declared.reply.CallReply.TheVariants.{Refused}
use Rattle.lake_calls.specs.declared.reply.Refusal.{Refusal}
use Rattle.lake_calls.specs.declared.reply.Refusal.TheVariants as refusal
use Rattle.lake_calls.proofs.RefusedLemmas.{IsOther, IsRefused, point_refused}
use Rattle.lake_calls.proofs.CourseLemmas.{last_makes, owes_nothing}

-- ---- a lake that takes no more changes

ticket_same : (number : Option ℕ) (state : State) → (without_ticket number state).stopped ≡ state.stopped
ticket_same None state = refl
ticket_same (Some number) state = refl

expire_same : (commits : List RepositoryCommit) (state : State) → (after_expire commits state).stopped ≡ state.stopped
expire_same [] state = refl
expire_same (one ∷ commits) state = expire_same commits (in_repository one.repo (with_expired one.commit) state)

-- no operation stops a lake, or starts it again
operation_same : (state : State) (seat : ℕ) (operation : Operation) → (after_operation seat operation state).stopped ≡ state.stopped
operation_same state seat (Stage repo branch path change) = ticket_same (put_number change) state
operation_same state seat (Expire now commits) = expire_same commits state
operation_same state seat _ = refl

kind_stopped : (state : State) (seat : ℕ) (kind : EntryKind) → state.stopped ≡ true → (after_kind seat kind state).stopped ≡ true
kind_stopped state seat (Accepted operation) is = operation_same state seat operation ∙ is
kind_stopped state seat (Faulted operation) is = refl

-- a history that is full stays so
still_full : (b c : Bool) → (c ≡ true → b ≡ true) → not b ≡ true → not c ≡ true
still_full b false back full = refl
still_full true true back full = full
still_full false true back full = absurd (let same = back refl in cc)

fewer_room : (n : ℕ) → nat_lt (n + 1) 4194304 ≡ true → nat_lt n 4194304 ≡ true
fewer_room n room = let less = ltb-true (n + 1) 4194304 room in lt-ltb n 4194304 (omega (arith, less))

or_left : (a b : Bool) → a ≡ true → (a || b) ≡ true
or_left a b is = ap (λ x. x || b) is

or_right : (a b : Bool) → b ≡ true → (a || b) ≡ true
or_right true b is = refl
or_right false b is = is

closed_on : (stopped full then_stopped then_full : Bool) → (stopped ≡ true → then_stopped ≡ true) → (full ≡ true → then_full ≡ true)
    → (stopped || full) ≡ true → (then_stopped || then_full) ≡ true
closed_on true full then_stopped then_full stops fills is = or_left then_stopped then_full (stops refl)
closed_on false full then_stopped then_full stops fills is = or_right then_stopped then_full (fills is)

stays_closed : (state : State) (entry : HistoryEntry) → is_closed state ≡ true → is_closed (after state entry) ≡ true
stays_closed state entry is =
    closed_on state.stopped (not (nat_lt state.entries 4194304)) (after_kind entry.by.seat entry.kind state).stopped
    (not (nat_lt (state.entries + 1) 4194304)) (kind_stopped state entry.by.seat entry.kind)
    (still_full (nat_lt state.entries 4194304) (nat_lt (state.entries + 1) 4194304) (fewer_room state.entries)) is

-- ---- causes of exceptions

-- behind fewer entries as many pass a test, or more
count_fewer : (test : HistoryEntry → Bool) (fewer from : ℕ) (seen : List HistoryEntry) → fewer ≤ from
    → count_of test (drop from seen) ≤ count_of test (drop fewer seen)
count_fewer test fewer from seen le =
    let parts = drop_split seen fewer from le in
    let counted = ap (count_of test) parts
    ∙ (ap length (filter-append test _ (drop from seen)) ∙ length-append (filter test _) (filter test (drop from seen))) in
    omega (arith, counted)

tried_fewer : (seat : ℕ) (left : List CallPoint) (met : CallMet) (fewer from : ℕ) (seen : List HistoryEntry) → fewer ≤ from
    → HasTriedEnough seat left met from seen → HasTriedEnough seat left met fewer seen
tried_fewer seat left met fewer from seen le tried = record {
  guard = tried.guard;
  guarded = tried.guarded;
  ten = tried.ten;
  entries = let more = count_fewer (of_other_seat seat (gives_guarded tried.guard)) fewer from seen le in
      let ten = tried.entries in omega (arith, more, ten);
}

missed_fewer : (c : ReadCall) (met : CallMet) (opened : State) (fewer from : ℕ) (seen : List HistoryEntry) → fewer ≤ from
    → HasMissedEnough c met opened from seen → HasMissedEnough c met opened fewer seen
missed_fewer c met opened fewer from seen le missed = record {
  ten = missed.ten;
  counted = missed.counted;
  first = missed.first;
  begins = let begins = missed.begins in omega (arith, le, begins);
  ends = missed.ends;
  entry = missed.entry;
  found = missed.found;
  later = missed.later;
  eleven = missed.eleven;
  others = missed.others;
}

lost_fewer : (c : ReadCall) (met : CallMet) (opened : State) (fewer from : ℕ) (seen : List HistoryEntry) → fewer ≤ from
    → IsLost c met opened from seen → IsLost c met opened fewer seen
lost_fewer c met opened fewer from seen le lost = record {
  counted = lost.counted;
  entry = lost.entry;
  before = lost.before;
  begins = let begins = lost.begins in omega (arith, le, begins);
  ends = lost.ends;
  was = lost.was;
  same = lost.same;
  missed = lost.missed;
}

read_fewer : (c : ReadCall) (met : CallMet) (opened : State) (fewer from : ℕ) (seen : List HistoryEntry) (told : CallReply) → fewer ≤ from
    → IsReadException c met opened from seen told → IsReadException c met opened fewer seen told
read_fewer c met opened fewer from seen told le (inl is) =
    inl (missed_fewer c met opened fewer from seen le is.0, is.1)
read_fewer c met opened fewer from seen told le (inr (inl is)) = inr (inl is)
read_fewer c met opened fewer from seen told le (inr (inr (inl is))) =
    inr (inr (inl (lost_fewer c met opened fewer from seen le is.0, is.1)))
read_fewer c met opened fewer from seen told le (inr (inr (inr is))) = inr (inr (inr is))

left_fewer : (seat : ℕ) (uploads : Bool) (left : List CallPoint) (met : CallMet) (opened : State) (fewer from : ℕ) (seen : List HistoryEntry)
    (told : CallReply) → fewer ≤ from → IsException seat uploads left met opened from seen told → IsException seat uploads left met opened fewer seen told
left_fewer seat uploads [] met opened fewer from seen told le (inl is) = inl (tried_fewer seat [] met fewer from seen le is.0, is.1)
left_fewer seat uploads [] met opened fewer from seen told le (inr is) = inr is
left_fewer seat uploads (Finds c ∷ points) met opened fewer from seen told le is = read_fewer c met opened fewer from seen told le is
left_fewer seat uploads (Answers ∷ points) met opened fewer from seen told le (inl is) = inl (tried_fewer seat _ met fewer from seen le is.0, is.1)
left_fewer seat uploads (Answers ∷ points) met opened fewer from seen told le (inr is) = inr is
left_fewer seat uploads (ResolvesSource id ∷ points) met opened fewer from seen told le (inl is) = inl (tried_fewer seat _ met fewer from seen le is.0, is.1)
left_fewer seat uploads (ResolvesSource id ∷ points) met opened fewer from seen told le (inr is) = inr is
left_fewer seat uploads (ResolvesParent a b m ∷ points) met opened fewer from seen told le (inl is) = inl (tried_fewer seat _ met fewer from seen le is.0, is.1)
left_fewer seat uploads (ResolvesParent a b m ∷ points) met opened fewer from seen told le (inr is) = inr is
left_fewer seat uploads (Looks r b ∷ points) met opened fewer from seen told le (inl is) = inl (tried_fewer seat _ met fewer from seen le is.0, is.1)
left_fewer seat uploads (Looks r b ∷ points) met opened fewer from seen told le (inr is) = inr is
left_fewer seat uploads (Prepares r b k a ∷ points) met opened fewer from seen told le (inl is) = inl (tried_fewer seat _ met fewer from seen le is.0, is.1)
left_fewer seat uploads (Prepares r b k a ∷ points) met opened fewer from seen told le (inr is) = inr is
left_fewer seat uploads (Makes o ∷ points) met opened fewer from seen told le (inl is) = inl (tried_fewer seat _ met fewer from seen le is.0, is.1)
left_fewer seat uploads (Makes o ∷ points) met opened fewer from seen told le (inr is) = inr is

asked_fewer : (asked : Asked) (seat : ℕ) (left : List CallPoint) (met : CallMet) (opened : State) (fewer from : ℕ) (seen : List HistoryEntry)
    (told : CallReply) → fewer ≤ from → IsExceptionOf asked seat left met opened from seen told → IsExceptionOf asked seat left met opened fewer seen told
asked_fewer (Asks call) seat left met opened fewer from seen told le is = left_fewer seat (is_upload call) left met opened fewer from seen told le is
asked_fewer (Malformed refused) seat left met opened fewer from seen told le is = is

pub lawful : Lawful lake_rules
lawful = record {
  of_accepted = λ by operation. refl;
  of_faulted = λ by operation. refl;
  stays_shut = stays_closed;
  from_fewer = λ by request left met opened fewer from seen told le is.
      asked_fewer request.asked by.seat left met opened fewer from seen told le is;
  from_fewer_behind = λ by request met opened fewer from seen told le is. is;
}

-- ---- what is told

-- a refusal of a state, and an exception, are refusals, and none says that the store failed
asked_refused : (asked : Asked) (point : CallPoint) (state : State) (told : CallReply) → AskedRefused asked point state told → IsRefused told
asked_refused (Asks call) point state told is = point_refused call point state told is
asked_refused (Malformed refused) point state told is = absurd is

read_refused : (c : ReadCall) (met : CallMet) (opened : State) (from : ℕ) (seen : List HistoryEntry) (told : CallReply)
    → IsReadException c met opened from seen told → IsRefused told
read_refused c met opened from seen told (inl is) = (refusal.TooManyTries, tt, is.1)
read_refused c met opened from seen told (inr (inl is)) = (refusal.BlockFault, tt, is.1)
read_refused c met opened from seen told (inr (inr (inl is))) = (refusal.Lost c.path, tt, is.1)
read_refused c met opened from seen told (inr (inr (inr is))) = (refusal.Damaged c.path, tt, is.1)

left_refused : (seat : ℕ) (uploads : Bool) (left : List CallPoint) (met : CallMet) (opened : State) (from : ℕ) (seen : List HistoryEntry)
    (told : CallReply) → IsException seat uploads left met opened from seen told → IsRefused told
left_refused seat uploads [] met opened from seen told (inl is) = (refusal.TooManyTries, tt, is.1)
left_refused seat uploads [] met opened from seen told (inr is) = (refusal.BlockFault, tt, is.1)
left_refused seat uploads (Finds c ∷ points) met opened from seen told is = read_refused c met opened from seen told is
left_refused seat uploads (Answers ∷ points) met opened from seen told (inl is) = (refusal.TooManyTries, tt, is.1)
left_refused seat uploads (Answers ∷ points) met opened from seen told (inr is) = (refusal.BlockFault, tt, is.1)
left_refused seat uploads (ResolvesSource id ∷ points) met opened from seen told (inl is) = (refusal.TooManyTries, tt, is.1)
left_refused seat uploads (ResolvesSource id ∷ points) met opened from seen told (inr is) = (refusal.BlockFault, tt, is.1)
left_refused seat uploads (ResolvesParent a b m ∷ points) met opened from seen told (inl is) = (refusal.TooManyTries, tt, is.1)
left_refused seat uploads (ResolvesParent a b m ∷ points) met opened from seen told (inr is) = (refusal.BlockFault, tt, is.1)
left_refused seat uploads (Looks r b ∷ points) met opened from seen told (inl is) = (refusal.TooManyTries, tt, is.1)
left_refused seat uploads (Looks r b ∷ points) met opened from seen told (inr is) = (refusal.BlockFault, tt, is.1)
left_refused seat uploads (Prepares r b k a ∷ points) met opened from seen told (inl is) = (refusal.TooManyTries, tt, is.1)
left_refused seat uploads (Prepares r b k a ∷ points) met opened from seen told (inr is) = (refusal.BlockFault, tt, is.1)
left_refused seat uploads (Makes o ∷ points) met opened from seen told (inl is) = (refusal.TooManyTries, tt, is.1)
left_refused seat uploads (Makes o ∷ points) met opened from seen told (inr is) = (refusal.BlockFault, tt, is.1)

asked_excepted : (asked : Asked) (seat : ℕ) (left : List CallPoint) (met : CallMet) (opened : State) (from : ℕ) (seen : List HistoryEntry)
    (told : CallReply) → IsExceptionOf asked seat left met opened from seen told → IsRefused told
asked_excepted (Asks call) seat left met opened from seen told is = left_refused seat (is_upload call) left met opened from seen told is
asked_excepted (Malformed refused) seat left met opened from seen told is = absurd is

not_done : (told : CallReply) → IsRefused told → is_reply_done told ≡ false
not_done told is = ap is_reply_done is.2

answer_done : (asked : Asked) (moment : ℕ) (met : CallMet) (course : List CallPoint) (state : State) (told : CallReply)
    → IsAnswerOf asked moment met course state told → is_reply_done told ≡ true
answer_done (Asks call) moment met course state told is = ap is_reply_done is.4
answer_done (Malformed refused) moment met course state told is = absurd is

pub tells_done : TellsDone lake_rules
tells_done = record {
  answered = λ by request met course state told is. answer_done request.asked request.moment met course state told is;
  refused = λ by request point state told is. not_done told (asked_refused request.asked point state told is);
  excepted = λ by request left met opened from seen told is.
      not_done told (asked_excepted request.asked by.seat left met opened from seen told is);
  excepted_behind = λ by request met opened from seen told is. absurd is;
  failed = λ met told is. ap is_reply_done is.1;
  starved = λ told is. ap is_reply_done is;
  owes_nothing = λ request fixed. owes_nothing request.asked request.moment fixed;
  last_makes = λ request fixed front last is. last_makes request.asked request.moment fixed front last is;
}

-- ---- that the store failed

abbrev the_refusal : CallReply → Refusal
the_refusal (Refused refused) = refused
the_refusal _ = refusal.Stopped

other_fault : (told : CallReply) → told ≡ Refused refusal.StoreFault → IsRefused told → ⊥
other_fault told fails is = subst IsOther (ap the_refusal (sym is.2 ∙ fails)) is.1

abbrev is_note : EntryKind → Bool
is_note (Faulted operation) = true
is_note (Accepted operation) = false

pub tells_fault : TellsFault lake_rules
tells_fault = record {
  not_refused = λ by request point state met told fails is. other_fault told fails.1 (asked_refused request.asked point state told is);
  not_excepted = λ by request left met opened from seen told fails is.
      other_fault told fails.1 (asked_excepted request.asked by.seat left met opened from seen told is);
  not_excepted_behind = λ by request met opened from seen told fails is. is;
  not_starved = λ met told fails want. absurd (cc (fails.1, want));
  no_note = λ by one other same. absurd (let notes : false ≡ true = ap (λ (entry : HistoryEntry). is_note entry.kind) same in cc (notes));
}
