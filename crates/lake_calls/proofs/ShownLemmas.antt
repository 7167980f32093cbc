-- The course of a call has one value, but for the clash that is told.
use Rattle.std.proofs.Common.{◌≡◌, ℕ, Bool, true, false, refl, ap, sym, ◌∙◌}
use Rattle.std.specs.Prelude.{Option, Some, None, if◌then◌else◌}
use mathlib.Core.Logic.{inl, inr}
use Rattle.call_placement.specs.Alone.{IsDetermined}
use Rattle.call_placement.specs.Rules.{Rules}
use Rattle.lake_model.specs.declared.history.HistoryEntry.{HistoryEntry}
use Rattle.lake_model.specs.declared.history.Operation.{Operation}
use Rattle.lake_model.specs.State.{State}
use Rattle.lake_calls.specs.CallExceptions.{CallMet}
use Rattle.lake_calls.specs.Courses.{CallPoint, Fixed}
use Rattle.lake_calls.specs.LakeRules.{AskedRefused, IsAnswerOf, lake_rules}
use Rattle.lake_calls.specs.NoClashes.{AreOneButForClash, TellsClash}
use Rattle.lake_calls.specs.Requests.{Asks, CallRequest}
use Rattle.lake_calls.specs.declared.call.Call.{Call}
use Rattle.lake_calls.specs.declared.reply.CallReply.{CallReply}
use Rattle.lake_calls.specs.declared.reply.CallReply.TheVariants as reply
use Rattle.lake_calls.specs.declared.reply.Refusal.TheVariants as refusal
use Rattle.lake_calls.proofs.DeterminedLemmas.{alike_at, courses_alike, no_front, one_answer}

-- a reply as far as it is one: without one that tells of a clash
abbrev pub is_of_clash : CallReply → Bool
is_of_clash (reply.Refused (refusal.NameClash name)) = true
is_of_clash told = false

of_clash : (told : CallReply) → is_of_clash told ≡ true → TellsClash told
of_clash (reply.Refused (refusal.NameClash name)) is = (name, refl)
of_clash told is = absurd (cc (is))

abbrev if_none : CallReply → Bool → Option CallReply
if_none told none = if none then None else Some told

abbrev pub shown : CallReply → Option CallReply
shown told = if_none told (is_of_clash told)

shown_same : (told other : CallReply) → AreOneButForClash told other → shown told ≡ shown other
shown_same told other (inl one) = ap shown one
shown_same told other (inr both) = ap shown both.0.1 ∙ sym (ap shown both.1.1)

shown_kinds : (x y : Bool) (told other : CallReply) → is_of_clash told ≡ x → is_of_clash other ≡ y → shown told ≡ shown other → AreOneButForClash told other
shown_kinds true true told other a b same = inr (of_clash told a, of_clash other b)
shown_kinds true false told other a b same =
    let none : None ≡ Some other = sym (ap (if_none told) a) ∙ (same ∙ ap (if_none other) b) in absurd (cc (none))
shown_kinds false true told other a b same =
    let none : Some told ≡ None = sym (ap (if_none told) a) ∙ (same ∙ ap (if_none other) b) in absurd (cc (none))
shown_kinds false false told other a b same =
    let one : Some told ≡ Some other = sym (ap (if_none told) a) ∙ (same ∙ ap (if_none other) b) in inl (cc (one))

pub as_shown : (told other : CallReply) → shown told ≡ shown other → AreOneButForClash told other
as_shown told other same = shown_kinds (is_of_clash told) (is_of_clash other) told other refl refl same

-- the rules of the lake's calls, by what is shown of replies
abbrev pub shown_rules : Rules HistoryEntry State Operation CallRequest Fixed CallPoint CallMet (Option CallReply)
shown_rules = record {
  maker = lake_rules.maker;
  accepted = lake_rules.accepted;
  faulted = lake_rules.faulted;
  after = lake_rules.after;
  is_shut = lake_rules.is_shut;
  form = λ request. None;
  course = lake_rules.course;
  makes = lake_rules.makes;
  passes = lake_rules.passes;
  refuses = λ by request point state some. (told : CallReply) × AskedRefused request.asked point state told × (some ≡ shown told);
  answers = λ by request met course state some. (told : CallReply) × IsAnswerOf request.asked request.moment met course state told × (some ≡ shown told);
  excepts = λ by request left met opened from seen some. ⊥;
  excepts_behind = λ by request met opened from seen some. ⊥;
  store_fails = λ met some. ⊥;
  is_no_memory = λ some. ⊥;
  owed = lake_rules.owed;
  is_done = λ some. true;
}

-- BY THEM EACH CALL HAS ONE VALUE
pub shown_determined : (call : Call) (moment : ℕ) → IsDetermined shown_rules (record { asked = Asks call; moment = moment })
shown_determined call moment = record {
  one_point = λ by f g passed p q later rest state one two a b.
      (alike_at call _ _ passed p q later rest (courses_alike call moment f g) one two).one state a b;
  not_both = λ by f g passed p q later rest state some one two a b.
      (alike_at call _ _ passed p q later rest (courses_alike call moment f g) one two).apart state b.0 a b.1;
  one_refusal = λ by f g passed p q later rest state some other one two a b.
      a.2 ∙ (shown_same a.0 b.0 ((alike_at call _ _ passed p q later rest (courses_alike call moment f g) one two).like state a.0 b.0 a.1 b.1) ∙ sym b.2);
  no_front = λ f g next later is. no_front call moment f g next later is;
  one_answer = λ by met course state some other a b. a.2 ∙ (ap shown (one_answer call moment met course state a.0 b.0 a.1 b.1) ∙ sym b.2);
}
