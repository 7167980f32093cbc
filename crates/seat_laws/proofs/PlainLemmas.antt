-- What refuses a point is told by no exception.
use Rattle.std.proofs.Common.{◌≡◌, ℕ, Bool, true, false, nat_lt, List, length, refl, ap, sym, ◌∙◌}
use Rattle.std.specs.Prelude.{if◌then◌else◌, Option, Some, None, Result, Ok, Err}
use Rattle.std.specs.Option.{option_map_or}
use mathlib.Core.Logic.{inl, inr}
use Rattle.lake_base.specs.declared.digest.Digest.{Digest}
use Rattle.lake_values.specs.Entry.{EntryValue}
use Rattle.lake_values.specs.declared.entry.Place.{Place}
use Rattle.lake_values.specs.declared.entry.Place.TheVariants.{Own, External}
use Rattle.lake_model.specs.declared.fault.HeadRefusal.{HeadRefusal}
use Rattle.lake_model.specs.declared.fault.HeadRefusal.TheVariants as unmade
use Rattle.lake_model.specs.declared.fault.Reference.TheVariants as reference
use Rattle.lake_model.specs.declared.fault.StepFault.{StepFault}
use Rattle.lake_model.specs.declared.fault.StepFault.TheVariants as step
use Rattle.lake_model.specs.declared.reply.Seen.{Seen}
use Rattle.lake_model.specs.State.{State}
use Rattle.lake_model.specs.HeadRefusals.{ReadingRefusal, Step, Head}
use Rattle.lake_model.specs.Readings.{look_reply}
use Rattle.lake_calls.specs.CallRefusals.{CallNames, IsToldOf, IsToldOfReading, PointRefused, chosen_parent, found_object, names_of, nth_parent, object_found}
use Rattle.lake_calls.specs.CallRefusals.{object_seen, told, told_of_head}
use Rattle.lake_calls.specs.Courses.{CallPoint, Answers, Finds, ResolvesSource, ResolvesParent, Looks, Prepares, Makes}
use Rattle.lake_calls.specs.declared.call.Call.{Call}
use Rattle.lake_calls.specs.declared.objects.ReadCall.{ReadCall}
use Rattle.lake_calls.specs.declared.reply.CallReply.{CallReply}
use Rattle.lake_calls.specs.declared.reply.MissingParent.TheVariants.{OfNumber}
use Rattle.lake_calls.specs.declared.reply.Refusal.{Refusal}
use Rattle.lake_calls.specs.declared.reply.Refusal.TheVariants as refusal
use Rattle.seat_laws.specs.Troubles.{is_exception, is_trouble}

-- ---- what a client is told

abbrev tells : Option Refusal → Bool
tells None = false
tells (Some refused) = is_exception refused

each_told : (names : CallNames) (fault : StepFault) → tells (told names fault) ≡ false
each_told names (step.NoRef reference.Named) = refl
each_told names (step.NoRef reference.Expression) = refl
each_told names (step.NoRef reference.After) = refl
each_told names fault = refl

told_plain : (names : CallNames) (fault : StepFault) (reply : CallReply) → IsToldOf names fault reply → is_trouble reply ≡ false
told_plain names fault reply is = ap is_trouble is.2 ∙ (sym (ap tells is.1) ∙ each_told names fault)

head_plain : (refused : HeadRefusal) → is_exception (told_of_head refused) ≡ false
head_plain (unmade.NoChanges head) = refl
head_plain (unmade.Dirty path) = refl
head_plain (unmade.Conflicts paths total) = refl
head_plain (unmade.HookDenied hook) = refl

reading_plain : (names : CallNames) (refused : ReadingRefusal) (reply : CallReply) → IsToldOfReading names refused reply → is_trouble reply ≡ false
reading_plain names (Step fault) reply is = told_plain names fault reply is
reading_plain names (Head refused) reply is = ap is_trouble is ∙ head_plain refused

-- ---- an object

abbrev refuses : {T : Type 0} → Result T Refusal → Bool
refuses (Ok value) = false
refuses (Err refused) = is_exception refused

abbrev refuses_object : Result (Result EntryValue Refusal) StepFault → Bool
refuses_object (Ok object) = refuses object
refuses_object (Err fault) = false

gone_plain : (c : ReadCall) (entry : EntryValue) (gone : Bool) → refuses (if gone then Err (refusal.Gone c.path) else Ok entry) ≡ false
gone_plain c entry true = refl
gone_plain c entry false = refl

place_plain : (c : ReadCall) (seen : Seen) (entry : EntryValue) (place : Place) → refuses (object_found c seen entry place) ≡ false
place_plain c seen entry (External at checksum) = refl
place_plain c seen entry (Own number digest) = gone_plain c entry seen.gone

entry_plain : (c : ReadCall) (seen : Seen) (found : Option EntryValue)
    → refuses_object (option_map_or (λ entry. Ok (object_found c seen entry entry.place)) found (Err step.NoPath)) ≡ false
entry_plain c seen None = refl
entry_plain c seen (Some entry) = place_plain c seen entry entry.place

seen_plain : (c : ReadCall) (seen : Result Seen StepFault) → refuses_object (object_seen c seen) ≡ false
seen_plain c (Err fault) = refl
seen_plain c (Ok seen) = entry_plain c seen seen.found

object_plain : (c : ReadCall) (state : State) (refused : Refusal) → found_object c state ≡ Ok (Err refused) → is_exception refused ≡ false
object_plain c state refused is = sym (ap refuses_object is) ∙ seen_plain c (look_reply state c.repo c.at.e c.path)

-- ---- a parent

parent_or : (o : Option Digest) (refused : Refusal) → is_exception refused ≡ false → refuses (option_map_or Ok o (Err refused)) ≡ false
parent_or None refused is = is
parent_or (Some id) refused is = refl

several_plain : (several : Bool) (one : Result Digest Refusal) → refuses one ≡ false
    → refuses (if several then Err refusal.NeedsParentNumber else one) ≡ false
several_plain true one is = refl
several_plain false one is = is

chosen_plain : (parents : List Digest) (number : Option ℕ) → refuses (chosen_parent parents number) ≡ false
chosen_plain parents (Some number) = parent_or (nth_parent parents number) (refusal.NoParent (OfNumber number)) refl
chosen_plain parents None =
    several_plain (nat_lt 1 (length parents)) _ (parent_or (nth_parent parents 1) (refusal.NoParent (OfNumber 1)) refl)

-- ---- every point

pub point_plain : (call : Call) (point : CallPoint) (state : State) (reply : CallReply) → PointRefused call point state reply → is_trouble reply ≡ false
point_plain call Answers state reply is = told_plain (names_of call) is.0 reply is.2
point_plain call (Finds c) state reply (inl is) = told_plain (names_of call) is.0 reply is.2
point_plain call (Finds c) state reply (inr is) = ap is_trouble is.2 ∙ object_plain c state is.0 is.1
point_plain call (ResolvesSource commit) state reply is = told_plain (names_of call) is.0 reply is.2
point_plain call (ResolvesParent commit parent message) state reply (inl is) = told_plain (names_of call) is.0 reply is.2
point_plain call (ResolvesParent commit parent message) state reply (inr is) =
    ap is_trouble is.4 ∙ (sym (ap refuses is.3) ∙ chosen_plain is.0.parents _)
point_plain call (Looks repo branch) state reply is = told_plain (names_of call) is.0 reply is.2
point_plain call (Prepares repo branch kind about) state reply is = reading_plain (names_of call) is.0 reply is.2
point_plain call (Makes operation) state reply is = told_plain (names_of call) is.fault reply is.told_so
