-- What refuses a point is told as a refusal, and never as that the store failed.
use Rattle.std.proofs.Common.{◌≡◌, ℕ, Bool, true, false, nat_lt, List, length, subst}
use Rattle.std.specs.Prelude.{if◌then◌else◌, Option, Some, None, Result, Ok, Err, IfSome, IfOk, IfErr}
use Rattle.std.specs.Option.{option_map_or}
use mathlib.Core.Logic.{inl, inr}
use Rattle.lake_base.specs.declared.digest.Digest.{Digest}
use Rattle.lake_values.specs.Entry.{EntryValue}
use Rattle.lake_values.specs.declared.entry.Place.{Place}
use Rattle.lake_values.specs.declared.entry.Place.TheVariants.{Own, External}
use Rattle.lake_model.specs.declared.fault.HeadRefusal.{HeadRefusal}
use Rattle.lake_model.specs.declared.fault.HeadRefusal.TheVariants as unmade
use Rattle.lake_model.specs.declared.fault.Reference.TheVariants as reference
use Rattle.lake_model.specs.declared.fault.StepFault.{StepFault}
use Rattle.lake_model.specs.declared.fault.StepFault.TheVariants as step
use Rattle.lake_model.specs.declared.reply.Seen.{Seen}
use Rattle.lake_model.specs.State.{State}
use Rattle.lake_model.specs.HeadRefusals.{ReadingRefusal, Step, Head}
use Rattle.lake_model.specs.Readings.{look_reply}
use Rattle.lake_calls.specs.CallRefusals.{CallNames, IsToldOf, IsToldOfReading, PointRefused, chosen_parent, found_object, names_of, nth_parent, object_found}
use Rattle.lake_calls.specs.CallRefusals.{object_seen, told, told_of_head}
use Rattle.lake_calls.specs.Courses.{CallPoint, Answers, Finds, ResolvesSource, ResolvesParent, Looks, Prepares, Makes}
use Rattle.lake_calls.specs.declared.call.Call.{Call}
use Rattle.lake_calls.specs.declared.objects.ReadCall.{ReadCall}
use Rattle.lake_calls.specs.declared.reply.CallReply.{CallReply}
use Rattle.lake_calls.specs.declared.reply.CallReply.TheVariants.{Refused}
use Rattle.lake_calls.specs.declared.reply.MissingParent.TheVariants.{OfNumber}
use Rattle.lake_calls.specs.declared.reply.Refusal.{Refusal}
use Rattle.lake_calls.specs.declared.reply.Refusal.TheVariants as refusal

-- a refusal that isn't that the store failed
abbrev pub IsOther : Refusal → Type 0
IsOther refusal.StoreFault = ⊥
IsOther _ = Unit {0}

-- a reply that is such a refusal
abbrev pub IsRefused : CallReply → Type 0
IsRefused reply = (refused : Refusal) × IsOther refused × (reply ≡ Refused refused)

-- ---- what a client is told

each_told : (names : CallNames) (fault : StepFault) → IfSome (told names fault) IsOther
each_told names step.Stopped = tt
each_told names step.HistoryFull = tt
each_told names step.NoRepo = tt
each_told names (step.NoRef reference.Named) = tt
each_told names (step.NoRef reference.Expression) = tt
each_told names (step.NoRef reference.After) = tt
each_told names (step.NoParent number) = tt
each_told names step.NoNote = tt
each_told names step.Exists = tt
each_told names step.DefaultBranch = tt
each_told names (step.Protected pattern) = tt
each_told names step.NoPath = tt
each_told names (step.Expired id) = tt
each_told names (step.NameClash name kept new) = tt
each_told names (step.Changed version settings) = tt
each_told names step.StoreFault = tt
each_told names step.NoMemory = tt

told_refused : (names : CallNames) (fault : StepFault) (reply : CallReply) → IsToldOf names fault reply → IsRefused reply
told_refused names fault reply is = (is.0, subst (λ o. IfSome o IsOther) is.1 (each_told names fault), is.2)

head_other : (refused : HeadRefusal) → IsOther (told_of_head refused)
head_other (unmade.NoChanges head) = tt
head_other (unmade.Dirty path) = tt
head_other (unmade.Conflicts paths total) = tt
head_other (unmade.HookDenied hook) = tt

reading_refused : (names : CallNames) (refused : ReadingRefusal) (reply : CallReply) → IsToldOfReading names refused reply → IsRefused reply
reading_refused names (Step fault) reply is = told_refused names fault reply is
reading_refused names (Head refused) reply is = (told_of_head refused, head_other refused, is)

-- ---- an object

gone_other : (c : ReadCall) (entry : EntryValue) (gone : Bool) → IfErr (if gone then Err (refusal.Gone c.path) else Ok entry) IsOther
gone_other c entry true = tt
gone_other c entry false = tt

place_other : (c : ReadCall) (seen : Seen) (entry : EntryValue) (place : Place) → IfErr (object_found c seen entry place) IsOther
place_other c seen entry (External at checksum) = tt
place_other c seen entry (Own number digest) = gone_other c entry seen.gone

entry_other : (c : ReadCall) (seen : Seen) (found : Option EntryValue)
    → IfOk (option_map_or (λ entry. Ok (object_found c seen entry entry.place)) found (Err step.NoPath)) (λ object. IfErr object IsOther)
entry_other c seen None = tt
entry_other c seen (Some entry) = place_other c seen entry entry.place

seen_other : (c : ReadCall) (seen : Result Seen StepFault) → IfOk (object_seen c seen) (λ object. IfErr object IsOther)
seen_other c (Err fault) = tt
seen_other c (Ok seen) = entry_other c seen seen.found

object_other : (c : ReadCall) (state : State) (refused : Refusal) → found_object c state ≡ Ok (Err refused) → IsOther refused
object_other c state refused is =
    subst (λ r. IfOk r (λ object. IfErr object IsOther)) is (seen_other c (look_reply state c.repo c.at.e c.path))

-- ---- a parent

parent_or : (o : Option Digest) (refused : Refusal) → IsOther refused → IfErr (option_map_or Ok o (Err refused)) IsOther
parent_or None refused is = is
parent_or (Some id) refused is = tt

several_other : (several : Bool) (one : Result Digest Refusal) → IfErr one IsOther
    → IfErr (if several then Err refusal.NeedsParentNumber else one) IsOther
several_other true one is = tt
several_other false one is = is

chosen_other : (parents : List Digest) (number : Option ℕ) → IfErr (chosen_parent parents number) IsOther
chosen_other parents (Some number) = parent_or (nth_parent parents number) (refusal.NoParent (OfNumber number)) tt
chosen_other parents None =
    several_other (nat_lt 1 (length parents)) _ (parent_or (nth_parent parents 1) (refusal.NoParent (OfNumber 1)) tt)

-- ---- every point

pub point_refused : (call : Call) (point : CallPoint) (state : State) (reply : CallReply) → PointRefused call point state reply → IsRefused reply
point_refused call Answers state reply is = told_refused (names_of call) is.0 reply is.2
point_refused call (Finds c) state reply (inl is) = told_refused (names_of call) is.0 reply is.2
point_refused call (Finds c) state reply (inr is) = (is.0, object_other c state is.0 is.1, is.2)
point_refused call (ResolvesSource commit) state reply is = told_refused (names_of call) is.0 reply is.2
point_refused call (ResolvesParent commit parent message) state reply (inl is) = told_refused (names_of call) is.0 reply is.2
point_refused call (ResolvesParent commit parent message) state reply (inr is) =
    (is.1, subst (λ r. IfErr r IsOther) is.3 (chosen_other is.0.parents _), is.4)
point_refused call (Looks repo branch) state reply is = told_refused (names_of call) is.0 reply is.2
point_refused call (Prepares repo branch kind about) state reply is = reading_refused (names_of call) is.0 reply is.2
point_refused call (Makes operation) state reply is = told_refused (names_of call) is.fault reply is.told_so
