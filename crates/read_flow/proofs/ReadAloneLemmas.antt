-- What a reading comes to whose seat is alone, where the bodies that are held fit what it has seen.
use Rattle.std.proofs.Common.{◌≡◌, ℕ, suc, Bool, true, false, List, [], ◌∷◌, ◌++◌, Option, Some, None, Result, Ok, Err, refl, sym, ap, subst, ◌∙◌}
use Rattle.std.proofs.Common.{◌⊎◌, inl, inr, append_assoc}
use Rattle.std.specs.Prelude.{All, if◌then◌else◌}
use Rattle.std.specs.FinMap.{get}
use Rattle.std.specs.Option.{option_map_or}
use Rattle.std.proofs.lemmas.List.{append-nil, append_cancel_left}
use Rattle.lake_values.specs.Body.{Fits}
use Rattle.lake_values.specs.Entry.{EntryValue}
use Rattle.lake_values.specs.declared.entry.Place.{Place}
use Rattle.lake_values.specs.declared.entry.Place.TheVariants.{Own, External}
use Rattle.commit_graph.specs.Expressions.{RefExprValue}
use Rattle.lake_model.specs.declared.fault.StepFault.{StepFault}
use Rattle.lake_model.specs.declared.history.HistoryEntry.{HistoryEntry}
use Rattle.lake_model.specs.declared.reply.Seen.{Seen}
use Rattle.lake_model.specs.State.{State}
use Rattle.lake_model.specs.Readings.{look_reply}
use Rattle.lake_model.specs.Soundness.{IsSound}
use Rattle.lake_laws.proofs.SoundnessLemmas.{IsSound-replay}
use Rattle.lake_core.specs.declared.standing.LakeOrigin.{LakeOrigin}
use Rattle.block_store.specs.Blocks.{HeldObjects}
use Rattle.shared_lake.specs.SeatSteps.{LakeSeat}
use Rattle.lake_calls.specs.CallExceptions.{number_at}
use Rattle.lake_calls.specs.HeldBodies.{FitsState, HoldsBody}
use Rattle.flow_steps.specs.FlowSeats.{opened_state, state_at}
use Rattle.write_flow.specs.declared.answer.Done.{Done}
use Rattle.write_flow.specs.declared.answer.FlowFault.{FlowFault}
use Rattle.write_flow.specs.declared.answer.FlowFault.TheVariants.{TooManyTries, NoPath, Gone, Lost, Damaged}
use Rattle.flow_steps.specs.FlowAnswers.{BlockCounts}
use Rattle.read_flow.specs.ObjectLooks.{HaveFound, OnlyLooked, gettable, look_up, object_of}
use Rattle.read_flow.specs.ObjectReads.{HasRead, HoldsAt, ObjectRead}
use Rattle.read_flow.proofs.RoundLemmas.{came_before, last_found}
use Rattle.read_flow.specs.ExpiredReads.{ReadsExpired}
use Rattle.read_flow.specs.ReadsAlone.{ComesTo, ReadsHeld}
use Rattle.body_laws.proofs.FitLemmas.{all_fit}
use Rattle.body_laws.proofs.FlowBodyLemmas.{none_of_both}
use Rattle.read_flow.proofs.ReadEntryLemmas.{of_look}

-- ---- a seat that is alone

-- it has seen nothing more behind its looks
seen_same : (origin : LakeOrigin) (old new : LakeSeat) → OnlyLooked origin old new → old.alone ≡ true → new.seen ≡ old.seen
seen_same origin old new only alone =
    let goes = only.goes 0 in
    let same : goes.added ≡ only.came.0 = append_cancel_left old.seen goes.added only.came.0 (sym goes.seen ∙ only.came.2) in
    let none = none_of_both old.number only.came.0 only.came.1
    (subst (λ xs. All (λ (e : HistoryEntry). e.by.seat ≡ old.number) xs) same (goes.alone alone)) in
    only.came.2 ∙ ap (λ xs. old.seen ++ xs) none ∙ append-nil old.seen

both_none : {A : Type 0} (xs ys : List A) → xs ++ ys ≡ [] → (xs ≡ []) × (ys ≡ [])
both_none [] ys is = (refl, is)
both_none (x ∷ xs) ys is = absurd cc

-- entries that came behind others, where nothing came, are none
nothing_between : (from before now one two : List HistoryEntry) → before ≡ from ++ one → now ≡ before ++ two → now ≡ from → now ≡ before
nothing_between from before now one two first second same =
    let whole : from ++ (one ++ two) ≡ from ++ [] =
    sym (append_assoc from one two) ∙ ap (λ w. w ++ two) (sym first) ∙ sym second ∙ same ∙ sym (append-nil from) in
    let none = both_none one two (append_cancel_left from (one ++ two) [] whole) in
    second ∙ ap (λ w. before ++ w) none.1 ∙ append-nil before

module _ (origin : LakeOrigin) (seat : ℕ) (repo path : List ℕ) (e : RefExprValue) (from : List HistoryEntry) where
  abbrev finds : List HistoryEntry → Result EntryValue FlowFault
  finds now = look_up (state_at origin now) repo e path

  -- so no look finds another entry
  never_other : (again first : ℕ) (entry : EntryValue) (now : List HistoryEntry) → now ≡ from
      → HaveFound origin seat repo path e from (suc again) first entry now → ⊥
  never_other again first entry now same found =
      let began = came_before origin seat repo path e from again first found.0 found.1 found.2 in
      let here = nothing_between from found.1 now began.0 found.3.0 began.2 found.3.2 same in
      let was = last_found origin seat repo path e from again first found.0 found.1 found.2 in
      let both : Ok entry ≡ Ok found.0 = sym found.4 ∙ ap finds here ∙ was in
      found.5 (cc (both))

-- ---- what a look finds stands in what was read

abbrev an_object : EntryValue → Result EntryValue FlowFault
an_object entry = Ok entry

abbrev no_object : FlowFault → Result EntryValue FlowFault
no_object fault = Err fault

gone_same : (number : ℕ) (entry other : EntryValue) (gone : Bool) → (if gone then no_object (Gone number) else an_object entry) ≡ an_object other
    → entry ≡ other
gone_same number entry other true is = absurd cc
gone_same number entry other false is = cc

place_same : (place : Place) (entry other : EntryValue) (gone : Bool) → gettable place entry gone ≡ an_object other → entry ≡ other
place_same (Own number digest) entry other gone is = gone_same number entry other gone is
place_same (External at checksum) entry other gone is = absurd cc

entry_same : (gone : Bool) (found : Option EntryValue) (other : EntryValue)
    → option_map_or (λ (entry : EntryValue). gettable entry.place entry gone) found (no_object NoPath) ≡ an_object other → found ≡ Some other
entry_same gone None other is = absurd cc
entry_same gone (Some entry) other is = ap Some (place_same entry.place entry other gone is)

told_same : (told : Result Seen StepFault) (other : EntryValue) → object_of told ≡ an_object other
    → (seen : Seen) × (told ≡ Ok seen) × (seen.found ≡ Some other)
told_same (Ok seen) other is = (seen, refl, entry_same seen.gone seen.found other is)
told_same (Err fault) other is = absurd cc

-- ---- bodies that are held

module _ (objects : HeldObjects) (entry : EntryValue) where
  abbrev HeldHere : Option (List ℕ) → Type 0
  HeldHere body = HoldsAt (Some objects) entry.place body

  -- the number under which it is
  held_number : (place : Place) (body : Option (List ℕ)) → HoldsAt (Some objects) place body
      → (number : ℕ) × (number_at place ≡ Some number) × (get objects number ≡ body)
  held_number (Own number digest) body is = (number, refl, is)
  held_number (External at checksum) body is = absurd is

  not_lost : HoldsBody (get objects) entry → HeldHere None → ⊥
  not_lost holds none =
      let here = held_number entry.place None none in
      let had = holds here.0 here.1 in
      absurd (let both : Some had.0 ≡ None = sym had.1 ∙ here.2 in cc (both))

  not_damaged : (body : List ℕ) → HoldsBody (get objects) entry → HeldHere (Some body) → Fits entry body
  not_damaged body holds some =
      let here = held_number entry.place (Some body) some in
      let had = holds here.0 here.1 in
      let both : Some had.0 ≡ Some body = sym had.1 ∙ here.2 in
      let same : had.0 ≡ body = cc (both) in
      subst (Fits entry) same had.2

module _ (repo path : List ℕ) (e : RefExprValue) (old new : LakeSeat) (blocks : BlockCounts) (objects : HeldObjects)
    (held_now : Option HeldObjects) (paused paused_now : Option ℕ) where
  abbrev Reads : Result ObjectRead FlowFault → Type 0
  Reads outcome = HasRead repo path e old new blocks (Some objects) held_now paused paused_now outcome

  module _ (outcome : Result ObjectRead FlowFault) (read : Reads outcome) (alone : old.alone ≡ true)
      (fits : FitsState (state_at read.origin old.seen) (get objects)) where
    same : new.seen ≡ old.seen
    same = seen_same read.origin old new read.only alone

    abbrev here : State
    here = state_at read.origin new.seen

    sound : IsSound here
    sound = IsSound-replay (opened_state read.origin) new.seen (read.only.goes 0).sound (read.only.goes 0).legal

    -- an entry that is found has its body, unless a commit that is expired is read
    found_held : (entry : EntryValue) → look_up here repo e path ≡ Ok entry
        → HoldsBody (get objects) entry ⊎ ReadsExpired (state_at read.origin old.seen) repo e
    found_held entry is =
        let seen = told_same (look_reply here repo e path) entry is in
        let so = of_look (HoldsBody (get objects)) here sound
        (all_fit here (get objects) (subst (λ es. FitsState (state_at read.origin es) (get objects)) (sym same) fits)) repo e path entry seen.0 seen.1 seen.2 in
        elim so [ inl holds ↦ inl holds | inr expired ↦ inr (subst (λ es. ReadsExpired (state_at read.origin es) repo e) same expired) ]

    last_here : (again first : ℕ) (entry : EntryValue) → HaveFound read.origin old.number repo path e old.seen again first entry new.seen
        → look_up here repo e path ≡ Ok entry
    last_here again first entry found = last_found read.origin old.number repo path e old.seen again first entry new.seen found

  -- so a reading ends
  comes_to : (outcome : Result ObjectRead FlowFault) (read : Reads outcome) → old.alone ≡ true
      → FitsState (state_at read.origin old.seen) (get objects) → ComesTo (state_at read.origin old.seen) repo e objects outcome
  comes_to (Ok object) read alone fits =
      let entry = read.ends.0 in
      let held = held_number objects entry entry.place (Some object.1) read.ends.3 in
      record { entry = entry; found = ap (λ (d : Done). d.entry) read.ends.2.1; number = held.0; own = held.1; held = held.2 }
  comes_to (Err (TooManyTries first last)) read alone fits =
      never_other read.origin old.number repo path e old.seen 9 first read.ends.0 new.seen (same (Err (TooManyTries first last)) read alone fits) read.ends.1
  comes_to (Err (Lost number)) read alone fits =
      elim (found_held (Err (Lost number)) read alone fits read.ends.0 read.ends.2) [
        | inl holds ↦ absurd (not_lost objects read.ends.0 holds read.ends.1.unheld)
        | inr expired ↦ expired
      ]
  comes_to (Err (Damaged named found)) read alone fits =
      let entry = read.ends.0 in
      let asked = read.ends.1 in
      elim (found_held (Err (Damaged named found)) read alone fits entry
      (last_here (Err (Damaged named found)) read alone fits read.missed asked.first entry asked.found)) [
        | inl holds ↦ absurd (read.ends.3.0 (not_damaged objects entry read.ends.2 holds read.ends.4))
        | inr expired ↦ expired
      ]
  comes_to (Err fault) read alone fits = tt

pub reads_held : (repo path : List ℕ) (e : RefExprValue) (old new : LakeSeat) (blocks : BlockCounts) (held held_now : Option HeldObjects)
    (paused paused_now : Option ℕ) (outcome : Result ObjectRead FlowFault)
    → HasRead repo path e old new blocks held held_now paused paused_now outcome → ReadsHeld repo e old held outcome
reads_held repo path e old new blocks held held_now paused paused_now outcome reads origin objects alone from holds fits =
    let read = subst (λ h. HasRead repo path e old new blocks h held_now paused paused_now outcome) holds reads in
    let both : Some read.origin ≡ Some origin = sym (read.only.goes 0).from ∙ from in
    let same : read.origin ≡ origin = cc (both) in
    subst (λ (o : LakeOrigin). ComesTo (state_at o old.seen) repo e objects outcome) same
    (comes_to repo path e old new blocks objects held_now paused paused_now outcome read alone
    (subst (λ (o : LakeOrigin). FitsState (state_at o old.seen) (get objects)) (sym same) fits))
