-- A call that reads an object's bytes is answered.
use Rattle.std.proofs.Common.{◌≡◌, ◌⊎◌, inl, inr, ℕ, true, List, Option, Some, None, Result, Ok, Err, refl, sym, ap, subst, ◌∙◌, length}
use Rattle.std.specs.Prelude.{MatchOption}
use Rattle.std.specs.FinMap.{get}
use Rattle.lake_values.specs.Entry.{EntryValue}
use Rattle.lake_values.specs.declared.entry.Place.{Place}
use Rattle.lake_values.specs.declared.entry.Place.TheVariants.{Own, External}
use Rattle.lake_model.specs.declared.fault.Reference.TheVariants as reference
use Rattle.lake_model.specs.declared.fault.StepFault.{StepFault}
use Rattle.lake_model.specs.declared.fault.StepFault.TheVariants as step
use Rattle.lake_model.specs.State.{State}
use Rattle.read_flow.specs.FlowWords.{BlockCounts, FlowAnswer, KeepsFitting, LakeOrigin, LakeSeat, state_at}
use Rattle.block_store.specs.Blocks.{HeldObjects}
use Rattle.lake_calls.specs.CallExceptions.{FindsOwn, number_at}
use Rattle.lake_calls.specs.CallRefusals.{CallNames, IsToldOf, names_of, told as told_of}
use Rattle.lake_calls.specs.declared.objects.ReadCall.{ReadCall}
use Rattle.lake_calls.specs.declared.reply.CallReply.{CallReply}
use Rattle.lake_calls.specs.declared.reply.CallReply.TheVariants as reply
use Rattle.lake_calls.specs.declared.reply.Done.TheVariants as done
use Rattle.lake_calls.specs.declared.reply.MissingParent.TheVariants.{OfExpression}
use Rattle.lake_calls.specs.declared.reply.Refusal.{Refusal}
use Rattle.lake_calls.specs.declared.reply.Refusal.TheVariants as refusal
use Rattle.read_flow.specs.WrittenWords.{BlockFault, Damaged, Done, FlowFault, Gone, Lost, NoMemory, NoPath, NotHeld, Step, TooManyTries}
use Rattle.read_flow.specs.ObjectLooks.{IsLookRefusal, look_up}
use Rattle.read_flow.specs.ObjectReads.{HasRead, HoldsAt, ObjectRead}
use Rattle.read_flow.specs.ReadAnswers.{AreBytesOf, IsReadAnswer, IsReadTold, reading}
use Rattle.read_flow.specs.ReadsAlone.{ComesTo, ReadsHeld as HeldReadings}
use Rattle.read_flow.proofs.LookLemmas.{same_turn}
use Rattle.read_flow.proofs.RoundLemmas.{last_found}
use Rattle.read_flow.proofs.ServedLemmas.{finds_own}
use Rattle.call_readings.specs.ToldFaults.{IsFaultTold, IsTextTold, TakesText}
use Rattle.call_objects.specs.AnsweredCalls.{IsCallAnswered}
use Rattle.call_objects.specs.HeldReplies.{HoldsFound, IsGivenReply, IsHeldReply, ReadsGiven, ReadsHeld}
use Rattle.call_objects.specs.ToldFlows.{IsBytesReplied, IsOutcomeReplied}
use Rattle.call_objects.proofs.AnsweredLemmas.{ToldOrStarved, answered}
use Rattle.call_objects.proofs.ReadingLemmas.{seen_same}
use Rattle.call_objects.proofs.ToldLemmas.{refusal_told}

-- what is held at the place of an own object is held under its number
holds_at : (objects : HeldObjects) (place : Place) (body : Option (List ℕ)) → HoldsAt (Some objects) place body
    → (number : ℕ) × (number_at place ≡ Some number) × (get objects number ≡ body)
holds_at objects (Own number digest) body is = (number, refl, is)
holds_at objects (External at checksum) body is = absurd is

-- what is replied of an object that was read
bytes_of : (object : ObjectRead) (entry : EntryValue) (told : CallReply) → object.0.entry ≡ Some entry → IsBytesReplied object told
    → told ≡ reply.Done (done.Object entry.content_type object.1)
bytes_of object entry told is replied =
    subst (λ found. MatchOption found (told ≡ reply.NoMemory) (λ (e : EntryValue). told ≡ reply.Done (done.Object e.content_type object.1))) is replied

module _ (c : ReadCall) (told : CallReply) where
  abbrev names : CallNames
  names = names_of (reading c)

  -- the reply to a reading is what its client is told, or that memory ran out
  read_told : (outcome : Result ObjectRead FlowFault) (one : CallReply) → IsReadTold names outcome one → IsOutcomeReplied names IsBytesReplied outcome told
      → ToldOrStarved one told
  read_told (Ok object) one tells replied = inl (bytes_of object tells.0 told tells.1 replied ∙ sym tells.2)
  read_told (Err fault) one tells replied = refusal_told names fault one told tells replied

  -- ---- what holds of a refusal holds of what is told of it, if it holds of want of memory

  module _ (P : CallReply → Type 0) (starved : P reply.NoMemory) where
    by_text : (refused : Refusal) → P (reply.Refused refused) → IsTextTold refused told → P told
    by_text refused is (inl so) = subst P (sym so) is
    by_text refused is (inr none) = subst P (sym none) starved

    by_told : (fault : StepFault) (refused : Refusal) → told_of names fault ≡ Some refused → P (reply.Refused refused)
        → IsToldOf names fault told ⊎ (TakesText fault × (told ≡ reply.NoMemory)) → P told
    by_told fault refused says is (inl so) =
        let both : Some refused ≡ Some so.0 = sym says ∙ so.1 in
        let same : refused ≡ so.0 = cc (both) in
        subst P (sym so.2) (subst (λ r. P (reply.Refused r)) same is)
    by_told fault refused says is (inr none) = subst P (sym none.1) starved

    -- of what a look is refused for
    by_look : P (reply.Refused (refusal.NoRepo c.repo)) → P (reply.Refused (refusal.NoRef c.at.text))
        → P (reply.Refused (refusal.NoParent (OfExpression c.at.text))) → (fault : StepFault) → IsLookRefusal (Step fault)
        → IsFaultTold names fault told → P told
    by_look repo expression parent step.NoRepo kind is = by_told step.NoRepo (refusal.NoRepo c.repo) refl repo is
    by_look repo expression parent (step.NoRef reference.Expression) kind is =
        by_told (step.NoRef reference.Expression) (refusal.NoRef c.at.text) refl expression is
    by_look repo expression parent (step.NoParent at) kind is =
        by_told (step.NoParent at) (refusal.NoParent (OfExpression c.at.text)) refl parent is
    by_look repo expression parent fault kind is = absurd kind

  -- ---- what a reading came to

  abbrev Held : State → HeldObjects → CallReply → Type 0
  Held state objects = IsHeldReply c state objects

  module _ (old new : LakeSeat) (blocks : BlockCounts) (held held_now : Option HeldObjects) (paused paused_now : Option ℕ) where
    abbrev Reads : Result ObjectRead FlowFault → Type 0
    Reads outcome = HasRead c.repo c.path c.at.e old new blocks held held_now paused paused_now outcome

    -- ---- a seat that is alone

    module _ (origin : LakeOrigin) (objects : HeldObjects) (alone : old.alone ≡ true) (from : old.origin ≡ Some origin) where
      abbrev before : State
      before = state_at origin old.seen

      -- the entry of an object that was read is the one that is found where the call begins
      finds_before : (object : ObjectRead) (read : Reads (Ok object)) (entry : EntryValue) → object.0.entry ≡ Some entry → FindsOwn c before entry
      finds_before object read entry is =
          let goes = read.only.goes 0 in
          let origins : Some read.origin ≡ Some origin = sym goes.from ∙ from in
          let same : read.origin ≡ origin = cc (origins) in
          let seen = seen_same read.origin 0 old new goes read.only.came alone in
          let entries : Some read.ends.0 ≡ Some entry = sym (ap (λ (d : Done). d.entry) read.ends.2.1) ∙ is in
          let equal : read.ends.0 ≡ entry = cc (entries) in
          let asked = read.ends.1 in
          let found = last_found read.origin old.number c.repo c.path c.at.e old.seen read.missed asked.first read.ends.0 new.seen asked.found in
          subst (λ (o : LakeOrigin). FindsOwn c (state_at o old.seen) entry) same
          (subst (λ es. FindsOwn c (state_at read.origin es) entry) seen
          (subst (FindsOwn c (state_at read.origin new.seen)) equal (finds_own c (state_at read.origin new.seen) read.ends.0 found)))

      held_reply : (outcome : Result ObjectRead FlowFault) → Reads outcome → ComesTo before c.repo c.at.e objects outcome
          → IsOutcomeReplied names IsBytesReplied outcome told → Held before objects told
      held_reply (Ok object) read comes replied =
          subst (Held before objects) (sym (bytes_of object comes.entry told comes.found replied))
          (comes.number, (comes.entry, finds_before object read comes.entry comes.found, comes.own), comes.held)
      held_reply (Err (Step fault)) read comes replied = by_look (Held before objects) tt tt tt tt fault read.ends.0 replied
      held_reply (Err (TooManyTries first last)) read comes replied = absurd comes
      held_reply (Err NoPath) read comes replied = by_text (Held before objects) tt (refusal.NoPath c.path) tt replied
      held_reply (Err (Gone number)) read comes replied = by_text (Held before objects) tt (refusal.Gone c.path) tt replied
      held_reply (Err (NotHeld address)) read comes replied = by_text (Held before objects) tt (refusal.NotHeld c.path) tt replied
      held_reply (Err (Lost number)) read comes replied = by_text (Held before objects) tt (refusal.Lost c.path) comes replied
      held_reply (Err (Damaged named found)) read comes replied = by_text (Held before objects) tt (refusal.Damaged c.path) comes replied
      held_reply (Err BlockFault) read comes replied = subst (Held before objects) (sym replied) tt
      held_reply (Err NoMemory) read comes replied = subst (Held before objects) (sym replied) tt

    -- ---- any seat

    module _ (origin : LakeOrigin) (objects : HeldObjects) (held_is : held ≡ Some objects) where
      abbrev now : State
      now = state_at origin new.seen

      abbrev Looks : EntryValue → Type 0
      Looks entry = look_up now c.repo c.at.e c.path ≡ Ok entry

      -- what is held under the number of an entry that was looked up is held under the number that the call finds
      holds_found : (entry : EntryValue) (body : Option (List ℕ)) → Looks entry → HoldsAt held entry.place body → HoldsFound c now objects body
      holds_found entry body looks holds =
          let at = holds_at objects entry.place body (subst (λ h. HoldsAt h entry.place body) held_is holds) in
          (at.0, (entry, finds_own c now entry looks, at.1), at.2)

      given_reply : (given : Option (List ℕ)) (outcome : Result ObjectRead FlowFault) (read : Reads outcome) → read.origin ≡ origin
          → AreBytesOf held Looks outcome given → IsOutcomeReplied names IsBytesReplied outcome told → IsGivenReply c now objects given told
      given_reply given (Ok object) read same are replied =
          let entry = read.ends.0 in
          let asked = read.ends.1 in
          let looks = subst (λ (o : LakeOrigin). look_up (state_at o new.seen) c.repo c.at.e c.path ≡ Ok entry) same
          (last_found read.origin old.number c.repo c.path c.at.e old.seen read.missed asked.first entry new.seen asked.found) in
          subst (IsGivenReply c now objects given) (sym (bytes_of object entry told (ap (λ (d : Done). d.entry) read.ends.2.1) replied))
          (are, holds_found entry (Some object.1) looks read.ends.3)
      given_reply given (Err (Lost number)) read same are replied =
          by_text (IsGivenReply c now objects given) tt (refusal.Lost c.path) (holds_found read.ends.0 None
          (subst (λ (o : LakeOrigin). look_up (state_at o new.seen) c.repo c.at.e c.path ≡ Ok read.ends.0) same read.ends.2) read.ends.1.unheld) replied
      given_reply given (Err (Damaged named found)) read same are replied =
          by_text (IsGivenReply c now objects given) tt (refusal.Damaged c.path) (are.0, are.1, holds_found are.3 (Some are.0) are.4 are.5) replied
      given_reply given (Err (Step fault)) read same are replied = by_look (IsGivenReply c now objects given) tt tt tt tt fault read.ends.0 replied
      given_reply given (Err (TooManyTries first last)) read same are replied = subst (IsGivenReply c now objects given) (sym replied) tt
      given_reply given (Err NoPath) read same are replied = by_text (IsGivenReply c now objects given) tt (refusal.NoPath c.path) tt replied
      given_reply given (Err (Gone number)) read same are replied = by_text (IsGivenReply c now objects given) tt (refusal.Gone c.path) tt replied
      given_reply given (Err (NotHeld address)) read same are replied = by_text (IsGivenReply c now objects given) tt (refusal.NotHeld c.path) tt replied
      given_reply given (Err BlockFault) read same are replied = subst (IsGivenReply c now objects given) (sym replied) tt
      given_reply given (Err NoMemory) read same are replied = subst (IsGivenReply c now objects given) (sym replied) tt

    -- so bytes that are told are those that were given
    reads_given : (given : Option (List ℕ)) (outcome : Result ObjectRead FlowFault) (position : ℕ) → position ≡ length new.seen
        → (read : Reads outcome) → AreBytesOf held (λ entry. look_up (state_at read.origin new.seen) c.repo c.at.e c.path ≡ Ok entry) outcome given
        → IsOutcomeReplied names IsBytesReplied outcome told → ReadsGiven old new held (reading c) given told position
    reads_given given outcome position at read are replied other origin objects is from holds =
        let same_call : c ≡ other = cc (is) in
        let goes = read.only.goes 0 in
        let origins : Some read.origin ≡ Some origin = sym goes.from ∙ from in
        let same : read.origin ≡ origin = cc (origins) in (
          at,
          subst (λ (r : ReadCall). IsGivenReply r (state_at origin new.seen) objects given told) same_call
              (given_reply origin objects holds given outcome read same
              (subst (λ (o : LakeOrigin). AreBytesOf held (λ entry. look_up (state_at o new.seen) c.repo c.at.e c.path ≡ Ok entry) outcome given) same are)
              replied),
        )

    -- so bytes that are told are those that are held
    reads_held : (outcome : Result ObjectRead FlowFault) (position : ℕ) → position ≡ length new.seen → Reads outcome
        → HeldReadings c.repo c.at.e old held outcome → IsOutcomeReplied names IsBytesReplied outcome told
        → ReadsHeld old held (reading c) told position
    reads_held outcome position at read bodies replied other origin objects is alone from holds fits =
        let same : c ≡ other = cc (is) in (
          at ∙ ap length (seen_same read.origin 0 old new (read.only.goes 0) read.only.came alone),
          subst (λ (r : ReadCall). IsHeldReply r (state_at origin old.seen) objects told) same
              (held_reply origin objects alone from outcome read (bodies origin objects alone from holds fits) replied),
        )

    pub read_answered : (number moment : ℕ) (flowed : FlowAnswer ObjectRead FlowFault)
        → IsReadAnswer old new number c moment blocks held held_now paused paused_now flowed → HeldReadings c.repo c.at.e old held flowed.outcome
        → KeepsFitting old new held held_now → IsOutcomeReplied names IsBytesReplied flowed.outcome told
        → IsCallAnswered old new number (reading c) moment blocks held held_now (record { reply = told; position = flowed.position; edge = flowed.edge })
    read_answered number moment flowed is bodies fitting replied =
        answered old new number (reading c) moment blocks held held_now (record { reply = told; position = flowed.position; edge = flowed.edge })
        is.met is.told is.flow (read_told flowed.outcome is.told is.tells replied) is.faults is.misses is.missed_last (is.read.faults, is.read.misses) fitting
        (reads_given is.met.bytes flowed.outcome flowed.position (ap (λ (a : FlowAnswer ObjectRead FlowFault). a.position) is.place) is.read is.bytes replied)
        (reads_held flowed.outcome flowed.position (ap (λ (a : FlowAnswer ObjectRead FlowFault). a.position) is.place) is.read bodies replied)
        (same_turn is.read.origin old new is.read.only)
