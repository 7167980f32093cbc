-- How an upload is answered.
use Rattle.std.proofs.Common.{◌≡◌, inl, inr, ℕ, true, List, [], ◌∷◌, ◌++◌, length, Option, Some, None, Result, Ok, Err, refl, sym, ap, subst, ◌∙◌}
use Rattle.lake_values.specs.Entry.{EntryValue}
use Rattle.lake_values.specs.declared.entry.Change.TheVariants as change
use Rattle.lake_model.specs.declared.fault.StepFault.TheVariants as step
use Rattle.lake_model.specs.declared.history.HistoryEntry.{HistoryEntry}
use Rattle.lake_model.specs.declared.history.Operation.TheVariants.{TicketDrop}
use Rattle.lake_model.specs.History.{accepted_entry, faulted_entry}
use Rattle.lake_model.specs.Refusals.{causes_of_change, first_cause}
use Rattle.lake_core.specs.declared.standing.LakeOrigin.{LakeOrigin}
use Rattle.lake_model.specs.declared.fault.StepFault.{StepFault}
use Rattle.lake_model.specs.Uncommitted.{HasTicket}
use Rattle.core_puts.specs.KeeperViews.{KeeperView}
use Rattle.lake_core.specs.Lakes.{LakeValue, state}
use Rattle.lake_model.specs.Versions.{VersionsGiven, branch_version}
use Rattle.shared_lake.specs.SeatSteps.{Finds, LakeSeat}
use Rattle.call_placement.specs.Rules.{Caller}
use Rattle.call_placement.specs.Points.{Came}
use Rattle.call_placement.specs.Served.{ByCause}
use Rattle.call_placement.specs.Sessions.{caller}
use Rattle.call_placement.proofs.WalkLemmas.{came_on, nothing_came}
use Rattle.lake_calls.specs.Calls.{UploadCall}
use Rattle.lake_calls.specs.CallExceptions.{ByBranch, Counts, HasRisen, guard_of}
use Rattle.lake_calls.specs.CallRefusals.{names_of}
use Rattle.lake_calls.specs.Courses.{upload_entry}
use Rattle.lake_calls.specs.LakeRules.{by_caller, is_closed, lake_rules}
use Rattle.lake_calls.specs.declared.call.Call.TheVariants.{Objects}
use Rattle.lake_calls.specs.declared.objects.ObjectCall.TheVariants as object
use Rattle.lake_calls.specs.declared.reply.CallReply.{CallReply}
use Rattle.lake_calls.specs.declared.reply.CallReply.TheVariants as reply
use Rattle.lake_calls.specs.declared.reply.Refusal.TheVariants as refusal
use Rattle.flow_steps.specs.declared.answer.FlowAnswer.{FlowAnswer}
use Rattle.flow_steps.specs.FlowAnswers.{BlockCounts, asked_at}
use Rattle.flow_steps.specs.FlowSeats.{GoesOn, opened_state, state_at}
use Rattle.flow_steps.specs.FlowTries.{Guarded, IsRefused, staging}
use Rattle.flow_steps.proofs.FlowEndLemmas.{HasReached}
use Rattle.flow_steps.proofs.RetryLemmas.{fault_counted, met_by, no_store, one_fault, one_origin}
use Rattle.flow_steps.proofs.SeatFlowLemmas.{finds_since, goes_further}
use Rattle.write_flow.specs.declared.answer.Done.{Done}
use Rattle.write_flow.specs.declared.answer.FlowFault.{FlowFault}
use Rattle.write_flow.specs.declared.answer.FlowFault.TheVariants.{Step, TooManyTries, NoPath, BlockFault, NoMemory}
use Rattle.write_flow.specs.declared.upload.Stored.TheVariants.{Told, Faulted, Refused}
use Rattle.write_flow.specs.FlowFaults.{IsFlowTold}
use Rattle.write_flow.specs.Uploads.{BodyStored, Closed, Dropped, GaveUp, IsUploadTold, Starved, StoreFailing, refused_at, stored_of}
use Rattle.write_flow.specs.WriteFlows.{IsAnswer, NeverFall}
use Rattle.write_flow.specs.WriteTries.{HaveTried}
use Rattle.write_flow.proofs.AnswerLemmas.{IsStopping, counts_tries, stops_so}
use Rattle.write_flow.proofs.LoopLemmas.{AllEnd, ends_of}
use Rattle.write_flow.proofs.ServingLemmas.{Stops, stops_by, stops_memory, tries_done, tries_faulted}
use Rattle.write_flow.proofs.UploadLemmas.{Staged, broken, closed, dropped, starved, to_take, uploads}

-- a body that was refused so
abbrev refusal_of : FlowFault → Result EntryValue FlowFault
refusal_of fault = Err fault

module _ (u : UploadCall) (moment number call : ℕ) (origin : LakeOrigin) (old mid : LakeSeat) (took : GoesOn origin call old mid) (blocks : BlockCounts)
    (later : NeverFall blocks) (reached : HasReached (opened_state origin) (caller old.number call) (asked_at (Objects (object.Upload u)) moment)
    (to_take u moment number) old.seen mid.seen) (paused pauses : Option ℕ) where
  abbrev by : Caller
  by = caller old.number call

  abbrev entry : EntryValue
  entry = upload_entry u moment number

  abbrev guarded : Guarded
  guarded = staging u.repo u.branch u.path (change.Put entry)

  abbrev Tried : LakeSeat → Result (Option EntryValue) FlowFault → Type 0
  Tried new result = HaveTried guarded call mid new paused pauses result

  mid_number : mid.number ≡ old.number
  mid_number = ap (λ (s : LakeSeat). s.number) took.seat

  -- the tries are of the call's own origin
  module _ (new : LakeSeat) (result : Result (Option EntryValue) FlowFault) (tried : Tried new result) where
    same : tried.origin ≡ origin
    same = one_origin origin tried.origin old mid mid.seen mid.mine took.from took.seat tried.goes.from

    tried_goes : GoesOn origin call old new
    tried_goes = goes_further origin call old mid new took (subst (λ (o : LakeOrigin). GoesOn o call mid new) same tried.goes)

    abbrev EndsAll : LakeOrigin → Caller → Type 0
    EndsAll origin by = AllEnd origin by guarded u.repo u.branch (uploads u moment number).guards result mid.seen new.seen

    tried_ends : EndsAll origin by
    tried_ends = subst (λ n. EndsAll origin (caller n call)) mid_number
        (subst (λ (o : LakeOrigin). EndsAll o (caller mid.number call)) same
        (ends_of tried.origin (caller mid.number call) guarded u.repo u.branch (uploads u moment number).guards tried.versions result mid.seen tried.between
        new.seen tried.found tried.ends))

  abbrev Answers : LakeSeat → (changed : ℕ) → FlowAnswer Done FlowFault → Type 0
  Answers new changed answer = IsAnswer old new call (Objects (object.Upload u)) moment (IsUploadTold u moment) blocks changed answer

  -- the body became an object
  pub put_told : (new : LakeSeat) (tried : Tried new (Ok None)) → Answers new (length tried.versions)
      (record { outcome = Ok (record { at = length new.seen; entry = Some entry }); position = length new.seen; edge = length new.seen })
  put_told new tried =
      let met = met_by no_store blocks (length tried.versions) in
      let done = tries_done origin by (Objects (object.Upload u)) moment (to_take u moment number) u.repo u.branch guarded (Staged u moment number)
      (uploads u moment number) old.seen mid.seen reached None new.seen met (tried_ends new (Ok None) tried) in
      record {
        met = met;
        told = reply.Done done.0;
        tells = (refl, done.0, (number, refl, done.1.1), refl);
        flow = record { origin = origin; goes = tried_goes new (Ok None) tried; served = done.2 };
        faults = refl;
        misses = refl;
        missed_last = refl;
        counts = later;
        tries = refl;
      }

  -- the store failed as it was staged
  pub put_faulted : (new : LakeSeat) (tried : Tried new (Err (Step step.StoreFault))) → Answers new (length tried.versions)
      (refused_at (Step step.StoreFault) (length new.seen) (length new.seen))
  put_faulted new tried =
      let met = met_by one_fault blocks (length tried.versions) in
      record {
        met = met;
        told = reply.Refused refusal.StoreFault;
        tells = refl;
        flow = record {
          origin = origin;
          goes = tried_goes new (Err (Step step.StoreFault)) tried;
          served = tries_faulted origin by (Objects (object.Upload u)) moment (to_take u moment number) u.repo u.branch
              guarded (Staged u moment number) (uploads u moment number) old.seen mid.seen reached new.seen met
              (tried_ends new (Err (Step step.StoreFault)) tried) (fault_counted, refl);
        };
        faults = refl;
        misses = refl;
        missed_last = refl;
        counts = later;
        tries = refl;
      }

  -- ---- it was refused behind its ticket

  -- where it stopped, and what its client is told, where its tries found another version so often
  pub record StoppedAt (now : LakeSeat) (changed : ℕ) (fault : FlowFault) : Type 0 where
    pub goes : GoesOn origin call old now
    pub told : CallReply
    pub tells : IsFlowTold (names_of (Objects (object.Upload u))) fault told
    pub stops : Stops origin by (Objects (object.Upload u)) moment (to_take u moment number) u.repo u.branch guarded (Staged u moment number)
        (uploads u moment number) old.seen mid.seen reached (met_by no_store blocks changed) told now.seen

  stopped_in_tries : (now : LakeSeat) (fault : FlowFault) → IsStopping fault → (tried : Tried now (Err fault)) → StoppedAt now (length tried.versions) fault
  stopped_in_tries now fault stopping tried =
      let so = stops_so origin by (Objects (object.Upload u)) moment (to_take u moment number) u.repo u.branch guarded (Staged u moment number)
      (uploads u moment number) old.seen mid.seen reached blocks (length tried.versions) now.seen took.added took.seen fault stopping
      (counts_tries guarded call mid now paused pauses fault tried) (tried_ends now (Err fault) tried) in
      record { goes = tried_goes now (Err fault) tried; told = so.0; tells = so.1; stops = so.2 }

  stopped_without_memory : StoppedAt mid 0 NoMemory
  stopped_without_memory = record {
    goes = took;
    told = reply.NoMemory;
    tells = refl;
    stops = stops_memory origin by (Objects (object.Upload u)) moment (to_take u moment number) u.repo u.branch guarded (Staged u moment number)
        (uploads u moment number) old.seen mid.seen reached mid.seen (met_by no_store blocks 0) (nothing_came lake_rules by mid.seen);
  }

  stopped_by_blocks : HasRisen blocks.faults → StoppedAt mid 0 BlockFault
  stopped_by_blocks rose = record {
    goes = took;
    told = reply.Refused refusal.BlockFault;
    tells = refl;
    stops = stops_by origin by (Objects (object.Upload u)) moment (to_take u moment number) u.repo u.branch guarded (Staged u moment number)
        (uploads u moment number) old.seen mid.seen reached mid.seen (met_by no_store blocks 0) (reply.Refused refusal.BlockFault)
        (nothing_came lake_rules by mid.seen)
        (ByCause (λ none. absurd cc)
        (inr (record { is_upload = refl; behind = guards_step; counted = rose }, refl)));
  }
    where
      guards_step : guard_of (uploads u moment number).some ≡ None → ⊥
      guards_step none = let both : Some (ByBranch u.repo u.branch) ≡ None = sym (uploads u moment number).some_guard ∙ none in absurd cc

  pub stopped_at : (now : LakeSeat) (versions : List ℕ) (fault : FlowFault) → IsStopping fault
      → BodyStored u.repo u.branch u.path entry call blocks.faults mid now paused pauses versions (Err fault) → StoppedAt now (length versions) fault
  stopped_at now versions fault stopping stored = elim stored [
    | inl blocked ↦ subst (λ (s : LakeSeat). StoppedAt s (length versions) fault) (sym blocked.0)
        (subst (λ (vs : List ℕ). StoppedAt mid (length vs) fault) (sym blocked.2)
        (subst (StoppedAt mid 0) (sym (same_fault blocked.3)) (stopped_by_blocks blocked.4)))
    | inr (inl starving) ↦ subst (λ (s : LakeSeat). StoppedAt s (length versions) fault) (sym starving.0)
        (subst (λ (vs : List ℕ). StoppedAt mid (length vs) fault) (sym starving.2)
        (subst (StoppedAt mid 0) (sym (same_fault starving.3)) stopped_without_memory))
    | inr (inr tried) ↦ subst (λ (vs : List ℕ). StoppedAt now (length vs) fault) (sym tried.1) (stopped_in_tries now fault stopping tried.0)
  ]
    where
      same_fault : {other : FlowFault} → refusal_of fault ≡ refusal_of other → fault ≡ other
      same_fault is = cc (is)

  -- ---- and gave its number up

  module _ (now new : LakeSeat) (changed : ℕ) (fault : FlowFault) (answer : FlowAnswer Done FlowFault) (at : StoppedAt now changed fault) where
    now_number : now.number ≡ old.number
    now_number = ap (λ (s : LakeSeat). s.number) at.goes.seat

    here : (other : LakeOrigin) → now.origin ≡ Some other → other ≡ origin
    here other is = one_origin origin other old now now.seen now.mine at.goes.from at.goes.seat is

    goes_here : (other : LakeOrigin) → GoesOn other call now new → GoesOn origin call now new
    goes_here other goes = subst (λ (o : LakeOrigin). GoesOn o call now new) (here other goes.from) goes

    came_here : (found : List HistoryEntry) → Came lake_rules (caller now.number call) now.seen found → Came lake_rules by now.seen found
    came_here found came = subst (λ n. Came lake_rules (caller n call) now.seen found) now_number came

    pub put_refused : GaveUp call number now new fault answer → Answers new changed answer
    put_refused (Dropped other found goes came none is answered) =
        subst (Answers new changed) (sym answered)
        (dropped u moment number origin call old mid now new at.goes blocks later reached changed fault at.told found at.tells at.stops
        (goes_here other goes) (came_here found came)
        (subst (λ (o : LakeOrigin). first_cause (causes_of_change (state_at o found)) ≡ None) (here other goes.from) none)
        (is ∙ ap (λ n. found ++ accepted_entry (by_caller (caller n call)) (TicketDrop number) ∷ []) now_number))
    put_refused (StoreFailing other found goes came none is answered) =
        subst (Answers new changed) (sym answered)
        (broken u moment number origin call old mid now new at.goes blocks later reached changed _ at.told found at.stops
        (goes_here other goes) (came_here found came)
        (subst (λ (o : LakeOrigin). first_cause (causes_of_change (state_at o found)) ≡ None) (here other goes.from) none)
        (is ∙ ap (λ n. found ++ faulted_entry (by_caller (caller n call)) (TicketDrop number) ∷ []) now_number))
    put_refused (Starved other goes came answered) =
        subst (Answers new changed) (sym answered)
        (starved u moment number origin call old mid now new at.goes blocks later reached changed _ at.told at.stops (goes_here other goes)
        (came_here new.seen came))
    put_refused (Closed other goes came shut answered) =
        subst (Answers new changed) (sym answered)
        (closed u moment number origin call old mid now new at.goes blocks later reached changed fault at.told at.tells at.stops (goes_here other goes)
        (came_here new.seen came) (subst (λ (o : LakeOrigin). is_closed (state_at o new.seen) ≡ true) (here other goes.from) shut))

-- ---- a seat whose call was refused in its tries saw only others' entries

refused_came : (origin : LakeOrigin) (by : Caller) (change : Guarded) (fault : StepFault) (from next : List HistoryEntry)
    → IsRefused origin by change fault from next → Came lake_rules by from next
refused_came origin maker change fault from next is =
    elim is [ inl early ↦ early.0 | inr late ↦ came_on lake_rules maker from late.0 next late.1 late.3 ]

module _ (origin : LakeOrigin) (by : Caller) (guarded : Guarded) (repo branch : List ℕ)
    (guards : (given : VersionsGiven) → guarded.version given ≡ branch_version given repo branch) where
  pub tries_came : (fault : FlowFault) (from next : List HistoryEntry) → IsStopping fault → AllEnd origin by guarded repo branch guards (Err fault) from next
      → Came lake_rules by from next
  tries_came (TooManyTries first last) from next stopping ends = ends.came
  tries_came NoPath from next stopping ends = refused_came origin by guarded step.NoPath from next ends
  tries_came NoMemory from next stopping ends = ends
  tries_came (Step step.StoreFault) from next stopping ends = absurd stopping
  tries_came (Step (step.Changed version settings)) from next stopping ends = absurd ends
  tries_came (Step step.NoPath) from next stopping ends = absurd ends
  tries_came (Step step.NoMemory) from next stopping ends = absurd ends
  tries_came (Step fault) from next stopping ends = refused_came origin by guarded fault from next ends
  tries_came fault from next stopping ends = absurd ends

module _ (repo branch path : List ℕ) (entry : EntryValue) (call : ℕ) (faults : Counts) (mid now : LakeSeat) (paused pauses : Option ℕ) (versions : List ℕ) where
  abbrev Stored : Result EntryValue FlowFault → Type 0
  Stored result = BodyStored repo branch path entry call faults mid now paused pauses versions result

  abbrev StagedSo : Result (Option EntryValue) FlowFault → Type 0
  StagedSo result = HaveTried (staging repo branch path (change.Put entry)) call mid now paused pauses result

  -- so its ticket is there still
  pub ticket_still : {K : Type 0} (view : KeeperView K) (number : ℕ) (fault : FlowFault) → IsStopping fault → Stored (Err fault)
      → ((found : LakeValue K) → Finds view mid found → HasTicket (state found) mid.number number)
      → (found : LakeValue K) → Finds view now found → HasTicket (state found) now.number number
  ticket_still view number fault stopping stored ticket found finds = elim stored [
    | inl blocked ↦ unmoved blocked.0
    | inr (inl starving) ↦ unmoved starving.0
    | inr (inr tried) ↦ moved tried.0
  ]
    where
      unmoved : now ≡ mid → HasTicket (state found) now.number number
      unmoved same = subst (λ (s : LakeSeat). HasTicket (state found) s.number number) (sym same)
          (ticket found (subst (λ (s : LakeSeat). Finds view s found) same finds))

      moved : StagedSo (Err fault) → HasTicket (state found) now.number number
      moved tried =
          let by = caller mid.number call in
          let guarded = staging repo branch path (change.Put entry) in
          let came = tries_came tried.origin by guarded repo branch (λ given. refl) fault mid.seen now.seen stopping
          (ends_of tried.origin by guarded repo branch (λ given. refl) tried.versions (Err fault) mid.seen tried.between now.seen tried.found tried.ends) in
          subst (λ n. HasTicket (state found) n number) (sym (ap (λ (s : LakeSeat). s.number) tried.goes.seat))
          (ticket found (finds_since view tried.origin call mid now tried.goes came found finds))

  -- an entry that was told was tried
  pub tried_told : (told : EntryValue) → Stored (Ok told) → (tried : StagedSo (Ok None)) × (versions ≡ tried.versions) × (told ≡ entry)
  tried_told told (inl blocked) = let no = blocked.3 in absurd cc
  tried_told told (inr (inl starving)) = let no = starving.3 in absurd cc
  tried_told told (inr (inr tried)) = tried

  pub tried_faulted : Stored (Err (Step step.StoreFault)) → (tried : StagedSo (Err (Step step.StoreFault))) × (versions ≡ tried.versions)
  tried_faulted (inl blocked) = let no = blocked.3 in absurd cc
  tried_faulted (inr (inl starving)) = let no = starving.3 in absurd cc
  tried_faulted (inr (inr tried)) = (tried.0, tried.1)

  pub moved_seat : (result : Result EntryValue FlowFault) → Stored result → now.turn ≡ mid.turn
  moved_seat result (inl blocked) = ap (λ (s : LakeSeat). s.turn) blocked.0
  moved_seat result (inr (inl starving)) = ap (λ (s : LakeSeat). s.turn) starving.0
  moved_seat result (inr (inr tried)) = ap (λ (s : LakeSeat). s.turn) tried.0.goes.seat

-- what came of a body, told apart
pub was_told_entry : (result : Result EntryValue FlowFault) (entry : EntryValue) → Told entry ≡ stored_of result → result ≡ Ok entry
was_told_entry (Ok other) entry is = cc
was_told_entry (Err (Step step.StoreFault)) entry is = absurd cc
was_told_entry (Err (Step fault)) entry is = absurd cc
was_told_entry (Err fault) entry is = absurd cc

pub was_faulted : (result : Result EntryValue FlowFault) → Faulted ≡ stored_of result → result ≡ Err (Step step.StoreFault)
was_faulted (Ok other) is = absurd cc
was_faulted (Err (Step step.StoreFault)) is = refl
was_faulted (Err (Step fault)) is = absurd cc
was_faulted (Err fault) is = absurd cc

pub was_refused_body : (result : Result EntryValue FlowFault) (fault : FlowFault) → Refused fault ≡ stored_of result
    → IsStopping fault × (result ≡ Err fault)
was_refused_body (Ok other) fault is = absurd cc
was_refused_body (Err (Step step.StoreFault)) fault is = absurd cc
was_refused_body (Err (Step other)) fault is = let same : Step other ≡ fault = cc in (subst IsStopping same tt, ap Err same)
was_refused_body (Err other) fault is = let same : other ≡ fault = cc in (subst IsStopping same tt, ap Err same)
