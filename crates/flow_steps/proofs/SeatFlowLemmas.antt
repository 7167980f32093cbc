-- What a step of a shared lake brings a flow: others' entries came, it was answered in the state then, and its own entry stood.
use Rattle.std.proofs.Common.{◌≡◌, ◌≢◌, ℕ, true, List, [], ◌∷◌, ◌++◌, Option, Some, None, Result, Ok, Err, refl, sym, ap, subst, ◌∙◌}
use Rattle.std.proofs.Common.{append_assoc}
use Rattle.std.specs.Prelude.{All, IsSomeAnd, IfSome, option_map}
use Rattle.std.proofs.lemmas.List.{append-nil, append_cancel_left}
use Rattle.std.proofs.lemmas.List.Elements.{All-nil, All-cons, All-append, All-head}
use Rattle.lake_model.specs.declared.fault.StepFault.{StepFault}
use Rattle.lake_model.specs.declared.fault.StepFault.TheVariants.{StoreFault, NoMemory}
use Rattle.lake_model.specs.declared.history.By.{By}
use Rattle.lake_model.specs.declared.history.HistoryEntry.{HistoryEntry}
use Rattle.lake_model.specs.State.{State}
use Rattle.lake_model.specs.History.{IsLegal, accepted_entry, faulted_entry, replay}
use Rattle.lake_model.specs.Soundness.{IsSound}
use Rattle.lake_model.specs.Versions.{VersionsGiven}
use Rattle.core_state.specs.declared.lake.LakeState.{LakeState}
use Rattle.core_state.specs.LakeStates.{lake_value, state_of}
use Rattle.core_standing.specs.Standing.{versions_since}
use Rattle.core_puts.specs.KeeperViews.{KeeperView}
use Rattle.core_puts.specs.KeptChanges.{Making}
use Rattle.lake_core.specs.declared.standing.LakeOrigin.{LakeOrigin}
use Rattle.lake_core.specs.Lakes.{Holds, LakeValue, state, versions}
use Rattle.turn_lock.specs.Seats.{seat_after, with_entry}
use Rattle.shared_lake.specs.SeatSteps.{Finds, IsChanged, IsRead, LakeSeat, SeesOwn, added_by, origin_of}
use Rattle.call_placement.specs.Points.{Came}
use Rattle.call_placement.specs.Sessions.{caller}
use Rattle.lake_calls.specs.LakeRules.{lake_rules}
use Rattle.flow_steps.specs.FlowSeats.{GoesOn, given_at, opened_state, state_at}

-- ---- entries of a seat and of others

-- what is of others isn't of the seat
others_of_call : (seat call : ℕ) (xs : List HistoryEntry) → All (λ e. e.by.seat ≢ seat) xs → All (λ e. e.by.seat ≡ seat → e.by.call ≡ call) xs
others_of_call seat call xs others k e within = λ same. absurd (others k e within same)

-- the seat is a seat still, of the same number
pub same_number : (old now : LakeSeat) (seen mine : List HistoryEntry) → now ≡ seat_after old seen mine → now.number ≡ old.number
same_number old now seen mine is = ap (λ (s : LakeSeat). s.number) is

-- ---- a seat that goes on

module _ (origin : LakeOrigin) (call : ℕ) where
  -- and goes on
  pub goes_further : (old now next : LakeSeat) → GoesOn origin call old now → GoesOn origin call now next → GoesOn origin call old next
  goes_further old now next one two =
      let number : now.number ≡ old.number = ap (λ (s : LakeSeat). s.number) one.seat in
      let alone : now.alone ≡ old.alone = ap (λ (s : LakeSeat). s.alone) one.seat in
      record {
        from = one.from;
        sound = two.sound;
        legal = two.legal;
        added = one.added ++ two.added;
        seen = two.seen ∙ ap (λ xs. xs ++ two.added) one.seen ∙ append_assoc old.seen one.added two.added;
        of_call = All-append (λ (e : HistoryEntry). e.by.seat ≡ old.number → e.by.call ≡ call) one.added two.added one.of_call
            (subst (λ n. All (λ (e : HistoryEntry). e.by.seat ≡ n → e.by.call ≡ call) two.added) number two.of_call);
        alone = λ is. All-append (λ (e : HistoryEntry). e.by.seat ≡ old.number) one.added two.added (one.alone is)
            (subst (λ n. All (λ (e : HistoryEntry). e.by.seat ≡ n) two.added) number (two.alone (alone ∙ is)));
        seat = two.seat ∙ ap (λ (s : LakeSeat). seat_after s next.seen next.mine) one.seat;
        knew = one.knew;
        own = two.own;
      }

module _ {K : Type 0} (view : KeeperView K) where
  -- ---- a lake that was found

  module _ (origin : LakeOrigin) (seat : LakeSeat) (found : LakeValue K) (from : seat.origin ≡ Some origin) (finds : Finds view seat found) where
    -- it goes out from the seat's origin
    same_opened : found.opened ≡ origin.opened
    same_opened =
        let both : Some (origin_of view found) ≡ Some origin = sym finds.origin ∙ from in
        let one : origin_of view found ≡ origin = cc (both) in
        ap (λ (o : LakeOrigin). o.opened) one

    pub others_came : (call : ℕ) → Came lake_rules (caller seat.number call) seat.seen found.history
    others_came call = (finds.others, finds.are_others, finds.begins)

    -- what is said of its state and its versions is said of the seat's origin and that history
    pub as_found : (Q : State → VersionsGiven → Type 0) (entries : List HistoryEntry) → found.history ≡ entries → Q (state found) (versions found)
        → Q (state_at origin entries) (given_at origin entries)
    as_found Q entries is q =
        subst (λ es. Q (state_at origin es) (given_at origin es)) is
        (subst (λ (o : LakeState). Q (replay (state_of (lake_value o)) found.history) (versions_since (lake_value o) found.history)) same_opened q)

  -- the lake that a seat finds is the lake of its origin
  legal_of : (origin : LakeOrigin) (lake : LakeValue K) (entries : List HistoryEntry) → lake.opened ≡ origin.opened → lake.history ≡ entries
      → Holds view lake → IsSound (opened_state origin) × IsLegal (opened_state origin) entries
  legal_of origin lake entries opened is holds = (
    subst (λ (o : LakeState). IsSound (state_of (lake_value o))) opened holds.stands.sound,
    subst (λ es. IsLegal (opened_state origin) es) is
        (subst (λ (o : LakeState). IsLegal (state_of (lake_value o)) lake.history) opened holds.stands.legal),
  )

  -- ---- a reading

  module _ (old new : LakeSeat) (Answers : LakeValue K → Type 0) (read : IsRead view old new Answers) where
    pub origin_read : LakeOrigin
    origin_read = origin_of view read.found

    history_read : read.found.history ≡ new.seen
    history_read = sym (ap (λ (s : LakeSeat). s.seen) read.seat)

    pub came_to_reading : (call : ℕ) → Came lake_rules (caller old.number call) old.seen new.seen
    came_to_reading call = subst (λ es. Came lake_rules (caller old.number call) old.seen es) history_read
        (read.finds.others, read.finds.are_others, read.finds.begins)

    pub goes_by_reading : (call : ℕ) (origin : LakeOrigin) → old.origin ≡ Some origin → GoesOn origin call old new
    goes_by_reading call origin from =
        let opened = same_opened origin old read.found from read.finds in
        let law = legal_of origin read.found new.seen opened history_read read.finds.holds in
        record {
          from = from;
          sound = law.0;
          legal = law.1;
          added = read.finds.others;
          seen = sym history_read ∙ read.finds.begins;
          of_call = others_of_call old.number call read.finds.others read.finds.are_others;
          alone = λ is. subst (λ es. All (λ (e : HistoryEntry). e.by.seat ≡ old.number) es) (sym (read.finds.alone is)) (All-nil _);
          seat = read.seat
              ∙ ap (λ es. seat_after old es old.mine) history_read
              ∙ ap (λ es. seat_after old new.seen es) (sym (ap (λ (s : LakeSeat). s.mine) read.seat));
          knew = read.finds.own;
          own = read.own;
        }

    pub answer_read : (Q : State → VersionsGiven → Type 0) (origin : LakeOrigin) → old.origin ≡ Some origin
        → ((l : LakeValue K) → Answers l → Q (state l) (versions l)) → Q (state_at origin new.seen) (given_at origin new.seen)
    answer_read Q origin from says =
        as_found origin old read.found from read.finds Q new.seen history_read (says read.found read.answer)

  -- ---- a change

  -- the entries that a change adds by its answer
  abbrev pub entries_by : {X : Type 0} → By → Option Making → Result X StepFault → List HistoryEntry
  entries_by by made (Ok answer) = with_entry [] (option_map (λ (m : Making). accepted_entry by m.operation) made)
  entries_by by made (Err StoreFault) = with_entry [] (option_map (λ (m : Making). faulted_entry by m.operation) made)
  entries_by by made (Err fault) = []

  added_entries : {X : Type 0} (by : By) (made : Option Making) (result : Result X StepFault) (xs : List HistoryEntry)
      → with_entry xs (added_by by made result) ≡ xs ++ entries_by by made result
  added_entries by (Some made) (Ok answer) xs = refl
  added_entries by (Some made) (Err StoreFault) xs = refl
  added_entries by None (Ok answer) xs = sym (append-nil xs)
  added_entries by None (Err StoreFault) xs = sym (append-nil xs)
  added_entries by (Some made) (Err _) xs = sym (append-nil xs)
  added_entries by None (Err _) xs = sym (append-nil xs)

  own_entries : {X : Type 0} (by : By) (made : Option Making) (result : Result X StepFault) → All (λ (e : HistoryEntry). e.by ≡ by) (entries_by by made result)
  own_entries by (Some made) (Ok answer) = All-cons (λ (e : HistoryEntry). e.by ≡ by) _ [] refl (All-nil _)
  own_entries by (Some made) (Err StoreFault) = All-cons (λ (e : HistoryEntry). e.by ≡ by) _ [] refl (All-nil _)
  own_entries by None (Ok answer) = All-nil _
  own_entries by None (Err StoreFault) = All-nil _
  own_entries by (Some made) (Err _) = All-nil _
  own_entries by None (Err _) = All-nil _

  module _ {X : Type 0} (old new : LakeSeat) (call : ℕ) (making : LakeValue K → Option Making) (Answers : LakeValue K → Type 0) (result : Result X StepFault)
      (changed : IsChanged view (record { seat = old.number; call = call }) old new making Answers result) where
    abbrev by : By
    by = record { seat = old.number; call = call }

    pub origin_changed : LakeOrigin
    origin_changed = origin_of view changed.found

    -- its entry stands behind what was found
    pub entry_stands : new.seen ≡ changed.found.history ++ entries_by by (making changed.found) result
    entry_stands =
        ap (λ (s : LakeSeat). s.seen) changed.seat
        ∙ changed.history
        ∙ added_entries by (making changed.found) result changed.found.history

    pub came_to_change : Came lake_rules (caller old.number call) old.seen changed.found.history
    came_to_change = (changed.finds.others, changed.finds.are_others, changed.finds.begins)

    pub goes_by_change : (origin : LakeOrigin) → old.origin ≡ Some origin → GoesOn origin call old new
    goes_by_change origin from =
        let opened = same_opened origin old changed.found from changed.finds in
        let same = changed.leaves.0.opened ∙ opened in
        let left_is : changed.left.history ≡ new.seen = sym (ap (λ (s : LakeSeat). s.seen) changed.seat) in
        let law = legal_of origin changed.left new.seen same left_is changed.holds in
        let own = entries_by by (making changed.found) result in
        let mine = own_entries by (making changed.found) result in
        record {
          from = from;
          sound = law.0;
          legal = law.1;
          added = changed.finds.others ++ own;
          seen = entry_stands ∙ ap (λ xs. xs ++ own) changed.finds.begins ∙ append_assoc old.seen changed.finds.others own;
          of_call = All-append (λ (e : HistoryEntry). e.by.seat ≡ old.number → e.by.call ≡ call) changed.finds.others own
              (others_of_call old.number call changed.finds.others changed.finds.are_others)
              (λ k e within same_seat. ap (λ (b : By). b.call) (mine k e within));
          alone = λ is. All-append (λ (e : HistoryEntry). e.by.seat ≡ old.number) changed.finds.others own
              (subst (λ es. All (λ (e : HistoryEntry). e.by.seat ≡ old.number) es) (sym (changed.finds.alone is)) (All-nil _))
              (λ k e within. ap (λ (b : By). b.seat) (mine k e within));
          seat = changed.seat
              ∙ ap (λ es. seat_after old es (with_entry old.mine (added_by by (making changed.found) result))) left_is
              ∙ ap (λ es. seat_after old new.seen es) (sym (ap (λ (s : LakeSeat). s.mine) changed.seat));
          knew = changed.finds.own;
          own = changed.own;
        }

    pub answer_changed : (Q : State → VersionsGiven → Type 0) (origin : LakeOrigin) → old.origin ≡ Some origin
        → ((l : LakeValue K) → Answers l → Q (state l) (versions l))
        → Q (state_at origin changed.found.history) (given_at origin changed.found.history)
    answer_changed Q origin from says =
        as_found origin old changed.found from changed.finds Q changed.found.history refl (says changed.found changed.answer)

-- ---- lakes that a seat may find

-- what it may find behind a reading it might have found before it
pub finds_before : {K : Type 0} (view : KeeperView K) (old new : LakeSeat) (Answers : LakeValue K → Type 0) → IsRead view old new Answers
    → (found : LakeValue K) → Finds view new found → Finds view old found
finds_before view old new Answers read found finds =
    let number : new.number ≡ old.number = ap (λ (s : LakeSeat). s.number) read.seat in
    let alone : new.alone ≡ old.alone = ap (λ (s : LakeSeat). s.alone) read.seat in
    let seen : new.seen ≡ read.found.history = ap (λ (s : LakeSeat). s.seen) read.seat in
    record {
      origin = sym (ap (λ (s : LakeSeat). s.origin) read.seat) ∙ finds.origin;
      holds = finds.holds;
      others = read.finds.others ++ finds.others;
      begins = finds.begins
          ∙ ap (λ xs. xs ++ finds.others) (seen ∙ read.finds.begins)
          ∙ append_assoc old.seen read.finds.others finds.others;
      are_others = All-append (λ (e : HistoryEntry). e.by.seat ≢ old.number) read.finds.others finds.others read.finds.are_others
          (subst (λ n. All (λ (e : HistoryEntry). e.by.seat ≢ n) finds.others) number finds.are_others);
      alone = λ is. ap (λ xs. xs ++ finds.others) (read.finds.alone is) ∙ finds.alone (alone ∙ is);
      own = read.finds.own;
    }

-- entries that are all of a seat and of others are none
none_of_both : (seat : ℕ) (xs : List HistoryEntry) → All (λ (e : HistoryEntry). e.by.seat ≢ seat) xs → All (λ (e : HistoryEntry). e.by.seat ≡ seat) xs → xs ≡ []
none_of_both seat [] others own = refl
none_of_both seat (x ∷ xs) others own =
    absurd (All-head (λ (e : HistoryEntry). e.by.seat ≢ seat) x xs others (All-head (λ (e : HistoryEntry). e.by.seat ≡ seat) x xs own))

-- so it is behind entries of others in a call
pub finds_since : {K : Type 0} (view : KeeperView K) (origin : LakeOrigin) (call : ℕ) (old new : LakeSeat) → GoesOn origin call old new
    → Came lake_rules (caller old.number call) old.seen new.seen → (found : LakeValue K) → Finds view new found → Finds view old found
finds_since view origin call old new goes came found finds =
    let number : new.number ≡ old.number = ap (λ (s : LakeSeat). s.number) goes.seat in
    let alone : new.alone ≡ old.alone = ap (λ (s : LakeSeat). s.alone) goes.seat in
    let same : goes.added ≡ came.0 = append_cancel_left old.seen goes.added came.0 (sym goes.seen ∙ came.2) in
    record {
      origin = sym (ap (λ (s : LakeSeat). s.origin) goes.seat) ∙ finds.origin;
      holds = finds.holds;
      others = came.0 ++ finds.others;
      begins = finds.begins ∙ ap (λ xs. xs ++ finds.others) came.2 ∙ append_assoc old.seen came.0 finds.others;
      are_others = All-append (λ (e : HistoryEntry). e.by.seat ≢ old.number) came.0 finds.others came.1
          (subst (λ n. All (λ (e : HistoryEntry). e.by.seat ≢ n) finds.others) number finds.are_others);
      alone = λ is.
          ap (λ xs. xs ++ finds.others) (none_of_both old.number came.0 came.1
          (subst (λ xs. All (λ (e : HistoryEntry). e.by.seat ≡ old.number) xs) same (goes.alone is)))
          ∙ finds.alone (alone ∙ is);
      own = goes.knew;
    }
