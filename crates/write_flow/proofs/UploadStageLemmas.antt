-- What an upload stages.
use Rattle.std.proofs.Common.{◌≡◌, inl, inr, ℕ, List, [], ◌∷◌, ◌++◌, Option, Some, Result, Ok, Err, refl, sym, ap, subst, ◌∙◌, append_assoc}
use Rattle.std.specs.Prelude.{All}
use Rattle.std.proofs.lemmas.List.{append-nil}
use Rattle.std.proofs.lemmas.List.Elements.{All-append, All-cons, All-nil}
use Rattle.lake_values.specs.Entry.{EntryValue}
use Rattle.lake_values.specs.declared.entry.Change.TheVariants as change
use Rattle.lake_model.specs.declared.fault.StepFault.{StepFault}
use Rattle.lake_model.specs.declared.fault.StepFault.TheVariants as step
use Rattle.lake_model.specs.declared.history.HistoryEntry.{HistoryEntry}
use Rattle.lake_model.specs.Refusals.{first_cause}
use Rattle.lake_model.specs.Steps.{write_causes}
use Rattle.lake_model.specs.Uncommitted.{put_number}
use Rattle.lake_laws.specs.LiveNumbers.{OperationStages, StagesNumber}
use Rattle.lake_core.specs.declared.standing.LakeOrigin.{LakeOrigin}
use Rattle.shared_lake.specs.SeatSteps.{LakeSeat}
use Rattle.call_placement.specs.Points.{Came}
use Rattle.call_placement.specs.Sessions.{caller}
use Rattle.lake_calls.specs.CallExceptions.{Counts}
use Rattle.lake_calls.specs.LakeRules.{lake_rules}
use Rattle.flow_steps.specs.declared.answer.FlowAnswer.{FlowAnswer}
use Rattle.flow_steps.specs.FlowChanges.{ChangeEnds}
use Rattle.flow_steps.specs.FlowTries.{Guarded, staging}
use Rattle.write_flow.specs.declared.answer.Done.{Done}
use Rattle.write_flow.specs.declared.answer.FlowFault.{FlowFault}
use Rattle.write_flow.specs.declared.answer.FlowFault.TheVariants.{Step}
use Rattle.write_flow.specs.Uploads.{BodyStored, Closed, Dropped, GaveUp, GivesNumber, HasTakenNumber, Starved, StoreFailing, UploadEnds, untold}
use Rattle.write_flow.proofs.LoopLemmas.{AllEnd, ends_of}
use Rattle.write_flow.proofs.UploadEndLemmas.{tries_came}

module _ (seat : ℕ) (P : ℕ → Type 0) where
  -- an entry of the seat stages no other number
  abbrev pub Stages : HistoryEntry → Type 0
  Stages entry = entry.by.seat ≡ seat → (number : ℕ) → StagesNumber number entry → P number

  -- what came stages no other number
  abbrev pub StagesOnly : (from next : List HistoryEntry) → Type 0
  StagesOnly from next = (added : List HistoryEntry) × (next ≡ from ++ added) × All Stages added

  same_only : (from next : List HistoryEntry) → next ≡ from → StagesOnly from next
  same_only from next same = ([], same ∙ sym (append-nil from), All-nil Stages)

  pub both_only : (from now next : List HistoryEntry) → StagesOnly from now → StagesOnly now next → StagesOnly from next
  both_only from now next one two = (
    one.0 ++ two.0,
    two.1 ∙ ap (λ w. w ++ two.0) one.1 ∙ append_assoc from one.0 two.0,
    All-append Stages one.0 two.0 one.2 two.2,
  )

  came_only : (number call : ℕ) (from next : List HistoryEntry) → number ≡ seat → Came lake_rules (caller number call) from next → StagesOnly from next
  came_only number call from next is came = (came.0, came.2, λ k d within own staged stages. absurd (came.1 k d within (own ∙ sym is)))

  entry_only : (from next : List HistoryEntry) (entry : HistoryEntry) → ((number : ℕ) → StagesNumber number entry → P number)
      → next ≡ from ++ entry ∷ [] → StagesOnly from next
  entry_only from next entry only is = (entry ∷ [], is, All-cons Stages entry [] (λ own. only) (All-nil Stages))

  -- ---- its number

  pub taken_only : (repo branch : List ℕ) (call : ℕ) (old new : LakeSeat) (result : Result ℕ StepFault) → old.number ≡ seat
      → HasTakenNumber repo branch call old new result → StagesOnly old.seen new.seen
  taken_only repo branch call old new result is made = by_result result made.ends
    where
      by_result : (result : Result ℕ StepFault) → ChangeEnds made.origin (caller old.number call)
          (λ state. first_cause (write_causes state repo branch)) (GivesNumber repo branch) result old.seen new.seen → StagesOnly old.seen new.seen
      by_result (Ok number) ends =
          both_only old.seen ends.1 new.seen (came_only old.number call old.seen ends.1 is ends.2.came)
          (entry_only ends.1 new.seen _ (λ staged stages. absurd (subst (OperationStages staged) ends.2.makes.1 stages)) ends.3)
      by_result (Err step.StoreFault) ends =
          both_only old.seen ends.2 new.seen (came_only old.number call old.seen ends.2 is ends.3.came)
          (entry_only ends.2 new.seen _ (λ staged stages. absurd stages) ends.4)
      by_result (Err step.NoMemory) ends = came_only old.number call old.seen new.seen is ends
      by_result (Err fault) ends = came_only old.number call old.seen new.seen is ends.0

  -- ---- its object

  module _ (repo branch path : List ℕ) (entry : EntryValue) (call : ℕ) (mid now : LakeSeat) (is : mid.number ≡ seat) where
    abbrev guarded : Guarded
    guarded = staging repo branch path (change.Put entry)

    -- the number of what was put
    abbrev Puts : Type 0
    Puts = (number : ℕ) → put_number (change.Put entry) ≡ Some number → P number

    came_so : (from next : List HistoryEntry) → Came lake_rules (caller mid.number call) from next → StagesOnly from next
    came_so from next came = came_only mid.number call from next is came

    tries_only : (origin : LakeOrigin) (result : Result (Option EntryValue) FlowFault) → ((told : Option EntryValue) → result ≡ Ok told → Puts)
        → AllEnd origin (caller mid.number call) guarded repo branch (λ given. refl) result mid.seen now.seen → StagesOnly mid.seen now.seen
    tries_only origin (Ok told) puts ends =
        let steps = ends.2 in
        both_only mid.seen steps.read now.seen (came_so mid.seen steps.read steps.to_reading)
        (both_only steps.read ends.1 now.seen (came_so steps.read ends.1 steps.to_step)
        (entry_only ends.1 now.seen _ (λ staged stages. puts told refl staged (subst (OperationStages staged) steps.makes.1 stages)) ends.3))
    tries_only origin (Err (Step step.StoreFault)) puts ends =
        let steps = ends.3 in
        both_only mid.seen steps.read now.seen (came_so mid.seen steps.read steps.to_reading)
        (both_only steps.read ends.2 now.seen (came_so steps.read ends.2 steps.to_step)
        (entry_only ends.2 now.seen _ (λ staged stages. absurd stages) ends.4))
    tries_only origin (Err fault) puts ends =
        came_so mid.seen now.seen (tries_came origin (caller mid.number call) guarded repo branch (λ given. refl) fault mid.seen now.seen tt ends)

    of_told : (result : Result EntryValue FlowFault) → ((told : EntryValue) → result ≡ Ok told → Puts) → (told : Option EntryValue)
        → untold result ≡ Ok told → Puts
    of_told (Ok entry) puts told is = puts entry refl
    of_told (Err fault) puts told is = absurd cc

    pub stored_only : (faults : Counts) (paused pauses : Option ℕ) (versions : List ℕ) (result : Result EntryValue FlowFault)
        → ((told : EntryValue) → result ≡ Ok told → Puts) → BodyStored repo branch path entry call faults mid now paused pauses versions result
        → StagesOnly mid.seen now.seen
    stored_only faults paused pauses versions result puts stored = elim stored [
      | inl blocked ↦ same_only mid.seen now.seen (ap (λ (s : LakeSeat). s.seen) blocked.0)
      | inr (inl starving) ↦ same_only mid.seen now.seen (ap (λ (s : LakeSeat). s.seen) starving.0)
      | inr (inr tried) ↦ tries_only tried.0.origin (untold result) (of_told result puts)
          (ends_of tried.0.origin (caller mid.number call) guarded repo branch (λ given. refl) tried.0.versions (untold result) mid.seen tried.0.between
          now.seen tried.0.found tried.0.ends)
    ]

  -- ---- and what it gives up

  gave_only : (call number : ℕ) (behind new : LakeSeat) (fault : FlowFault) (answer : FlowAnswer Done FlowFault) → behind.number ≡ seat
      → GaveUp call number behind new fault answer → StagesOnly behind.seen new.seen
  gave_only call number behind new fault answer is (Dropped origin found goes came none stands answered) =
      both_only behind.seen found new.seen (came_only behind.number call behind.seen found is came)
      (entry_only found new.seen _ (λ staged stages. absurd stages) stands)
  gave_only call number behind new fault answer is (StoreFailing origin found goes came none stands answered) =
      both_only behind.seen found new.seen (came_only behind.number call behind.seen found is came)
      (entry_only found new.seen _ (λ staged stages. absurd stages) stands)
  gave_only call number behind new fault answer is (Starved origin goes came answered) = came_only behind.number call behind.seen new.seen is came
  gave_only call number behind new fault answer is (Closed origin goes came shut answered) = came_only behind.number call behind.seen new.seen is came

  pub ends_only : (call number : ℕ) (behind new : LakeSeat) (stored : Result EntryValue FlowFault) (answer : FlowAnswer Done FlowFault)
      → behind.number ≡ seat → UploadEnds call number behind new stored answer → StagesOnly behind.seen new.seen
  ends_only call number behind new (Ok entry) answer is ends = same_only behind.seen new.seen (ap (λ (s : LakeSeat). s.seen) ends.0)
  ends_only call number behind new (Err (Step step.StoreFault)) answer is ends =
      same_only behind.seen new.seen (ap (λ (s : LakeSeat). s.seen) ends.0)
  ends_only call number behind new (Err fault) answer is ends = gave_only call number behind new fault answer is ends
