-- A setting that is set to a call's own value: a copy of it was handed to the step.
use Rattle.std.proofs.Common.{◌≡◌, ℕ, List, Some, None, Result, Ok, length, subst}
use Rattle.lake_values.specs.declared.settings.HookRule.{HookRule}
use Rattle.lake_values.specs.declared.settings.Note.TheVariants as note
use Rattle.lake_values.specs.declared.settings.NoteName.TheVariants as name
use Rattle.lake_model.specs.declared.fault.StepFault.{StepFault}
use Rattle.lake_model.specs.Readings.{◌then◌}
use Rattle.lake_model.specs.Refusals.{GivesOrFails}
use Rattle.lake_model.specs.Steps.{set_note_reply}
use Rattle.core_state.specs.LakeStates.{lake_value}
use Rattle.core_puts.specs.KeeperViews.{KeeperView}
use Rattle.lake_core.specs.Lakes.{state, versions}
use Rattle.lake_core.specs.Makings as makes
use Rattle.shared_lake.specs.SeatSteps.{IsChanged, LakeSeat}
use Rattle.lake_calls.specs.CallRefusals.{names_of}
use Rattle.lake_calls.specs.declared.call.Call.TheVariants.{Settings}
use Rattle.lake_calls.specs.declared.call.SettingCall.TheVariants.{SetProtection, SetHooks}
use Rattle.lake_calls.specs.declared.reply.Done.{Done}
use Rattle.lake_calls.specs.declared.reply.Done.TheVariants as done
use Rattle.call_readings.specs.declared.answers.Answered.{Answered}
use Rattle.call_readings.specs.StepOutcomes.{IsReplied}
use Rattle.call_changes.specs.AnsweredChanges.{IsChangeAnswered}
use Rattle.call_changes.proofs.ChangeLemmas.{answered}
use Rattle.call_changes.proofs.DecisionLemmas.{set_hooks_decided, set_protection_decided}

module _ {K : Type 0} (view : KeeperView K) (old new : LakeSeat) (number moment : ℕ) where
  abbrev SetsProtection : List ℕ → List (List ℕ) → Result ℕ StepFault → Type 0
  SetsProtection repo protection result = IsChanged view (record { seat = old.number; call = number }) old new
      (λ l. Some (makes.set_note repo name.Protection (Some (note.Protection protection)) (lake_value l.present)))
      (λ l. GivesOrFails result (set_note_reply (state l) (versions l) repo None name.Protection (Some (note.Protection protection)))) result

  protection_answered : (repo : List ℕ) (protection : List (List ℕ)) (result : Result ℕ StepFault) → SetsProtection repo protection result
      → (outcome : Result Done StepFault)
      → outcome ≡ (result then λ at. Ok done.ProtectionSet) → (answer : Answered)
      → IsReplied (names_of (Settings (SetProtection repo protection))) outcome answer.reply → answer.position ≡ length new.seen
      → answer.edge ≡ length new.seen → IsChangeAnswered old new number (Settings (SetProtection repo protection)) moment answer
  protection_answered repo protection result changed =
      answered view old new number (Settings (SetProtection repo protection)) moment
      (λ l. Some (makes.set_note repo name.Protection (Some (note.Protection protection)) (lake_value l.present)))
      (λ l. GivesOrFails result (set_note_reply (state l) (versions l) repo None name.Protection (Some (note.Protection protection))))
      (λ at. done.ProtectionSet) result changed
      (set_protection_decided repo protection moment (lake_value changed.found.present) (state changed.found) (versions changed.found) result changed.answer)

  pub set_protection_answered : (repo : List ℕ) (protection copy : List (List ℕ)) → copy ≡ protection → (result : Result ℕ StepFault)
      → SetsProtection repo copy result
      → (outcome : Result Done StepFault) → outcome ≡ (result then λ at. Ok done.ProtectionSet) → (answer : Answered)
      → IsReplied (names_of (Settings (SetProtection repo protection))) outcome answer.reply → answer.position ≡ length new.seen → answer.edge ≡ length new.seen
      → IsChangeAnswered old new number (Settings (SetProtection repo protection)) moment answer
  set_protection_answered repo protection copy same result changed =
      protection_answered repo protection result (subst (λ n. SetsProtection repo n result) same changed)

  abbrev SetsHooks : List ℕ → List HookRule → Result ℕ StepFault → Type 0
  SetsHooks repo hooks result = IsChanged view (record { seat = old.number; call = number }) old new
      (λ l. Some (makes.set_note repo name.Hooks (Some (note.Hooks hooks)) (lake_value l.present)))
      (λ l. GivesOrFails result (set_note_reply (state l) (versions l) repo None name.Hooks (Some (note.Hooks hooks)))) result

  hooks_answered : (repo : List ℕ) (hooks : List HookRule) (result : Result ℕ StepFault) → SetsHooks repo hooks result → (outcome : Result Done StepFault)
      → outcome ≡ (result then λ at. Ok done.HooksSet) → (answer : Answered) → IsReplied (names_of (Settings (SetHooks repo hooks))) outcome answer.reply
      → answer.position ≡ length new.seen → answer.edge ≡ length new.seen
      → IsChangeAnswered old new number (Settings (SetHooks repo hooks)) moment answer
  hooks_answered repo hooks result changed =
      answered view old new number (Settings (SetHooks repo hooks)) moment
      (λ l. Some (makes.set_note repo name.Hooks (Some (note.Hooks hooks)) (lake_value l.present)))
      (λ l. GivesOrFails result (set_note_reply (state l) (versions l) repo None name.Hooks (Some (note.Hooks hooks)))) (λ at. done.HooksSet) result changed
      (set_hooks_decided repo hooks moment (lake_value changed.found.present) (state changed.found) (versions changed.found) result changed.answer)

  pub set_hooks_answered : (repo : List ℕ) (hooks copy : List HookRule) → copy ≡ hooks → (result : Result ℕ StepFault) → SetsHooks repo copy result
      → (outcome : Result Done StepFault) → outcome ≡ (result then λ at. Ok done.HooksSet) → (answer : Answered)
      → IsReplied (names_of (Settings (SetHooks repo hooks))) outcome answer.reply → answer.position ≡ length new.seen → answer.edge ≡ length new.seen
      → IsChangeAnswered old new number (Settings (SetHooks repo hooks)) moment answer
  set_hooks_answered repo hooks copy same result changed = hooks_answered repo hooks result (subst (λ n. SetsHooks repo n result) same changed)
