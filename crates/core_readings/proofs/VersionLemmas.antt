-- The versions that a lake in memory has are those that were given.
use Rattle.std.proofs.Common.{◌≡◌, ℕ, cond, List, Some, None, Option, sym, ap, ◌∙◌}
use Rattle.std.specs.Prelude.{Result, Ok, Err}
use Rattle.std.specs.Option.{is_some, option_map_or}
use Rattle.std.specs.FinMap.{contains_key, get}
use Rattle.lake_values.specs.declared.settings.Note.{Note}
use Rattle.lake_values.specs.declared.settings.NoteName.{NoteName}
use Rattle.lake_model.specs.declared.fault.StepFault.{StepFault}
use Rattle.lake_model.specs.declared.fault.StepFault.TheVariants.{NoRef, NoNote}
use Rattle.lake_model.specs.declared.fault.Reference.TheVariants.{Named}
use Rattle.lake_model.specs.NoteChanges.{note_at}
use Rattle.lake_model.specs.Readings.{NoteReply, note_reply, versions_at, versions_reply}
use Rattle.lake_model.specs.State.{Branch, Repository}
use Rattle.lake_model.specs.Versions.{VersionsGiven, settings_version}
use Rattle.lake_model.specs.declared.reply.Versions.{Versions}
use Rattle.core_state.specs.declared.branch.BranchState.{BranchState}
use Rattle.core_state.specs.declared.repository.RepositoryState.{RepositoryState}
use Rattle.core_state.specs.BranchStates.{branch_value}
use Rattle.core_state.specs.Counts.{HasVersions}
use Rattle.core_state.specs.LakeStates.{LakeStateValue, state_of}
use Rattle.core_state.specs.RepositoryStates.{repository_value}
use Rattle.core_readings.proofs.PlacesLemmas.{found_branch, repository_at}
use Rattle.core_readings.proofs.ReplyLemmas.{in_some}

module _ (l : LakeStateValue) (given : VersionsGiven) (has : HasVersions given l) (repo : List ℕ) (r : RepositoryState)
    (there : Some (repository_value r) ≡ get l.repositories repo) where
  abbrev versions_in : List ℕ → Repository → Result Versions StepFault
  versions_in branch q = cond (contains_key q.branches branch) (Ok (versions_at l.entries given repo branch)) (Err (NoRef Named))

  given_settings : r.settings ≡ settings_version given repo
  given_settings = sym (has.settings repo (repository_value r) (sym there))

  pub versions_found : (branch : List ℕ) (b : BranchState) → Some (branch_value b) ≡ get (repository_value r).branches branch
      → Ok (record { at = l.entries; version = b.record.version; settings = r.settings }) ≡ versions_reply (state_of l) given repo branch
  versions_found branch b is =
      let version = sym (has.branches repo (repository_value r) branch (branch_value b) (sym there) (sym is)) in
      (λ i. Ok (record { at = l.entries; version = version i; settings = given_settings i }))
      ∙ ap (λ (o : Option Branch). cond (is_some o) (Ok (versions_at l.entries given repo branch)) (Err (NoRef Named)))
      (sym (found_branch (repository_value r) branch (Some b) is))
      ∙ in_some l repo (versions_in branch) r there

  pub versions_missing : (branch : List ℕ) → None ≡ get (repository_value r).branches branch → Err (NoRef Named) ≡ versions_reply (state_of l) given repo branch
  versions_missing branch is =
      ap (λ (o : Option Branch). cond (is_some o) (Ok (versions_at l.entries given repo branch)) (Err (NoRef Named)))
      (sym (found_branch (repository_value r) branch None is))
      ∙ in_some l repo (versions_in branch) r there

  abbrev note_in : NoteName → Repository → Result NoteReply StepFault
  note_in name q =
      option_map_or (λ note. Ok (record { at = l.entries; settings = settings_version given repo; note = note })) (note_at name q.notes) (Err NoNote)

  pub note_found : (name : NoteName) (note : Note) → Some note ≡ note_at name (repository_at r).notes
      → Ok (record { at = l.entries; settings = r.settings; note = note }) ≡ note_reply (state_of l) given repo name
  note_found name note is =
      (λ i. Ok (record { at = l.entries; settings = given_settings i; note = note }))
      ∙ ap (λ o. option_map_or (λ n. Ok (record { at = l.entries; settings = settings_version given repo; note = n })) o (Err NoNote)) is
      ∙ in_some l repo (note_in name) r there

  pub note_missing : (name : NoteName) → None ≡ note_at name (repository_at r).notes → Err NoNote ≡ note_reply (state_of l) given repo name
  note_missing name is =
      ap (λ o. option_map_or (λ n. Ok (record { at = l.entries; settings = settings_version given repo; note = n })) o (Err NoNote)) is
      ∙ in_some l repo (note_in name) r there
