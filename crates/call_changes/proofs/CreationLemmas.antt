-- A branch, a tag or a repository that is made of a call's own names: copies of them were handed to the step.
use Rattle.std.proofs.Common.{◌≡◌, ℕ, List, Some, Result, Ok, length, subst}
use Rattle.lake_base.specs.declared.digest.Digest.{Digest}
use Rattle.commit_graph.specs.Expressions.{RefExprValue}
use Rattle.lake_model.specs.declared.fault.StepFault.{StepFault}
use Rattle.lake_model.specs.declared.reply.RepoInfo.{RepoInfo}
use Rattle.lake_model.specs.Readings.{◌then◌}
use Rattle.lake_model.specs.Steps.{IsCreateBranchReply, IsCreateRepositoryReply, IsCreateTagReply}
use Rattle.core_state.specs.LakeStates.{lake_value}
use Rattle.core_puts.specs.KeeperViews.{KeeperView}
use Rattle.lake_core.specs.Lakes.{state}
use Rattle.lake_core.specs.Makings as makes
use Rattle.shared_lake.specs.SeatSteps.{IsChanged, LakeSeat}
use Rattle.lake_calls.specs.Calls.{NewNameCall, NewRepositoryCall}
use Rattle.lake_calls.specs.CallRefusals.{names_of}
use Rattle.lake_calls.specs.declared.call.Call.TheVariants.{Names}
use Rattle.lake_calls.specs.declared.names.NamingCall.TheVariants as naming
use Rattle.lake_calls.specs.declared.reply.Done.{Done}
use Rattle.lake_calls.specs.declared.reply.Done.TheVariants as done
use Rattle.call_readings.specs.declared.answers.Answered.{Answered}
use Rattle.call_readings.specs.StepOutcomes.{IsReplied}
use Rattle.call_changes.specs.AnsweredChanges.{IsChangeAnswered}
use Rattle.call_changes.proofs.ChangeLemmas.{answered, tried_there}
use Rattle.call_changes.proofs.DecisionLemmas.{create_branch_decided, create_repository_decided, create_tag_decided}

module _ {K : Type 0} (view : KeeperView K) (old new : LakeSeat) (number moment : ℕ) where
  -- ---- a branch

  abbrev pub MakesBranch : (repo name : List ℕ) → RefExprValue → Result (ℕ × Digest) StepFault → Type 0
  MakesBranch repo name e result = IsChanged view (record { seat = old.number; call = number }) old new
      (λ l. makes.create_branch repo name e (lake_value l.present)) (λ l. IsCreateBranchReply (state l) repo name e result) result

  branch_answered : (c : NewNameCall) (result : Result (ℕ × Digest) StepFault) → MakesBranch c.repo c.name c.source.e result → (outcome : Result Done StepFault)
      → outcome ≡ (result then λ (x : ℕ × Digest). Ok (done.BranchCreated x.1)) → (answer : Answered)
      → IsReplied (names_of (Names (naming.CreateBranch c))) outcome answer.reply → answer.position ≡ length new.seen → answer.edge ≡ length new.seen
      → IsChangeAnswered old new number (Names (naming.CreateBranch c)) moment answer
  branch_answered c result changed =
      let tells : ℕ × Digest → Done = λ x. done.BranchCreated x.1 in
      let tried = tried_there view old new number (Names (naming.CreateBranch c)) moment
      (λ l. makes.create_branch c.repo c.name c.source.e (lake_value l.present)) (λ l. IsCreateBranchReply (state l) c.repo c.name c.source.e result)
      tells result changed in
      answered view old new number (Names (naming.CreateBranch c)) moment (λ l. makes.create_branch c.repo c.name c.source.e (lake_value l.present))
      (λ l. IsCreateBranchReply (state l) c.repo c.name c.source.e result) tells result changed
      (create_branch_decided c moment (lake_value changed.found.present) (state changed.found) changed.finds.holds.stands.replayed result changed.answer tried)

  pub create_branch_answered : (c : NewNameCall) (name : List ℕ) (e : RefExprValue) → name ≡ c.name → e ≡ c.source.e
      → (result : Result (ℕ × Digest) StepFault) → MakesBranch c.repo name e result → (outcome : Result Done StepFault)
      → outcome ≡ (result then λ (x : ℕ × Digest). Ok (done.BranchCreated x.1)) → (answer : Answered)
      → IsReplied (names_of (Names (naming.CreateBranch c))) outcome answer.reply → answer.position ≡ length new.seen → answer.edge ≡ length new.seen
      → IsChangeAnswered old new number (Names (naming.CreateBranch c)) moment answer
  create_branch_answered c name e same_name same_e result changed =
      branch_answered c result
      (subst (λ x. MakesBranch c.repo c.name x result) same_e (subst (λ n. MakesBranch c.repo n e result) same_name changed))

  -- ---- a tag

  abbrev pub MakesTag : (repo name : List ℕ) → RefExprValue → Result (ℕ × Digest) StepFault → Type 0
  MakesTag repo name e result = IsChanged view (record { seat = old.number; call = number }) old new
      (λ l. makes.create_tag repo name e (lake_value l.present)) (λ l. IsCreateTagReply (state l) repo name e result) result

  abbrev tag_told : List ℕ → ℕ × Digest → Done
  tag_told name x = done.TagCreated (record { name = name; commit = x.1 })

  tag_answered : (c : NewNameCall) (result : Result (ℕ × Digest) StepFault) → MakesTag c.repo c.name c.source.e result → (outcome : Result Done StepFault)
      → outcome ≡ (result then λ (x : ℕ × Digest). Ok (tag_told c.name x)) → (answer : Answered)
      → IsReplied (names_of (Names (naming.CreateTag c))) outcome answer.reply → answer.position ≡ length new.seen → answer.edge ≡ length new.seen
      → IsChangeAnswered old new number (Names (naming.CreateTag c)) moment answer
  tag_answered c result changed =
      let tried = tried_there view old new number (Names (naming.CreateTag c)) moment (λ l. makes.create_tag c.repo c.name c.source.e (lake_value l.present))
      (λ l. IsCreateTagReply (state l) c.repo c.name c.source.e result) (tag_told c.name) result changed in
      answered view old new number (Names (naming.CreateTag c)) moment (λ l. makes.create_tag c.repo c.name c.source.e (lake_value l.present))
      (λ l. IsCreateTagReply (state l) c.repo c.name c.source.e result) (tag_told c.name) result changed
      (create_tag_decided c moment (lake_value changed.found.present) (state changed.found) changed.finds.holds.stands.replayed result changed.answer tried)

  pub create_tag_answered : (c : NewNameCall) (name told : List ℕ) (e : RefExprValue) → name ≡ c.name → told ≡ c.name → e ≡ c.source.e
      → (result : Result (ℕ × Digest) StepFault) → MakesTag c.repo name e result → (outcome : Result Done StepFault)
      → outcome ≡ (result then λ (x : ℕ × Digest). Ok (tag_told told x)) → (answer : Answered)
      → IsReplied (names_of (Names (naming.CreateTag c))) outcome answer.reply → answer.position ≡ length new.seen → answer.edge ≡ length new.seen
      → IsChangeAnswered old new number (Names (naming.CreateTag c)) moment answer
  create_tag_answered c name told e same_name same_told same_e result changed outcome is =
      tag_answered c result
      (subst (λ x. MakesTag c.repo c.name x result) same_e (subst (λ n. MakesTag c.repo n e result) same_name changed)) outcome
      (subst (λ n. outcome ≡ (result then λ (x : ℕ × Digest). Ok (tag_told n x))) same_told is)

  -- ---- a repository

  abbrev pub MakesRepository : (name branch : List ℕ) → Result ℕ StepFault → Type 0
  MakesRepository name branch result = IsChanged view (record { seat = old.number; call = number }) old new
      (λ l. Some (makes.create_repo name branch moment (lake_value l.present))) (λ l. IsCreateRepositoryReply (state l) name branch moment result) result

  abbrev info_of : NewRepositoryCall → RepoInfo
  info_of c = record { name = c.name; default_branch = c.default_branch; created = moment }

  repository_answered : (c : NewRepositoryCall) (result : Result ℕ StepFault) → MakesRepository c.name c.default_branch result
      → (outcome : Result Done StepFault) → outcome ≡ (result then λ at. Ok (done.RepositoryCreated (info_of c))) → (answer : Answered)
      → IsReplied (names_of (Names (naming.CreateRepository c))) outcome answer.reply → answer.position ≡ length new.seen → answer.edge ≡ length new.seen
      → IsChangeAnswered old new number (Names (naming.CreateRepository c)) moment answer
  repository_answered c result changed =
      answered view old new number (Names (naming.CreateRepository c)) moment
      (λ l. Some (makes.create_repo c.name c.default_branch moment (lake_value l.present)))
      (λ l. IsCreateRepositoryReply (state l) c.name c.default_branch moment result) (λ at. done.RepositoryCreated (info_of c)) result changed
      (create_repository_decided c moment (lake_value changed.found.present) (state changed.found) result changed.answer)

  pub create_repository_answered : (c : NewRepositoryCall) (name branch : List ℕ) (told : RepoInfo) → name ≡ c.name → branch ≡ c.default_branch
      → told ≡ info_of c → (result : Result ℕ StepFault) → MakesRepository name branch result
      → (outcome : Result Done StepFault) → outcome ≡ (result then λ at. Ok (done.RepositoryCreated told)) → (answer : Answered)
      → IsReplied (names_of (Names (naming.CreateRepository c))) outcome answer.reply → answer.position ≡ length new.seen → answer.edge ≡ length new.seen
      → IsChangeAnswered old new number (Names (naming.CreateRepository c)) moment answer
  create_repository_answered c name branch told same_name same_branch same_told result changed outcome is =
      repository_answered c result
      (subst (λ b. MakesRepository c.name b result) same_branch (subst (λ n. MakesRepository n branch result) same_name changed)) outcome
      (subst (λ info. outcome ≡ (result then λ at. Ok (done.RepositoryCreated info))) same_told is)
