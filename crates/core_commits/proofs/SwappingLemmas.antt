-- What a new head answers and leaves.
use Rattle.std.proofs.Common.{◌≡◌, ◌⊎◌, ◌+◌, ℕ, List, inl, inr, refl, sym, ap, subst, ◌∙◌, arith}
use Rattle.std.specs.Prelude.{Option, Some, None, Result, Ok, Err, IsErrAnd, IsSomeAnd, false, is_some, option_and_then, option_map}
use Rattle.std.specs.FinMap.{get}
use Rattle.byte_map.proofs.ValuesLemmas.{get_map_values}
use Rattle.lake_base.specs.Names.{is_like_id}
use Rattle.lake_base.specs.declared.digest.Digest.{Digest}
use Rattle.lake_values.specs.Commit.{AboutValue, CommitRecordValue}
use Rattle.lake_format.specs.Spelling.{commit_id}
use Rattle.lake_model.specs.declared.fault.StepFault.{StepFault}
use Rattle.lake_model.specs.declared.fault.StepFault.TheVariants.{StoreFault, NoMemory}
use Rattle.lake_model.specs.declared.history.By.{By}
use Rattle.lake_model.specs.declared.history.Operation.{Operation}
use Rattle.keeper.specs.declared.put.Put.{Put}
use Rattle.lake_model.specs.declared.reply.SwapKind.{SwapKind}
use Rattle.lake_model.specs.Commits.{record_of}
use Rattle.lake_model.specs.Refusals.{Causes, Clash, IsRefusal, first_cause}
use Rattle.lake_model.specs.Soundness.{IsSound}
use Rattle.lake_model.specs.Steps.{IsReplyOf, IsSwapReply, new_commit as model_commit, swap_causes, swap_operation, swap_rule}
use Rattle.lake_model.specs.Versions.{VersionsGiven}
use Rattle.core_state.specs.BranchStates.{BranchStateValue, branch_of}
use Rattle.core_state.specs.declared.lake.LakeState.{LakeState}
use Rattle.core_state.specs.LakeStates.{LakeStateValue, lake_value, state_of}
use Rattle.core_state.specs.NewCommits.{NewCommit, commit_of_draft}
use Rattle.core_state.specs.RepositoryStates.{RepositoryStateValue, repository_of}
use Rattle.core_changes.specs.LakeChanges.{after_fault, after_new_head}
use Rattle.core_puts.specs.Puts.{new_head_puts}
use Rattle.core_puts.specs.KeptChanges.{IsFaulted, Keeps, LeavesParts, Making, Parts}
use Rattle.core_puts.proofs.KeptLemmas.{refused_parts, same_before, starved_parts}
use Rattle.core_puts.specs.KeeperViews.{KeeperView}
use Rattle.core_commits.specs.KeptHeads.{commit_added}
use Rattle.core_commits.specs.Making.{MayHaveTried, head_answer, head_making}
use Rattle.core_commits.specs.HeadOperations.{draft_for}
use Rattle.core_commits.specs.Testing.{AsksForHead, drafted_in}

-- ---- what a refusal leaves

module _ {K : Type 0} (view : KeeperView K) (by : By) (made : Option Making) (parts : Parts K) where
  pub refused_leaves : {X : Type 0} (answer : Result X StepFault) (fault : StepFault) → IsErrAnd answer (λ e. e ≡ fault)
      → (fault ≡ NoMemory) ⊎ IsRefusal fault → LeavesParts view by made answer parts parts
  refused_leaves answer fault same (inl memory) =
      starved_parts view parts parts by made answer (subst (λ f. IsErrAnd answer (λ e. e ≡ f)) memory same)
      (same_before view parts parts refl refl refl)
  refused_leaves answer fault same (inr refusal) = refused_parts view parts parts by made answer fault same refusal refl

-- the change by which a new commit becomes the head
abbrev pub head_of : (repo branch : List ℕ) → SwapKind → AboutValue → LakeState → NewCommit → Making
head_of repo branch swap about present new = record {
  operation = swap_operation repo branch swap about;
  after = after_new_head repo branch new;
  puts = new_head_puts repo branch new present.names.files (lake_value present);
}

-- the keeper refused it, which was called with room made in the lake
module _ {K : Type 0} (view : KeeperView K) (by : By) (repo branch : List ℕ) (swap : SwapKind) (about : AboutValue) (new : NewCommit)
    (old after : Parts K) (room : LakeState) (drafted : drafted_in repo branch swap about (lake_value old.present) ≡ Some new)
    (same : lake_value room ≡ lake_value old.present) where
  unkept_parts : (X : Type 0) (fault : StepFault)
      → Keeps {X = Unit {0}} view by
      (commit_added repo new (swap_operation repo branch swap about) (new_head_puts repo branch new old.present.names.files (lake_value old.present)))
      (Err fault) (record old { present = room }) after
      → LeavesParts {X = X} view by (head_making repo branch swap about old.present) (Err fault) old after
  unkept_parts X StoreFault keeps =
      subst (λ o. IsSomeAnd o (λ m. IsFaulted view by m old after)) (sym (ap (option_map (head_of repo branch swap about old.present)) drafted))
      (record {
        history = keeps.history;
        present = keeps.present ∙ ap after_fault same;
        kept = keeps.kept;
        once = keeps.once;
        successes = keeps.successes;
        rose = keeps.rose;
        keeper = keeps.keeper;
      })
  unkept_parts X NoMemory keeps = record {
    history = keeps.history;
    present = keeps.present ∙ same;
    kept = keeps.kept;
    calls = keeps.calls;
    successes = keeps.successes;
    quiet = keeps.quiet;
    keeper = keeps.keeper;
  }
  unkept_parts X fault keeps = absurd keeps

  pub unkept_leaves : {X : Type 0} (operation : Operation) (puts : List Put) → operation ≡ swap_operation repo branch swap about
      → puts ≡ new_head_puts repo branch new old.present.names.files (lake_value old.present) → (fault : StepFault)
      → Keeps {X = Unit {0}} view by (commit_added repo new operation puts) (Err fault) (record old { present = room }) after
      → (answer : Result X StepFault) → IsErrAnd answer (λ e. e ≡ fault)
      → LeavesParts view by (head_making repo branch swap about old.present) answer old after
  unkept_leaves {X} operation puts made put fault keeps (Err e) is =
      subst (λ f. LeavesParts {X = X} view by (head_making repo branch swap about old.present) (Err f) old after) (sym is)
      (unkept_parts X fault
      (subst (λ ps. Keeps {X = Unit {0}} view by (commit_added repo new (swap_operation repo branch swap about) ps) (Err fault)
      (record old { present = room }) after) put
      (subst (λ o. Keeps {X = Unit {0}} view by (commit_added repo new o puts) (Err fault) (record old { present = room }) after) made keeps)))
  unkept_leaves operation puts made put fault keeps (Ok x) is = absurd is

-- a refusal tells nothing of the repository
module _ (repo : List ℕ) (drafted : Option NewCommit) (l : LakeStateValue) where
  same_may : (X : Type 0) (fault : StepFault) → IsRefusal fault → MayHaveTried {X = X} repo drafted (Err fault) l
  same_may X NoMemory is = tt
  same_may X StoreFault is = absurd is
  same_may X fault is = tt

  pub refused_may : {X : Type 0} (answer : Result X StepFault) (fault : StepFault) → IsErrAnd answer (λ e. e ≡ fault)
      → (fault ≡ NoMemory) ⊎ IsRefusal fault → MayHaveTried repo drafted answer l
  refused_may {X} (Err e) fault same (inl memory) =
      subst (λ f. MayHaveTried {X = X} repo drafted (Err f) l) (sym (same ∙ memory)) tt
  refused_may {X} (Err e) fault same (inr refusal) = same_may X e (subst IsRefusal (sym same) refusal)
  refused_may (Ok x) fault same why = absurd same

-- ---- what is answered

abbrev pub Answer : Type 0
Answer = Result (ℕ × Digest × CommitRecordValue) StepFault

-- a commit with its id, and what is told of a new one
abbrev with_id : CommitRecordValue → Digest × CommitRecordValue
with_id commit = (commit_id commit, commit)

abbrev told_of : NewCommit → Digest × CommitRecordValue
told_of new = (new.id, new.content)

module _ (l : LakeStateValue) (given : VersionsGiven) (repo branch : List ℕ) (version settings : ℕ) (swap : SwapKind) (about : AboutValue) where
  abbrev causes : Option Clash → Causes
  causes clash = swap_causes (state_of l) given repo branch version settings (swap_rule swap about) clash

  abbrev value : Option (Digest × CommitRecordValue)
  value = option_map with_id (model_commit (state_of l) repo branch (swap_rule swap about))

  abbrev Replies : Answer → Type 0
  Replies answer = IsSwapReply (state_of l) given repo branch version settings (swap_rule swap about) (head_answer answer)

  told : (clash : Option Clash) (fault : StepFault) → first_cause (causes clash) ≡ Some fault → IsRefusal fault
      → IsReplyOf (state_of l) (causes clash) value (Err fault)
  told clash NoMemory is refusal = absurd refusal
  told clash StoreFault is refusal = absurd refusal
  told clash fault is refusal = is

  abbrev Each : Type 0
  Each = (clash : Option Clash) (fault : StepFault) → first_cause (causes clash) ≡ Some fault → IsRefusal fault

  -- the test refused it
  pub refused_reply : {Y : Type 0} (fault : StepFault) → AsksForHead {X = Y} l given repo branch version settings swap about (Err fault) → Each
      → (answer : Answer) → IsErrAnd answer (λ e. e ≡ fault) → Replies answer
  refused_reply fault asks each (Err e) same = (
    asks.clash,
    asks.there,
    elim asks.tells [
      | inl memory ↦ subst (λ f. IsReplyOf (state_of l) (causes asks.clash) value (Err f)) (sym (same ∙ memory)) tt
      | inr is ↦ told asks.clash e (is ∙ ap Some (sym same)) (each asks.clash e (is ∙ ap Some (sym same)))
    ],
  )
  refused_reply fault asks each (Ok x) same = absurd same

  pub refusal_of : {Y : Type 0} (fault : StepFault) → AsksForHead {X = Y} l given repo branch version settings swap about (Err fault) → Each
      → (fault ≡ NoMemory) ⊎ IsRefusal fault
  refusal_of fault asks each = elim asks.tells [ inl memory ↦ inl memory | inr is ↦ inr (each asks.clash fault is) ]

  module _ {Y : Type 0} (y : Y) (asks : AsksForHead {X = Y} l given repo branch version settings swap about (Ok y)) where
    -- it passed, and memory ran out
    pub starved_reply : (answer : Answer) → IsErrAnd answer (λ e. e ≡ NoMemory) → Replies answer
    starved_reply (Err e) same = (asks.clash, asks.there, subst (λ f. IsReplyOf (state_of l) (causes asks.clash) value (Err f)) (sym same) tt)
    starved_reply (Ok x) same = absurd same

    -- or the keeper refused it
    unkept : {K : Type 0} (view : KeeperView K) (by : By) (making : Making) (before after : Parts K) (fault : StepFault)
        → Keeps {X = Unit {0}} view by making (Err fault) before after
        → IsReplyOf (state_of l) (causes asks.clash) value (Err fault)
    unkept view by making before after StoreFault keeps = asks.tells
    unkept view by making before after NoMemory keeps = tt
    unkept view by making before after fault keeps = absurd keeps

    pub unkept_reply : {K : Type 0} (view : KeeperView K) (by : By) (making : Making) (before after : Parts K) (fault : StepFault)
        → Keeps {X = Unit {0}} view by making (Err fault) before after
        → (answer : Answer) → IsErrAnd answer (λ e. e ≡ fault) → Replies answer
    unkept_reply view by making before after fault keeps (Err e) same = (
      asks.clash,
      asks.there,
      subst (λ f. IsReplyOf (state_of l) (causes asks.clash) value (Err f)) (sym same) (unkept view by making before after fault keeps),
    )
    unkept_reply view by making before after fault keeps (Ok x) same = absurd same

    -- or it was made
    pub made_reply : (new : NewCommit) → drafted_in repo branch swap about l ≡ Some new → (place : ℕ) → place ≡ l.entries + 1
        → (id : Digest) → id ≡ new.id → (content : CommitRecordValue) → content ≡ new.content → Replies (Ok (place, id, content))
    made_reply new is place next id same content also = (
      asks.clash,
      asks.there,
      (asks.tells, (next, by_draft ∙ ap (option_map told_of) is ∙ (λ i. Some (sym same i, sym also i)))),
    )
      where
        on_branch : (r : RepositoryStateValue) (o : Option BranchStateValue)
            → option_map with_id
            (option_map (λ b. record_of l.cut r.commits ((swap_rule swap about).draft (repository_of r) b)) (option_map branch_of o))
            ≡ option_map told_of (option_map (λ b. commit_of_draft l.cut r.commits (draft_for swap about r b)) o)
        on_branch r None = refl
        on_branch r (Some b) = refl

        in_repository : (o : Option RepositoryStateValue)
            → option_map with_id
            (option_and_then (λ r. option_map (λ b. record_of l.cut r.commits ((swap_rule swap about).draft r b)) (get r.branches branch))
            (option_map repository_of o))
            ≡ option_map told_of
            (option_and_then (λ r. option_map (λ b. commit_of_draft l.cut r.commits (draft_for swap about r b)) (get r.branches branch)) o)
        in_repository None = refl
        in_repository (Some r) =
            ap (λ o. option_map with_id (option_map (λ b. record_of l.cut r.commits ((swap_rule swap about).draft (repository_of r) b)) o))
            (get_map_values branch_of r.branches branch) ∙ on_branch r (get r.branches branch)

        by_draft : value ≡ option_map told_of (drafted_in repo branch swap about l)
        by_draft =
            ap (λ o. option_map with_id
            (option_and_then (λ r. option_map (λ b. record_of l.cut r.commits ((swap_rule swap about).draft r b)) (get r.branches branch)) o))
            (get_map_values repository_of l.repositories repo) ∙ in_repository (get l.repositories repo)

-- ---- a branch that is there has a name like no id

module _ (l : LakeStateValue) (sound : IsSound (state_of l)) (repo branch : List ℕ) (swap : SwapKind) (about : AboutValue) (new : NewCommit) where
  plain_on : (r : RepositoryStateValue) → get l.repositories repo ≡ Some r → (o : Option BranchStateValue) → get r.branches branch ≡ o
      → option_map (λ b. commit_of_draft l.cut r.commits (draft_for swap about r b)) o ≡ Some new → is_like_id branch ≡ false
  plain_on r at None on is = absurd cc
  plain_on r at (Some b) on is =
      (sound.repositories repo (repository_of r) (get_map_values repository_of l.repositories repo ∙ ap (option_map repository_of) at)).plain_branches branch
      (ap is_some (get_map_values branch_of r.branches branch ∙ ap (option_map branch_of) on))

  plain_in : (o : Option RepositoryStateValue) → get l.repositories repo ≡ o
      → option_and_then (λ r. option_map (λ b. commit_of_draft l.cut r.commits (draft_for swap about r b)) (get r.branches branch)) o ≡ Some new
      → is_like_id branch ≡ false
  plain_in None at is = absurd cc
  plain_in (Some r) at is = plain_on r at (get r.branches branch) refl is

  pub plain_there : drafted_in repo branch swap about l ≡ Some new → is_like_id branch ≡ false
  plain_there is = plain_in (get l.repositories repo) refl is
