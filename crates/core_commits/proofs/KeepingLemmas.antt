-- A commit that is put in its repository, or is there, before the keeper is called; and what that call leaves.
use Rattle.std.proofs.Common.{◌≡◌, ℕ, Bool, true, false, List, refl, sym, ap, subst, ◌∙◌, inl, inr}
use Rattle.std.specs.Prelude.{Some, Result, Ok, Err, is_some}
use Rattle.std.specs.Result.{is_err}
use Rattle.std.specs.FinMap.{get, remove}
use Rattle.lake_base.specs.Maps.{ByteMap}
use Rattle.lake_base.specs.declared.digest.Digest.{Digest}
use Rattle.lake_values.specs.Ancestry.{commit_of}
use Rattle.byte_map.proofs.ByteMapLemmas.{insert_same}
use Rattle.commit_graph.specs.Graphs.{IsSound}
use Rattle.keeper.specs.declared.put.Put.{Put}
use Rattle.lake_model.specs.declared.fault.StepFault.{StepFault}
use Rattle.lake_model.specs.declared.fault.StepFault.TheVariants.{StoreFault, NoMemory}
use Rattle.lake_model.specs.declared.history.By.{By}
use Rattle.lake_model.specs.declared.history.Operation.{Operation}
use Rattle.core_state.specs.declared.lake.LakeState.{LakeState}
use Rattle.core_state.specs.LakeStates.{LakeStateValue, lake_value}
use Rattle.core_state.specs.NewCommits.{NewCommit, with_commit}
use Rattle.core_state.specs.RepositoryStates.{RepositoryStateValue}
use Rattle.core_changes.specs.LakeChanges.{after_fault, in_repository}
use Rattle.core_puts.specs.KeptChanges.{Keeps, Parts, unmade}
use Rattle.core_puts.specs.KeeperViews.{KeeperView}
use Rattle.core_commits.specs.KeptHeads.{MayHave, MayHaveIn, commit_added}
use Rattle.core_commits.specs.HeadOperations.{without_commit}
use Rattle.core_commits.proofs.ChangedLemmas.{changed_back, changed_same, found_changed}
use Rattle.core_commits.proofs.CommitLemmas.{taken_out}

-- ---- a repository that has a commit with its tree, or hasn't
module _ (new : NewCommit) (r : RepositoryStateValue) where
  -- it has it: putting it in changes nothing
  pub has_same : MayHave new r → is_some (commit_of r.commits new.id) ≡ true → with_commit new r ≡ r
  has_same (inl none) has = absurd (let no = ap is_some none.0 in cc)
  has_same (inr there) has =
      let commits = insert_same r.commits new.id.0 new.content there.0 in
      let trees = insert_same r.trees new.id.0 new.tree there.1 in
      λ i. record r { commits = commits i; trees = trees i }

  -- it hasn't: the commit that is put in is taken out again
  pub hasnt_back : MayHave new r → is_some (commit_of r.commits new.id) ≡ false → without_commit new.id (with_commit new r) ≡ r
  hasnt_back (inl none) has =
      let commits = taken_out r.commits _ new.id.0 new.content refl none.0 in
      let trees = taken_out r.trees _ new.id.0 new.tree refl none.1 in
      λ i. record r { commits = commits i; trees = trees i }
  hasnt_back (inr there) has = absurd (let yes = ap is_some there.0 in cc)

-- it is told of the repository of a lake, where it is there, whether it has the commit
abbrev pub HasIn : List ℕ → NewCommit → LakeStateValue → Bool → Type 0
HasIn repo new l has = (r : RepositoryStateValue) → get l.repositories repo ≡ Some r → is_some (commit_of r.commits new.id) ≡ has

-- ---- so it is in a lake
module _ (repo : List ℕ) (new : NewCommit) (l : LakeStateValue) (may : MayHaveIn repo new l) where
  -- the commit that is there is put in
  pub known_same : HasIn repo new l true → in_repository repo (with_commit new) l ≡ l
  known_same has =
      ap (λ repositories. record l { repositories = repositories })
      (changed_same l.repositories repo (with_commit new) (λ r is. has_same new r (may r is) (has r is)))

  module _ (id : Digest) (named : new.id ≡ id) (with_it : LakeStateValue) (added : with_it ≡ in_repository repo (with_commit (record new { id = id })) l)
      (has : HasIn repo new l false) where
    was_added : with_it ≡ in_repository repo (with_commit new) l
    was_added = added ∙ ap (λ (id : Digest). in_repository repo (with_commit (record new { id = id })) l) (sym named)

    -- the commit that was added is taken out again
    pub added_back : in_repository repo (without_commit new.id) with_it ≡ l
    added_back =
        ap (in_repository repo (without_commit new.id)) was_added
        ∙ ap (λ repositories. record l { repositories = repositories })
        (changed_back l.repositories repo (with_commit new) (without_commit new.id) (λ r is. hasnt_back new r (may r is) (has r is)))

    -- without it a graph is left
    pub left_sound : ((r : RepositoryStateValue) → get l.repositories repo ≡ Some r → IsSound r.commits)
        → (later : LakeStateValue) → later.repositories ≡ with_it.repositories
        → (r : RepositoryStateValue) → get later.repositories repo ≡ Some r → IsSound (remove r.commits new.id.0)
    left_sound sound later same r there =
        let repositories = same ∙ ap (λ (l : LakeStateValue). l.repositories) was_added in
        found_changed l.repositories repo (with_commit new) (λ r. IsSound (remove r.commits new.id.0)) (λ r is.
        let left = ap (λ (r : RepositoryStateValue). r.commits) (hasnt_back new r (may r is) (has r is)) in
        subst IsSound (sym left) (sound r is))
        r (ap (λ (m : ByteMap RepositoryStateValue). get m repo) (sym repositories) ∙ there)

-- ---- what the call leaves
module _ {K X : Type 0} (view : KeeperView K) (by : By) (operation : Operation) (puts : List Put) where
  -- the same repositories
  pub kept_repositories : (result : Result X StepFault) (before after : Parts K) → Keeps view by (unmade operation puts) result before after
      → (lake_value after.present).repositories ≡ (lake_value before.present).repositories
  kept_repositories (Ok x) before after keeps = ap (λ (l : LakeStateValue). l.repositories) keeps.present
  kept_repositories (Err StoreFault) before after keeps = ap (λ (l : LakeStateValue). l.repositories) keeps.present
  kept_repositories (Err NoMemory) before after keeps = ap (λ (l : LakeStateValue). l.repositories) keeps.present
  kept_repositories (Err fault) before after keeps = absurd keeps

  module _ (repo : List ℕ) (new : NewCommit) where
    -- where the commit was there before
    pub keeps_known : (result : Result X StepFault) (before after : Parts K)
        → in_repository repo (with_commit new) (lake_value before.present) ≡ lake_value before.present
        → Keeps view by (unmade operation puts) result before after → Keeps view by (commit_added repo new operation puts) result before after
    keeps_known (Ok x) before after same keeps = record {
      history = keeps.history;
      present = keeps.present ∙ sym same;
      kept = keeps.kept;
      once = keeps.once;
      succeeded = keeps.succeeded;
      quiet = keeps.quiet;
      keeper = keeps.keeper;
    }
    keeps_known (Err StoreFault) before after same keeps = record {
      history = keeps.history;
      present = keeps.present;
      kept = keeps.kept;
      once = keeps.once;
      successes = keeps.successes;
      rose = keeps.rose;
      keeper = keeps.keeper;
    }
    keeps_known (Err NoMemory) before after same keeps = keeps
    keeps_known (Err fault) before after same keeps = absurd keeps

    -- where the commit was put in, and was taken out after the call had failed
    pub keeps_back : (result : Result X StepFault) (before after : Parts K) (first last : LakeState) → is_err result ≡ true
        → in_repository repo (without_commit new.id) (lake_value before.present) ≡ lake_value first
        → lake_value last ≡ in_repository repo (without_commit new.id) (lake_value after.present)
        → Keeps view by (unmade operation puts) result before after
        → Keeps view by (commit_added repo new operation puts) result (record before { present = first }) (record after { present = last })
    keeps_back (Ok x) before after first last failed back out keeps = absurd (let no = failed in cc)
    keeps_back (Err StoreFault) before after first last failed back out keeps = record {
      history = keeps.history;
      present = out ∙ ap (in_repository repo (without_commit new.id)) keeps.present ∙ ap after_fault back;
      kept = keeps.kept;
      once = keeps.once;
      successes = keeps.successes;
      rose = keeps.rose;
      keeper = keeps.keeper;
    }
    keeps_back (Err NoMemory) before after first last failed back out keeps = record {
      history = keeps.history;
      present = out ∙ ap (in_repository repo (without_commit new.id)) keeps.present ∙ back;
      kept = keeps.kept;
      calls = keeps.calls;
      successes = keeps.successes;
      quiet = keeps.quiet;
      keeper = keeps.keeper;
    }
    keeps_back (Err fault) before after first last failed back out keeps = absurd keeps
