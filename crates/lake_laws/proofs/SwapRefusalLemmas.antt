-- A new head that may be made has no cause against it, and nothing clashes.
use Rattle.std.proofs.Common.{◌≡◌, ℕ, true, List, refl, sym, ap, subst, ◌∙◌, inl, inr}
use Rattle.std.proofs.lemmas.Bool.{eq-eqb}
use Rattle.std.specs.Prelude.{◌==◌, Some, None, option_and_then}
use Rattle.std.specs.Option.{option_or}
use Rattle.std.specs.FinMap.{get}
use Rattle.lake_values.specs.Commit.{AboutValue, CommitRecordValue}
use Rattle.lake_values.proofs.AncestryLemmas.{and_of}
use Rattle.lake_format.specs.Spelling.{commit_id}
use Rattle.lake_laws.proofs.LookupLemmas.{one_value}
use Rattle.lake_model.specs.declared.fault.StepFault.TheVariants.{Expired}
use Rattle.lake_model.specs.declared.history.HistoryEntry.{HistoryEntry}
use Rattle.lake_model.specs.declared.reply.SwapKind.{SwapKind}
use Rattle.lake_model.specs.declared.reply.SwapKind.TheVariants as kind
use Rattle.lake_model.specs.State.{Branch, Repository, State, HasBranch, is_expired}
use Rattle.lake_model.specs.Commits.{Draft, IsAdmissible, record_of}
use Rattle.lake_model.specs.History.{Allows, IsPossible}
use Rattle.lake_model.specs.Refusals.{Clash, IsClash, first_cause}
use Rattle.lake_model.specs.Steps.{IsSwapClash, SwapRule, expired_fault, is_current, swap_causes, swap_expired, swap_operation, swap_rule, new_commit}
use Rattle.lake_model.specs.Versions.{VersionsGiven, branch_version, settings_version}
use Rattle.lake_laws.specs.Prepared.{WhereThere}
use Rattle.lake_laws.proofs.CauseLemmas.{cause_fails, cause_not, neither, none_holds, not_full, not_stopped}
use Rattle.lake_laws.proofs.PlaceLemmas.{answered, branch_none, repository_none, unprotected_is}
use Rattle.lake_laws.proofs.SwapLemmas.{new_commit_is}

-- nothing clashes with an admissible commit
pub no_clash : (state : State) (r : Repository) (draft : Draft) → IsAdmissible state r draft → (clash : Clash) → IsClash state r draft clash → ⊥
no_clash state r draft may clash bad = bad.apart (elim bad.is_kept [
  | inl kept ↦ may.apart clash.new clash.kept bad.is_new kept (sym bad.name_of_new ∙ bad.name_of_kept)
  | inr stands ↦ may.files_apart clash.new clash.kept stands (sym bad.name_of_new ∙ bad.name_of_kept)
])

-- what a branch that is there has, it has wherever it is found
where_there : (state : State) (repo branch : List ℕ) (P : Repository → Branch → Type 0) → HasBranch state repo branch P
    → WhereThere state repo branch P
where_there state repo branch P at r b is has =
    let same : at.0 ≡ r = one_value (get state.repositories repo) at.0 r at.1 is in
    let stands : get r.branches branch ≡ Some at.2.0 = ap (λ (x : Repository). get x.branches branch) (sym same) ∙ at.2.1 in
    let same_branch : at.2.0 ≡ b = one_value (get r.branches branch) at.2.0 b stands has in
    subst (λ c. P r c) same_branch (subst (λ q. P q at.2.0) same at.2.2)

-- so nothing clashes with a new head that may be made
pub swap_clash_none : (state : State) (seat : ℕ) (repo branch : List ℕ) (swap : SwapKind) (about : AboutValue)
    → IsPossible state seat (swap_operation repo branch swap about) → IsSwapClash state repo branch (swap_rule swap about) None
swap_clash_none state seat repo branch kind.Commit about may r b is has =
    no_clash state r _ (where_there state repo branch _ may r b is has).head.admissible
swap_clash_none state seat repo branch (kind.Merge source strategy) about may r b is has =
    no_clash state r _ (where_there state repo branch _ may r b is has).head.admissible
swap_clash_none state seat repo branch (kind.Pick base source strategy) about may r b is has =
    no_clash state r _ (where_there state repo branch _ may r b is has).head.admissible

-- neither the source nor the new commit is expired
expired_none : (state : State) (repo branch : List ℕ) (rule : SwapRule) (r : Repository) (b : Branch) → get state.repositories repo ≡ Some r
    → get r.branches branch ≡ Some b → option_and_then (expired_fault r) rule.source ≡ None → IsAdmissible state r (rule.draft r b)
    → swap_expired state repo branch rule ≡ None
expired_none state repo branch rule r b is has source may =
    answered state repo
    (λ x. option_or (option_and_then (expired_fault x) rule.source)
    (option_and_then (λ commit. expired_fault x (commit_id commit)) (new_commit state repo branch rule))) r None is
    (neither _ _ source
    (ap (option_and_then (λ (commit : CommitRecordValue). expired_fault r (commit_id commit))) (new_commit_is state repo branch rule r b is has)
    ∙ cause_fails _ (Expired (commit_id (record_of state.cut r.commits (rule.draft r b)))) may.live))

module _ (state : State) (entry : HistoryEntry) (may : Allows state entry) (given : VersionsGiven) (repo branch : List ℕ) where
  -- the versions now are those now
  current : is_current given repo branch (branch_version given repo branch) (settings_version given repo) ≡ true
  current =
      and_of (branch_version given repo branch == branch_version given repo branch) (settings_version given repo == settings_version given repo)
      (eq-eqb (branch_version given repo branch) (branch_version given repo branch) refl)
      (eq-eqb (settings_version given repo) (settings_version given repo) refl)

  -- a new head that may be made has no cause against it
  pub swap_none : (swap : SwapKind) (about : AboutValue) → IsPossible state entry.by.seat (swap_operation repo branch swap about)
      → first_cause (swap_causes state given repo branch (branch_version given repo branch) (settings_version given repo) (swap_rule swap about) None) ≡ None
  swap_none kind.Commit about at =
      none_holds (swap_causes state given repo branch (branch_version given repo branch) (settings_version given repo) (swap_rule kind.Commit about) None)
      (not_stopped state entry may) (not_full state entry may)
      (repository_none state repo at.0 at.1) (branch_none state repo branch at.0 at.2.0 at.1 at.2.1) refl refl refl refl
      (unprotected_is state repo branch at.0 at.1 at.2.2.unprotected) (cause_not _ _ current) refl
      (expired_none state repo branch (swap_rule kind.Commit about) at.0 at.2.0 at.1 at.2.1 refl at.2.2.head.admissible) refl
  swap_none (kind.Merge source strategy) about at =
      none_holds
      (swap_causes state given repo branch (branch_version given repo branch) (settings_version given repo) (swap_rule (kind.Merge source strategy) about) None)
      (not_stopped state entry may) (not_full state entry may)
      (repository_none state repo at.0 at.1) (branch_none state repo branch at.0 at.2.0 at.1 at.2.1) refl refl refl refl refl (cause_not _ _ current) refl
      (expired_none state repo branch (swap_rule (kind.Merge source strategy) about) at.0 at.2.0 at.1 at.2.1
      (cause_fails (is_expired at.0 source) (Expired source) at.2.2.live.1) at.2.2.head.admissible) refl
  swap_none (kind.Pick base source strategy) about at =
      none_holds
      (swap_causes state given repo branch (branch_version given repo branch) (settings_version given repo)
      (swap_rule (kind.Pick base source strategy) about) None)
      (not_stopped state entry may) (not_full state entry may)
      (repository_none state repo at.0 at.1) (branch_none state repo branch at.0 at.2.0 at.1 at.2.1) refl refl refl refl refl (cause_not _ _ current) refl
      (expired_none state repo branch (swap_rule (kind.Pick base source strategy) about) at.0 at.2.0 at.1 at.2.1
      (cause_fails (is_expired at.0 source) (Expired source) at.2.2.live.1) at.2.2.head.admissible) refl
