-- A lake with a new head stands for its history, and what a caller keeps of a new head.
use Rattle.std.proofs.Common.{◌≡◌, ◌++◌, ◌∷◌, [], ℕ, Bool, true, false, List, inl, inr, refl, sym, ap, subst, ◌∙◌}
use Rattle.std.specs.Prelude.{◌==◌, ◌&&◌, Option, Some, None, Result, Ok, Err, IsSomeAnd, not, option_and_then, option_map}
use Rattle.std.specs.FinMap.{empty, get}
use Rattle.std.specs.List.{AllByRecursion}
use Rattle.std.specs.Option.{unwrap_or}
use Rattle.std.proofs.lemmas.Bool.{eq-eqb}
use Rattle.byte_map.proofs.ValuesLemmas.{get_map_values}
use Rattle.lake_base.specs.declared.digest.Digest.{Digest}
use Rattle.lake_values.specs.Ancestry.{commit_of}
use Rattle.lake_values.specs.Commit.{AboutValue, CommitRecordValue}
use Rattle.meta_range.specs.Ranges.{TreeValue}
use Rattle.lake_model.specs.declared.fault.StepFault.{StepFault}
use Rattle.lake_model.specs.declared.fault.StepFault.TheVariants.{Changed, StoreFault, NoMemory}
use Rattle.lake_model.specs.declared.history.By.{By}
use Rattle.lake_model.specs.declared.history.HistoryEntry.{HistoryEntry}
use Rattle.lake_model.specs.declared.reply.SwapKind.{SwapKind}
use Rattle.lake_model.specs.History.{accepted_entry, faulted_entry}
use Rattle.lake_model.specs.State.{map_of}
use Rattle.lake_model.specs.Commits.{Draft, record_of}
use Rattle.lake_model.specs.Refusals.{Causes, Clash, cause_if, clash_fault, first_cause, first_of}
use Rattle.lake_model.specs.Steps.{IsSwapClash, IsSwapReply, is_current, swap_causes, swap_operation, swap_rule}
use Rattle.lake_model.specs.Versions.{VersionsGiven, branch_version, settings_version}
use Rattle.lake_laws.specs.Prepared.{IsPrepared, WhereThere}
use Rattle.core_state.specs.BranchStates.{BranchStateValue, branch_of}
use Rattle.core_state.specs.Counts.{HasVersions}
use Rattle.core_state.specs.declared.lake.LakeState.{LakeState}
use Rattle.core_state.specs.LakeStates.{LakeStateValue, lake_value, state_of}
use Rattle.core_state.specs.NewCommits.{NewCommit, commit_of_draft}
use Rattle.core_state.specs.RepositoryStates.{RepositoryStateValue, repository_of}
use Rattle.core_changes.specs.LakeChanges.{after_new_head}
use Rattle.core_puts.specs.Puts.{new_head_puts}
use Rattle.core_standing.specs.Standing.{MayMake, Stands, versions_since}
use Rattle.core_puts.specs.KeptChanges.{IsFaulted, IsMade, LeavesParts, Making, Parts}
use Rattle.core_puts.specs.KeeperViews.{KeeperView}
use Rattle.core_commits.specs.KeptHeads.{MayHave, MayHaveIn}
use Rattle.core_commits.specs.Making.{MayHaveTried, head_answer, head_making}
use Rattle.core_commits.specs.HeadOperations.{draft_for}
use Rattle.core_commits.specs.Testing.{HasTreeFor, drafted_in}
use Rattle.core_commits.proofs.PlaceLemmas.{in_state, on_state, same_some, where_there}
use Rattle.lake_core.specs.HeadConditions.{IsReadyFor, IsReadyOn}
use Rattle.lake_core.specs.Lakes.{LakeValue}
use Rattle.lake_core.specs.Leaving.{Leaves}

-- ---- no cause

-- where there is no first cause, none holds
all_none : (causes : List (Option StepFault)) → first_of causes ≡ None → AllByRecursion (λ o. o ≡ None) causes
all_none [] none = tt
all_none (None ∷ causes) none = (refl, all_none causes none)
all_none (Some fault ∷ causes) none = absurd cc

-- the causes of a step in their order
abbrev all_of : Causes → List (Option StepFault)
all_of c =
    c.stopped ∷ c.full ∷ c.repository ∷ c.reference ∷ c.parent ∷ c.note ∷ c.exists ∷ c.default_branch ∷ c.protected
    ∷ c.version ∷ c.path ∷ c.expired ∷ c.clash ∷ []

no_clash : (clash : Option Clash) → clash_fault clash ≡ None → clash ≡ None
no_clash None none = refl
no_clash (Some clash) none = absurd cc

is_so : (test : Bool) (fault : StepFault) → cause_if (not test) fault ≡ None → test ≡ true
is_so true fault none = refl
is_so false fault none = absurd cc

-- ---- what is said of a branch that is there

both_so : (p q : Bool) → p ≡ true → q ≡ true → (p && q) ≡ true
both_so true q a b = b
both_so false q a b = absurd cc

-- ---- one that is made

-- what holds of something that was found, and of what is made of it
pub both_found : {X Y : Type 0} (f : X → Y) (P : Y → Type 0) (Q : X → Type 0) (o : Option X) → IsSomeAnd (option_map f o) P → IsSomeAnd o Q
    → IsSomeAnd o (λ x. P (f x) × Q x)
both_found f P Q (Some x) made found = (made, found)
both_found f P Q None made found = absurd made

-- what holds of the repository and the branch on which a new head is made
pub record IsMadeOn (l : LakeStateValue) (repo branch : List ℕ) (P : RepositoryStateValue → BranchStateValue → Type 0) : Type 0 where
  pub r : RepositoryStateValue
  pub b : BranchStateValue
  pub in_lake : get l.repositories repo ≡ Some r
  pub on : get r.branches branch ≡ Some b
  pub holds : P r b

module _ (repo branch : List ℕ) (swap : SwapKind) (about : AboutValue) (lake : LakeStateValue) (P : NewCommit → Type 0) where
  abbrev of : RepositoryStateValue → BranchStateValue → NewCommit
  of r b = commit_of_draft lake.cut r.commits (draft_for swap about r b)

  on_branch : (r : RepositoryStateValue) → get lake.repositories repo ≡ Some r → (o : Option BranchStateValue) → get r.branches branch ≡ o
      → IsSomeAnd (option_map (of r) o) P → IsMadeOn lake repo branch (λ r b. P (of r b))
  on_branch r at None on is = absurd is
  on_branch r at (Some b) on is = record { r = r; b = b; in_lake = at; on = on; holds = is }

  in_lake : (o : Option RepositoryStateValue) → get lake.repositories repo ≡ o
      → IsSomeAnd (option_and_then (λ r. option_map (of r) (get r.branches branch)) o) P
      → IsMadeOn lake repo branch (λ r b. P (of r b))
  in_lake None at is = absurd is
  in_lake (Some r) at is = on_branch r at (get r.branches branch) refl is

  pub made_on : IsSomeAnd (drafted_in repo branch swap about lake) P → IsMadeOn lake repo branch (λ r b. P (of r b))
  made_on is = in_lake (get lake.repositories repo) refl is

-- ---- it may be made

module _ (l : LakeStateValue) (branch : List ℕ) (r : RepositoryStateValue) (b : BranchStateValue) where
  module _ (swap : SwapKind) (about : AboutValue) where
    abbrev draft : Draft
    draft = draft_for swap about r b

    abbrev new : NewCommit
    new = commit_of_draft l.cut r.commits draft

    -- a commit of its id is this one
    same_record : MayHave new r → (old : CommitRecordValue) → commit_of r.commits new.id ≡ Some old → old ≡ record_of l.cut r.commits draft
    same_record (inl none) old there = absurd (let gone = sym none.0 ∙ there in cc)
    same_record (inr has) old there = same_some old new.content (commit_of r.commits new.id) there has.0

    -- with this map
    same_map : MayHave new r → (old : CommitRecordValue) → commit_of r.commits new.id ≡ Some old → map_of (repository_of r) new.id ≡ draft.objects
    same_map (inl none) old there = absurd (let gone = sym none.0 ∙ there in cc)
    same_map (inr has) old there =
        ap (λ o. unwrap_or o empty) (get_map_values (λ tree. tree.map) r.trees new.id.0 ∙ ap (option_map (λ tree. tree.map)) has.1)

    pub prepared : (tree : TreeValue) → IsReadyOn (state_of l) branch swap about tree (repository_of r) (branch_of b) → MayHave new r
        → IsPrepared (state_of l) branch swap about (repository_of r) (branch_of b)
    prepared tree ready have = (
      ready.worth,
      record { allowed = ready.allowed; same_record = same_record have; same_map = same_map have },
    )

-- what a law tells of new heads
abbrev pub TellsOfHeads : Type 0
TellsOfHeads = (opened : LakeStateValue) (history : List HistoryEntry) (present : LakeStateValue)
    (by : By) (repo branch : List ℕ) (version settings : ℕ) (swap : SwapKind) (about : AboutValue) (new : NewCommit)
    → Stands opened history present
    → first_cause (swap_causes (state_of present) (versions_since opened history) repo branch version settings
    (swap_rule swap about) None) ≡ None
    → IsSwapClash (state_of present) repo branch (swap_rule swap about) None
    → WhereThere (state_of present) repo branch (IsPrepared (state_of present) branch swap about)
    → WhereThere (state_of present) repo branch
    (λ r b. new ≡ commit_of_draft present.cut r.commits ((swap_rule swap about).draft r b))
    → MayMake opened history present by (swap_operation repo branch swap about) (after_new_head repo branch new)

module _ (law : TellsOfHeads) (opened : LakeStateValue) (history : List HistoryEntry) (l : LakeStateValue) (stands : Stands opened history l)
    (by : By) (repo branch : List ℕ) (version settings : ℕ) (swap : SwapKind) (about : AboutValue) (tree : TreeValue)
    (ready : IsReadyFor (state_of l) (versions_since opened history) repo branch version settings swap about tree) where
  abbrev given : VersionsGiven
  given = versions_since opened history

  abbrev causes : Option Clash → Causes
  causes clash = swap_causes (state_of l) given repo branch version settings (swap_rule swap about) clash

  abbrev each_none : (clash : Option Clash) → first_cause (causes clash) ≡ None → AllByRecursion (λ o. o ≡ None) (all_of (causes clash))
  each_none clash none = all_none (all_of (causes clash)) none

  -- both versions are those now
  now : (clash : Option Clash) → first_cause (causes clash) ≡ None → is_current given repo branch version settings ≡ true
  now clash none =
      is_so (is_current given repo branch version settings) (Changed (branch_version given repo branch) (settings_version given repo))
      (each_none clash none).1.1.1.1.1.1.1.1.1.0

  -- and nothing clashes
  clear : (clash : Option Clash) → first_cause (causes clash) ≡ None → clash ≡ None
  clear clash none = no_clash clash (each_none clash none).1.1.1.1.1.1.1.1.1.1.1.1.0

  -- it may be made
  pub may_head : (clash : Option Clash) → IsSwapClash (state_of l) repo branch (swap_rule swap about) clash → first_cause (causes clash) ≡ None
      → (r : RepositoryStateValue) (b : BranchStateValue) (at : get l.repositories repo ≡ Some r) (on : get r.branches branch ≡ Some b)
      → MayHaveIn repo (commit_of_draft l.cut r.commits (draft_for swap about r b)) l
      → MayMake opened history l by (swap_operation repo branch swap about)
      (after_new_head repo branch (commit_of_draft l.cut r.commits (draft_for swap about r b)))
  may_head clash there none r b at on have =
      let gone = clear clash none in
      let new = commit_of_draft l.cut r.commits (draft_for swap about r b) in
      law opened history l by repo branch version settings swap about new stands
      (subst (λ c. first_cause (causes c) ≡ None) gone none)
      (subst (IsSwapClash (state_of l) repo branch (swap_rule swap about)) gone there)
      (where_there l repo branch r b at on (IsPrepared (state_of l) branch swap about)
      (prepared l branch r b swap about tree
      (ready (now clash none) (repository_of r) (branch_of b) (in_state l repo branch r b at on) (on_state l repo branch r b at on)) (have r at)))
      (where_there l repo branch r b at on (λ r b. new ≡ commit_of_draft l.cut r.commits ((swap_rule swap about).draft r b)) refl)

-- ---- the lake stands afterwards

module _ {K : Type 0} (view : KeeperView K) (law : TellsOfHeads) (opened : LakeStateValue) (by : By) (repo branch : List ℕ)
    (version settings : ℕ) (swap : SwapKind) (about : AboutValue) (tree : TreeValue) (before : Parts K)
    (stands : Stands opened before.history (lake_value before.present))
    (ready : IsReadyFor (state_of (lake_value before.present)) (versions_since opened before.history) repo branch version settings swap about tree) where
  abbrev was : LakeStateValue
  was = lake_value before.present

  abbrev pub Answer : Type 0
  Answer = Result (ℕ × Digest × CommitRecordValue) StepFault

  same_stands : (after : Parts K) → after ≡ before → Stands opened after.history (lake_value after.present)
  same_stands after same = subst (λ (p : Parts K). Stands opened p.history (lake_value p.present)) (sym same) stands

  -- the change that a commit makes as a new head
  abbrev making_of : NewCommit → Making
  making_of new = record {
    operation = swap_operation repo branch swap about;
    after = after_new_head repo branch new;
    puts = new_head_puts repo branch new before.present.names.files was;
  }

  -- where one was made or tried, its repository and its branch are there
  found : (P : Making → Type 0) → IsSomeAnd (head_making repo branch swap about before.present) P
      → IsSomeAnd (drafted_in repo branch swap about was) (λ new. MayHaveIn repo new was)
      → IsMadeOn was repo branch
      (λ r b. P (making_of (commit_of_draft was.cut r.commits (draft_for swap about r b)))
      × MayHaveIn repo (commit_of_draft was.cut r.commits (draft_for swap about r b)) was)
  found P made may =
      made_on repo branch swap about was (λ new. P (making_of new) × MayHaveIn repo new was)
      (both_found making_of P (λ new. MayHaveIn repo new was) (drafted_in repo branch swap about was) made may)

  pub stands_after : (answer : Answer)
      → IsSwapReply (state_of was) (versions_since opened before.history) repo branch version settings (swap_rule swap about) (head_answer answer)
      → (after : Parts K) → LeavesParts view by (head_making repo branch swap about before.present) answer before after
      → MayHaveTried repo (drafted_in repo branch swap about was) answer was
      → Stands opened after.history (lake_value after.present)
  stands_after (Ok answer) reply after leaves tried =
      let made = found (λ m. IsMade view by m before after) leaves tried in
      let may =
      may_head law opened before.history was stands by repo branch version settings swap about tree ready reply.0 reply.1 reply.2.0 made.r made.b
      made.in_lake made.on made.holds.1 in
      subst (λ h. Stands opened h (lake_value after.present)) (sym made.holds.0.history)
      (subst (λ n. Stands opened (before.history ++ accepted_entry by (swap_operation repo branch swap about) ∷ []) n)
      (sym made.holds.0.present) may.accepted)
  stands_after (Err StoreFault) reply after leaves tried =
      let made = found (λ m. IsFaulted view by m before after) leaves tried in
      let may =
      may_head law opened before.history was stands by repo branch version settings swap about tree ready reply.0 reply.1 reply.2 made.r made.b
      made.in_lake made.on made.holds.1 in
      subst (λ h. Stands opened h (lake_value after.present)) (sym made.holds.0.history)
      (subst (λ n. Stands opened (before.history ++ faulted_entry by (swap_operation repo branch swap about) ∷ []) n)
      (sym made.holds.0.present) may.faulted)
  stands_after (Err NoMemory) reply after leaves tried =
      subst (λ h. Stands opened h (lake_value after.present)) (sym leaves.history)
      (subst (λ n. Stands opened before.history n) (sym leaves.present) stands)
  stands_after (Err fault) reply after leaves tried = same_stands after leaves

-- ---- what it leaves of the lake

-- it was opened as before
pub leaves_lake : {K X : Type 0} (view : KeeperView K) (by : By) (make : LakeState → Option Making) (opened : LakeState) (first : K)
    (before after : Parts K) (lake : LakeValue K)
    → record { opened = opened; first = first; history = before.history; present = before.present; keeper = before.keeper } ≡ lake
    → (answer : Result X StepFault) → LeavesParts view by (make before.present) answer before after
    → Leaves view by (make lake.present) answer lake
    (record { opened = opened; first = first; history = after.history; present = after.present; keeper = after.keeper })
leaves_lake view by make opened first before after lake was answer left =
    subst (λ v. Leaves view by (make v.present) answer v
    (record { opened = opened; first = first; history = after.history; present = after.present; keeper = after.keeper })) was
    (record { opened = refl; first = refl }, left)

-- ---- the condition

-- a tree is that of what is drafted, where both versions are those now
module _ (l : LakeStateValue) (given : VersionsGiven) (has : HasVersions given l) (repo branch : List ℕ) (version settings : ℕ) (swap : SwapKind)
    (about : AboutValue) (tree : TreeValue) (ready : IsReadyFor (state_of l) given repo branch version settings swap about tree) where
  pub tree_for : HasTreeFor l repo branch version settings swap about tree
  tree_for r b at on same_version same_settings =
      (ready
      (both_so (version == branch_version given repo branch) (settings == settings_version given repo)
      (eq-eqb version (branch_version given repo branch) (same_version ∙ sym (has.branches repo r branch b at on)))
      (eq-eqb settings (settings_version given repo) (same_settings ∙ sym (has.settings repo r at))))
      (repository_of r) (branch_of b) (in_state l repo branch r b at on) (on_state l repo branch r b at on)).drafted
