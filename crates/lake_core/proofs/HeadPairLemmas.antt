-- The pairs of a lake's keeper after a new head.
use Rattle.std.proofs.Common.{◌≡◌, ℕ, List, refl, sym, subst}
use Rattle.std.specs.Prelude.{Option, Some, None, IfSome, IsSomeAnd, Result, Ok, Err}
use Rattle.std.specs.FinMap.{get}
use Rattle.lake_base.specs.Maps.{ByteMap}
use Rattle.lake_base.specs.declared.digest.Digest.{Digest}
use Rattle.lake_values.specs.Commit.{AboutValue, CommitRecordValue}
use Rattle.meta_range.specs.Ranges.{TreeValue}
use Rattle.lake_model.specs.declared.fault.StepFault.{StepFault}
use Rattle.lake_model.specs.declared.fault.StepFault.TheVariants.{StoreFault, NoMemory}
use Rattle.lake_model.specs.declared.history.By.{By}
use Rattle.lake_model.specs.declared.history.HistoryEntry.{HistoryEntry}
use Rattle.lake_model.specs.declared.reply.SwapKind.{SwapKind}
use Rattle.lake_model.specs.Steps.{IsSwapReply, swap_operation, swap_rule}
use Rattle.core_state.specs.BranchStates.{BranchStateValue}
use Rattle.core_state.specs.declared.file_place.FilePlace.{FilePlace}
use Rattle.core_state.specs.LakeStates.{LakeStateValue, lake_value, state_of}
use Rattle.core_state.specs.NewCommits.{NewCommit, commit_of_draft}
use Rattle.core_state.specs.RepositoryStates.{RepositoryStateValue}
use Rattle.core_changes.specs.LakeChanges.{after_new_head}
use Rattle.core_changes.specs.NewPlaces.{HasNewPlaces}
use Rattle.core_puts.specs.KeeperViews.{KeeperView}
use Rattle.core_puts.specs.KeptChanges.{IsFaulted, IsMade, LeavesParts, Making, Parts}
use Rattle.core_puts.specs.Puts.{new_head_puts}
use Rattle.core_standing.specs.Standing.{MayMake, Stands, versions_since}
use Rattle.core_keeping.specs.Following.{FollowsHead, IsHeadOf, KeepsHead}
use Rattle.core_commits.specs.HeadOperations.{draft_for}
use Rattle.core_commits.specs.KeptHeads.{MayHaveIn}
use Rattle.core_commits.specs.Making.{HoldsOfTried, IsWithinLimits, LeavesPlaces, MayHaveTried, head_answer, head_making}
use Rattle.core_commits.specs.Testing.{drafted_in}
use Rattle.lake_core.specs.FollowedLakes.{FollowOrTried}
use Rattle.lake_core.specs.HeadConditions.{IsReadyFor}
use Rattle.lake_core.proofs.HeadLemmas.{IsMadeOn, TellsOfHeads, both_found, made_on, may_head}
use Rattle.lake_core.proofs.PairLemmas.{pairs_before, pairs_made, pairs_refused}

-- what the laws tell of the pairs of new heads
abbrev pub TellsOfKeptHeads : Type 0
TellsOfKeptHeads = (opened : LakeStateValue) (history : List HistoryEntry) (l : LakeStateValue) (by : By) (repo branch : List ℕ) (swap : SwapKind)
    (about : AboutValue) (new : NewCommit) → Stands opened history l
    → MayMake opened history l by (swap_operation repo branch swap about) (after_new_head repo branch new)
    → IsHeadOf l repo branch swap about new → KeepsHead l repo branch new

abbrev pub TellsOfFollowedHeads : Type 0
TellsOfFollowedHeads = (opened : LakeStateValue) (history : List HistoryEntry) (l : LakeStateValue) (by : By) (repo branch : List ℕ) (swap : SwapKind)
    (about : AboutValue) (new : NewCommit) → Stands opened history l
    → MayMake opened history l by (swap_operation repo branch swap about) (after_new_head repo branch new)
    → IsHeadOf l repo branch swap about new → FollowsHead l repo branch new

both_some : {X : Type 0} (P Q : X → Type 0) (o : Option X) → IsSomeAnd o P → IsSomeAnd o Q → IsSomeAnd o (λ x. P x × Q x)
both_some P Q (Some x) one other = (one, other)
both_some P Q None one other = absurd one

some_unit : {X : Type 0} (P : X → Type 0) (o : Option X) → IsSomeAnd o P → IsSomeAnd o (λ x. Unit {0})
some_unit P (Some x) is = tt
some_unit P None is = absurd is

module _ {K : Type 0} (view : KeeperView K) (law : TellsOfHeads) (keeps : TellsOfKeptHeads) (follows : TellsOfFollowedHeads) (opened : LakeStateValue)
    (by : By) (repo branch : List ℕ) (version settings : ℕ) (swap : SwapKind) (about : AboutValue) (tree : TreeValue) (before : Parts K)
    (stands : Stands opened before.history (lake_value before.present))
    (ready : IsReadyFor (state_of (lake_value before.present)) (versions_since opened before.history) repo branch version settings swap about tree) where
  abbrev was : LakeStateValue
  was = lake_value before.present

  abbrev files : ByteMap (Option FilePlace)
  files = before.present.names.files

  abbrev drafted : Option NewCommit
  drafted = drafted_in repo branch swap about was

  abbrev pub HeadAnswer : Type 0
  HeadAnswer = Result (ℕ × Digest × CommitRecordValue) StepFault

  -- the commit that is drafted for a branch, and its change
  abbrev of : RepositoryStateValue → BranchStateValue → NewCommit
  of r b = commit_of_draft was.cut r.commits (draft_for swap about r b)

  abbrev making_of : NewCommit → Making
  making_of new = record {
    operation = swap_operation repo branch swap about;
    after = after_new_head repo branch new;
    puts = new_head_puts repo branch new files was;
  }

  -- what is known of one that was made or tried
  abbrev Tried : (Making → Type 0) → (NewCommit → Type 0) → NewCommit → Type 0
  Tried P Q new = P (making_of new) × (MayHaveIn repo new was × (IsWithinLimits new × Q new))

  found : (P : Making → Type 0) (Q : NewCommit → Type 0) → IsSomeAnd (head_making repo branch swap about before.present) P
      → IsSomeAnd drafted (λ new. MayHaveIn repo new was) → IsSomeAnd drafted IsWithinLimits → IsSomeAnd drafted Q
      → IsMadeOn was repo branch (λ r b. Tried P Q (of r b))
  found P Q made may within more =
      made_on repo branch swap about was (Tried P Q)
      (both_found making_of P (λ new. MayHaveIn repo new was × (IsWithinLimits new × Q new)) drafted made
      (both_some (λ new. MayHaveIn repo new was) (λ new. IsWithinLimits new × Q new) drafted may (both_some IsWithinLimits Q drafted within more)))

  head_of : (r : RepositoryStateValue) (b : BranchStateValue) (at : get was.repositories repo ≡ Some r) (on : get r.branches branch ≡ Some b)
      → IsWithinLimits (of r b) → IsHeadOf was repo branch swap about (of r b)
  head_of r b at on within =
      record { r = r; b = b; in_lake = at; on = on; drafted = refl; content = within.content; fits = within.objects }

  pub pairs_after_head : (answer : HeadAnswer)
      → IsSwapReply (state_of was) (versions_since opened before.history) repo branch version settings (swap_rule swap about) (head_answer answer)
      → (after : Parts K) → LeavesParts view by (head_making repo branch swap about before.present) answer before after
      → MayHaveTried repo drafted answer was → HoldsOfTried IsWithinLimits drafted answer
      → LeavesPlaces drafted answer files after.present.names.files
      → IfSome (view.kept before.keeper) (FollowOrTried opened before.history files was)
      → IfSome (view.kept after.keeper) (FollowOrTried opened after.history after.present.names.files (lake_value after.present))
  pairs_after_head (Ok answer) reply after leaves tried within places pairs =
      let made = found (λ m. IsMade view by m before after) (λ new. HasNewPlaces files after.present.names.files new.tree) leaves tried within places in
      let new = of made.r made.b in
      let may =
      may_head law opened before.history was stands by repo branch version settings swap about tree ready reply.0 reply.1 reply.2.0 made.r made.b
      made.in_lake made.on made.holds.1.0 in
      let head = head_of made.r made.b made.in_lake made.on made.holds.1.1.0 in
      pairs_made stands may view before after (making_of new) (lake_value after.present) refl made.holds.0.present
      (λ kept follow. follows opened before.history was by repo branch swap about new stands may head kept files after.present.names.files follow
      made.holds.1.1.1) pairs made.holds.0
  pairs_after_head (Err StoreFault) reply after leaves tried within places pairs =
      let made = found (λ m. IsFaulted view by m before after) (λ new. Unit {0}) leaves tried within
      (some_unit (λ new. MayHaveIn repo new was) drafted tried) in
      let new = of made.r made.b in
      let may =
      may_head law opened before.history was stands by repo branch version settings swap about tree ready reply.0 reply.1 reply.2 made.r made.b
      made.in_lake made.on made.holds.1.0 in
      let head = head_of made.r made.b made.in_lake made.on made.holds.1.1.0 in
      pairs_refused stands may view after.present.names.files before after (making_of new) StoreFault refl refl refl refl places
      (λ kept follow. keeps opened before.history was by repo branch swap about new stands may head kept files follow) pairs made.holds.0
  pairs_after_head (Err NoMemory) reply after leaves tried within places pairs =
      pairs_before opened before.history was files view after.present.names.files before after refl refl places pairs leaves
  pairs_after_head (Err fault) reply after leaves tried within places pairs =
      subst (λ (p : Parts K). IfSome (view.kept p.keeper) (FollowOrTried opened p.history p.present.names.files (lake_value p.present))) (sym leaves) pairs
