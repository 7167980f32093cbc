-- What an operation that may be made tells of the lake before it.
use Rattle.std.proofs.Common.{◌≡◌, ◌∷◌, [], ℕ, List, refl, sym, ap, subst, ◌∙◌}
use Rattle.std.specs.Prelude.{Option, Some, None, IfSome, IsSome, IsSomeAnd, is_some, option_and_then, option_map}
use Rattle.std.specs.FinMap.{get}
use Rattle.byte_map.proofs.ValuesLemmas.{get_map_values}
use Rattle.lake_values.specs.Commit.{AboutValue}
use Rattle.lake_values.specs.NoteNames.{note_name}
use Rattle.lake_values.specs.declared.settings.Note.{Note}
use Rattle.lake_values.specs.declared.settings.NoteName.{NoteName}
use Rattle.lake_model.specs.declared.history.By.{By}
use Rattle.lake_model.specs.declared.history.HistoryEntry.{HistoryEntry}
use Rattle.lake_model.specs.declared.history.Operation.{Operation}
use Rattle.lake_model.specs.declared.reply.SwapKind.{SwapKind}
use Rattle.lake_model.specs.Commits.{IsAdmissible, MayBecomeHead}
use Rattle.lake_model.specs.History.{Allows, accepted_entry}
use Rattle.lake_model.specs.NoteChanges.{IsNoteChange}
use Rattle.lake_model.specs.State.{Branch, Repository, HasBranch}
use Rattle.lake_model.specs.Steps.{swap_operation, swap_rule}
use Rattle.lake_laws.proofs.HistoryLemmas.{IsLegal-later}
use Rattle.core_state.specs.BranchStates.{BranchStateValue, branch_of}
use Rattle.core_state.specs.LakeStates.{LakeStateValue, state_of}
use Rattle.core_state.specs.RepositoryStates.{RepositoryStateValue, repository_of}
use Rattle.core_changes.proofs.IndexLemmas.{made_of}
use Rattle.core_head_pairs.specs.PairWords.{branch_at}
use Rattle.core_head_pairs.specs.PairWords.{MayMake, Stands}
use Rattle.core_head_pairs.proofs.PairLemmas.{kind_asks}
use Rattle.core_head_pairs.proofs.PairLemmas.{Place, branch_there, place_of, repository_there}

-- its entry may come next
pub allowed : {opened : LakeStateValue} {history : List HistoryEntry} {l : LakeStateValue} {by : By} {operation : Operation}
    {after : LakeStateValue → LakeStateValue} → Stands opened history l → MayMake opened history l by operation after
    → Allows (state_of l) (accepted_entry by operation)
allowed {opened} {history} {l} {by} {operation} stands may =
    subst (λ s. Allows s (accepted_entry by operation)) stands.replayed
    (IsLegal-later (state_of opened) history (accepted_entry by operation ∷ []) may.accepted.legal).0

-- what was found twice is the same
same_some : {X : Type 0} (x y : X) (o : Option X) → o ≡ Some x → o ≡ Some y → x ≡ y
same_some x y None is other = absurd cc
same_some x y (Some z) is other = cc

-- ---- the branch

module _ (l : LakeStateValue) (repo branch : List ℕ) where
  -- one that the state has is there
  pub has_branch : (r : Repository) (b : Branch) → get (state_of l).repositories repo ≡ Some r → get r.branches branch ≡ Some b
      → IsSome (branch_at repo branch l)
  has_branch r b at on =
      let place = (place_of l repo branch (λ r b. Unit {0}) (r, at, (b, on, tt))).0 in
      ap is_some (ap (option_and_then (λ (r : RepositoryStateValue). get r.branches branch)) place.in_lake ∙ place.in_repository)

  none_before : {X Y : Type 0} (f : X → Y) (o : Option X) → option_map f o ≡ None → o ≡ None
  none_before f (Some x) is = absurd cc
  none_before f None is = refl

  -- one that the state doesn't have isn't
  pub has_no_branch : (r : Repository) → get (state_of l).repositories repo ≡ Some r → get r.branches branch ≡ None
      → branch_at repo branch l ≡ None
  has_no_branch r at none =
      let home = made_of repository_of (get l.repositories repo) r (sym (get_map_values repository_of l.repositories repo) ∙ at) in
      ap (option_and_then (λ (r : RepositoryStateValue). get r.branches branch)) home.is
      ∙ none_before branch_of (get home.one.branches branch)
      (sym (get_map_values branch_of home.one.branches branch) ∙ ap (λ (q : Repository). get q.branches branch) home.made ∙ none)

  -- what the state says of one that is there
  same_place : (P : Repository → Branch → Type 0) (r : RepositoryStateValue) (b : BranchStateValue)
      → get l.repositories repo ≡ Some r → get r.branches branch ≡ Some b
      → HasBranch (state_of l) repo branch P → P (repository_of r) (branch_of b)
  same_place P r b at on has =
      let place : Place l repo branch = record { r = r; b = b; in_lake = at; in_repository = on } in
      let one : has.0 ≡ repository_of r = same_some has.0 (repository_of r) (get (state_of l).repositories repo) has.1 (repository_there l repo branch place) in
      let two : has.2.0 ≡ branch_of b = same_some has.2.0 (branch_of b) (get (repository_of r).branches branch)
      (ap (λ (q : Repository). get q.branches branch) (sym one) ∙ has.2.1) (branch_there l repo branch place) in
      subst (P (repository_of r)) two (subst (λ (q : Repository). P q has.2.0) one has.2.2)

  -- what is drafted for it is admissible
  pub is_admissible : (by : By) (swap : SwapKind) (about : AboutValue) (r : RepositoryStateValue) (b : BranchStateValue)
      → get l.repositories repo ≡ Some r → get r.branches branch ≡ Some b
      → Allows (state_of l) (accepted_entry by (swap_operation repo branch swap about))
      → IsAdmissible (state_of l) (repository_of r) ((swap_rule swap about).draft (repository_of r) (branch_of b))
  is_admissible by swap about r b at on allows =
      (same_place (λ r b. MayBecomeHead (state_of l) branch r b ((swap_rule swap about).draft r b)) r b at on
      (kind_asks by repo branch about (state_of l) swap allows)).admissible

-- what holds of a thing where it is there
pub where_there : {X : Type 0} (o : Option X) (P : X → Type 0) → IsSome o → IfSome o P → IsSomeAnd o P
where_there (Some x) P there holds = holds
where_there None P there holds = absurd cc

-- a setting that may be set is of the name
pub is_named : (name : NoteName) (note : Option Note) (r : Repository) → IsNoteChange name note r → IfSome note (λ n. note_name n ≡ name)
is_named name None r is = tt
is_named name (Some note) r is = is
