-- An entry that may be copied is found, and its source isn't expired.
use Rattle.std.proofs.Common.{◌≡◌, ◌&&◌, ℕ, Bool, true, false, not, cond, List, [], ◌∷◌, refl, sym, ap, ◌∙◌}
use Rattle.std.proofs.lemmas.Bool.{eq-eqb, not-true}
use Rattle.std.specs.Prelude.{Option, Some, None, is_some, option_map, option_and_then, if◌then◌else◌, Ok}
use Rattle.std.specs.Option.{option_map_or, option_or}
use Rattle.std.specs.Result.{result_ok}
use Rattle.std.specs.FinMap.{get}
use Rattle.lake_base.specs.declared.digest.Digest.{Digest}
use Rattle.lake_values.specs.Ancestry.{commit_of}
use Rattle.lake_values.specs.Entry.{EntryValue}
use Rattle.lake_values.specs.KeyMap.{KeyMapValue}
use Rattle.lake_values.proofs.AncestryLemmas.{and_both}
use Rattle.commit_graph.specs.Expressions.{RefExprValue}
use Rattle.commit_graph.specs.Moves.{moves_target}
use Rattle.lake_laws.proofs.LookupLemmas.{of_some}
use Rattle.lake_model.specs.declared.fault.StepFault.TheVariants.{Expired, NoPath}
use Rattle.lake_model.specs.declared.history.CopySource.{CopySource}
use Rattle.lake_model.specs.declared.history.CopySource.TheVariants as source
use Rattle.lake_model.specs.declared.history.HistoryEntry.{HistoryEntry}
use Rattle.lake_model.specs.State.{Branch, Repository, State, HasBranch, is_expired, map_of, now_map}
use Rattle.lake_model.specs.Branches.{IsUnprotected}
use Rattle.lake_model.specs.History.{Allows}
use Rattle.lake_model.specs.Readings.{◌then◌, expression_map, map_at}
use Rattle.lake_model.specs.Refusals.{first_cause}
use Rattle.lake_model.specs.Resolving.{commit_named, expression_target, is_plain_branch, is_unmoved, moved_target, parent_fault}
use Rattle.lake_model.specs.Steps.{copy_causes, copy_source, expired_fault, in_it, source_fault, target_in}
use Rattle.lake_model.specs.Uncommitted.{copied_map}
use Rattle.lake_model.specs.Versions.{VersionsGiven, branch_version}
use Rattle.lake_laws.proofs.CauseLemmas.{cause_fails, cause_not, neither, none_holds, not_full, not_stopped}
use Rattle.lake_laws.proofs.CopyLemmas.{now_or, plain_there}
use Rattle.lake_laws.proofs.PlaceLemmas.{answered, asked, branch_none, repository_none, unprotected_is}
use Rattle.lake_laws.proofs.RefusalLemmas.{parent_none, reference_none}
use Rattle.lake_laws.proofs.TargetLemmas.{map_cases, taken}

no_moves : {X : Type 0} (moves : List X) → is_unmoved moves ≡ true → moves ≡ []
no_moves [] none = refl
no_moves (one ∷ moves) none = absurd cc

-- a plain branch leads to its head
plain_target : (r : Repository) (e : RefExprValue) → is_plain_branch r e ≡ true → (id : Digest) × (target_in r e ≡ Some id)
plain_target r e plain =
    let parts = and_both (not e.at) (is_unmoved e.moves && is_some (get r.branches e.name)) plain in
    let unmoved = no_moves e.moves (and_both (is_unmoved e.moves) (is_some (get r.branches e.name)) parts.1).0 in
    let b = of_some (get r.branches e.name) (plain_there r e plain) in (
      b.0.head,
      ap (λ (o : Option Branch). result_ok (moved_target r e (option_or (option_map (λ x. x.head) o) (option_or (get r.tags e.name) (commit_named r e.name)))))
          b.1
          ∙ ap (λ moves. result_ok (parent_fault (moves_target r.commits 0 b.0.head moves))) unmoved,
    )

-- what is copied from is what an expression leads to
copy_target : (r : Repository) (e : RefExprValue) (b : Bool) (from : CopySource) → is_plain_branch r e ≡ b
    → (if b then Some (source.Branch e.name) else option_map source.Commit (target_in r e)) ≡ Some from
    → (id : Digest) × (target_in r e ≡ Some id)
copy_target r e true from plain is = plain_target r e plain
copy_target r e false from plain is = let at = map_cases source.Commit (target_in r e) from is in (at.0, at.1)

-- an entry of a map that is taken where a test holds: it holds
passes : (test : Bool) (map : KeyMapValue) (path : List ℕ) (entry : EntryValue)
    → option_and_then (λ m. get m path) (cond test (Some map) None) ≡ Some entry → (test ≡ true) × (get map path ≡ Some entry)
passes true map path entry reads = (refl, reads)
passes false map path entry reads = absurd cc

module _ (r : Repository) (e : RefExprValue) (path : List ℕ) (entry : EntryValue) where
  -- the entry of the source is read at the expression, which isn't expired
  source_read : (b : Bool) → is_plain_branch r e ≡ b → (id : Digest) (from : CopySource) → target_in r e ≡ Some id
      → (if b then Some (source.Branch e.name) else option_map source.Commit (target_in r e)) ≡ Some from
      → option_and_then (λ map. get map path) (copied_map r from) ≡ Some entry
      → (get (if b then option_map_or (now_map r) (get r.branches e.name) (map_of r id) else map_of r id) path ≡ Some entry)
      × ((if b then None else option_and_then (expired_fault r) (target_in r e)) ≡ None)
  source_read true plain id from leads is reads =
      let same : source.Branch e.name ≡ from = cc in (
        ap (option_and_then (λ (map : KeyMapValue). get map path)) (sym (now_or r (get r.branches e.name) (map_of r id) (plain_there r e plain)))
            ∙ (ap (λ s. option_and_then (λ (map : KeyMapValue). get map path) (copied_map r s)) same ∙ reads),
        refl,
      )
  source_read false plain id from leads is reads =
      let one : Some (source.Commit id) ≡ Some from = ap (option_map source.Commit) (sym leads) ∙ is in
      let same : source.Commit id ≡ from = cc in
      let test = is_some (commit_of r.commits id) && not (is_expired r id) in
      let at = passes test (map_of r id) path entry (ap (λ s. option_and_then (λ (map : KeyMapValue). get map path) (copied_map r s)) same ∙ reads) in
      let live = not-true (is_expired r id) (and_both (is_some (commit_of r.commits id)) (not (is_expired r id)) at.0).1 in
      (at.1, ap (option_and_then (expired_fault r)) leads ∙ cause_fails (is_expired r id) (Expired id) live)

  -- so it is what the expression has at the path
  expression_read : (id : Digest) → target_in r e ≡ Some id → get (map_at r e id) path ≡ Some entry
      → option_and_then (λ map. get map path) (result_ok (expression_map r e)) ≡ Some entry
  expression_read id leads reads =
      ap (λ answer. option_and_then (λ (map : KeyMapValue). get map path) (result_ok (answer then λ q. Ok (map_at r e q))))
      (taken (expression_target r e) id leads) ∙ reads

-- an entry that may be copied has no cause against it
pub copy_none : (state : State) (entry : HistoryEntry) → Allows state entry → (repo : List ℕ) (given : VersionsGiven) (branch : List ℕ) (e : RefExprValue)
    (from : CopySource) (path : List ℕ) (value : EntryValue)
    → HasBranch state repo branch (λ r b. IsUnprotected r branch × (option_and_then (λ map. get map path) (copied_map r from) ≡ Some value))
    → in_it state repo (λ r. copy_source r e) ≡ Some from
    → first_cause (copy_causes state given repo branch (branch_version given repo branch) e path) ≡ None
copy_none state entry may repo given branch e from path value at origin =
    let r = at.0 in
    let is = at.1 in
    let source_is = asked state repo (λ x. copy_source x e) r (Some from) is origin in
    let target = copy_target r e (is_plain_branch r e) from refl source_is in
    let read = source_read r e path value (is_plain_branch r e) refl target.0 from target.1 source_is at.2.2.1 in
    let there = answered state repo (λ x. option_and_then (λ map. get map path) (result_ok (expression_map x e))) r (Some value) is
    (expression_read r e path value target.0 target.1 read.0) in
    none_holds (copy_causes state given repo branch (branch_version given repo branch) e path)
    (not_stopped state entry may) (not_full state entry may) (repository_none state repo r is)
    (neither _ _ (branch_none state repo branch r at.2.0 is at.2.1) (reference_none state repo r is e target.0 target.1))
    (parent_none state repo r is e target.0 target.1) refl refl refl (unprotected_is state repo branch r is at.2.2.0)
    (cause_not _ _ (eq-eqb (branch_version given repo branch) (branch_version given repo branch) refl))
    (cause_fails _ NoPath (ap (λ o. not (is_some o)) there)) (answered state repo (λ x. source_fault x e) r None is read.1) refl
