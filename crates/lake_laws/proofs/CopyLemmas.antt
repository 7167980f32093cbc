-- What is copied stands in the map of its source.
use Rattle.std.proofs.Common.{◌≡◌, ◌&&◌, ℕ, Bool, true, false, not, cond, List, refl, sym, ap, ◌∙◌}
use Rattle.std.proofs.lemmas.Bool.{not_from_false}
use Rattle.std.specs.Prelude.{Option, Some, None, IsSome, is_some, option_map, option_and_then, if◌then◌else◌, Result, Ok, Err}
use Rattle.std.specs.Option.{option_map_or}
use Rattle.std.specs.Result.{result_ok}
use Rattle.std.specs.FinMap.{get}
use Rattle.lake_base.specs.declared.digest.Digest.{Digest}
use Rattle.lake_values.specs.Ancestry.{commit_of}
use Rattle.lake_values.specs.Entry.{EntryValue}
use Rattle.lake_values.specs.KeyMap.{KeyMapValue}
use Rattle.lake_values.proofs.AncestryLemmas.{and_both, and_of}
use Rattle.commit_graph.specs.Expressions.{RefExprValue}
use Rattle.lake_format.specs.declared.cut.Cut.{Cut}
use Rattle.lake_model.specs.declared.fault.StepFault.{StepFault}
use Rattle.lake_model.specs.declared.history.CopySource.{CopySource}
use Rattle.lake_model.specs.declared.history.CopySource.TheVariants as source
use Rattle.lake_model.specs.State.{Branch, Repository, is_expired, map_of, now_map}
use Rattle.lake_model.specs.Uncommitted.{copied_map}
use Rattle.lake_model.specs.Readings.{◌then◌, expression_map, map_at}
use Rattle.lake_model.specs.Resolving.{expression_target, is_plain_branch, is_unmoved}
use Rattle.lake_model.specs.Soundness.{IsSoundRepository}
use Rattle.lake_model.specs.Steps.{copy_source, expired_fault, source_fault, target_in}
use Rattle.lake_laws.proofs.TargetLemmas.{target_there, target_live}

-- a plain branch is there
pub plain_there : (r : Repository) (e : RefExprValue) → is_plain_branch r e ≡ true → IsSome (get r.branches e.name)
plain_there r e plain =
    (and_both (is_unmoved e.moves) (is_some (get r.branches e.name))
    (and_both (not e.at) (is_unmoved e.moves && is_some (get r.branches e.name)) plain).1).1

-- the map of a branch that is there
pub now_or : (r : Repository) (o : Option Branch) (other : KeyMapValue) → IsSome o → option_map (now_map r) o ≡ Some (option_map_or (now_map r) o other)
now_or r None other some = absurd cc
now_or r (Some b) other some = refl

-- an answer that comes of another that leads to a map
through : (answer : Result Digest StepFault) (f : Digest → KeyMapValue) (path : List ℕ) (entry : EntryValue)
    → option_and_then (λ map. get map path) (result_ok (answer then λ id. Ok (f id))) ≡ Some entry
    → (id : Digest) × (result_ok answer ≡ Some id) × (get (f id) path ≡ Some entry)
through (Ok id) f path entry is = (id, refl, is)
through (Err fault) f path entry is = absurd cc

module _ (cut : Cut) (r : Repository) (sound : IsSoundRepository cut r) (e : RefExprValue) where
  -- the source's map is the one that is read
  source_map : (b : Bool) → is_plain_branch r e ≡ b → (id : Digest) (from : CopySource) → target_in r e ≡ Some id
      → (if b then Some (source.Branch e.name) else option_map source.Commit (target_in r e)) ≡ Some from
      → (if b then None else option_and_then (expired_fault r) (target_in r e)) ≡ None
      → copied_map r from ≡ Some (if b then option_map_or (now_map r) (get r.branches e.name) (map_of r id) else map_of r id)
  source_map true plain id from leads is live =
      let same : source.Branch e.name ≡ from = cc in
      ap (copied_map r) (sym same) ∙ now_or r (get r.branches e.name) (map_of r id) (plain_there r e plain)
  source_map false plain id from leads is live =
      let one : Some (source.Commit id) ≡ Some from = ap (option_map source.Commit) (sym leads) ∙ is in
      let same : source.Commit id ≡ from = cc in
      let stays = and_of (is_some (commit_of r.commits id)) (not (is_expired r id)) (target_there cut r sound e id leads)
      (not_from_false (is_expired r id) (target_live r e id leads live)) in
      ap (copied_map r) (sym same) ∙ ap (λ test. cond test (Some (map_of r id)) None) stays

  -- the entry that is read stands in the source's map
  pub copied : (from : CopySource) (path : List ℕ) (entry : EntryValue) → copy_source r e ≡ Some from → source_fault r e ≡ None
      → option_and_then (λ map. get map path) (result_ok (expression_map r e)) ≡ Some entry
      → option_and_then (λ map. get map path) (copied_map r from) ≡ Some entry
  copied from path entry is live reads =
      let at = through (expression_target r e) (map_at r e) path entry reads in
      ap (option_and_then (λ (map : KeyMapValue). get map path)) (source_map (is_plain_branch r e) refl at.0 from at.1 is live) ∙ at.2
