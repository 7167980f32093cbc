-- Where a seal, a change after it and a commit lead.
use Rattle.std.proofs.Common.{◌≡◌, ◌∷◌, [], List, ℕ, refl, sym, ap, subst, ◌∙◌, arith}
use Rattle.std.specs.Prelude.{Some, None}
use Rattle.std.specs.FinMap.{get, insert, empty}
use Rattle.lake_values.specs.Commit.{AboutValue}
use Rattle.lake_base.specs.Maps.{byte_order}
use Rattle.lake_values.specs.KeyMap.{KeyMapValue, value_after}
use Rattle.lake_values.specs.declared.entry.Change.TheVariants.{Put}
use Rattle.lake_values.proofs.KeyMapLemmas.{get_apply}
use Rattle.lake_format.specs.declared.cut.Cut.{Cut}
use Rattle.lake_model.specs.declared.history.Operation.TheVariants.{Seal, Stage}
use Rattle.lake_model.specs.declared.history.SealFor.TheVariants as seal
use Rattle.lake_model.specs.State.{Branch, Repository, State, HasBranch, head_map, sealed_map}
use Rattle.lake_model.specs.Branches.{IsUnprotected}
use Rattle.lake_model.specs.Uncommitted.{with_staged}
use Rattle.lake_model.specs.History.{IsLegal}
use Rattle.lake_model.specs.Soundness.{fresh}
use Rattle.lake_model.specs.Versions.{branch_version, count_versions, fresh_versions}
use Rattle.law_examples.specs.HistoryWords.{quickstart, main, outside, put_entry, seal_entry, commit_entry, read_at, IsCommitAdmissible, a, b, until_seal}
use Rattle.law_examples.specs.StaysStaged.{until_second_put, commit_beside_staged, lake_before_commit, lake_beside_staged}
use Rattle.law_examples.proofs.SceneLemmas.{scene, counted, on_main, get_one, Leads, leads_one, leads_on, legal_more, comes_more}
use Rattle.law_examples.proofs.EntriesLemmas.{first_repository, first_branch, may, after_put_outside, after_seal_of_one}
use Rattle.law_examples.proofs.CommitsLemmas.{with_new, at_new, after_committing, new_map, may_commit, apart_at}
use Rattle.law_examples.proofs.MapsLemmas.{first_map, read_scene, no_change, no_entry}
use Rattle.law_examples.proofs.VersionsLemmas.{version_given}

module _ (cut : Cut) where
  abbrev pub with_a : Branch
  with_a = with_staged a (Put outside) (first_branch cut)

  abbrev pub a_sealed : Branch
  a_sealed = record (first_branch cut) { sealed = insert empty a (Put outside) }

  abbrev with_b : Branch
  with_b = with_staged b (Put outside) a_sealed

  abbrev pub first_state : State
  first_state = counted (fresh cut)

  abbrev pub second_state : State
  second_state = counted first_state

  abbrev third_state : State
  third_state = counted second_state

  pub first_entry : Leads (fresh cut) (put_entry a outside ∷ []) (scene first_state (first_repository cut) with_a)
  first_entry = leads_one
      (may (fresh cut) (first_repository cut) (first_branch cut) 1 (Stage quickstart main a (Put outside)) refl (omega arith)
      (on_main (λ r b. IsUnprotected r main) (fresh cut) (first_repository cut) (first_branch cut) refl, tt))
      (after_put_outside (fresh cut) (first_repository cut) (first_branch cut) a)

  second_entry : Leads (scene first_state (first_repository cut) with_a) (seal_entry ∷ []) (scene second_state (first_repository cut) a_sealed)
  second_entry = leads_one
      (may first_state (first_repository cut) with_a 1 (Seal quickstart main seal.Commit) refl (omega arith)
      (on_main (λ r b. IsUnprotected r main) first_state (first_repository cut) with_a refl))
      (after_seal_of_one first_state (first_repository cut) with_a 1 seal.Commit a (Put outside) refl)

  pub to_seal : Leads (fresh cut) until_seal (scene second_state (first_repository cut) a_sealed)
  to_seal = leads_on first_entry second_entry

  third_entry : Leads (scene second_state (first_repository cut) a_sealed) (put_entry b outside ∷ []) (scene third_state (first_repository cut) with_b)
  third_entry = leads_one
      (may second_state (first_repository cut) a_sealed 1 (Stage quickstart main b (Put outside)) refl (omega arith)
      (on_main (λ r b. IsUnprotected r main) second_state (first_repository cut) a_sealed refl, tt))
      (after_put_outside second_state (first_repository cut) a_sealed b)

  to_second : Leads (fresh cut) until_second_put (scene third_state (first_repository cut) with_b)
  to_second = leads_on to_seal third_entry

  -- what the next commit has at the two paths
  pub has_a : get (sealed_map (first_repository cut) a_sealed) a ≡ Some outside
  has_a = get_apply (insert empty a (Put outside)) (head_map (first_repository cut) a_sealed) a ∙ simp (get_one a (Put outside) a)

  lacks_b : get (sealed_map (first_repository cut) a_sealed) b ≡ None
  lacks_b = get_apply (insert empty a (Put outside)) (head_map (first_repository cut) a_sealed) b ∙ simp (get_one a (Put outside) b, first_map cut, no_entry)

  pub lacks_a : get (head_map (first_repository cut) a_sealed) a ≡ None
  lacks_a = simp (first_map cut, no_entry)

  module _ (about : AboutValue) where
    abbrev new_repository : Repository
    new_repository = with_new third_state (first_repository cut) with_b about

    abbrev new_branch : Branch
    new_branch = at_new third_state (first_repository cut) with_b about

    comes : lake_beside_staged cut about ≡ scene (counted third_state) new_repository new_branch
    comes = comes_more (commit_entry about) to_second (after_committing third_state (first_repository cut) with_b about)

    pub legal : IsCommitAdmissible (lake_before_commit cut) about → IsLegal (fresh cut) (commit_beside_staged about)
    legal admissible = legal_more to_second
        (may_commit third_state (first_repository cut) with_b about refl (omega arith) refl refl
        (apart_at (sealed_map (first_repository cut) with_b) (head_map (first_repository cut) with_b) a outside has_a lacks_a)
        (subst (λ (x : State). IsCommitAdmissible x about) to_second.comes admissible))

    in_head : (P : KeyMapValue → Type 0) → P (sealed_map (first_repository cut) with_b)
        → HasBranch (lake_beside_staged cut about) quickstart main (λ x y. P (head_map x y))
    in_head P p = subst (λ (x : State). HasBranch x quickstart main (λ x y. P (head_map x y))) (sym comes)
        (on_main (λ x y. P (head_map x y))
        (counted third_state) new_repository new_branch (subst P (sym (new_map third_state (first_repository cut) with_b about)) p))

    pub in_commit : HasBranch (lake_beside_staged cut about) quickstart main (λ x y. get (head_map x y) a ≡ Some outside)
    in_commit = in_head (λ (m : KeyMapValue). get m a ≡ Some outside) has_a

    pub not_in_commit : HasBranch (lake_beside_staged cut about) quickstart main (λ x y. get (head_map x y) b ≡ None)
    not_in_commit = in_head (λ (m : KeyMapValue). get m b ≡ None) lacks_b

    reads : (path : List ℕ) → read_at (lake_beside_staged cut about) path ≡ value_after (get {R = byte_order} (insert empty b (Put outside)) path)
        (value_after (get {R = byte_order} empty path) (get (sealed_map (first_repository cut) with_b) path))
    reads path =
        ap (λ (x : State). read_at x path) comes
        ∙ read_scene (counted third_state) new_repository new_branch path
        ∙ ap (λ (m : KeyMapValue). value_after (get (insert {R = byte_order} empty b (Put outside)) path)
        (value_after (get {R = byte_order} empty path) (get m path))) (new_map third_state (first_repository cut) with_b about)

    pub reads_a : read_at (lake_beside_staged cut about) a ≡ Some outside
    reads_a = reads a ∙ simp (get_one b (Put outside) a, no_change, has_a)

    pub reads_b : read_at (lake_beside_staged cut about) b ≡ Some outside
    reads_b = reads b ∙ simp (get_one b (Put outside) b)

pub second : branch_version (count_versions fresh_versions until_seal) quickstart main ≡ 2
second = version_given fresh_versions

pub third : (about : AboutValue) → branch_version (count_versions fresh_versions (commit_beside_staged about)) quickstart main ≡ 3
third about = version_given (count_versions fresh_versions until_second_put)
