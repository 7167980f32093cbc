-- What is read on branches, before and after a seal and a commit.
use Rattle.std.proofs.Common.{◌≡◌, ℕ, Bool, true, false, cond, List, refl, ap, ◌∙◌, subst}
use Rattle.std.specs.Prelude.{Option, Some, None, IsSome, option_map, option_and_then}
use Rattle.std.specs.Option.{unwrap_or}
use Rattle.std.specs.FinMap.{empty, get, get-insert, get-empty}
use Rattle.std.specs.Cmp.{eq_by_cmp_equiv}
use Rattle.std.proofs.lemmas.Cmp.{nat_list_cmp_total}
use Rattle.lake_base.specs.Maps.{byte_order}
use Rattle.lake_base.specs.declared.digest.Digest.{Digest}
use Rattle.lake_values.specs.Ancestry.{commit_of}
use Rattle.lake_values.specs.Commit.{AboutValue}
use Rattle.lake_values.specs.KeyMap.{KeyMapValue, apply, value_after, over}
use Rattle.lake_values.proofs.KeyMapLemmas.{get_apply, apply_over, same}
use Rattle.lake_format.specs.Spelling.{commit_id}
use Rattle.lake_model.specs.declared.history.Operation.TheVariants.{Seal, Commit}
use Rattle.lake_model.specs.declared.history.SealFor.{SealFor}
use Rattle.lake_model.specs.State.{Branch, Repository, State, map_of, head_map, sealed_map, now_map}
use Rattle.lake_model.specs.Parts.{changed_at}
use Rattle.lake_model.specs.Uncommitted.{sealed_branch}
use Rattle.lake_model.specs.Commits.{IsAdmissible, IsCommittable, MayCommit, record_of, commit_draft, with_head, with_draft, draft_on}
use Rattle.lake_model.specs.Now.{now_in, now_of}
use Rattle.lake_model.specs.Soundness.{IsSound, IsSoundRepository}
use Rattle.lake_model.specs.History.{IsPossible, after_operation}
use Rattle.lake_laws.proofs.PartsLemmas.{ties, tied_stands, changed_if, get_changed_at, seen_again}
use Rattle.lake_laws.proofs.OperationLemmas.{with_branches, changed_by, kept_if, get_after}
use Rattle.lake_laws.proofs.KeepingLemmas.{kept_draft, held_there}
use Rattle.lake_laws.proofs.IdentityLemmas.{mapped_with_draft}

pub apply_none : (map : KeyMapValue) → apply empty map ≡ map
apply_none map = same _ _ (λ q. get_apply empty map q ∙ ap (λ change. value_after change (get map q)) (get-empty byte_order q))

-- a change of each repository after which it reads as before
read_again : (branch : List ℕ) (change : Repository → Repository) (o : Option Repository)
    → ((r : Repository) → o ≡ Some r → now_in branch (change r) ≡ now_in branch r)
    → option_and_then (now_in branch) (option_map change o) ≡ option_and_then (now_in branch) o
read_again branch change None again = refl
read_again branch change (Some r) again = again r refl

-- ---- a seal
pub sealed_reads : (r : Repository) (b : Branch) → now_map r (sealed_branch b) ≡ now_map r b
sealed_reads r b = apply_none (apply (over b.staged b.sealed) (head_map r b)) ∙ apply_over b.staged b.sealed (head_map r b)

seal_reads : (repo branch r b : List ℕ) (x : Repository)
    → now_in b (changed_if (ties r repo) (with_branches (changed_at branch sealed_branch)) x) ≡ now_in b x
seal_reads repo branch r b x =
    kept_if (λ y. now_in b y ≡ now_in b x) (ties r repo) (with_branches (changed_at branch sealed_branch)) x
    (λ tie. seen_again (now_map x) branch sealed_branch x.branches b (sealed_reads x))
    refl

-- after a seal each branch reads as before
pub now_of-seal : (state : State) (seat : ℕ) (repo branch : List ℕ) (why : SealFor) (r b : List ℕ)
    → now_of (after_operation seat (Seal repo branch why) state) r b ≡ now_of state r b
now_of-seal state seat repo branch why r b =
    ap (option_and_then (now_in b)) (get_after state seat (Seal repo branch why) r)
    ∙ read_again b (changed_by state.cut (Seal repo branch why) r) (get state.repositories r) (λ x is. seal_reads repo branch r b x)

-- ---- a commit
some_value : {X : Type 0} (o : Option X) → IsSome o → (x : X) × (o ≡ Some x)
some_value None some = absurd cc
some_value (Some x) some = (x, refl)

module _ (state : State) (branch : List ℕ) (r : Repository) (b : Branch) (about : AboutValue) where
  abbrev pub new_id : Digest
  new_id = commit_id (record_of state.cut r.commits (commit_draft r b about))

  abbrev new : Repository
  new = with_draft state.cut branch (commit_draft r b about) r

  pub new_map : map_of new new_id ≡ sealed_map r b
  new_map =
      ap (λ o. unwrap_or o empty) (
      get-insert nat_list_cmp_total r.maps new_id.0 (sealed_map r b) new_id.0
      ∙ ap (λ test. cond test (Some (sealed_map r b)) (get r.maps new_id.0)) ((eq_by_cmp_equiv nat_list_cmp_total).refl new_id.0))

  committed_reads : now_map new (with_head new_id b) ≡ now_map r b
  committed_reads = ap (apply b.staged) (apply_none (map_of new new_id) ∙ new_map)

  other_reads : (x : Branch) → IsAdmissible state r (commit_draft r b about) → IsSome (commit_of r.commits x.head)
      → now_map new x ≡ now_map r x
  other_reads x may there =
      let commit = some_value (commit_of r.commits x.head) there in
      ap (λ map. apply x.staged (apply x.sealed map))
      (mapped_with_draft x.head commit.0 (map_of r x.head) state branch r (commit_draft r b about) may (commit.1, refl)).1

  -- a branch reads as before, the one with the new head and any other
  branch_reads : (q : List ℕ) (x : Branch) → IsAdmissible state r (commit_draft r b about) → IsSoundRepository state.cut r
      → get r.branches branch ≡ Some b → get r.branches q ≡ Some x
      → (test : Bool) → ties q branch ≡ test → now_map new (changed_if test (with_head new_id) x) ≡ now_map r x
  branch_reads q x may sound stands is true tie =
      let there = tied_stands r.branches q branch tie in
      let one : b ≡ x = cc in
      subst (λ y. now_map new (with_head new_id y) ≡ now_map r y) one committed_reads
  branch_reads q x may sound stands is false tie = other_reads x may (sound.heads q x is).0

  draft_reads : (q : List ℕ) → IsAdmissible state r (commit_draft r b about) → IsSoundRepository state.cut r
      → get r.branches branch ≡ Some b → now_in q new ≡ now_in q r
  draft_reads q may sound stands =
      ap (option_map (now_map new)) (get_changed_at branch (with_head new_id) r.branches q)
      ∙ (elim (get r.branches q) as (λ o. get r.branches q ≡ o
      → option_map (now_map new) (option_map (changed_if (ties q branch) (with_head new_id)) o) ≡ option_map (now_map r) o) [
        | None ↦ λ is. refl
        | Some x ↦ λ is. ap Some (branch_reads q x may sound stands is (ties q branch) refl)
      ]) refl

commit_reads : (state : State) (repo branch : List ℕ) (about : AboutValue) (r b : List ℕ) (x : Repository) → IsSound state
    → MayCommit state repo branch about → get state.repositories r ≡ Some x
    → now_in b (changed_if (ties r repo) (draft_on state.cut branch (λ s y. commit_draft s y about)) x) ≡ now_in b x
commit_reads state repo branch about r b x sound may is =
    kept_if (λ y. now_in b y ≡ now_in b x) (ties r repo) (draft_on state.cut branch (λ s y. commit_draft s y about)) x
    (λ tie.
    let on = held_there (λ s. (y : Branch) × (get s.branches branch ≡ Some y) × IsCommittable state branch about s y) state r repo x tie is may in
    kept_draft (λ y. now_in b y ≡ now_in b x) state.cut branch (λ s y. commit_draft s y about) x (λ y was.
    let one : on.0 ≡ y = cc (on.1) in
    draft_reads state branch x y about b (subst (IsCommittable state branch about x) one on.2).head.admissible (sound.repositories r x is) was) refl)
    refl

-- after a possible commit each branch of a sound state reads as before
pub now_of-commit : (state : State) (seat : ℕ) (repo branch : List ℕ) (about : AboutValue) (r b : List ℕ) → IsSound state
    → IsPossible state seat (Commit repo branch about)
    → now_of (after_operation seat (Commit repo branch about) state) r b ≡ now_of state r b
now_of-commit state seat repo branch about r b sound may =
    ap (option_and_then (now_in b)) (get_after state seat (Commit repo branch about) r)
    ∙ read_again b (changed_by state.cut (Commit repo branch about) r) (get state.repositories r)
    (λ x is. commit_reads state repo branch about r b x sound may is)
