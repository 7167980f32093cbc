-- Merges that are refused: by their source, by what is sealed, by a conflict, by a hook, and by their commit.
use Rattle.std.proofs.Common.{◌≡◌, ◌∷◌, [], true, ℕ, List, refl, sym, ap, ◌∙◌, arith}
use Rattle.std.specs.Prelude.{Some, None, is_some}
use Rattle.std.specs.List.{Contains}
use Rattle.std.specs.FinMap.{get, insert, empty}
use Rattle.lake_base.specs.declared.digest.Digest.{Digest}
use Rattle.lake_values.specs.Ancestry.{base}
use Rattle.lake_values.specs.Commit.{AboutValue}
use Rattle.lake_values.specs.Entry.{EntryValue}
use Rattle.lake_values.specs.KeyMap.{KeyMapValue, apply}
use Rattle.lake_values.specs.Merging.{is_refused}
use Rattle.lake_values.specs.declared.commit.Strategy.{Strategy}
use Rattle.lake_values.specs.declared.commit.Strategy.TheVariants.{Refuse}
use Rattle.lake_values.specs.declared.entry.Change.TheVariants.{Put}
use Rattle.lake_values.proofs.KeyMapLemmas.{get_apply}
use Rattle.lake_model.specs.State.{Branch, State, map_of, sealed_map}
use Rattle.lake_model.specs.Branches.{clean_branch}
use Rattle.lake_model.specs.Parts.{in_repository}
use Rattle.lake_model.specs.Removal.{AreDistinct, with_expired}
use Rattle.lake_model.specs.Commits.{IsMerge}
use Rattle.lake_model.specs.History.{Allows, after, replay}
use Rattle.law_examples.specs.HistoryWords.{quickstart, main, first, outside, head_of, put_entry, seal_entry, a, b}
use Rattle.law_examples.specs.Merges.{Fork, IsMergeAdmissible, dev_head, diverged_lake, merge_commit, merge_entry, resealed_lake, three_commits}
use Rattle.law_examples.proofs.CommitsLemmas.{apart_at}
use Rattle.law_examples.proofs.MapsLemmas.{get_put}
use Rattle.law_examples.proofs.SceneLemmas.{counted, get_one}
use Rattle.law_examples.proofs.LakesLemmas.{refuses_by}
use Rattle.law_examples.proofs.AllowedLemmas.{between, kept, may_fork, no_hooks}
use Rattle.law_examples.proofs.BranchesLemmas.{spread, the_branch}
use Rattle.law_examples.proofs.ChangesLemmas.{ready, to_seal}
use Rattle.law_examples.proofs.DivergedLemmas.{ForkLake, HasFork, diverged, expired_scene}
use Rattle.law_examples.proofs.ForksLemmas.{base_behind}
use Rattle.law_examples.proofs.MergesLemmas as merges
use Rattle.law_examples.proofs.MergesLemmas.{moved}
use Rattle.law_examples.proofs.SidesLemmas.{put_twice, settled_apart}

module _ (lake : State) (fork : Fork) (path : List ℕ) (entry : EntryValue) (at : ForkLake lake fork path entry) (about : AboutValue) where
  abbrev two : Branch
  two = clean_branch at.two

  -- a source that is no commit
  pub without_source : (id : Digest) → (Contains (three_commits fork.cut lake) id → ⊥) → Allows lake (merge_entry id Refuse about) → ⊥
  without_source id none = refuses_by (merge_entry id Refuse about) at.scene (λ allowed.
      none (at.of_three id (the_branch at.s at.r at.bs main two at.main_there (IsMerge (spread at.s at.r at.bs) main id Refuse about) allowed.possible).live.0))

  -- a commit that is expired
  pub expired_source : (id : Digest) → Allows (in_repository quickstart (with_expired id) lake) (merge_entry id Refuse about) → ⊥
  expired_source id = refuses_by (merge_entry id Refuse about) (expired_scene lake fork path entry at id) (λ allowed.
      let kept = (the_branch at.s (with_expired id at.r) at.bs main two at.main_there (IsMerge (spread at.s (with_expired id at.r) at.bs) main id Refuse about)
      allowed.possible).live.1 in
      let lost = ap is_some (get_put {X = Unit {0}} at.r.expired id.0 tt) in
      absurd (cc (sym kept ∙ lost)))

  module _ (distinct : AreDistinct (three_commits fork.cut lake)) where
    abbrev forked : HasFork at.r.commits at.r.maps (first fork.cut) at.one at.two path entry
    forked = at.forked distinct

    -- the first commit, which is the base
    pub same_map : Allows lake (merge_entry (first fork.cut) Refuse about) → ⊥
    same_map = refuses_by (merge_entry (first fork.cut) Refuse about) at.scene
        (merges.same_map at.s at.r at.bs two at.main_there (first fork.cut) (first fork.cut)
        (base_behind at.r.commits (first fork.cut) forked.fork at.two forked.of_two) Refuse about refl)

    pub based : base at.r.commits at.two at.one ≡ Some (first fork.cut)
    based = between at.s at.r at.bs two at.main_there (first fork.cut) at.one path entry forked Refuse about

    -- sides in conflict
    pub conflict : is_refused Refuse empty (insert empty path entry) (insert empty a outside) ≡ true
        → Allows lake (merge_entry (dev_head lake) Refuse about) → ⊥
    conflict refused allowed =
        let settled = merges.settled_of at.s at.r at.bs two at.main_there at.one (first fork.cut) based Refuse about
        (moved (λ (l : State) (id : Digest). Allows l (merge_entry id Refuse about)) (sym at.scene) (sym at.dev_is) allowed) in
        let same = (λ i. is_refused Refuse (forked.base i) (forked.source i) (forked.dest i)) ∙ refused in
        absurd (cc (sym settled ∙ same))

    -- the merge commit is expired
    abbrev k : Digest
    k = merges.new_id at.s at.r at.bs two at.main_there at.one (first fork.cut) based Refuse about

    pub expired_merge : (id : Digest) → id ≡ k → Allows (in_repository quickstart (with_expired id) lake) (merge_entry (dev_head lake) Refuse about) → ⊥
    expired_merge id is allowed =
        let found : Allows (spread at.s (with_expired k at.r) at.bs) (merge_entry at.one Refuse about) =
        moved (λ (l : State) (d : Digest). Allows l (merge_entry d Refuse about))
        (sym (ap (λ (d : Digest). in_repository quickstart (with_expired d) lake) is ∙ expired_scene lake fork path entry at k)) (sym at.dev_is) allowed in
        let kept = (the_branch at.s (with_expired k at.r) at.bs main two at.main_there
        (IsMerge (spread at.s (with_expired k at.r) at.bs) main at.one Refuse about) found.possible).head.admissible.live in
        let lost = ap is_some (get_put {X = Unit {0}} at.r.expired k.0 tt) in
        absurd (cc (sym kept ∙ lost))

-- where the two diverged
module _ (fork : Fork) (about : AboutValue) where
  abbrev at : ForkLake (diverged_lake fork) fork b outside
  at = diverged fork

  abbrev main_branch : Branch
  main_branch = clean_branch at.two

  -- what is sealed on `main` beside its head's map
  abbrev resealed : List ℕ → Branch
  resealed path = ready at.s at.r at.bs main at.two at.main_there path outside

  resealed_scene : (path : List ℕ) → resealed_lake path fork ≡ spread (counted (counted at.s)) at.r (insert at.bs main (resealed path))
  resealed_scene path =
      ap (λ (l : State). replay l (put_entry path outside ∷ seal_entry ∷ [])) at.scene
      ∙ to_seal at.s at.r at.bs main at.two at.main_there path outside refl

  module _ (distinct : AreDistinct (three_commits fork.cut (diverged_lake fork))) where
    abbrev sides : HasFork at.r.commits at.r.maps (first fork.cut) at.one at.two b outside
    sides = at.forked distinct

    lacks_b : get (map_of at.r at.two) b ≡ None
    lacks_b = ap (λ (m : KeyMapValue). get m b) sides.dest ∙ get_one a outside b

    sealed_b : get (sealed_map at.r (resealed b)) b ≡ Some outside
    sealed_b = get_apply (insert empty b (Put outside)) (map_of at.r at.two) b ∙ simp (get_one b (Put outside) b)

    pub over_sealed : Allows (resealed_lake b fork) (merge_entry (dev_head (diverged_lake fork)) Refuse about) → ⊥
    over_sealed = refuses_by (merge_entry (dev_head (diverged_lake fork)) Refuse about) (resealed_scene b) (λ allowed.
        let clean = (the_branch (counted (counted at.s)) at.r (insert at.bs main (resealed b)) main (resealed b) (get_put at.bs main (resealed b))
        (IsMerge (spread (counted (counted at.s)) at.r (insert at.bs main (resealed b))) main (dev_head (diverged_lake fork)) Refuse about)
        allowed.possible).sides.clean in
        apart_at (sealed_map at.r (resealed b)) (map_of at.r at.two) b outside sealed_b lacks_b clean)

    clean_a : sealed_map at.r (resealed a) ≡ map_of at.r at.two
    clean_a = ap (apply (insert empty a (Put outside))) sides.dest ∙ put_twice a outside ∙ sym sides.dest

    pub over_same : IsMergeAdmissible (resealed_lake a fork) (dev_head (diverged_lake fork)) Refuse about
        → Allows (resealed_lake a fork) (merge_entry (dev_head (diverged_lake fork)) Refuse about)
    over_same admissible = moved (λ (l : State) (id : Digest). Allows l (merge_entry id Refuse about)) (resealed_scene a) at.dev_is
        (may_fork (counted (counted at.s)) at.r (insert at.bs main (resealed a)) (resealed a) (get_put at.bs main (resealed a))
        (first fork.cut) at.one b outside sides Refuse about
        at.running (let n = at.count in omega (arith, n))
        (no_hooks (counted (counted at.s)) at.r (insert at.bs main (resealed a)) (resealed a) (get_put at.bs main (resealed a))
        (first fork.cut) at.one b outside sides Refuse about at.free)
        clean_a (kept (diverged_lake fork) fork b outside at Refuse about distinct) settled_apart
        (moved (λ (l : State) (id : Digest). IsMergeAdmissible l id Refuse about) (sym (resealed_scene a)) (sym at.dev_is) admissible))

    -- the commit that the merge would make
    pub merge_commit_is : merge_commit about fork ≡ k (diverged_lake fork) fork b outside at about distinct
    merge_commit_is = moved (λ (l : State) (id : Digest). head_of (after l (merge_entry id Refuse about))
        ≡ k (diverged_lake fork) fork b outside at about distinct) at.scene at.dev_is
        (merges.merged_head at.s at.r at.bs main_branch at.main_there at.one (first fork.cut)
        (based (diverged_lake fork) fork b outside at about distinct) Refuse about)

-- a merge whose commit isn't admissible
pub inadmissible : (state : State) (source : Digest) (strategy : Strategy) (about : AboutValue) → (IsMergeAdmissible state source strategy about → ⊥)
    → Allows state (merge_entry source strategy about) → ⊥
inadmissible state source strategy about none allowed = let may = allowed.possible in none (may.0, may.1, (may.2.0, may.2.1, may.2.2.head.admissible))
