-- Merges that are allowed where the branches diverged, and what they make.
use Rattle.std.proofs.Common.{◌≡◌, ◌<◌, ◌∷◌, [], cond, false, ℕ, List, sym, ap, subst, ◌∙◌, arith}
use Rattle.std.specs.Prelude.{Option, Some, None, is_some}
use Rattle.std.specs.FinMap.{get, insert, empty, get-empty}
use Rattle.std.specs.Ordering.{eq_by_cmp}
use Rattle.lake_base.specs.Maps.{ByteMap, byte_order}
use Rattle.lake_base.specs.declared.digest.Digest.{Digest}
use Rattle.lake_values.specs.Ancestry.{base, parents}
use Rattle.lake_values.specs.Commit.{AboutValue}
use Rattle.lake_values.specs.Entry.{EntryValue}
use Rattle.lake_values.specs.KeyMap.{KeyMapValue}
use Rattle.lake_values.specs.Merging.{is_refused, merged_value}
use Rattle.lake_values.specs.declared.commit.Strategy.{Strategy}
use Rattle.lake_model.specs.State.{Branch, HasBranch, Repository, State, head_map, is_expired, map_of, sealed_map}
use Rattle.lake_model.specs.Branches.{clean_branch}
use Rattle.lake_model.specs.Commits.{Draft, denied_by}
use Rattle.lake_model.specs.Parts.{in_repository}
use Rattle.lake_model.specs.Removal.{AreDistinct, with_expired}
use Rattle.lake_model.specs.History.{Allows, after}
use Rattle.law_examples.specs.HistoryWords.{quickstart, main, first, outside, head_of, a}
use Rattle.law_examples.specs.Merges.{Fork, IsMergeAdmissible, dev_head, merge_entry, three_commits}
use Rattle.law_examples.proofs.CommitsLemmas.{apart_at}
use Rattle.law_examples.proofs.EntriesLemmas.{apply_nothing}
use Rattle.law_examples.proofs.InsertsLemmas.{get_other}
use Rattle.law_examples.proofs.MapsLemmas.{get_put, no_entry}
use Rattle.lake_values.proofs.AncestryLemmas.{one_id}
use Rattle.law_examples.proofs.BranchesLemmas.{spread}
use Rattle.law_examples.proofs.DivergedLemmas.{ForkLake, HasFork, expired_scene}
use Rattle.law_examples.proofs.ForksLemmas.{base_between}
use Rattle.law_examples.proofs.MergesLemmas as merges
use Rattle.law_examples.proofs.MergesLemmas.{moved}
use Rattle.law_examples.proofs.SidesLemmas.{merged_of_one}

-- maps that are one of an entry, and empty
pub one_apart : (map other : KeyMapValue) (path : List ℕ) (entry : EntryValue) → map ≡ insert empty path entry → other ≡ empty → map ≡ other → ⊥
one_apart map other path entry one none = apart_at map other path entry
    (ap (λ (m : KeyMapValue). get m path) one ∙ get_put empty path entry) (ap (λ (m : KeyMapValue). get m path) none ∙ no_entry path)

-- the merge of one child into a branch at the other
module _ (s : State) (r : Repository) (bs : ByteMap Branch) (m : Branch) (there : get bs main ≡ Some m) (root one : Digest) (path : List ℕ) (entry : EntryValue)
    (forked : HasFork r.commits r.maps root one m.head path entry) (strategy : Strategy) (about : AboutValue) where
  pub between : base r.commits m.head one ≡ Some root
  between = base_between r.commits root forked.fork m.head one forked.of_two forked.of_one (λ is. forked.differ.late (sym is))

  abbrev pub draft : Draft
  draft = merges.draft s r bs m there one root between strategy about

  pub may_fork : s.stopped ≡ false → s.entries < 4194304 → denied_by r.notes.hooks main (head_map r m) draft ≡ None → sealed_map r m ≡ head_map r m
      → is_expired r one ≡ false
      → is_refused strategy empty (insert empty path entry) (insert empty a outside) ≡ false → IsMergeAdmissible (spread s r bs) one strategy about
      → Allows (spread s r bs) (merge_entry one strategy about)
  may_fork running room free clean kept settled admissible =
      merges.may_merge s r bs m there one root between strategy about running room free clean (forked.of_one.there, kept)
      (one_apart (map_of r one) (map_of r root) path entry forked.source forked.base)
      ((λ i. is_refused strategy (forked.base i) (forked.source i) (forked.dest i)) ∙ settled)
      admissible

  pub no_hooks : r.notes.hooks ≡ None → denied_by r.notes.hooks main (head_map r m) draft ≡ None
  no_hooks = merges.no_hooks s r bs m there one root between strategy about

  -- what the merged map has at a path
  pub fork_draft : (q : List ℕ) → get draft.objects q
      ≡ merged_value strategy None (cond (eq_by_cmp byte_order q path) (Some entry) None) (cond (eq_by_cmp byte_order q a) (Some outside) None)
  fork_draft q =
      merges.get_draft s r bs m there one root between strategy about q
      ∙ (λ i. merged_value strategy (get (forked.base i) q) (get (forked.source i) q) (get (forked.dest i) q))
      ∙ merged_of_one strategy path entry q

-- the merge of `dev` where the two diverged
module _ (lake : State) (fork : Fork) (path : List ℕ) (entry : EntryValue) (at : ForkLake lake fork path entry) (strategy : Strategy) (about : AboutValue)
    (distinct : AreDistinct (three_commits fork.cut lake)) where
  abbrev root : Digest
  root = first fork.cut

  abbrev two : Branch
  two = clean_branch at.two

  abbrev pub forked : HasFork at.r.commits at.r.maps root at.one at.two path entry
  forked = at.forked distinct

  pub kept : is_expired at.r at.one ≡ false
  kept = ap (λ (m : ByteMap (Unit {0})). is_some (get m at.one.0)) at.unexpired ∙ ap is_some (get-empty {X = Unit {0}} byte_order at.one.0)

  pub fork_allowed : is_refused strategy empty (insert empty path entry) (insert empty a outside) ≡ false
      → IsMergeAdmissible lake (dev_head lake) strategy about → Allows lake (merge_entry (dev_head lake) strategy about)
  fork_allowed settled admissible = moved (λ (l : State) (id : Digest). Allows l (merge_entry id strategy about)) at.scene at.dev_is
      (may_fork at.s at.r at.bs two at.main_there root at.one path entry forked strategy about at.running (let n = at.count in omega (arith, n))
      (no_hooks at.s at.r at.bs two at.main_there root at.one path entry forked strategy about at.free) (apply_nothing (map_of at.r at.two)) kept settled
      (moved (λ (l : State) (id : Digest). IsMergeAdmissible l id strategy about) (sym at.scene) (sym at.dev_is) admissible))

  pub fork_parents :
      HasBranch (after lake (merge_entry (dev_head lake) strategy about)) quickstart main (λ r x. parents r.commits x.head ≡ head_of lake ∷ dev_head lake ∷ [])
  fork_parents = subst (λ (id : Digest). HasBranch (after lake (merge_entry (dev_head lake) strategy about)) quickstart main
      (λ r x. parents r.commits x.head ≡ id ∷ dev_head lake ∷ [])) (sym at.main_is)
      (moved (λ (l : State) (id : Digest).
      HasBranch (after l (merge_entry id strategy about)) quickstart main (λ r x. parents r.commits x.head ≡ at.two ∷ id ∷ [])) at.scene at.dev_is
      (merges.merged_parents at.s at.r at.bs two at.main_there at.one root
      (between at.s at.r at.bs two at.main_there root at.one path entry forked strategy about) strategy about))

  pub fork_merged : (q : List ℕ) (value : Option EntryValue)
      → merged_value strategy None (cond (eq_by_cmp byte_order q path) (Some entry) None) (cond (eq_by_cmp byte_order q a) (Some outside) None) ≡ value
      → HasBranch (after lake (merge_entry (dev_head lake) strategy about)) quickstart main (λ r x. get (head_map r x) q ≡ value)
  fork_merged q value is = moved (λ (l : State) (id : Digest).
      HasBranch (after l (merge_entry id strategy about)) quickstart main (λ r x. get (head_map r x) q ≡ value)) at.scene at.dev_is
      (merges.merged_at at.s at.r at.bs two at.main_there at.one root (between at.s at.r at.bs two at.main_there root at.one path entry forked strategy about)
      strategy about q value
      (fork_draft at.s at.r at.bs two at.main_there root at.one path entry forked strategy about q ∙ is))

  -- where the first commit is expired it may be the base still
  kept_beside : is_expired (with_expired root at.r) at.one ≡ false
  kept_beside = ap is_some (get_other {X = Unit {0}} at.r.expired root.0 tt at.one.0 (λ is. forked.differ.early (sym (one_id at.one root is)))) ∙ kept

  pub expired_base : is_refused strategy empty (insert empty path entry) (insert empty a outside) ≡ false
      → IsMergeAdmissible (in_repository quickstart (with_expired root) lake) (dev_head lake) strategy about
      → Allows (in_repository quickstart (with_expired root) lake) (merge_entry (dev_head lake) strategy about)
  expired_base settled admissible =
      moved (λ (l : State) (id : Digest). Allows l (merge_entry id strategy about)) (expired_scene lake fork path entry at root) at.dev_is
      (may_fork at.s (with_expired root at.r) at.bs two at.main_there root at.one path entry forked strategy about at.running (let n = at.count in
      omega (arith, n))
      (no_hooks at.s (with_expired root at.r) at.bs two at.main_there root at.one path entry forked strategy about at.free)
      (apply_nothing (map_of at.r at.two)) kept_beside settled
      (moved (λ (l : State) (id : Digest). IsMergeAdmissible l id strategy about) (sym (expired_scene lake fork path entry at root))
      (sym at.dev_is) admissible))
