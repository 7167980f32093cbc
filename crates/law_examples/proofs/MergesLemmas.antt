-- What a merge into `main` asks, and what it makes.
use Rattle.std.proofs.Common.{◌≡◌, ◌<◌, ◌∷◌, [], ℕ, List, false, sym, ap, subst, ◌∙◌}
use Rattle.std.specs.Prelude.{Option, Some, None, option_map}
use Rattle.std.specs.Option.{unwrap_or}
use Rattle.std.specs.FinMap.{get, insert, empty}
use Rattle.lake_base.specs.Maps.{ByteMap}
use Rattle.lake_base.specs.declared.digest.Digest.{Digest}
use Rattle.lake_values.specs.Ancestry.{base, parents}
use Rattle.lake_values.specs.Commit.{AboutValue}
use Rattle.lake_values.specs.Entry.{EntryValue}
use Rattle.lake_values.specs.KeyMap.{KeyMapValue}
use Rattle.lake_values.specs.Merging.{base_map, is_refused, merged_map, merged_value}
use Rattle.lake_values.specs.declared.commit.Strategy.{Strategy}
use Rattle.lake_values.specs.declared.settings.HookRule.{HookRule}
use Rattle.lake_values.proofs.MergingLemmas.{get_merged}
use Rattle.lake_model.specs.State.{Branch, HasBranch, HasLiveCommit, Repository, State, head_map, map_of, sealed_map}
use Rattle.lake_model.specs.Commits.{Draft, IsAdmissible, IsMerge, denied_by, merge_draft, record_of, with_head}
use Rattle.lake_model.specs.History.{Allows, after}
use Rattle.law_examples.specs.HistoryWords.{quickstart, main, head_of}
use Rattle.law_examples.specs.Merges.{IsMergeAdmissible, merge_entry}
use Rattle.law_examples.proofs.MapsLemmas.{get_put}
use Rattle.law_examples.proofs.SceneLemmas.{counted}
use Rattle.law_examples.proofs.BranchesLemmas.{drafted_id, head_in, in_draft, on_branch, spread, the_branch, with_branches, with_drafted}
use Rattle.law_examples.proofs.ForksLemmas.{by_record}

-- what holds of a lake and a commit holds of others that are the same
pub moved : {lake other : State} {id same : Digest} (P : State → Digest → Type 0) → lake ≡ other → id ≡ same → P other same → P lake id
moved {lake = lake} {other = other} {id = id} {same = same} P e f p = subst (λ (l : State). P l id) (sym e) (subst (λ (d : Digest). P other d) (sym f) p)

module _ (s : State) (r : Repository) (bs : ByteMap Branch) (m : Branch) (there : get bs main ≡ Some m) (source root : Digest)
    (based : base r.commits m.head source ≡ Some root) (strategy : Strategy) (about : AboutValue) where
  abbrev pub draft : Draft
  draft = merge_draft source strategy about (with_branches r bs) m

  -- the base of its sides
  base_is : base_map (option_map (map_of r) (base r.commits m.head source)) ≡ map_of r root
  base_is = ap (λ (o : Option Digest). base_map (option_map (map_of r) o)) based

  -- without hooks none denies it
  pub no_hooks : r.notes.hooks ≡ None → denied_by r.notes.hooks main (head_map r m) draft ≡ None
  no_hooks none = ap (λ (x : Option (List HookRule)). denied_by x main (head_map r m) draft) none

  -- what the merge asks, of a lake that runs
  pub may_merge : s.stopped ≡ false → s.entries < 4194304 → denied_by r.notes.hooks main (head_map r m) draft ≡ None → sealed_map r m ≡ head_map r m
      → HasLiveCommit r source → (map_of r source ≡ map_of r root → ⊥)
      → is_refused strategy (map_of r root) (map_of r source) (head_map r m) ≡ false → IsMergeAdmissible (spread s r bs) source strategy about
      → Allows (spread s r bs) (merge_entry source strategy about)
  may_merge running room free clean live changed settled admissible = record {
    running = running;
    room = room;
    possible = on_branch s r bs main m there (IsMerge (spread s r bs) main source strategy about) (record {
      live = live;
      sides = record {
        clean = clean;
        changed = λ is. changed (is ∙ base_is);
        settled = ap (λ (x : KeyMapValue). is_refused strategy x (map_of r source) (head_map r m)) base_is ∙ settled;
      };
      head = record {
        allowed = free;
        admissible = the_branch s r bs main m there (λ x y. IsAdmissible (spread s r bs) x (merge_draft source strategy about x y)) admissible;
      };
    });
  }

  -- a merge whose source has the base's map is refused, and so is one in conflict
  pub same_map : map_of r source ≡ map_of r root → Allows (spread s r bs) (merge_entry source strategy about) → ⊥
  same_map is allowed = (the_branch s r bs main m there (IsMerge (spread s r bs) main source strategy about) allowed.possible).sides.changed (is ∙ sym base_is)

  pub settled_of : Allows (spread s r bs) (merge_entry source strategy about) → is_refused strategy (map_of r root) (map_of r source) (head_map r m) ≡ false
  settled_of allowed =
      ap (λ (x : KeyMapValue). is_refused strategy x (map_of r source) (head_map r m)) (sym base_is)
      ∙ (the_branch s r bs main m there (IsMerge (spread s r bs) main source strategy about) allowed.possible).sides.settled

  -- the hooks allow one that is allowed
  pub free_of : Allows (spread s r bs) (merge_entry source strategy about) → denied_by r.notes.hooks main (head_map r m) draft ≡ None
  free_of allowed = (the_branch s r bs main m there (IsMerge (spread s r bs) main source strategy about) allowed.possible).head.allowed

  -- the lake after it
  abbrev pub new_id : Digest
  new_id = drafted_id s r draft

  abbrev new_branch : Branch
  new_branch = with_head new_id m

  after_merging : after (spread s r bs) (merge_entry source strategy about) ≡ spread (counted s) (with_drafted s r draft) (insert bs main new_branch)
  after_merging = ap counted (in_draft s r bs main m there (merge_draft source strategy about))

  in_merged : (P : Repository → Branch → Type 0) → P (with_branches (with_drafted s r draft) (insert bs main new_branch)) new_branch
      → HasBranch (after (spread s r bs) (merge_entry source strategy about)) quickstart main P
  in_merged P p = subst (λ (l : State). HasBranch l quickstart main P) (sym after_merging)
      (on_branch (counted s) (with_drafted s r draft) (insert bs main new_branch) main new_branch (get_put bs main new_branch) P p)

  -- what the merged map has at a path
  pub get_draft : (path : List ℕ)
      → get draft.objects path ≡ merged_value strategy (get (map_of r root) path) (get (map_of r source) path) (get (head_map r m) path)
  get_draft path = ap (λ (x : KeyMapValue). get (merged_map strategy x (map_of r source) (head_map r m)) path) base_is
      ∙ get_merged strategy (map_of r root) (map_of r source) (head_map r m) path

  pub merged_at : (path : List ℕ) (value : Option EntryValue) → get draft.objects path ≡ value
      → HasBranch (after (spread s r bs) (merge_entry source strategy about)) quickstart main (λ x y. get (head_map x y) path ≡ value)
  merged_at path value is = in_merged (λ x y. get (head_map x y) path ≡ value)
      (ap (λ (o : Option KeyMapValue). get (unwrap_or o empty) path) (get_put r.maps new_id.0 draft.objects) ∙ is)

  pub merged_parents :
      HasBranch (after (spread s r bs) (merge_entry source strategy about)) quickstart main (λ x y. parents x.commits y.head ≡ m.head ∷ source ∷ [])
  merged_parents = in_merged (λ x y. parents x.commits y.head ≡ m.head ∷ source ∷ [])
      (by_record (with_drafted s r draft).commits new_id (record_of s.cut r.commits draft) (get_put r.commits new_id.0 (record_of s.cut r.commits draft))).from

  pub merged_head : head_of (after (spread s r bs) (merge_entry source strategy about)) ≡ new_id
  merged_head = ap head_of after_merging ∙ head_in (counted s) (with_drafted s r draft) (insert bs main new_branch) main new_branch (get_put bs main new_branch)
