-- A merge where a hook limits the paths that a commit of `main` may change.
use Rattle.std.proofs.Common.{◌≡◌, ◌∷◌, [], ◌&&◌, Bool, true, false, ltb, ℕ, sym, ap, ◌∙◌, arith}
use Rattle.std.specs.Prelude.{Option, Some, position}
use Rattle.std.specs.FinMap.{insert, empty, len}
use Rattle.lake_values.specs.Commit.{AboutValue}
use Rattle.lake_values.specs.KeyMap.{ChangesValue, KeyMapValue, differences}
use Rattle.lake_values.specs.declared.commit.Strategy.TheVariants.{Refuse}
use Rattle.lake_values.specs.declared.entry.Change.TheVariants.{Put}
use Rattle.lake_values.specs.declared.settings.NoteName.TheVariants as name
use Rattle.lake_base.specs.declared.digest.Digest.{Digest}
use Rattle.lake_model.specs.declared.history.Operation.TheVariants.{NoteSet}
use Rattle.lake_model.specs.State.{Branch, Repository, State, map_of}
use Rattle.lake_model.specs.Branches.{clean_branch}
use Rattle.lake_model.specs.Commits.{denied_by}
use Rattle.lake_model.specs.Removal.{AreDistinct}
use Rattle.lake_model.specs.History.{Allows, after}
use Rattle.law_examples.specs.HistoryWords.{quickstart, main, first, outside, entry_of, b}
use Rattle.law_examples.specs.Merges.{Fork, IsMergeAdmissible, change_limit, dev_head, diverged_lake, hooked_lake, merge_entry, three_commits}
use Rattle.law_examples.proofs.EntriesLemmas.{apply_nothing}
use Rattle.law_examples.proofs.SceneLemmas.{counted}
use Rattle.law_examples.proofs.LakesLemmas.{with_notes}
use Rattle.law_examples.proofs.CommittingLemmas.{main_itself}
use Rattle.law_examples.proofs.AllowedLemmas.{between, draft, fork_draft, kept, may_fork}
use Rattle.law_examples.proofs.BranchesLemmas.{in_one, spread, with_branches}
use Rattle.law_examples.proofs.DivergedLemmas.{ForkLake, HasFork, diverged}
use Rattle.law_examples.proofs.MergesLemmas as merges
use Rattle.law_examples.proofs.MergesLemmas.{moved}
use Rattle.law_examples.proofs.SidesLemmas.{len_one, merged_changes, settled_apart}

module _ (count : ℕ) (fork : Fork) (about : AboutValue) (distinct : AreDistinct (three_commits fork.cut (diverged_lake fork))) where
  abbrev at : ForkLake (diverged_lake fork) fork b outside
  at = diverged fork

  abbrev main_branch : Branch
  main_branch = clean_branch at.two

  abbrev root : Digest
  root = first fork.cut

  abbrev sides : HasFork at.r.commits at.r.maps root at.one at.two b outside
  sides = at.forked distinct

  abbrev hooked : Repository
  hooked = with_notes (change_limit count) name.Hooks at.r

  hooked_scene : hooked_lake count fork ≡ spread (counted at.s) hooked at.bs
  hooked_scene =
      ap (λ (l : State). after l (entry_of (NoteSet quickstart name.Hooks (Some (change_limit count))))) at.scene
      ∙ ap counted (in_one (with_notes (change_limit count) name.Hooks) at.s (with_branches at.r at.bs))

  abbrev objects : KeyMapValue
  objects = (draft (counted at.s) hooked at.bs main_branch at.main_there root at.one b outside sides Refuse about).objects

  -- the merge changes one path of `main`
  one_change : differences objects (map_of at.r at.two) ≡ insert empty b (Put outside)
  one_change = merged_changes objects (map_of at.r at.two)
      (fork_draft (counted at.s) hooked at.bs main_branch at.main_there root at.one b outside sides Refuse about) sides.dest

  -- what the hook says of it
  abbrev place : Bool → Option ℕ
  place t = position (λ (x : ℕ). t) (0 ∷ [])

  told : denied_by hooked.notes.hooks main (map_of at.r at.two)
      (draft (counted at.s) hooked at.bs main_branch at.main_there root at.one b outside sides Refuse about) ≡ place (ltb count 1)
  told =
      ap (λ (t : Bool). place (t && ltb count (len (differences objects (map_of at.r at.two))))) main_itself
      ∙ ap (λ (n : ℕ). place (ltb count n)) (ap (λ (c : ChangesValue). len c) one_change ∙ len_one b (Put outside))

  pub hook_refuses : ltb count 1 ≡ true → Allows (hooked_lake count fork) (merge_entry (dev_head (diverged_lake fork)) Refuse about) → ⊥
  hook_refuses above allowed =
      let free = merges.free_of (counted at.s) hooked at.bs main_branch at.main_there at.one root
      (between (counted at.s) hooked at.bs main_branch at.main_there root at.one b outside sides Refuse about) Refuse about
      (moved (λ (l : State) (id : Digest). Allows l (merge_entry id Refuse about)) (sym hooked_scene) (sym at.dev_is) allowed) in
      let denied = told ∙ ap place above in
      absurd (cc (sym denied ∙ free))

  pub hook_allows : ltb count 1 ≡ false → IsMergeAdmissible (hooked_lake count fork) (dev_head (diverged_lake fork)) Refuse about
      → Allows (hooked_lake count fork) (merge_entry (dev_head (diverged_lake fork)) Refuse about)
  hook_allows within admissible = moved (λ (l : State) (id : Digest). Allows l (merge_entry id Refuse about)) hooked_scene at.dev_is
      (may_fork (counted at.s) hooked at.bs main_branch at.main_there root at.one b outside sides Refuse about at.running (let n = at.count in omega (arith, n))
      (told ∙ ap place within) (apply_nothing (map_of at.r at.two)) (kept (diverged_lake fork) fork b outside at Refuse about distinct) settled_apart
      (moved (λ (l : State) (id : Digest). IsMergeAdmissible l id Refuse about) (sym hooked_scene) (sym at.dev_is) admissible))
