-- Why commits are refused: nothing to commit, a hook, and what isn't admissible.
use Rattle.std.proofs.Common.{◌≡◌, ◌∷◌, [], ℕ, Bool, true, List, refl, sym, ap, subst, ◌∙◌, arith, ◌&&◌, ltb, inl, inr}
use Rattle.std.proofs.lemmas.Bool.{cases_Bool, ltb-false}
use Rattle.std.specs.Prelude.{Option, Some, None, position}
use Rattle.std.specs.FinMap.{get, empty_of_len, get-empty, len}
use Rattle.lake_base.specs.Maps.{byte_order}
use Rattle.lake_base.specs.declared.digest.Digest.{Digest}
use Rattle.lake_values.specs.Commit.{AboutValue}
use Rattle.lake_values.specs.Entry.{EntryValue}
use Rattle.lake_values.specs.HookDecisions.{matches}
use Rattle.lake_values.specs.KeyMap.{ChangesValue, change_between, differences}
use Rattle.lake_values.specs.declared.commit.Strategy.{Strategy}
use Rattle.lake_values.specs.declared.entry.Change.{Change}
use Rattle.lake_values.specs.declared.entry.Change.TheVariants.{Put}
use Rattle.lake_values.specs.declared.settings.NoteName.TheVariants as name
use Rattle.lake_values.proofs.KeyMapLemmas.{get_differences}
use Rattle.lake_format.specs.declared.cut.Cut.{Cut}
use Rattle.lake_model.specs.declared.history.Operation.TheVariants.{NoteSet, RepoCreate}
use Rattle.lake_model.specs.State.{HasBranch, Repository, State, head_map, sealed_map}
use Rattle.lake_model.specs.Branches.{IsUnprotected}
use Rattle.lake_model.specs.Commits.{IsAdmissible, IsCommittable, MayBecomeHead, bare_repository, commit_draft, first_draft}
use Rattle.lake_model.specs.History.{Allows, after}
use Rattle.lake_model.specs.Soundness.{fresh}
use Rattle.law_examples.specs.HistoryWords.{quickstart, main, outside, entry_of, commit_entry, IsCommitAdmissible, a}
use Rattle.law_examples.specs.Nothing.{lake_of_nothing}
use Rattle.law_examples.specs.Picks.{IsPickAdmissible, limited_lake, no_changes, pick_entry}
use Rattle.law_examples.proofs.SceneLemmas.{scene, counted, in_quickstart, on_main, the_main}
use Rattle.law_examples.proofs.EntriesLemmas.{first_branch, first_repository}
use Rattle.law_examples.proofs.NothingLemmas as nothing_lemmas
use Rattle.law_examples.proofs.StaysStagedLemmas.{a_sealed, has_a, lacks_a, second_state}
use Rattle.law_examples.proofs.LakesLemmas.{ready_scene, refuses_by, with_notes}

-- the pattern `main` matches
pub main_itself : matches main main ≡ true
unfolding matches
main_itself = refl

-- a map that has something isn't of length 0
some_len : (m : ChangesValue) (q : List ℕ) (change : Change) → get m q ≡ Some change → ltb 0 (len m) ≡ true
some_len m q change has = elim (cases_Bool (ltb 0 (len m))) [ inl is ↦ is | inr none ↦ absurd (no_len (omega (arith, ltb-false 0 (len m) none))) ]
  where
    no_len : len m ≡ 0 → ⊥
    no_len e = let lacks : get m q ≡ None = ap (λ (x : ChangesValue). get x q) (empty_of_len m e) ∙ get-empty byte_order q in absurd (cc (sym lacks ∙ has))

module _ (cut : Cut) where
  abbrev r0 : Repository
  r0 = first_repository cut

  pub nothing_others : (about : AboutValue) → IsCommitAdmissible (lake_of_nothing cut) about
      → HasBranch (lake_of_nothing cut) quickstart main (λ r b. IsUnprotected r main × MayBecomeHead (lake_of_nothing cut) main r b (commit_draft r b about))
  nothing_others about admissible = subst (λ (l : State).
      HasBranch l quickstart main (λ r b. IsUnprotected r main × MayBecomeHead l main r b (commit_draft r b about))) (sym (nothing_lemmas.course cut).comes)
      (on_main (λ r b. IsUnprotected r main × MayBecomeHead (nothing_lemmas.end cut) main r b (commit_draft r b about))
      (counted (fresh cut)) r0 (first_branch cut) (
        refl,
        record {
          allowed = refl;
          admissible = the_main (λ r b. IsAdmissible (nothing_lemmas.end cut) r (commit_draft r b about)) (counted (fresh cut)) r0 (first_branch cut)
              (subst (λ (l : State). IsCommitAdmissible l about) (nothing_lemmas.course cut).comes admissible);
        },
      ))

  -- the hook is asked about the path `a`
  abbrev hooked : Repository
  hooked = with_notes no_changes name.Hooks r0

  abbrev changed : ChangesValue
  changed = differences (sealed_map r0 (a_sealed cut)) (head_map r0 (a_sealed cut))

  a_changed : get changed a ≡ Some (Put outside)
  a_changed = get_differences (sealed_map r0 (a_sealed cut)) (head_map r0 (a_sealed cut)) a
      ∙ ap (λ (o : Option EntryValue). change_between o (get (head_map r0 (a_sealed cut)) a)) (has_a cut)
      ∙ ap (change_between (Some outside)) (lacks_a cut)

  hooked_scene : limited_lake cut ≡ scene (counted (second_state cut)) hooked (a_sealed cut)
  hooked_scene =
      ap (λ (l : State). after l (entry_of (NoteSet quickstart name.Hooks (Some no_changes)))) (ready_scene cut)
      ∙ ap counted (in_quickstart (with_notes no_changes name.Hooks) (second_state cut) r0 (a_sealed cut))

  pub hook_refuses : (about : AboutValue) → Allows (limited_lake cut) (commit_entry about) → ⊥
  hook_refuses about = refuses_by (commit_entry about) hooked_scene (λ may.
      let free = (the_main (IsCommittable (scene (counted (second_state cut)) hooked (a_sealed cut)) main about)
      (counted (second_state cut)) hooked (a_sealed cut) may.possible).head.allowed in
      let place : Bool → Option ℕ = λ t. position (λ (x : ℕ). t) (0 ∷ []) in
      let denied : place (matches main main && ltb 0 (len changed)) ≡ Some 0 =
      ap (λ (t : Bool). place (t && ltb 0 (len changed))) main_itself ∙ ap place (some_len changed a (Put outside) a_changed) in
      let none : place (matches main main && ltb 0 (len changed)) ≡ None = free in
      absurd (cc (sym denied ∙ none)))

-- entries whose new commit isn't admissible
pub repository_refused : (state : State) (repo branch : List ℕ) (date : ℕ) → (IsAdmissible state (bare_repository date branch) (first_draft date) → ⊥)
    → Allows state (entry_of (RepoCreate repo branch date)) → ⊥
repository_refused state repo branch date none allowed = none allowed.possible.admissible

pub commit_refused : (state : State) (about : AboutValue) → (IsCommitAdmissible state about → ⊥) → Allows state (commit_entry about) → ⊥
commit_refused state about none allowed = let may = allowed.possible in none (may.0, may.1, (may.2.0, may.2.1, may.2.2.head.admissible))

pub pick_refused : (state : State) (base source : Digest) (strategy : Strategy) (about : AboutValue) → (IsPickAdmissible state base source strategy about → ⊥)
    → Allows state (pick_entry base source strategy about) → ⊥
pick_refused state base source strategy about none allowed = let may = allowed.possible in none (may.0, may.1, (may.2.0, may.2.1, may.2.2.head.admissible))
