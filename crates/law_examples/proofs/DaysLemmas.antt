-- The lakes of the two days and after them, as scenes.
use Rattle.std.proofs.Common.{◌≡◌, ◌∷◌, [], ℕ, List, refl, ap, subst, ◌∙◌, arith}
use Rattle.std.specs.Prelude.{Some, None}
use Rattle.std.specs.FinMap.{get, insert, empty}
use Rattle.lake_base.specs.declared.digest.Digest.{Digest}
use Rattle.lake_values.specs.KeyMap.{ChangesValue, KeyMapValue, value_after}
use Rattle.lake_values.specs.declared.entry.Change.TheVariants.{Put, Delete}
use Rattle.lake_values.specs.declared.settings.NoteName.TheVariants as name
use Rattle.lake_values.proofs.KeyMapLemmas.{get_apply}
use Rattle.lake_format.specs.declared.cut.Cut.{Cut}
use Rattle.lake_model.specs.declared.history.Operation.TheVariants.{NoteSet}
use Rattle.lake_model.specs.State.{Branch, Repository, State, head_map, sealed_map}
use Rattle.lake_model.specs.History.{replay}
use Rattle.lake_model.specs.Soundness.{fresh}
use Rattle.law_examples.specs.RefusedLakes.{one_day}
use Rattle.law_examples.specs.HistoryWords.{quickstart, first, own, head_of, entry_of, commit_entry, IsCommitAdmissible}
use Rattle.law_examples.specs.Days.{x, y, z, said_at, first_changes, lake_before_first, first_day, lake_of_first, second_changes, lake_before_second}
use Rattle.law_examples.specs.Days.{second_day, lake_of_second, last_changes, lake_of_days, first_commit, second_commit}
use Rattle.law_examples.proofs.SceneLemmas.{scene, of_main, counted, get_one, repo_there, in_quickstart, Leads, leads_one, leads_on, comes_more}
use Rattle.law_examples.proofs.EntriesLemmas.{first_repository, may}
use Rattle.law_examples.proofs.CommitsLemmas.{with_new, new_id, after_committing, new_map, may_commit, apart_at}
use Rattle.law_examples.proofs.MapsLemmas.{first_map, get_put, head_scene, no_entry}
use Rattle.law_examples.proofs.KeepingLemmas.{keeping}
use Rattle.law_examples.proofs.UploadsLemmas.{branch_with, out, uploaded, deletion, taking, upload}

module _ (cut : Cut) (digest : Digest) where
  abbrev pub r0 : Repository
  r0 = first_repository cut

  -- the first day
  abbrev pub sealed_first : ChangesValue
  sealed_first = insert empty x (Put (own digest 0))

  abbrev pub before_first : Branch
  before_first = branch_with (first cut) sealed_first empty

  abbrev s1 : State
  s1 = uploaded (fresh cut) 0

  abbrev pub one : Digest
  one = new_id s1 r0 before_first (said_at 1000000)

  abbrev pub r1 : Repository
  r1 = with_new s1 r0 before_first (said_at 1000000)

  abbrev clean_first : Branch
  clean_first = branch_with one empty empty

  first_course : Leads (fresh cut) (first_changes digest) (scene s1 r0 before_first)
  first_course = upload (fresh cut) r0 (first cut) refl (omega arith) refl empty 0 x digest refl

  first_end : lake_of_first cut digest ≡ scene (counted s1) r1 clean_first
  unfolding lake_of_first
  first_end = comes_more (commit_entry (said_at 1000000)) first_course (after_committing s1 r0 before_first (said_at 1000000))

  pub first_is : first_commit cut digest ≡ one
  unfolding first_commit
  first_is = ap head_of first_end ∙ head_scene (counted s1) r1 clean_first

  -- the map of its commit
  pub first_has : (q : List ℕ) → get (sealed_map r0 before_first) q ≡ value_after (get sealed_first q) None
  first_has q = get_apply sealed_first (head_map r0 before_first) q
      ∙ ap (value_after (get sealed_first q)) (ap (λ (m : KeyMapValue). get m q) (first_map cut (first cut)) ∙ no_entry q)

  pub x_in_first : get (sealed_map r0 before_first) x ≡ Some (own digest 0)
  x_in_first = first_has x ∙ simp (get_one x (Put (own digest 0)) x)

  pub first_legal : IsCommitAdmissible (lake_before_first cut digest) (said_at 1000000)
      → Leads (fresh cut) (first_day digest) (scene (counted s1) r1 clean_first)
  first_legal admissible = leads_on first_course (leads_one
      (may_commit s1 r0 before_first (said_at 1000000) refl (omega arith) refl refl
      (apart_at (sealed_map r0 before_first)
      (head_map r0 before_first) x (own digest 0) x_in_first (ap (λ (m : KeyMapValue). get m x) (first_map cut (first cut)) ∙ no_entry x))
      (subst (λ (l : State). IsCommitAdmissible l (said_at 1000000)) first_course.comes admissible))
      (after_committing s1 r0 before_first (said_at 1000000)))

  -- the second day
  abbrev pub sealed_second : ChangesValue
  sealed_second = insert (insert empty x Delete) y (Put (own digest 1))

  abbrev before_second : Branch
  before_second = branch_with one sealed_second empty

  abbrev pub s2 : State
  s2 = uploaded (counted (counted s1)) 1

  abbrev pub two : Digest
  two = new_id s2 r1 before_second (said_at 1100000)

  abbrev pub r2 : Repository
  r2 = with_new s2 r1 before_second (said_at 1100000)

  abbrev pub clean_second : Branch
  clean_second = branch_with two empty empty

  second_course : Leads (scene (counted s1) r1 clean_first) (second_changes digest) (scene s2 r1 before_second)
  second_course = leads_on (deletion (counted s1) r1 one refl (omega arith) refl x)
      (upload (counted (counted s1)) r1 one refl (omega arith) refl (insert empty x Delete) 1 y digest refl)

  pub second_end : lake_of_second cut digest ≡ scene (counted s2) r2 clean_second
  unfolding lake_of_second
  second_end =
      ap (λ (l : State). replay l (second_day digest)) first_end
      ∙ comes_more (commit_entry (said_at 1100000)) second_course (after_committing s2 r1 before_second (said_at 1100000))

  pub second_is : second_commit cut digest ≡ two
  unfolding second_commit
  second_is = ap head_of second_end ∙ head_scene (counted s2) r2 clean_second

  -- the map of its commit
  pub second_has : (q : List ℕ) → get (sealed_map r1 before_second) q ≡ value_after (get sealed_second q) (value_after (get sealed_first q) None)
  second_has q =
      get_apply sealed_second (head_map r1 before_second) q
      ∙ ap (λ (m : KeyMapValue). value_after (get sealed_second q) (get m q)) (new_map s1 r0 before_first (said_at 1000000))
      ∙ ap (value_after (get sealed_second q)) (first_has q)

  pub y_in_second : get (sealed_map r1 before_second) y ≡ Some (own digest 1)
  y_in_second = second_has y ∙ simp (get_put (insert empty x Delete) y (Put (own digest 1)))

  no_y_in_first : get (head_map r1 before_second) y ≡ None
  no_y_in_first = ap (λ (m : KeyMapValue). get m y) (new_map s1 r0 before_first (said_at 1000000)) ∙ first_has y ∙ simp (get_one x (Put (own digest 0)) y)

  pub second_legal : IsCommitAdmissible (lake_before_second cut digest) (said_at 1100000)
      → Leads (scene (counted s1) r1 clean_first) (second_day digest) (scene (counted s2) r2 clean_second)
  second_legal admissible = leads_on second_course (leads_one
      (may_commit s2 r1 before_second (said_at 1100000) refl (omega arith) refl refl
      (apart_at (sealed_map r1 before_second) (head_map r1 before_second) y (own digest 1) y_in_second no_y_in_first)
      (subst (λ (l : State). IsCommitAdmissible l (said_at 1100000))
      (ap (λ (l : State). replay l (second_changes digest)) first_end ∙ second_course.comes) admissible))
      (after_committing s2 r1 before_second (said_at 1100000)))

  -- what comes after
  abbrev pub sealed_last : ChangesValue
  sealed_last = insert empty z (Put (own digest 2))

  abbrev pub last : Branch
  last = branch_with two sealed_last empty

  abbrev s3 : State
  s3 = uploaded (counted s2) 2

  abbrev pub end : State
  end = counted (out s3 3)

  noting : Leads (scene (out s3 3) r2 last) (entry_of (NoteSet quickstart name.Retention (Some one_day)) ∷ []) (scene end (keeping r2) last)
  noting = leads_one
      (may (out s3 3) r2 last 1 (NoteSet quickstart name.Retention (Some one_day)) refl (omega arith) (of_main r2 last, repo_there (of_main r2 last), refl))
      (ap counted (in_quickstart keeping (out s3 3) r2 last))

  pub later_course : Leads (scene (counted s2) r2 clean_second) (last_changes digest) (scene end (keeping r2) last)
  later_course = leads_on (upload (counted s2) r2 two refl (omega arith) refl empty 2 z digest refl)
      (leads_on (taking s3 r2 two refl (omega arith) refl empty 3 z digest refl last) noting)

  pub lake_end : lake_of_days cut digest ≡ scene end (keeping r2) last
  unfolding lake_of_days
  lake_end = ap (λ (l : State). replay l (last_changes digest)) second_end ∙ later_course.comes
