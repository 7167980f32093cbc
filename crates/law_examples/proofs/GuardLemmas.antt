-- Where a seal of another seat and a write lead, and what is answered between them.
use Rattle.std.proofs.Common.{◌≡◌, ◌∷◌, [], false, refl, sym, subst, ◌∙◌, arith}
use Rattle.std.specs.Prelude.{Some, None, Ok, Err}
use Rattle.std.specs.FinMap.{get, insert, empty}
use Rattle.lake_values.specs.KeyMap.{apply}
use Rattle.lake_values.specs.declared.entry.Change.TheVariants.{Put}
use Rattle.lake_format.specs.declared.cut.Cut.{Cut}
use Rattle.lake_model.specs.declared.fault.StepFault.TheVariants.{Changed}
use Rattle.lake_model.specs.declared.history.Operation.TheVariants.{Seal, Stage}
use Rattle.lake_model.specs.declared.history.SealFor.TheVariants as seal
use Rattle.lake_model.specs.State.{Branch, State, head_map}
use Rattle.lake_model.specs.Branches.{IsUnprotected}
use Rattle.lake_model.specs.Readings.{look_reply}
use Rattle.lake_model.specs.Steps.{stage_reply}
use Rattle.lake_model.specs.Uncommitted.{with_staged}
use Rattle.lake_model.specs.Versions.{branch_version, fresh_versions}
use Rattle.lake_model.specs.Soundness.{fresh}
use Rattle.law_examples.specs.HistoryWords.{quickstart, main, at_main, outside, put_entry, a}
use Rattle.law_examples.specs.Guard.{seal_of_other, seal_and_write, lake_of_seal, versions_of_seal, lake_of_write}
use Rattle.law_examples.proofs.SceneLemmas.{scene, counted, on_main, repo_there, main_there, get_one, Leads, leads_one, leads_on}
use Rattle.law_examples.proofs.EntriesLemmas.{first_repository, first_branch, may, after_put_outside, after_empty_seal}
use Rattle.law_examples.proofs.MapsLemmas.{first_map, get_now, no_change, no_entry}
use Rattle.law_examples.proofs.VersionsLemmas.{version_given, no_settings}

pub second : branch_version versions_of_seal quickstart main ≡ 2
second = version_given fresh_versions

module _ (cut : Cut) where
  abbrev with_object : Branch
  with_object = with_staged a (Put outside) (first_branch cut)

  first_entry : Leads (fresh cut) seal_of_other (scene (counted (fresh cut)) (first_repository cut) (first_branch cut))
  first_entry = leads_one
      (may (fresh cut) (first_repository cut) (first_branch cut) 2 (Seal quickstart main seal.Other) refl (omega arith)
      (on_main (λ r b. Unit {0}) (fresh cut) (first_repository cut) (first_branch cut) tt))
      (after_empty_seal (fresh cut) (first_repository cut) (first_branch cut) 2 seal.Other refl)

  second_entry : Leads (scene (counted (fresh cut)) (first_repository cut) (first_branch cut)) (put_entry a outside ∷ [])
      (scene (counted (counted (fresh cut))) (first_repository cut) with_object)
  second_entry = leads_one
      (may (counted (fresh cut)) (first_repository cut) (first_branch cut) 1 (Stage quickstart main a (Put outside)) refl (omega arith)
      (on_main (λ r b. IsUnprotected r main) (counted (fresh cut)) (first_repository cut) (first_branch cut) refl, tt))
      (after_put_outside (counted (fresh cut)) (first_repository cut) (first_branch cut) a)

  pub course : Leads (fresh cut) seal_and_write (scene (counted (counted (fresh cut))) (first_repository cut) with_object)
  course = leads_on first_entry second_entry

  pub late : stage_reply (lake_of_seal cut) versions_of_seal quickstart main 1 ≡ Err (Changed 2 0)
  late = subst (λ (x : State). stage_reply x versions_of_seal quickstart main 1 ≡ Err (Changed 2 0)) (sym first_entry.comes)
      (simp (repo_there, main_there, second, no_settings versions_of_seal refl))

  pub current : stage_reply (lake_of_seal cut) versions_of_seal quickstart main 2 ≡ Ok 2
  current = subst (λ (x : State). stage_reply x versions_of_seal quickstart main 2 ≡ Ok 2) (sym first_entry.comes)
      (simp (repo_there, main_there, second, no_settings versions_of_seal refl))

  -- what stands at `a` before the write, and after it
  none_before : get (apply empty (apply empty (head_map (first_repository cut) (first_branch cut)))) a ≡ None
  none_before =
      get_now empty empty (head_map (first_repository cut) (first_branch cut)) a
      ∙ simp (no_change, first_map cut, no_entry)

  one_after : get (apply (insert empty a (Put outside)) (apply empty (head_map (first_repository cut) (first_branch cut)))) a ≡ Some outside
  one_after = get_now (insert empty a (Put outside)) empty (head_map (first_repository cut) (first_branch cut)) a ∙ simp (get_one a (Put outside) a)

  pub before : look_reply (lake_of_seal cut) quickstart at_main a ≡ Ok (record { at = 1; found = None; gone = false })
  before = subst (λ (x : State). look_reply x quickstart at_main a ≡ Ok (record { at = 1; found = None; gone = false })) (sym first_entry.comes)
      (simp (repo_there, main_there, none_before))

  pub later : look_reply (lake_of_write cut) quickstart at_main a ≡ Ok (record { at = 2; found = Some outside; gone = false })
  later = subst (λ (x : State). look_reply x quickstart at_main a ≡ Ok (record { at = 2; found = Some outside; gone = false })) (sym course.comes)
      (simp (repo_there, main_there, one_after))
