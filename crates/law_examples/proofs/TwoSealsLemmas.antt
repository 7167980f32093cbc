-- Where two seals and a commit lead, and what is answered after them.
use Rattle.std.proofs.Common.{◌≡◌, ◌∷◌, [], refl, sym, subst, arith}
use Rattle.std.specs.Prelude.{Option, Some}
use Rattle.std.specs.FinMap.{empty}
use Rattle.lake_values.specs.Commit.{AboutValue}
use Rattle.lake_format.specs.declared.cut.Cut.{Cut}
use Rattle.lake_model.specs.declared.fault.StepFault.TheVariants.{Changed}
use Rattle.lake_model.specs.declared.history.Operation.TheVariants.{Seal}
use Rattle.lake_model.specs.declared.history.SealFor.TheVariants as seal
use Rattle.lake_model.specs.State.{Branch, Repository, State, HasBranch, head_map, sealed_map}
use Rattle.lake_model.specs.Branches.{IsUnprotected}
use Rattle.lake_model.specs.History.{IsLegal}
use Rattle.lake_model.specs.Soundness.{fresh}
use Rattle.lake_model.specs.Refusals.{Clash, first_cause}
use Rattle.lake_model.specs.Steps.{swap_causes}
use Rattle.lake_model.specs.Versions.{branch_version, count_versions, fresh_versions}
use Rattle.law_examples.specs.HistoryWords.{quickstart, main, outside, seal_entry, commit_entry, IsCommitAdmissible, a, until_seal}
use Rattle.law_examples.specs.TwoSeals.{until_second_seal, commit_of_two_seals, lake_of_two_seals, lake_of_their_commit, versions, commit_rule}
use Rattle.law_examples.proofs.SceneLemmas.{scene, counted, on_main, repo_there, main_there, Leads, leads_one, leads_on, legal_more, comes_more}
use Rattle.law_examples.proofs.EntriesLemmas.{first_repository, may, after_empty_seal, apply_nothing}
use Rattle.law_examples.proofs.CommitsLemmas.{with_new, at_new, after_committing, may_commit, apart_at}
use Rattle.law_examples.proofs.StaysStagedLemmas.{a_sealed, second_state, to_seal, has_a, lacks_a}
use Rattle.law_examples.proofs.VersionsLemmas.{version_given, no_settings}

pub second : branch_version (count_versions fresh_versions until_seal) quickstart main ≡ 2
second = version_given fresh_versions

pub third : branch_version (count_versions fresh_versions until_second_seal) quickstart main ≡ 3
third = version_given (count_versions fresh_versions until_seal)

pub fourth : (about : AboutValue) → branch_version (versions about) quickstart main ≡ 4
fourth about = version_given (count_versions fresh_versions until_second_seal)

module _ (cut : Cut) where
  abbrev pub third_state : State
  third_state = counted (second_state cut)

  third_entry :
      Leads (scene (second_state cut) (first_repository cut) (a_sealed cut)) (seal_entry ∷ []) (scene third_state (first_repository cut) (a_sealed cut))
  third_entry = leads_one
      (may (second_state cut) (first_repository cut) (a_sealed cut) 1 (Seal quickstart main seal.Commit) refl (omega arith)
      (on_main (λ r b. IsUnprotected r main) (second_state cut) (first_repository cut) (a_sealed cut) refl))
      (after_empty_seal (second_state cut) (first_repository cut) (a_sealed cut) 1 seal.Commit refl)

  to_second : Leads (fresh cut) until_second_seal (scene third_state (first_repository cut) (a_sealed cut))
  to_second = leads_on (to_seal cut) third_entry

  module _ (about : AboutValue) where
    abbrev pub new_repository : Repository
    new_repository = with_new third_state (first_repository cut) (a_sealed cut) about

    abbrev pub new_branch : Branch
    new_branch = at_new third_state (first_repository cut) (a_sealed cut) about

    pub comes : lake_of_their_commit cut about ≡ scene (counted third_state) new_repository new_branch
    comes = comes_more (commit_entry about) to_second (after_committing third_state (first_repository cut) (a_sealed cut) about)

    pub legal : IsCommitAdmissible (lake_of_two_seals cut) about → IsLegal (fresh cut) (commit_of_two_seals about)
    legal admissible = legal_more to_second
        (may_commit third_state (first_repository cut) (a_sealed cut) about refl (omega arith) refl refl
        (apart_at (sealed_map (first_repository cut) (a_sealed cut)) (head_map (first_repository cut) (a_sealed cut)) a outside (has_a cut) (lacks_a cut))
        (subst (λ (x : State). IsCommitAdmissible x about) to_second.comes admissible))

    pub unsealed : HasBranch (lake_of_their_commit cut about) quickstart main (λ r b. b.sealed ≡ empty)
    unsealed = subst (λ (x : State). HasBranch x quickstart main (λ r b. b.sealed ≡ empty)) (sym comes)
        (on_main (λ r b. b.sealed ≡ empty) (counted third_state) new_repository new_branch refl)

    pub nothing_sealed : sealed_map new_repository new_branch ≡ head_map new_repository new_branch
    nothing_sealed = apply_nothing _

    pub same : HasBranch (lake_of_their_commit cut about) quickstart main (λ r b. sealed_map r b ≡ head_map r b)
    same = subst (λ (x : State). HasBranch x quickstart main (λ r b. sealed_map r b ≡ head_map r b)) (sym comes)
        (on_main (λ r b. sealed_map r b ≡ head_map r b) (counted third_state) new_repository new_branch nothing_sealed)

    pub late : (other : AboutValue) (clash : Option Clash)
        → first_cause (swap_causes (lake_of_their_commit cut about) (versions about) quickstart main 3 0 (commit_rule other) clash) ≡ Some (Changed 4 0)
    late other clash =
        subst (λ (x : State). first_cause (swap_causes x (versions about) quickstart main 3 0 (commit_rule other) clash) ≡ Some (Changed 4 0)) (sym comes)
        (simp (repo_there, main_there, fourth about, no_settings (versions about) refl))
