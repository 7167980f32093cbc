-- Where a seal of nothing leads.
use Rattle.std.proofs.Common.{◌≡◌, refl, sym, subst, arith}
use Rattle.lake_format.specs.declared.cut.Cut.{Cut}
use Rattle.lake_model.specs.declared.history.Operation.TheVariants.{Seal}
use Rattle.lake_model.specs.declared.history.SealFor.TheVariants as seal
use Rattle.lake_model.specs.State.{State, HasBranch, head_map, sealed_map}
use Rattle.lake_model.specs.Branches.{IsUnprotected}
use Rattle.lake_model.specs.Soundness.{fresh}
use Rattle.law_examples.specs.HistoryWords.{quickstart, main}
use Rattle.law_examples.specs.Nothing.{empty_seal, lake_of_nothing}
use Rattle.law_examples.proofs.SceneLemmas.{scene, counted, on_main, Leads, leads_one}
use Rattle.law_examples.proofs.EntriesLemmas.{first_repository, first_branch, apply_nothing, after_empty_seal, may}

abbrev pub end : Cut → State
end cut = scene (counted (fresh cut)) (first_repository cut) (first_branch cut)

pub course : (cut : Cut) → Leads (fresh cut) empty_seal (end cut)
course cut = leads_one
    (may (fresh cut) (first_repository cut) (first_branch cut) 1 (Seal quickstart main seal.Commit) refl (omega arith)
    (on_main (λ r b. IsUnprotected r main) (fresh cut) (first_repository cut) (first_branch cut) refl))
    (after_empty_seal (fresh cut) (first_repository cut) (first_branch cut) 1 seal.Commit refl)

pub same : (cut : Cut) → HasBranch (lake_of_nothing cut) quickstart main (λ r b. sealed_map r b ≡ head_map r b)
same cut = subst (λ (x : State). HasBranch x quickstart main (λ r b. sealed_map r b ≡ head_map r b)) (sym (course cut).comes)
    (on_main (λ r b. sealed_map r b ≡ head_map r b) (counted (fresh cut)) (first_repository cut) (first_branch cut) (apply_nothing _))
