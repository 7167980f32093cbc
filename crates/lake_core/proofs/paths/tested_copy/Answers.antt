use Rattle.std.proofs.Common.{◌≡◌, ◌⊎◌, ap, inl, inr, refl, ◌∙◌, subst, sym}
use Rattle.std.specs.Prelude.{Some, None}
use Rattle.lake_model.specs.declared.fault.StepFault.TheVariants.{NoMemory}
use Rattle.lake_model.specs.declared.history.Operation.TheVariants.{Copy}
use Rattle.lake_model.specs.Refusals.{first_cause}
use Rattle.lake_model.specs.Steps.{copy_causes}
use Rattle.core_causes.specs.Finding.{FindsCopy, source_of}
use Rattle.core_state.specs.LakeStates.{lake_value, state_of}
use Rattle.lake_core.specs.ReadyChanges.{IsTestedCopy}
use Rattle.lake_core.proofs.StepLemmas.{told_again}
use Rattle.lake_core.proofs.paths.tested_copy.Goals as goal

pub returns-in_err-copied : goal.returns-in_err-copied
returns-in_err-copied c given has =
    told_again
    (λ tested.
    (first_cause (copy_causes (state_of (lake_value c.args.lake.now)) given c.args.repo.now c.args.branch.now c.args.version c.args.e.now c.args.from.now)
    ≡ None) × IsTestedCopy (state_of (lake_value c.args.lake.now)) c.args.repo.now c.args.branch.now c.args.path.now c.args.e.now c.args.from.now tested)
    (λ fault. (fault ≡ NoMemory) ⊎ (first_cause
    (copy_causes (state_of (lake_value c.args.lake.now)) given c.args.repo.now c.args.branch.now c.args.version c.args.e.now c.args.from.now) ≡ Some fault))
    c.from_residual.result _ c.from_residual.ensures.1 (inr (c.in_err-copied.ensures given has))

pub returns-in_err-tested : goal.returns-in_err-tested
returns-in_err-tested c given has =
    told_again
    (λ tested.
    (first_cause (copy_causes (state_of (lake_value c.args.lake.now)) given c.args.repo.now c.args.branch.now c.args.version c.args.e.now c.args.from.now)
    ≡ None) × IsTestedCopy (state_of (lake_value c.args.lake.now)) c.args.repo.now c.args.branch.now c.args.path.now c.args.e.now c.args.from.now tested)
    (λ fault. (fault ≡ NoMemory) ⊎ (first_cause
    (copy_causes (state_of (lake_value c.args.lake.now)) given c.args.repo.now c.args.branch.now c.args.version c.args.e.now c.args.from.now) ≡ Some fault))
    c.from_residual-in_err-tested.result NoMemory c.from_residual-in_err-tested.ensures.1 (inl refl)

pub returns : goal.returns
returns c given has =
    let found = c.in_ok-copied.ensures given has in (
      found.0,
      record {
        commit = c.in_ok-copied.copied.commit;
        finds = subst (λ x. FindsCopy (state_of (lake_value c.args.lake.now)) c.args.repo.now c.args.e.now c.args.from.now x c.in_ok-copied.copied.commit)
            (sym c.in_ok-tested.ensures.entry) found.1;
        operation = c.in_ok-tested.ensures.operation ∙ ap (λ v. Copy c.args.repo.now c.args.branch.now c.args.path.now
            (source_of v.name c.in_ok-copied.copied.commit) c.args.from.now c.in_ok-copied.copied.entry.now) c.e.view_is
            ∙ ap (λ x. Copy c.args.repo.now c.args.branch.now c.args.path.now (source_of c.args.e.now.name c.in_ok-copied.copied.commit) c.args.from.now x)
            (sym c.in_ok-tested.ensures.entry);
        answer = c.in_ok-tested.ensures.answer ∙ sym c.in_ok-tested.ensures.entry;
      },
    )
