use Rattle.std.proofs.Common.{◌≡◌, ◌⊎◌, inl, inr, refl}
use Rattle.std.specs.Prelude.{Some, None}
use Rattle.lake_model.specs.declared.fault.StepFault.TheVariants.{NoMemory}
use Rattle.lake_model.specs.declared.history.Operation.TheVariants.{Stage}
use Rattle.lake_model.specs.Refusals.{first_cause}
use Rattle.lake_model.specs.Steps.{stage_causes}
use Rattle.core_state.specs.LakeStates.{lake_value, state_of}
use Rattle.core_puts.specs.Puts.{stage_puts}
use Rattle.lake_core.specs.ReadyChanges.{IsReadyChange}
use Rattle.lake_core.proofs.StepLemmas.{told_again}
use Rattle.lake_core.proofs.paths.ready_stage.Goals as goal

pub returns-in_err-test_stage-clause-tells : goal.returns-in_err-test_stage-clause-tells
returns-in_err-test_stage-clause-tells c given has =
    told_again
    (λ ready. (first_cause (stage_causes (state_of (lake_value c.args.lake.now)) given c.args.repo.now c.args.branch.now c.args.version) ≡ None)
    × IsReadyChange (Stage c.args.repo.now c.args.branch.now c.args.path.now c.args.change.now)
    (stage_puts c.args.repo.now c.args.branch.now c.args.path.now c.args.change.now (lake_value c.args.lake.now)) ready)
    (λ fault. (fault ≡ NoMemory) ⊎ ((first_cause (stage_causes (state_of (lake_value c.args.lake.now)) given c.args.repo.now c.args.branch.now c.args.version)
    ≡ Some fault) × (c.args.lake.now ≡ c.args.lake.now)))
    c.from_residual.result _ c.from_residual.ensures.1 (inr (c.in_err-test_stage.ensures given has, refl))

pub returns-in_err-ready-clause-tells : goal.returns-in_err-ready-clause-tells
returns-in_err-ready-clause-tells c given has =
    told_again
    (λ ready. (first_cause (stage_causes (state_of (lake_value c.args.lake.now)) given c.args.repo.now c.args.branch.now c.args.version) ≡ None)
    × IsReadyChange (Stage c.args.repo.now c.args.branch.now c.args.path.now c.args.change.now)
    (stage_puts c.args.repo.now c.args.branch.now c.args.path.now c.args.change.now (lake_value c.args.lake.now)) ready)
    (λ fault. (fault ≡ NoMemory) ⊎ ((first_cause (stage_causes (state_of (lake_value c.args.lake.now)) given c.args.repo.now c.args.branch.now c.args.version)
    ≡ Some fault) × (c.parts_of_stage.new.lake ≡ c.args.lake.now)))
    c.from_residual-in_err-ready.result NoMemory c.from_residual-in_err-ready.ensures.1 (inl refl)

pub returns-clause-tells : goal.returns-clause-tells
returns-clause-tells c given has = (c.in_ok-test_stage.ensures given has, c.in_ok-ready.ensures.ready)
