use Rattle.std.proofs.Common.{◌≡◌, ◌⊎◌, inl, inr, refl}
use Rattle.std.specs.Prelude.{Some, None}
use Rattle.lake_model.specs.declared.fault.StepFault.TheVariants.{NoMemory}
use Rattle.lake_model.specs.Refusals.{first_cause}
use Rattle.lake_model.specs.Steps.{copy_causes}
use Rattle.core_state.specs.LakeStates.{lake_value, state_of}
use Rattle.lake_core.specs.ReadyChanges.{IsReadyCopy}
use Rattle.lake_core.proofs.StepLemmas.{told_again}
use Rattle.lake_core.proofs.paths.ready_copy.Goals as goal

pub returns-in_err-tested-clause-tells : goal.returns-in_err-tested-clause-tells
returns-in_err-tested-clause-tells c given has =
    told_again
    (λ ready.
    (first_cause (copy_causes (state_of (lake_value c.args.lake.now)) given c.args.repo.now c.args.branch.now c.args.version c.args.e.now c.args.from.now)
    ≡ None) × IsReadyCopy (lake_value c.args.lake.now) c.args.repo.now c.args.branch.now c.args.path.now c.args.e.now c.args.from.now ready)
    (λ fault. (fault ≡ NoMemory) ⊎ ((first_cause (copy_causes (state_of (lake_value c.args.lake.now)) given c.args.repo.now c.args.branch.now c.args.version
    c.args.e.now c.args.from.now) ≡ Some fault) × (c.args.lake.now ≡ c.args.lake.now)))
    c.from_residual.result _ c.from_residual.ensures.1
    (elim (c.in_err-tested.ensures given has) [ inl memory ↦ inl memory | inr is ↦ inr (is, refl) ])

pub returns-in_err-puts-clause-tells : goal.returns-in_err-puts-clause-tells
returns-in_err-puts-clause-tells c given has =
    told_again
    (λ ready.
    (first_cause (copy_causes (state_of (lake_value c.args.lake.now)) given c.args.repo.now c.args.branch.now c.args.version c.args.e.now c.args.from.now)
    ≡ None) × IsReadyCopy (lake_value c.args.lake.now) c.args.repo.now c.args.branch.now c.args.path.now c.args.e.now c.args.from.now ready)
    (λ fault. (fault ≡ NoMemory) ⊎ ((first_cause (copy_causes (state_of (lake_value c.args.lake.now)) given c.args.repo.now c.args.branch.now c.args.version
    c.args.e.now c.args.from.now) ≡ Some fault) × (c.puts_of_copy.new.lake ≡ c.args.lake.now)))
    c.from_residual-in_err-puts.result NoMemory c.from_residual-in_err-puts.ensures.1 (inl refl)

pub returns-clause-tells : goal.returns-clause-tells
returns-clause-tells c given has =
    let found = c.in_ok-tested.ensures given has in
    (found.0, record { tested = found.1; puts = c.in_ok-puts.ensures.puts })
