-- The numbers of statuses.
use Rattle.std.proofs.Common.{◌≡◌, ◌==◌, ℕ, cond, refl, sym, ◌∙◌, ap}
use Rattle.batch_lines.specs.declared.status.ExitStatus.{ExitStatus}
use Rattle.batch_lines.specs.declared.status.ExitStatus.TheVariants.{Done, Refused, Usage}
use Rattle.batch_lines.specs.declared.status.ExitStatus.TheVariants.{SourceFailed, SinkFailed, HostFailed, PairsRefused, OutOfMemory}
use Rattle.batch_lines.specs.Status.{status_number}

-- the status that has a number, where one has
status_at : ℕ → ExitStatus
status_at number =
    cond (number == 0) Done (cond (number == 1) Refused (cond (number == 2) Usage
    (cond (number == 3) SourceFailed (cond (number == 4) SinkFailed (cond (number == 5) HostFailed
    (cond (number == 6) PairsRefused OutOfMemory))))))

at_number : (status : ExitStatus) → status_at (status_number status) ≡ status
unfolding status_at
at_number Done = refl
at_number Refused = refl
at_number Usage = refl
at_number SourceFailed = refl
at_number SinkFailed = refl
at_number HostFailed = refl
at_number PairsRefused = refl
at_number OutOfMemory = refl

-- no two statuses have the same number
pub same_status : (status other : ExitStatus) → status_number status ≡ status_number other → status ≡ other
same_status status other is = sym (at_number status) ∙ ap status_at is ∙ at_number other
