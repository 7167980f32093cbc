-- What is printed of a command.
use Rattle.std.proofs.Common.{◌≡◌, ◌⊎◌, ⊎_elim, ℕ}
use Rattle.lake_base.specs.Outside.{Rose}
use Rattle.http_wire.specs.SinkFronts.{Wrote, WroteFront}
use Rattle.lakectl_shown.specs.declared.showing.Shown.{Shown}
use Rattle.lake_program.specs.Controls.{ControlView, ErrorsFailed, OutputFailed, Prints}

-- a sink failed
pub printing_failed : (old now : ControlView) (shown : Shown) (number : ℕ)
    → (WroteFront old.written now.written shown.out × Rose old.sink_faults now.sink_faults × (now.errors ≡ old.errors)
    × (now.errors_faults ≡ old.errors_faults))
    ⊎ (Wrote old.written now.written shown.out × WroteFront old.errors now.errors shown.err × Rose old.errors_faults now.errors_faults)
    → number ≡ 4 → Prints old now shown number
printing_failed old now shown number how four =
    ⊎_elim (λ out. OutputFailed out.0 out.1 out.2 out.3 four) (λ err. ErrorsFailed err.0 err.1 err.2 four) how
