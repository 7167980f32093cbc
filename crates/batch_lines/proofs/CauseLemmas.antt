-- Counts that rose in one of two calls.
use Rattle.std.proofs.Common.{◌≡◌, ◌≢◌, ◌≤◌, ℕ, refl, arith}
use Rattle.lake_base.specs.Outside.{Rose}
use Rattle.batch_lines.specs.declared.stop.End.{End}
use Rattle.batch_lines.specs.declared.stop.End.TheVariants.{Source, TooLong, SourceFailed, SinkFailed, HostFailed}
use Rattle.batch_lines.specs.declared.status.ExitStatus.{ExitStatus}
use Rattle.batch_lines.specs.declared.status.ExitStatus.TheVariants as exit

pub sink_cause : (end : End) (a b c : ℕ) (status : ExitStatus) → (a ≤ b) × (end ≡ SinkFailed → Rose a b)
    → (b ≤ c) × (status ≡ exit.SinkFailed → end ≢ SinkFailed → Rose b c)
    → (a ≤ c) × (status ≡ exit.SinkFailed → Rose a c)
sink_cause SinkFailed a b c status read finish = (omega (arith, read.0, finish.0), λ is low. omega (arith, read.0, finish.0, read.1 refl))
sink_cause Source a b c status read finish = (omega (arith, read.0, finish.0), λ is low. omega (arith, read.0, finish.0, finish.1 is (λ e. cc) low))
sink_cause TooLong a b c status read finish = (omega (arith, read.0, finish.0), λ is low. omega (arith, read.0, finish.0, finish.1 is (λ e. cc) low))
sink_cause SourceFailed a b c status read finish = (omega (arith, read.0, finish.0), λ is low. omega (arith, read.0, finish.0, finish.1 is (λ e. cc) low))
sink_cause HostFailed a b c status read finish = (omega (arith, read.0, finish.0), λ is low. omega (arith, read.0, finish.0, finish.1 is (λ e. cc) low))

pub host_cause : (end : End) (a b c : ℕ) (status : ExitStatus) → (a ≤ b) × (end ≡ HostFailed → Rose a b)
    → (b ≤ c) × (status ≡ exit.HostFailed → end ≢ HostFailed → Rose b c)
    → (a ≤ c) × (status ≡ exit.HostFailed → Rose a c)
host_cause HostFailed a b c status read finish = (omega (arith, read.0, finish.0), λ is low. omega (arith, read.0, finish.0, read.1 refl))
host_cause Source a b c status read finish = (omega (arith, read.0, finish.0), λ is low. omega (arith, read.0, finish.0, finish.1 is (λ e. cc) low))
host_cause TooLong a b c status read finish = (omega (arith, read.0, finish.0), λ is low. omega (arith, read.0, finish.0, finish.1 is (λ e. cc) low))
host_cause SourceFailed a b c status read finish = (omega (arith, read.0, finish.0), λ is low. omega (arith, read.0, finish.0, finish.1 is (λ e. cc) low))
host_cause SinkFailed a b c status read finish = (omega (arith, read.0, finish.0), λ is low. omega (arith, read.0, finish.0, finish.1 is (λ e. cc) low))
