use Rattle.std.proofs.Common.{ap, ◌∙◌}
use Rattle.lake_base.specs.Clocks.{FixedClockValue}
use Rattle.lake_base.specs.Memory.{next_count}
use Rattle.lake_generator.proofs.run.told_of_lines.Goals as goal

pub told_at-requires-clause-clock : goal.told_at-requires-clause-clock
told_at-requires-clause-clock g c =
    c.now.ensures.counted ∙ ap (λ (clock : FixedClockValue). record clock { given = next_count clock.given }) c.new-clock.ensures
