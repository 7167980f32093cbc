use Rattle.std.proofs.Common.{sym, refl, ◌∙◌, arith}
use Rattle.lake_values.specs.Sameness.{same_row}
use Rattle.lake_values.proofs.SamenessLemmas.{same_end}
use Rattle.plain_reference.proofs.segments.same_rows.Goals as goal

pub loop-at-init : goal.loop-at-init
loop-at-init c = record { lengths = c.if-rows-others.false; rest = refl }

pub returns : goal.returns
returns c =
    sym (c.loop-at.invariant.rest
    ∙ same_end same_row c.loop-at.at c.args.rows.now c.args.others.now c.loop-at-test.false (omega (arith, c.loop-at.invariant.lengths)))
