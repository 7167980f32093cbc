use Rattle.std.proofs.Common.{◌∙◌}
use Rattle.lakectl_verbs.proofs.ReadLemmas.{text_next, text_here, text_none}
use Rattle.lakectl_verbs.proofs.read.text_of.Goals as goal

pub loop-value-preserved : goal.loop-value-preserved
loop-value-preserved c =
    text_next c.args.values.now c.loop-value.value-index _ c.args.name.now _ c.loop-value-test.true c.eq.ensures c.if-eq.false ∙ c.loop-value.invariant

pub returns-then-eq : goal.returns-then-eq
returns-then-eq c =
    text_here c.args.values.now c.loop-value.value-index _ c.args.name.now _ c.loop-value-test.true c.eq.ensures c.if-eq.true ∙ c.loop-value.invariant

pub returns : goal.returns
returns c = text_none c.args.values.now c.loop-value.value-index c.args.name.now c.loop-value-test.false ∙ c.loop-value.invariant
