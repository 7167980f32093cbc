use Rattle.std.proofs.Common.{◌≡◌, ◌∙◌, sym, refl, None, map}
use Rattle.lakectl_verbs.specs.ReadWords.{value_seen}
use Rattle.lakectl_sent.specs.OptionValues.{first_bad}
use Rattle.lakectl_sent.proofs.LoopLemmas.{fits_step, none_bad}
use Rattle.lakectl_sent.proofs.check.check_of.Goals as goal

pub loop-value-preserved : goal.loop-value-preserved
loop-value-preserved c =
    fits_step c.args.values.now c.loop-value.value-index _ _ c.loop-value-test.true c.in_ok-fits.ensures c.if-not-branch.false ∙ c.loop-value.invariant

pub returns : goal.returns
returns c =
    let none : first_bad (map value_seen c.args.values.now) ≡ None =
    sym c.loop-value.invariant ∙ none_bad c.args.values.now c.loop-value.value-index c.loop-value-test.false in
    rw none refl
