use Rattle.std.proofs.Common.{◌≡◌, length, sym, ◌∙◌, arith, true, false}
use Rattle.std.specs.Str.{bytes_eq}
use Rattle.plain_reference.proofs.AncestryGraphLemmas.{found_here, found_later, found_nowhere}
use Rattle.plain_reference.proofs.ancestry.commit_of.Goals as goal

pub returns-then-eq : goal.returns-then-eq
returns-then-eq c =
    let same : bytes_eq c.loop-other-item.result.0.0 c.args.id.now.0 ≡ true = cc (sym c.eq.ensures ∙ c.if-eq.true) in
    found_here c.args.commits.now c.args.id.now c.loop-other.other-index c.loop-other.invariant c.loop-other-item.result c.loop-other-test.true
    c.loop-other-item.is same

pub returns : goal.returns
returns c =
    let end : c.loop-other.other-index ≡ length c.args.commits.now = omega arith in
    found_nowhere c.args.commits.now c.args.id.now c.loop-other.other-index c.loop-other.invariant end

pub loop-other-preserved : goal.loop-other-preserved
loop-other-preserved c =
    let other : bytes_eq c.loop-other-item.result.0.0 c.args.id.now.0 ≡ false = cc (sym c.eq.ensures ∙ c.if-eq.false) in
    found_later c.args.commits.now c.args.id.now c.loop-other.other-index c.loop-other.invariant c.loop-other-item.result c.loop-other-test.true
    c.loop-other-item.is other
