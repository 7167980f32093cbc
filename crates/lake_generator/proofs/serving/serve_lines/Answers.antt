use Rattle.std.proofs.Common.{◌<◌, ◌+◌, ◌*◌, ◌%◌, ◌^◌, arith, ap, refl, sym, subst, ◌∙◌}
use Rattle.std.proofs.lemmas.Bool.Decides.{nat_tests}
use Rattle.lake_generator.specs.GeneratedLines.{lines_to, number_at}
use Rattle.lake_generator.specs.Serving.{HasServed, HasStopped}
use Rattle.lake_generator.specs.declared.serving.Counts.{Counts}
use Rattle.lake_generator.proofs.ServingLemmas.{lines_on, number_next, stopped_within}
use Rattle.lake_generator.proofs.serving.serve_lines.Goals as goal

pub returns-in-Err-clause-goes : goal.returns-in-Err-clause-goes
returns-in-Err-clause-goes g c =
    stopped_within g.L.LineServer.serves c.args.lines.now c.args.asked.number c.args.asked.objects 0 c.in-Err.status c.begin.new.lines (omega arith)
    (c.in-Err.ensures.goes c.args.asked.number c.args.asked.objects)

pub loop-at-init : goal.loop-at-init
unfolding number_at
loop-at-init g c =
    let uploads = ap (λ (n : Counts). n.uploads) c.in-Ok.ensures.none in
    let heads = ap (λ (n : Counts). n.heads) c.in-Ok.ensures.none in
    (omega arith, refl, omega (arith, uploads), omega (arith, heads), c.begin.ensures.ready, c.in-Ok.ensures.goes c.args.asked.number c.args.asked.objects)

pub returns-in-Err-step-clause-goes : goal.returns-in-Err-step-clause-goes
returns-in-Err-step-clause-goes g c =
    let number = c.args.asked.number in
    let objects = c.args.asked.objects in
    let at = c.loop-at.at in
    let below : at < objects = let test = c.loop-at-test.true in grind (arith, nat_tests) in
    let next = c.next-number.ensures ∙ ap (λ x. (x * 6364136223846793005 + 1442695040888963407) % 2 ^ 64) c.loop-at.invariant.1 ∙ sym (number_next number at) in
    stopped_within g.L.LineServer.serves c.args.lines.now number objects (at + 1) c.in-Err-step.status c.step.new.lines (omega (arith, below))
    (subst (λ lines. HasStopped g.L.LineServer.serves c.args.lines.now lines c.in-Err-step.status c.step.new.lines)
    (lines_on number objects at c.next-number.result next)
    (c.in-Err-step.ensures.goes c.args.lines.now (lines_to number objects at) c.loop-at.invariant.5))

pub loop-at-preserved : goal.loop-at-preserved
loop-at-preserved g c =
    let number = c.args.asked.number in
    let objects = c.args.asked.objects in
    let at = c.loop-at.at in
    let below : at < objects = let test = c.loop-at-test.true in grind (arith, nat_tests) in
    let next = c.next-number.ensures ∙ ap (λ x. (x * 6364136223846793005 + 1442695040888963407) % 2 ^ 64) c.loop-at.invariant.1 ∙ sym (number_next number at) in
    let few = c.loop-at.invariant.2 in
    let fewer = c.loop-at.invariant.3 in
    let uploads = c.in-Ok-step.ensures.uploads in
    let heads = c.in-Ok-step.ensures.heads in (
      omega (arith, below),
      next,
      omega (arith, few, uploads),
      omega (arith, fewer, heads),
      c.step.ensures.ready,
      subst (λ lines. HasServed g.L.LineServer.serves c.args.lines.now lines c.in-Ok-step.counts c.step.new.lines)
          (lines_on number objects at c.next-number.result next)
          (c.in-Ok-step.ensures.goes c.args.lines.now (lines_to number objects at) c.loop-at.invariant.5),
    )
