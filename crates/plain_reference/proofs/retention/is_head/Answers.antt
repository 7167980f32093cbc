use Rattle.std.proofs.Common.{refl}
use Rattle.plain_reference.proofs.RetentionLemmas.{head_found, told_ids}
use Rattle.plain_reference.proofs.retention.is_head.Goals as goal

pub returns-then-eq : goal.returns-then-eq
returns-then-eq c =
    let told = told_ids c.loop-head-item.result.1 c.args.id.now c.as_slice.result.now c.as_slice-in-loop-head.result.now c.eq.result c.as_slice.ensures
    c.as_slice-in-loop-head.ensures c.eq.ensures in
    let found =
    head_found c.args.heads.now c.args.id.now c.loop-head.head-index c.loop-head-item.result c.loop-head-test.true c.loop-head-item.is (told.0 c.if-eq.true) in
    (λ _. found, λ _. refl)
