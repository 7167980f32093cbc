use Rattle.std.proofs.Common.{cond, get_or, Some, ◌∙◌}
use Rattle.std.specs.BTreeMap.{get}
use Rattle.std.specs.Ordering.{is_eq, nat_cmp}
use Rattle.core_filling.proofs.FillingLemmas.{told_on}
use Rattle.core_filling.proofs.branches.put_holder.Goals as goal

pub loop-token-preserved : goal.loop-token-preserved
loop-token-preserved c t =
    let repo = c.in_ok-copy.ensures.equal in
    let name = c.in_ok-copy-2.ensures.equal in
    told_on c.args.tokens.now c.loop-token.token-index t (c.args.repo.now, c.args.name.now)
    (get nat_cmp c.insert.new.self t) (get nat_cmp c.loop-token.holders t) c.loop-token-test.true
    (c.in_ok-insert.ensures.updates.0 t
    ∙ (λ i. cond (is_eq (nat_cmp (get_or c.args.tokens.now c.loop-token.token-index 0) t)) (Some (repo i, name i)) (get nat_cmp c.loop-token.holders t)))
    ∙ c.loop-token.invariant t
