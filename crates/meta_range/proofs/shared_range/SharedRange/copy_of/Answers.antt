use Rattle.std.proofs.Common.{[], sym, subst, ◌∙◌, arith}
use Rattle.std.proofs.lemmas.List.{take_all}
use Rattle.lake_base.proofs.ListLemmas.{copied_more}
use Rattle.range_file.specs.Rows.{AreRows}
use Rattle.meta_range.proofs.shared_range.SharedRange.copy_of.Goals as goal

pub loop-path-preserved : goal.loop-path-preserved
loop-path-preserved c =
    copied_more [] c.loop-path.copies.items c.push.new.self.items c.args.rows.now c.loop-path.path-index c.loop-path-item.result
    (c.in_ok-copy.field-0, c.in_ok-copy-2.field-0)
    c.loop-path-test.true c.loop-path-item.is c.loop-path.invariant c.in_ok-push.ensures.items
    (λ i. (c.in_ok-copy.ensures.equal i, c.in_ok-copy-2.ensures.equal i))

pub from_vec-requires : goal.from_vec-requires
from_vec-requires c =
    let rows = c.args.rows.now in
    let whole = c.loop-path.invariant ∙ take_all c.loop-path.path-index rows c.loop-path-test.false in
    subst AreRows (sym whole) (record { some = omega (arith, c.requires.some); few = c.requires.few; ascend = c.requires.ascend })
