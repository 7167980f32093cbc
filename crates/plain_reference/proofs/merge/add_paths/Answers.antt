use Rattle.std.specs.FinMap.{contains_key}
use Rattle.lake_values.specs.declared.entry.Change.TheVariants.{Delete}
use Rattle.plain_reference.proofs.MergeLemmas.{or_nothing, paths_next, paths_all}
use Rattle.plain_reference.proofs.merge.add_paths.Goals as goal

pub loop-path-init : goal.loop-path-init
loop-path-init c = λ q. or_nothing (contains_key c.args.paths.now q)

pub loop-path-preserved : goal.loop-path-preserved
loop-path-preserved c = λ q.
    paths_next c.args.paths.now c.loop-path.paths c.set.new.self c.in_ok-copy.field-0 Delete c.as_slice-path-items.result.now c.loop-path.path-index
    c.loop-path-item.result
    c.loop-path-test.true c.loop-path-item.is c.in_ok-copy.ensures.equal c.in_ok-set.ensures.set q (c.loop-path.invariant q)

pub returns : goal.returns
returns c = λ q.
    paths_all c.args.paths.now c.loop-path.paths c.args.map.now c.as_slice-path-items.result.now c.loop-path.path-index c.loop-path-test.false
    c.as_slice-path-items.ensures.entries q (c.loop-path.invariant q)
