use Rattle.std.proofs.Common.{length, ap, arith}
use Rattle.std.specs.FinMap.{len-entries}
use Rattle.lake_generator.proofs.heads.paths_of.Goals as goal

pub overflow_add-count : goal.overflow_add-count
overflow_add-count c =
    let all = c.loop-row.invariant in
    let few = c.law_of_limits.ensures.few in
    let many = len-entries c.args.tree.now.map in
    omega (arith, all, few, many)

pub returns : goal.returns
returns c =
    let all = c.loop-row.invariant in
    let many = len-entries c.args.tree.now.map in
    let none = ap length c.in_default.ensures.entry.0 in
    omega (arith, all, many, none)
