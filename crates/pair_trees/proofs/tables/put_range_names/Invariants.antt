use Rattle.std.proofs.Common.{drop, take}
use Rattle.pair_trees.specs.Tables.{AddsNames, has_name}
use Rattle.pair_trees.proofs.tables.put_range_names.Given as goal

-- the names of the ranges so far were put
abbrev pub invariant-loop-place : goal.invariant-loop-place
invariant-loop-place l = AddsNames l.fn.table l.table (λ name. has_name name (take l.place (drop 1 l.tree.files)))
