use Rattle.std.proofs.Common.{Global, ap, ◌∙◌}
use Rattle.std.specs.FinMap.{empty, insert}
use Rattle.std.specs.declared.sync.Arc.{Arc}
use Rattle.byte_map.specs.Values.{map_values}
use Rattle.byte_map.proofs.ValuesLemmas.{map_values_empty, map_values_insert}
use Rattle.meta_range.specs.Ranges.{TreeValue}
use Rattle.meta_range.specs.declared.tree.Tree.{Tree}
use Rattle.core_puts.proofs.first_repository.trees_of.Goals as goal

-- the tree that is shared
abbrev shared : Arc Tree Global → TreeValue
shared tree = tree.value

pub returns : goal.returns
returns c =
    ap (map_values shared) (c.in_ok-insert.ensures.inserted ∙ ap (λ m. insert m c.args.id.0 c.args.tree) c.new-trees.ensures)
    ∙ map_values_insert shared empty c.args.id.0 c.args.tree
    ∙ (λ i. insert (map_values_empty shared i) c.args.id.0 c.args.tree.value)
