use Rattle.std.proofs.Common.{◌≡◌, ◌<◌, ◌&&◌, ◌||◌, ap, ◌∙◌, arith, is_some, length}
use Rattle.std.proofs.lemmas.List.{length-map}
use Rattle.std.specs.BTreeMap.{get}
use Rattle.lake_values.specs.Ancestry.{id_order}
use Rattle.pair_trees.specs.PairTrees.{tree_in}
use Rattle.pair_trees.specs.Tables.{has_live_range, has_range, is_live}
use Rattle.pair_trees.proofs.TablesLemmas.{no_names, names_more, tree_at}
use Rattle.pair_trees.proofs.tables.live_ranges_of.Goals as goal

pub loop-at-init : goal.loop-at-init
loop-at-init c = no_names c.new-table.result (has_live_range c.args.cut.now c.args.things.now) c.new-table.ensures.empty

pub loop-at-preserved : goal.loop-at-preserved
loop-at-preserved c =
    let cut = c.args.cut.now in
    let things = c.args.things.now in
    let at = c.loop-at.at in
    let thing = c.index-things-at.result in
    let tree = c.index-trees-at.result in
    let lt : at < length things = omega (arith, ap length c.requires, length-map things (tree_in cut things), c.loop-at-test.true) in
    let same : tree ≡ tree_in cut things thing = tree_at (tree_in cut things) things c.args.trees.now at thing tree lt c.requires c.index-things-at.is
    c.index-trees-at.is in
    names_more (has_live_range cut things) c.loop-at.table c.put_live_ranges.new.table things at thing lt c.index-things-at.is c.loop-at.invariant
    (λ name. c.in_ok-put_live_ranges.ensures name ∙ ap (λ t. is_some (get id_order c.loop-at.table name) || (is_live thing && has_range name t)) same)
