use Rattle.std.proofs.Common.{option_map, sym, ap, subst}
use Rattle.lake_base.specs.declared.digest.Digest.{Digest}
use Rattle.lake_values.specs.Ancestry.{base}
use Rattle.lake_values.specs.KeyMap.{KeyMapValue}
use Rattle.lake_values.specs.Merging.{base_map}
use Rattle.lake_model.specs.declared.reply.Sides.{Sides}
use Rattle.lake_model.specs.Preparing.{side_maps}
use Rattle.lake_model.specs.State.{map_of}
use Rattle.core_state.specs.RepositoryStates.{repository_value}
use Rattle.core_readings.proofs.PlacesLemmas.{branch_at, repository_at}
use Rattle.core_readings.specs.Trees.{AreTreesOf, IsTreeOf}
use Rattle.core_readings.proofs.TreesLemmas.{tree_of_map}
use Rattle.core_readings.proofs.sides.side_trees.Goals as goal

pub returns-in_ok-tree_of-in-Merge-clause-maps : goal.returns-in_ok-tree_of-in-Merge-clause-maps
returns-in_ok-tree_of-in-Merge-clause-maps c =
    let r = repository_value c.args.repository.now in
    let q = repository_at c.args.repository.now in
    let source = c.in_ok-tree_of-in-Merge.field-0.value in
    let at = ap (λ (head : Digest). base_map (option_map (map_of q) (base q.commits head c.in-Merge.source))) c.head.ensures in
    subst (λ (sides : Sides). AreTreesOf r (side_maps q (branch_at c.args.branch.now) sides) (c.in_ok-base-in-Merge.base.value, source)) (sym c.in-Merge.is)
    (record {
      base = subst (λ (map : KeyMapValue). IsTreeOf r map c.in_ok-base-in-Merge.base.value) at c.in_ok-base-in-Merge.ensures.map;
      source = tree_of_map r c.in-Merge.source source c.in_ok-tree_of-in-Merge.ensures;
    })

pub returns-in_ok-tree_of-in-Pick-2-clause-maps : goal.returns-in_ok-tree_of-in-Pick-2-clause-maps
returns-in_ok-tree_of-in-Pick-2-clause-maps c =
    let r = repository_value c.args.repository.now in
    let base = c.in_ok-tree_of-in-Pick.field-0.value in
    let source = c.in_ok-tree_of-in-Pick-2.field-0.value in
    subst (λ (sides : Sides). AreTreesOf r (side_maps (repository_at c.args.repository.now) (branch_at c.args.branch.now) sides) (base, source))
    (sym c.in-Pick.is)
    (record {
      base = tree_of_map r c.in-Pick.base base c.in_ok-tree_of-in-Pick.ensures;
      source = tree_of_map r c.in-Pick.source source c.in_ok-tree_of-in-Pick-2.ensures;
    })

pub returns-in_ok-tree_of-in-Merge-clause-cut : goal.returns-in_ok-tree_of-in-Merge-clause-cut
returns-in_ok-tree_of-in-Merge-clause-cut c cut by =
    (c.in_ok-base-in-Merge.ensures.cut cut by, by c.in-Merge.source c.in_ok-tree_of-in-Merge.field-0.value c.in_ok-tree_of-in-Merge.ensures)

pub returns-in_ok-tree_of-in-Pick-2-clause-cut : goal.returns-in_ok-tree_of-in-Pick-2-clause-cut
returns-in_ok-tree_of-in-Pick-2-clause-cut c cut by = (
  by c.in-Pick.base c.in_ok-tree_of-in-Pick.field-0.value c.in_ok-tree_of-in-Pick.ensures,
  by c.in-Pick.source c.in_ok-tree_of-in-Pick-2.field-0.value c.in_ok-tree_of-in-Pick-2.ensures,
)
