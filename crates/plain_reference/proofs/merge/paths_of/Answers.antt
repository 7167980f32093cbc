use Rattle.std.proofs.Common.{subst}
use Rattle.plain_reference.specs.MergeSteps.{HasPathsToo}
use Rattle.plain_reference.proofs.MergeLemmas.{paths_both}
use Rattle.plain_reference.proofs.merge.paths_of.Goals as goal

pub returns : goal.returns
returns c =
    paths_both c.args.base.now c.args.source.now c.add_paths.new.paths c.add_paths-2.new.paths
    (subst (λ m. HasPathsToo m c.args.base.now c.add_paths.new.paths) c.new-paths.ensures c.in_ok-add_paths.ensures)
    c.in_ok-add_paths-2.ensures
