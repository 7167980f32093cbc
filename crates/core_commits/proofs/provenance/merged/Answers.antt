use Rattle.core_state.specs.RepositoryStates.{repository_value}
use Rattle.core_commits.proofs.ProvenanceLemmas.{merge_of, trio_file}
use Rattle.core_commits.proofs.provenance.merged.Goals as goal

pub returns-clause-made : goal.returns-clause-made
returns-clause-made c =
    merge_of (repository_value c.args.repository.now) c.args.base.now c.args.source.now c.args.dest.now
    c.in-Some.base.now c.in-Some-tree_at.source.now c.in-Some-tree_at-2.dest.now c.in-Some.ensures c.in-Some-tree_at.ensures c.in-Some-tree_at-2.ensures

pub returns-clause-trees : goal.returns-clause-trees
returns-clause-trees c =
    trio_file (repository_value c.args.repository.now) c.args.base.now c.args.source.now c.args.dest.now
    c.in-Some.base.now c.in-Some-tree_at.source.now c.in-Some-tree_at-2.dest.now c.in-Some.ensures c.in-Some-tree_at.ensures c.in-Some-tree_at-2.ensures
