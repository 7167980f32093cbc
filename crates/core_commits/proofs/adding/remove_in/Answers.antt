use Rattle.std.proofs.Common.{ap, ◌∙◌}
use Rattle.byte_map.specs.Values.{map_values}
use Rattle.byte_map.proofs.ValuesLemmas.{map_values_remove}
use Rattle.core_state.specs.RepositoryStates.{repository_value}
use Rattle.core_commits.proofs.CommitLemmas.{shared}
use Rattle.core_commits.proofs.adding.remove_in.Goals as goal

pub returns : goal.returns
returns c =
    let r = repository_value c.args.repository.now in
    let trees = ap (map_values shared) c.remove-tree.ensures.removed ∙ map_values_remove shared c.args.repository.now.trees c.args.id.now.0 in
    λ i. record r { commits = c.remove.ensures i; trees = trees i }
