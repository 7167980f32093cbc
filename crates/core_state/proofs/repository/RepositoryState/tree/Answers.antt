use Rattle.std.proofs.Common.{ap, sym, ◌∙◌}
use Rattle.std.specs.Prelude.{option_map}
use Rattle.byte_map.proofs.ValuesLemmas.{get_map_values}
use Rattle.core_state.proofs.repository.RepositoryState.tree.Goals as goal

pub returns : goal.returns
returns c = ap (option_map (λ tree. tree.value)) c.get.ensures ∙ sym (get_map_values (λ tree. tree.value) c.args.self.now.trees c.args.id.now.0)
