use Rattle.std.proofs.Common.{false, ap, ◌∙◌}
use Rattle.std.specs.Prelude.{option_map}
use Rattle.std.specs.FinMap.{from_entries}
use Rattle.byte_map.specs.Values.{some_values}
use Rattle.byte_map.proofs.ValuesLemmas.{some_values_empty}
use Rattle.core_state.specs.RepositoryStates.{repository_value}
use Rattle.core_state.specs.LakeStates.{lake_value, tickets_of}
use Rattle.core_filling.proofs.lakes.bare_lake.Goals as goal

pub returns : goal.returns
unfolding lake_value
returns c =
    let repositories = ap (some_values (option_map repository_value)) c.new.ensures ∙ some_values_empty (option_map repository_value) in
    λ i. record {
      cut = c.args.cut;
      repositories = repositories i;
      names = c.new-2.ensures i;
      tickets = ap tickets_of c.new-3.ensures.empty i;
      gone = ap from_entries c.new-4.ensures.empty i;
      stopped = false;
      entries = 0;
      references = 0;
      next_number = 0;
      next_version = 0;
      next_token = 0;
    }
