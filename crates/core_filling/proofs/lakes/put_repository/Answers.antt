use Rattle.std.proofs.Common.{None, Some, ap, ◌∙◌}
use Rattle.std.specs.Prelude.{option_map}
use Rattle.lake_base.specs.Maps.{ByteMap}
use Rattle.byte_map.specs.Values.{map_values, some_values}
use Rattle.byte_map.proofs.ValuesLemmas.{map_values_empty, some_values_empty, some_values_insert}
use Rattle.core_state.specs.BranchStates.{branch_value}
use Rattle.core_state.specs.LakeStates.{lake_value}
use Rattle.core_state.specs.RepositoryStates.{RepositoryStateValue, repository_value}
use Rattle.core_filling.proofs.FillingLemmas.{shared}
use Rattle.core_filling.specs.Filling.{bare_repository}
use Rattle.core_filling.proofs.lakes.put_repository.Goals as goal

pub returns : goal.returns
unfolding lake_value
returns c =
    let l = lake_value c.args.lake.now in
    let said = option_map repository_value in
    let branches = ap (some_values (option_map branch_value)) c.new.ensures ∙ some_values_empty (option_map branch_value) in
    let tags = ap (some_values (λ tag. tag)) c.new-2.ensures ∙ some_values_empty (λ tag. tag) in
    let trees = ap (map_values shared) c.new-4.ensures ∙ map_values_empty shared in
    ap (λ (m : ByteMap RepositoryStateValue). record l { repositories = m })
    (ap (some_values said) c.in_ok-insert.ensures.inserted
    ∙ some_values_insert said c.args.lake.now.repositories c.args.repo
    (Some (record {
      created = c.args.created;
      default_branch = c.args.default_branch;
      settings = c.args.settings;
      branches = c.new.result;
      tags = c.new-2.result;
      graph = c.new-3.result;
      trees = c.new-4.result;
      expired = c.new-5.result;
      retention = None;
      protection = None;
      hooks = None;
    }))
    (bare_repository c.args.created c.args.default_branch c.args.settings)
    (ap Some (λ i. record {
      created = c.args.created;
      default_branch = c.args.default_branch;
      settings = c.args.settings;
      branches = branches i;
      tags = tags i;
      commits = c.new-3.ensures i;
      trees = trees i;
      expired = c.new-5.ensures i;
      notes = record { retention = None; protection = None; hooks = None };
    })))
