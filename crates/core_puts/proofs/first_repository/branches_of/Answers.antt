use Rattle.std.proofs.Common.{Some, refl, ap, ◌∙◌}
use Rattle.std.specs.Prelude.{option_map}
use Rattle.std.specs.FinMap.{empty, insert}
use Rattle.byte_map.specs.Values.{some_values}
use Rattle.byte_map.proofs.ValuesLemmas.{some_values_empty, some_values_insert}
use Rattle.core_state.specs.BranchStates.{branch_value}
use Rattle.core_puts.proofs.first_repository.branches_of.Goals as goal

pub returns : goal.returns
returns c =
    let name = c.in_ok-copy.field-0 in
    let branch = c.args.branch in
    ap (some_values (option_map branch_value)) (c.in_ok-insert.ensures.inserted ∙ ap (λ m. insert m name (Some branch)) c.new-branches.ensures)
    ∙ some_values_insert (option_map branch_value) empty name (Some branch) (branch_value branch) refl
    ∙ (λ i. insert (some_values_empty (option_map branch_value) i) (c.in_ok-copy.ensures.equal i) (branch_value branch))
