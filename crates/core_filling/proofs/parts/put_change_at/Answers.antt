use Rattle.std.proofs.lemmas.Result.{on_ok_weaker}
use Rattle.core_state.specs.BranchStates.{branch_value}
use Rattle.core_changes.proofs.PlacesLemmas.{changed_nowhere, changed_place}
use Rattle.core_filling.specs.Parts.{with_token_change}
use Rattle.core_filling.proofs.parts.put_change_at.Goals as goal

pub returns-in-Some : goal.returns-in-Some
returns-in-Some c =
    on_ok_weaker c.put_change_here.result
    (changed_place branch_value c.args.branches.now c.args.name.now (with_token_change c.args.token c.args.path c.args.change)
    c.in-Some.place.now c.put_change_here.new.place c.in-Some.ensures.value)
    c.put_change_here.ensures

pub returns-in-None : goal.returns-in-None
returns-in-None c =
    changed_nowhere branch_value c.args.branches.now c.args.name.now (with_token_change c.args.token c.args.path c.args.change) c.in-None.ensures.value
