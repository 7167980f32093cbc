use Rattle.std.proofs.Common.{Some}
use Rattle.core_puts.specs.KeeperViews.{KeeperView}
use Rattle.core_state.specs.LakeStates.{lake_value}
use Rattle.lake_core.specs.Lakes.{state}
use Rattle.lake_core.specs.Makings as makes
use Rattle.lake_model.specs.Refusals.{GivesOrFails}
use Rattle.lake_model.specs.Steps.{delete_branch_reply}
use Rattle.lake_calls.specs.CallRefusals.{names_in}
use Rattle.lake_calls.specs.declared.call.Call.TheVariants.{Names}
use Rattle.lake_calls.specs.declared.names.NameCall.{NameCall}
use Rattle.lake_calls.specs.declared.names.NamingCall.TheVariants as naming
use Rattle.lake_calls.specs.declared.reply.Done.TheVariants as done
use Rattle.call_readings.proofs.OutcomeLemmas.{names_of_name}
use Rattle.call_changes.proofs.ChangeLemmas.{answered}
use Rattle.call_changes.proofs.DecisionLemmas.{delete_branch_decided}
use Rattle.call_changes.proofs.branches.delete_branch.Goals as goal

pub returns : goal.returns
returns g c moment =
    let view : KeeperView _ = record { kept = g.K.Keeper.kept; faults = g.K.Keeper.faults; calls = g.K.Keeper.calls; successes = g.K.Keeper.successes } in
    let call : NameCall = c.args.call.now in
    let step = c.delete_branch-deleted in
    let found = step.ensures.found in
    answered view c.args.seat.now step.new.seat c.args.number (Names (naming.DeleteBranch call)) moment
    (λ l. Some (makes.delete_branch call.repo call.name (lake_value l.present)))
    (λ l. GivesOrFails step.result (delete_branch_reply (state l) call.repo call.name))
    (λ at. done.BranchDeleted) step.result step.ensures
    (delete_branch_decided call moment (lake_value found.present) (state found) step.result step.ensures.answer)
    c.branch_deleted-outcome.result c.branch_deleted-outcome.ensures c.answer.result
    (c.answer.ensures.reply (names_in call.repo call.name)
    (names_of_name c.of_name-names.result call.repo c.as_str.result.now call.name c.of_name-names.ensures c.as_str.ensures.bytes))
    c.answer.ensures.position c.answer.ensures.edge
