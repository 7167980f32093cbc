use Rattle.std.proofs.Common.{subst}
use Rattle.core_puts.specs.KeeperViews.{KeeperView}
use Rattle.lake_calls.specs.Calls.{NewRepositoryCall}
use Rattle.lake_calls.specs.CallRefusals.{names_in}
use Rattle.lake_calls.specs.declared.call.Call.TheVariants.{Names}
use Rattle.lake_calls.specs.declared.names.NamingCall.TheVariants as naming
use Rattle.call_readings.proofs.OutcomeLemmas.{names_of_name}
use Rattle.call_readings.specs.ToldFaults.{AreNames}
use Rattle.call_changes.proofs.CreationLemmas.{create_repository_answered}
use Rattle.call_changes.proofs.StarvedLemmas.{starved_change}
use Rattle.call_changes.proofs.repositories.create_repository.Goals as goal

pub returns-in-Err : goal.returns-in-Err
returns-in-Err g c =
    let call : NewRepositoryCall = c.args.call.now in
    starved_change c.args.seat.now c.out_of_memory.new.seat c.args.number (Names (naming.CreateRepository call)) c.args.moment c.out_of_memory.result
    (c.out_of_memory.ensures.served (Names (naming.CreateRepository call))) c.out_of_memory.ensures.reply

pub returns : goal.returns
returns g c =
    let view : KeeperView _ = record { kept = g.K.Keeper.kept; faults = g.K.Keeper.faults; calls = g.K.Keeper.calls; successes = g.K.Keeper.successes } in
    let call : NewRepositoryCall = c.args.call.now in
    let name = c.call.inside.name in
    create_repository_answered view c.args.seat.now c.create_repo-made.new.seat c.args.number c.args.moment call c.in-Ok.copies.0 c.in-Ok.copies.1
    c.in-Ok.copies.2 c.in-Ok.ensures.name c.in-Ok.ensures.branch c.in-Ok.ensures.told
    c.create_repo-made.result c.create_repo-made.ensures c.repository_made-outcome.result c.repository_made-outcome.ensures c.answer.result
    (c.answer.ensures.reply (names_in call.name call.name)
    (subst (λ (n : NewRepositoryCall). AreNames c.of_name-names.result (names_in n.name n.name)) c.call.view_is
    (names_of_name c.of_name-names.result name c.as_str.result.now name c.of_name-names.ensures c.as_str.ensures.bytes)))
    c.answer.ensures.position c.answer.ensures.edge
