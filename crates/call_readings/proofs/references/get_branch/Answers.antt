use Rattle.core_puts.specs.KeeperViews.{KeeperView}
use Rattle.core_readings.proofs.ReplyLemmas.{gives_same}
use Rattle.std.proofs.Common.{◌≡◌, false, Ok}
use Rattle.lake_model.specs.Readings.{find_reply}
use Rattle.lake_calls.specs.CallReadings.{find_branch, named_commit}
use Rattle.lake_calls.specs.CallRefusals.{names_in}
use Rattle.lake_calls.specs.declared.call.Call.TheVariants.{Names}
use Rattle.lake_calls.specs.declared.names.NamingCall.TheVariants as naming
use Rattle.lake_calls.specs.declared.names.NameCall.{NameCall}
use Rattle.lake_calls.specs.declared.reply.Done.TheVariants as done
use Rattle.call_readings.proofs.InstanceLemmas.{reads_branch}
use Rattle.call_readings.proofs.OutcomeLemmas.{gives_then, names_of_name}
use Rattle.call_readings.proofs.ReadingLemmas.{answered}
use Rattle.call_readings.proofs.references.get_branch.Goals as goal

pub returns : goal.returns
returns g c =
    let view : KeeperView _ = record { kept = g.K.Keeper.kept; faults = g.K.Keeper.faults; calls = g.K.Keeper.calls; successes = g.K.Keeper.successes } in
    let call : NameCall = c.args.call.now in
    answered view c.args.seat.now c.find-found.new.seat (λ s given. c.find-found.result ≡ find_reply s call.repo false call.name) c.find-found.ensures
    (Names (naming.GetBranch call)) (find_branch call) (reads_branch call) c.branch_found-outcome.result c.answer.result
    (λ s given sound told. gives_then c.find-found.result (find_reply s call.repo false call.name)
    (λ one. Ok (done.Branch (named_commit (call.name, one.1)))) c.branch_found-outcome.result
    (gives_same c.find-found.result (find_reply s call.repo false call.name) told) c.branch_found-outcome.ensures)
    (c.answer.ensures.reply (names_in call.repo call.name) (names_of_name c.of_name-names.result call.repo c.as_str.result.now call.name c.of_name-names.ensures
    c.as_str.ensures.bytes))
    c.answer.ensures.position c.answer.ensures.edge
