use Rattle.core_puts.specs.KeeperViews.{KeeperView}
use Rattle.std.proofs.Common.{true, [], refl}
use Rattle.core_readings.specs.Answers.{list_answer}
use Rattle.lake_model.specs.Readings.{names_reply}
use Rattle.lake_model.specs.Refusals.{Gives}
use Rattle.lake_calls.specs.CallReadings.{list_tags}
use Rattle.lake_calls.specs.CallRefusals.{names_in}
use Rattle.lake_calls.specs.declared.call.Call.TheVariants.{Names}
use Rattle.lake_calls.specs.declared.names.NamingCall.TheVariants as naming
use Rattle.lake_calls.specs.declared.names.NamesCall.{NamesCall}
use Rattle.lake_calls.specs.declared.reply.Done.TheVariants as done
use Rattle.call_readings.proofs.InstanceLemmas.{gives_names, reads_tags}
use Rattle.call_readings.proofs.OutcomeLemmas.{names_of_name}
use Rattle.call_readings.proofs.ReadingLemmas.{answered}
use Rattle.call_readings.proofs.references.list_tags.Goals as goal

pub returns : goal.returns
returns g c =
    let view : KeeperView _ = record { kept = g.K.Keeper.kept; faults = g.K.Keeper.faults; calls = g.K.Keeper.calls; successes = g.K.Keeper.successes } in
    let call : NamesCall = c.args.call.now in
    answered view c.args.seat.now c.names-found.new.seat
    (λ s given. Gives (list_answer c.names-found.result) (names_reply s call.repo true call.after call.amount)) c.names-found.ensures
    (Names (naming.ListTags call)) (list_tags call) (reads_tags call) c.tags_found-outcome.result c.answer.result
    (λ s given sound told. gives_names true done.Tags call s (list_answer c.names-found.result) c.tags_found-outcome.result told
    c.tags_found-outcome.ensures)
    (c.answer.ensures.reply (names_in call.repo []) (names_of_name c.of_repository-names.result call.repo [] [] c.of_repository-names.ensures refl))
    c.answer.ensures.position c.answer.ensures.edge
