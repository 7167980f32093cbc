use Rattle.core_puts.specs.KeeperViews.{KeeperView}
use Rattle.std.proofs.Common.{Ok, refl, [], subst, ◌∙◌}
use Rattle.core_readings.specs.Answers.{page_answer}
use Rattle.lake_model.specs.Readings.{page_reply}
use Rattle.lake_model.specs.Refusals.{Gives}
use Rattle.lake_calls.specs.CallReadings.{list_objects}
use Rattle.lake_calls.specs.CallRefusals.{names_at}
use Rattle.lake_calls.specs.declared.call.Call.TheVariants.{Objects}
use Rattle.lake_calls.specs.declared.objects.ObjectCall.TheVariants as object
use Rattle.lake_calls.specs.declared.objects.ListCall.{ListCall}
use Rattle.lake_calls.specs.declared.reply.Done.TheVariants as done
use Rattle.call_readings.proofs.InstanceLemmas.{reads_page}
use Rattle.call_readings.proofs.OutcomeLemmas.{gives_then}
use Rattle.call_readings.proofs.ReadingLemmas.{answered}
use Rattle.call_readings.proofs.objects.list_objects.Goals as goal

pub returns : goal.returns
returns g c =
    let view : KeeperView _ = record { kept = g.K.Keeper.kept; faults = g.K.Keeper.faults; calls = g.K.Keeper.calls; successes = g.K.Keeper.successes } in
    let call : ListCall = c.args.call.now in
    answered view c.args.seat.now c.page-found.new.seat
    (λ s given. Gives (page_answer c.page-found.result) (page_reply s call.repo c.expr.result.now call.query))
    c.page-found.ensures
    (Objects (object.List call)) (list_objects call) (reads_page call) c.page_found-outcome.result c.answer.result
    (λ s given sound told. gives_then (page_answer c.page-found.result) (page_reply s call.repo call.at.e call.query)
    (λ page. Ok (done.Listing (record { items = page.items; has_more = page.more }))) c.page_found-outcome.result
    (subst (λ e. Gives (page_answer c.page-found.result) (page_reply s call.repo e call.query)) c.expr.ensures told) c.page_found-outcome.ensures)
    (c.answer.ensures.reply (names_at call.repo [] call.at [])
    (record { repo = refl; named = refl; expression = c.as_str.ensures.bytes ∙ c.text.ensures; path = tt; after = refl }))
    c.answer.ensures.position c.answer.ensures.edge
