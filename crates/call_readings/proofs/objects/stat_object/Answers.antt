use Rattle.core_puts.specs.KeeperViews.{KeeperView}
use Rattle.std.proofs.Common.{Ok, refl, [], subst, ◌∙◌}
use Rattle.lake_model.specs.Readings.{look_reply, ◌then◌}
use Rattle.lake_model.specs.Refusals.{Gives}
use Rattle.lake_calls.specs.CallReadings.{found_entry, stat_reading}
use Rattle.lake_calls.specs.CallRefusals.{names_at}
use Rattle.lake_calls.specs.declared.call.Call.TheVariants.{Objects}
use Rattle.lake_calls.specs.declared.objects.ObjectCall.TheVariants as object
use Rattle.lake_calls.specs.declared.objects.ReadCall.{ReadCall}
use Rattle.lake_calls.specs.declared.reply.Done.TheVariants as done
use Rattle.call_readings.proofs.InstanceLemmas.{reads_stat}
use Rattle.call_readings.proofs.OutcomeLemmas.{gives_then}
use Rattle.call_readings.proofs.ReadingLemmas.{answered}
use Rattle.call_readings.proofs.objects.stat_object.Goals as goal

pub returns : goal.returns
returns g c =
    let view : KeeperView _ = record { kept = g.K.Keeper.kept; faults = g.K.Keeper.faults; calls = g.K.Keeper.calls; successes = g.K.Keeper.successes } in
    let call : ReadCall = c.args.call.now in
    answered view c.args.seat.now c.look-seen.new.seat
    (λ s given. Gives c.look-seen.result (look_reply s call.repo c.expr.result.now call.path)) c.look-seen.ensures
    (Objects (object.Stat call)) (stat_reading call) (reads_stat call) c.object_seen-outcome.result c.answer.result
    (λ s given sound told. gives_then c.look-seen.result (look_reply s call.repo call.at.e call.path)
    (λ seen. found_entry seen then λ entry. Ok (done.Statistics (record { path = call.path; entry = entry }))) c.object_seen-outcome.result
    (subst (λ e. Gives c.look-seen.result (look_reply s call.repo e call.path)) c.expr.ensures told)
    c.object_seen-outcome.ensures)
    (c.answer.ensures.reply (names_at call.repo [] call.at call.path)
    (record { repo = refl; named = refl; expression = c.as_str.ensures.bytes ∙ c.text.ensures; path = refl; after = refl }))
    c.answer.ensures.position c.answer.ensures.edge
