use Rattle.core_puts.specs.KeeperViews.{KeeperView}
use Rattle.std.proofs.Common.{Ok, [], refl, map, ap, subst, ◌∙◌}
use Rattle.std.specs.Prelude.{option_copied}
use Rattle.std.specs.Option.{option_map_or}
use Rattle.lake_base.specs.Digest.{encode_lower}
use Rattle.lake_base.specs.declared.digest.Digest.{Digest}
use Rattle.core_readings.specs.Answers.{log_answer}
use Rattle.lake_model.specs.Readings.{log_reply}
use Rattle.lake_model.specs.Refusals.{Gives}
use Rattle.lake_calls.specs.CallReadings.{known_commit, log_reading}
use Rattle.lake_calls.specs.CallRefusals.{names_of}
use Rattle.lake_calls.specs.declared.call.Call.TheVariants.{Heads}
use Rattle.lake_calls.specs.declared.heads.HeadCall.TheVariants as head
use Rattle.lake_calls.specs.declared.heads.LogCall.{LogCall}
use Rattle.lake_calls.specs.declared.reply.Done.TheVariants as done
use Rattle.call_readings.proofs.InstanceLemmas.{reads_log}
use Rattle.call_readings.proofs.OutcomeLemmas.{gives_then}
use Rattle.call_readings.proofs.ReadingLemmas.{answered}
use Rattle.call_readings.proofs.commits.log.Goals as goal

pub returns : goal.returns
returns g c =
    let view : KeeperView _ = record { kept = g.K.Keeper.kept; faults = g.K.Keeper.faults; calls = g.K.Keeper.calls; successes = g.K.Keeper.successes } in
    let call : LogCall = c.args.call.now in
    answered view c.args.seat.now c.log-found.new.seat
    (λ s given. Gives (log_answer c.log-found.result) (log_reply s call.repo c.expr.result.now (option_copied c.as_ref.result) call.since call.amount))
    c.log-found.ensures
    (Heads (head.Log call)) (log_reading call) (reads_log call) c.log_found-outcome.result c.answer.result
    (λ s given sound told. gives_then (log_answer c.log-found.result) (log_reply s call.repo call.at.e call.after call.since call.amount)
    (λ log. Ok (done.Log (map known_commit log.commits) log.more)) c.log_found-outcome.result
    (subst (λ after. Gives (log_answer c.log-found.result) (log_reply s call.repo call.at.e after call.since call.amount)) c.as_ref.ensures.value
    (subst (λ e. Gives (log_answer c.log-found.result) (log_reply s call.repo e (option_copied c.as_ref.result) call.since call.amount)) c.expr.ensures told))
    c.log_found-outcome.ensures)
    (c.answer.ensures.reply (names_of (Heads (head.Log call))) (record {
      repo = refl;
      named = refl;
      expression = c.as_str.ensures.bytes ∙ c.text.ensures;
      path = tt;
      after = ap (λ o. option_map_or (λ (id : Digest). encode_lower id.0) o []) c.as_ref-2.ensures.value;
    }))
    c.answer.ensures.position c.answer.ensures.edge
