use Rattle.std.proofs.Common.{None, refl, subst, ◌∙◌, ap}
use Rattle.commit_graph.specs.Expressions.{RefExprValue}
use Rattle.core_puts.specs.KeeperViews.{KeeperView}
use Rattle.core_readings.specs.Answers.{log_answer}
use Rattle.lake_model.specs.Readings.{log_reply}
use Rattle.lake_model.specs.Refusals.{Gives}
use Rattle.lake_calls.specs.CallReadings.{commit_reading}
use Rattle.lake_calls.specs.CallRefusals.{names_of}
use Rattle.lake_calls.specs.declared.call.Call.TheVariants.{Heads}
use Rattle.lake_calls.specs.declared.heads.HeadCall.TheVariants as head
use Rattle.call_readings.proofs.InstanceLemmas.{gives_commit, reads_commit}
use Rattle.call_readings.proofs.ReadingLemmas.{answered}
use Rattle.call_readings.proofs.commits.get_commit.Goals as goal

pub returns-in-Err : goal.returns-in-Err
returns-in-Err g c = c.out_of_memory.ensures.served (Heads (head.GetCommit c.args.repo.now c.args.id.now))

pub returns : goal.returns
returns g c =
    let view : KeeperView _ = record { kept = g.K.Keeper.kept; faults = g.K.Keeper.faults; calls = g.K.Keeper.calls; successes = g.K.Keeper.successes } in
    let repo = c.args.repo.now in
    let id = c.args.id.now in
    answered view c.args.seat.now c.log-found.new.seat
    (λ s given. Gives (log_answer c.log-found.result) (log_reply s repo c.in-Ok.e None None 1)) c.log-found.ensures
    (Heads (head.GetCommit repo id)) (commit_reading repo id) (reads_commit repo id) c.commit_found-outcome.result c.answer.result
    (λ s given sound told. gives_commit repo id c.law_of_ids.ensures s sound (log_answer c.log-found.result) c.commit_found-outcome.result
    (subst (λ e. Gives (log_answer c.log-found.result) (log_reply s repo e None None 1)) c.in-Ok.ensures told) c.commit_found-outcome.ensures)
    (c.answer.ensures.reply (names_of (Heads (head.GetCommit repo id))) (record {
      repo = refl;
      named = refl;
      expression = c.as_str.ensures.bytes ∙ ap (λ (e : RefExprValue). e.name) (c.e.view_is ∙ c.in-Ok.ensures);
      path = tt;
      after = refl;
    }))
    c.answer.ensures.position c.answer.ensures.edge
