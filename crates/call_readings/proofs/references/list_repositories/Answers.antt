use Rattle.std.proofs.Common.{◌≡◌, ℕ, Bool, List, Result, Ok, Err, length, refl, ap, ◌∙◌}
use Rattle.std.specs.Prelude.{MatchResult}
use Rattle.core_puts.specs.KeeperViews.{KeeperView}
use Rattle.core_readings.specs.Answers.{list_answer}
use Rattle.lake_model.specs.declared.fault.StepFault.{StepFault}
use Rattle.lake_model.specs.declared.reply.RepoInfo.{RepoInfo}
use Rattle.lake_model.specs.Readings.{repositories_reply}
use Rattle.lake_model.specs.Refusals.{Gives}
use Rattle.lake_core.specs.Lakes.{state}
use Rattle.shared_lake.specs.SeatSteps.{IsRead, LakeSeat}
use Rattle.lake_calls.specs.CallReadings as reading
use Rattle.lake_calls.specs.declared.call.Call.TheVariants.{Names}
use Rattle.lake_calls.specs.declared.names.NamingCall.TheVariants as naming
use Rattle.lake_calls.specs.declared.reply.CallReply.{CallReply}
use Rattle.lake_calls.specs.declared.reply.CallReply.TheVariants as reply
use Rattle.lake_calls.specs.declared.reply.Done.TheVariants as done
use Rattle.call_readings.specs.declared.answers.Answered.{Answered}
use Rattle.call_readings.specs.AnsweredReadings.{IsReadingAnswered}
use Rattle.call_readings.proofs.InstanceLemmas.{reads_repositories}
use Rattle.call_readings.proofs.OutcomeLemmas.{gives_then}
use Rattle.call_readings.proofs.ReadingLemmas.{answered, starved}
use Rattle.call_readings.proofs.references.list_repositories.Goals as goal

listed : {K : Type 0} (view : KeeperView K) (old new : LakeSeat) (after : List ℕ) (amount : ℕ) (found : Result (ℕ × List RepoInfo × Bool) StepFault)
    → IsRead view old new (λ l. Gives (list_answer found) (repositories_reply (state l) after amount)) → (answer : Answered) (told : CallReply)
    → MatchResult found (λ list. told ≡ reply.Done (done.Repositories list.1 list.2)) (λ fault. told ≡ reply.NoMemory)
    → answer ≡ record { reply = told; position = length new.seen; edge = length new.seen }
    → IsReadingAnswered old new (Names (naming.ListRepositories after amount)) answer
listed view old new after amount (Ok list) read answer told says is =
    answered view old new (λ s given. Gives (list_answer (Ok list)) (repositories_reply s after amount)) read
    (Names (naming.ListRepositories after amount)) (reading.list_repositories after amount) (reads_repositories after amount)
    (Ok (done.Repositories list.1 list.2)) answer
    (λ s given sound gives. gives_then (list_answer (Ok list)) (repositories_reply s after amount) (λ page. Ok (done.Repositories page.values page.more))
    (Ok (done.Repositories list.1 list.2)) gives refl)
    (ap (λ (a : Answered). a.reply) is ∙ says) (ap (λ (a : Answered). a.position) is) (ap (λ (a : Answered). a.edge) is)
listed view old new after amount (Err fault) read answer told says is =
    starved view old new (λ s given. Gives (list_answer {X = RepoInfo} (Err fault)) (repositories_reply s after amount)) read
    (Names (naming.ListRepositories after amount)) answer (ap (λ (a : Answered). a.position) is) (ap (λ (a : Answered). a.edge) is)
    (ap (λ (a : Answered). a.reply) is ∙ says)

pub returns : goal.returns
returns g c =
    let view : KeeperView _ = record { kept = g.K.Keeper.kept; faults = g.K.Keeper.faults; calls = g.K.Keeper.calls; successes = g.K.Keeper.successes } in
    listed view c.args.seat.now c.repos-found.new.seat c.args.after.now c.args.amount c.repos-found.result c.repos-found.ensures c.placed.result
    c.repositories_told.result c.repositories_told.ensures c.placed.ensures
