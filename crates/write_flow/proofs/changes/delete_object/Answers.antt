use Rattle.std.proofs.Common.{◌≡◌, None, ap}
use Rattle.lake_calls.specs.declared.call.Call.TheVariants.{Objects}
use Rattle.lake_calls.specs.declared.objects.DeleteCall.{DeleteCall}
use Rattle.lake_calls.specs.declared.objects.ObjectCall.TheVariants as object
use Rattle.lake_calls.specs.declared.reply.Done.{Done}
use Rattle.lake_calls.specs.declared.reply.Done.TheVariants as done
use Rattle.lake_values.specs.Entry.{EntryValue}
use Rattle.lake_values.specs.declared.entry.Change.TheVariants.{Delete}
use Rattle.std.specs.Prelude.{Option}
use Rattle.flow_steps.specs.FlowTries.{staging}
use Rattle.shared_lake.specs.SeatSteps.{LakeSeat}
use Rattle.flow_steps.specs.FlowAnswers.{still}
use Rattle.write_flow.proofs.AnswerLemmas.{answered_so, still_later}
use Rattle.write_flow.proofs.InstanceLemmas.{deletes, told_without}
use Rattle.write_flow.proofs.KeptBodyLemmas.{keeps_fitting}
use Rattle.write_flow.proofs.changes.delete_object.Goals as goal

pub returns-clause-served : goal.returns-clause-served
returns-clause-served g c =
    let call : DeleteCall = record { repo = c.args.repo.now; branch = c.args.branch.now; path = c.args.path.now } in
    let Told : Option EntryValue → Done → Type 0 = λ entry told. (entry ≡ None) × (told ≡ done.ObjectDeleted) in
    let client = c.args.client.now in
    answered_so (Objects (object.Delete call)) client.now call.repo call.branch (staging call.repo call.branch call.path Delete) Told
    (deletes call client.now) None Told (λ copied what tells. told_without copied what done.ObjectDeleted tells) c.args.seat.now
    c.attempts-outcome.new.seat client.call
    (still (g.B.Blocks.faults client.blocks.now) (g.B.Blocks.misses client.blocks.now) (g.B.Blocks.missed client.blocks.now)) (still_later _ _)
    (g.P.Pause.calls client.pause.now) (g.P.Pause.calls c.attempts-outcome.new.pause)
    c.answer_of.result c.attempts-outcome.result c.answer_of.ensures.outcome c.answer_of.ensures.position c.answer_of.ensures.edge
    c.attempts-outcome.ensures

pub returns-clause-turn : goal.returns-clause-turn
returns-clause-turn g c = ap (λ (s : LakeSeat). s.turn) c.attempts-outcome.ensures.goes.seat

pub returns-clause-bodies : goal.returns-clause-bodies
returns-clause-bodies g c = keeps_fitting _ _ _ _ _ _ _ _ _ _ (returns-clause-served g c).answers (λ u is. absurd cc)
