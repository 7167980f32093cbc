use Rattle.std.proofs.Common.{◌≡◌, None, Some, length, subst, sym, ap, ◌∙◌}
use Rattle.std.specs.Prelude.{IfSome, Option}
use Rattle.lake_calls.specs.Courses.{link_entry}
use Rattle.lake_calls.specs.declared.call.Call.TheVariants.{Objects}
use Rattle.lake_calls.specs.declared.objects.ObjectCall.TheVariants as object
use Rattle.lake_calls.specs.declared.reply.Done.{Done}
use Rattle.lake_calls.specs.declared.reply.Done.TheVariants as done
use Rattle.lake_values.specs.Entry.{EntryValue}
use Rattle.lake_values.specs.declared.entry.Change.TheVariants.{Put}
use Rattle.lake_model.specs.Uncommitted.{HasTicket}
use Rattle.lake_core.specs.Lakes.{state}
use Rattle.flow_steps.specs.FlowTries.{Guarded, staging}
use Rattle.shared_lake.specs.SeatSteps.{LakeSeat}
use Rattle.flow_steps.specs.FlowAnswers.{still}
use Rattle.write_flow.specs.WriteFlows.{IsTriedAnswer, outcome_of}
use Rattle.write_flow.specs.WriteTries.{HaveTried}
use Rattle.write_flow.proofs.AnswerLemmas.{answered_so, still_later}
use Rattle.write_flow.proofs.InstanceLemmas.{links, told_with}
use Rattle.write_flow.proofs.KeptBodyLemmas.{keeps_fitting, link_of}
use Rattle.write_flow.proofs.changes.link_object.Goals as goal

pub attempts-outcome-requires-clause-ticket : goal.attempts-outcome-requires-clause-ticket
attempts-outcome-requires-clause-ticket g c found finds =
    subst (λ number. IfSome number (HasTicket (state found) c.args.seat.now.number)) (sym c.requires.outside) tt

pub returns-clause-served : goal.returns-clause-served
returns-clause-served g c call repo branch path is =
    let client = c.args.client.now in
    let new = c.attempts-outcome.new.seat in
    let result = c.attempts-outcome.result in
    let entry = c.args.entry in
    let Tells : Option EntryValue → Done → Type 0 = λ put told. (put ≡ None) ×
    (told ≡ done.Linked (record { path = call.path; entry = link_entry call client.now })) in
    let Told : Option EntryValue → Done → Type 0 = λ put told. (put ≡ Some entry) × (told ≡ done.Linked (record { path = c.args.path.now; entry = entry })) in
    let same : done.Linked (record { path = call.path; entry = link_entry call client.now }) ≡ done.Linked (record { path = c.args.path.now; entry = entry }) =
    λ i. done.Linked (record { path = path i; entry = is i }) in
    let paused = g.P.Pause.calls client.pause.now in
    let pauses = g.P.Pause.calls c.attempts-outcome.new.pause in
    let blocks = still (g.B.Blocks.faults client.blocks.now) (g.B.Blocks.misses client.blocks.now) (g.B.Blocks.missed client.blocks.now) in
    let guarded_so : staging call.repo call.branch call.path (Put (link_entry call client.now))
    ≡ staging c.args.repo.now c.args.branch.now c.args.path.now (Put entry) =
    λ i. staging (repo i) (branch i) (path i) (Put (is i)) in
    let tried = subst (λ (guarded : Guarded). HaveTried guarded client.call c.args.seat.now new paused pauses result) (sym guarded_so)
    c.attempts-outcome.ensures in
    subst (λ (guarded : Guarded). IsTriedAnswer guarded (Some entry) c.args.seat.now new client.call (Objects (object.Link call)) client.now Told blocks
    paused pauses c.answer_of.result) guarded_so
    (answered_so (Objects (object.Link call)) client.now call.repo call.branch
    (staging call.repo call.branch call.path (Put (link_entry call client.now))) Tells
    (links call client.now) (Some entry) Told (λ copied what tells. told_with entry copied what _ (tells.0, tells.1 ∙ same)) c.args.seat.now new client.call
    blocks (still_later _ _) paused pauses c.answer_of.result result
    (c.answer_of.ensures.outcome ∙ ap (λ put. outcome_of (length new.seen) put result) c.put_by.ensures) c.answer_of.ensures.position
    c.answer_of.ensures.edge tried)

pub returns-clause-turn : goal.returns-clause-turn
returns-clause-turn g c = ap (λ (s : LakeSeat). s.turn) c.attempts-outcome.ensures.goes.seat

pub returns-clause-bodies : goal.returns-clause-bodies
returns-clause-bodies g c =
    let link = link_of c.args.repo.now c.args.branch.now c.args.path.now c.args.entry c.args.client.now.now c.requires.outside in
    keeps_fitting _ _ _ _ _ _ _ _ _ _ (returns-clause-served g c link.0 link.1 link.2 link.3 link.4).answers (λ u is. absurd cc)
