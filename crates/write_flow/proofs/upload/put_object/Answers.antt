use Rattle.std.proofs.Common.{◌≡◌, Err, None, Ok, Some, [], refl, length, subst, sym, ap, ◌∙◌}
use Rattle.std.specs.Prelude.{Result}
use Rattle.core_puts.specs.KeeperViews.{KeeperView}
use Rattle.lake_model.specs.declared.fault.StepFault.TheVariants as step
use Rattle.shared_lake.specs.SeatSteps.{LakeSeat}
use Rattle.lake_calls.specs.Calls.{UploadCall}
use Rattle.lake_calls.specs.declared.call.Call.TheVariants.{Objects}
use Rattle.lake_calls.specs.declared.objects.ObjectCall.TheVariants as object
use Rattle.flow_steps.specs.declared.answer.FlowAnswer.{FlowAnswer}
use Rattle.flow_steps.specs.FlowAnswers.{BlockCounts}
use Rattle.write_flow.specs.declared.answer.Done.{Done}
use Rattle.write_flow.specs.declared.answer.FlowFault.{FlowFault}
use Rattle.write_flow.specs.declared.answer.FlowFault.TheVariants.{Step}
use Rattle.write_flow.specs.FlowFaults.{fault_of_step}
use Rattle.write_flow.specs.Uploads.{BodyStored, HoldsPut, IsUploadTold, WithoutNumber}
use Rattle.write_flow.specs.WriteFlows.{IsAnswer, outcome_of}
use Rattle.write_flow.proofs.AnswerLemmas.{still_later}
use Rattle.write_flow.proofs.EarlyLemmas.{early, not_taken}
use Rattle.write_flow.proofs.TakenLemmas.{taken_ticket}
use Rattle.write_flow.proofs.UploadBodyLemmas.{upload_fits}
use Rattle.write_flow.proofs.UploadAnswerLemmas.{upload_faulted, upload_refused, upload_told, upload_turn}
use Rattle.write_flow.proofs.UploadEndLemmas.{ticket_still, was_faulted, was_refused_body, was_told_entry}
use Rattle.write_flow.proofs.upload.put_object.Goals as goal

-- what a flow answers, by its parts
same_answer : (answer : FlowAnswer Done FlowFault) (outcome : Result Done FlowFault) (position edge : _) → answer.outcome ≡ outcome
    → answer.position ≡ position → answer.edge ≡ edge → answer ≡ record { outcome = outcome; position = position; edge = edge }
same_answer answer outcome position edge one two three = λ i. record { outcome = one i; position = two i; edge = three i }

pub returns-in-Err-clause-served : goal.returns-in-Err-clause-served
returns-in-Err-clause-served g c =
    let view : KeeperView _ = record { kept = g.K.Keeper.kept; faults = g.K.Keeper.faults; calls = g.K.Keeper.calls; successes = g.K.Keeper.successes } in
    let client = c.args.client.now in
    let u : UploadCall = record {
      repo = c.args.repo.now;
      branch = c.args.branch.now;
      path = c.args.path.now;
      content_type = c.args.content_type.now;
      body = c.args.body.now;
    } in
    let counts : BlockCounts = record {
      faults = record { before = g.B.Blocks.faults client.blocks.now; now = g.B.Blocks.faults client.blocks.now };
      misses = record { before = g.B.Blocks.misses client.blocks.now; now = g.B.Blocks.misses client.blocks.now };
      missed_last = g.B.Blocks.missed client.blocks.now;
    } in
    let new = c.take_ticket.new.seat in
    let is = same_answer c.answer_of.result (Err (fault_of_step c.in-Err.fault)) (length new.seen) (length new.seen)
    (c.answer_of.ensures.outcome ∙ ap (λ fault. outcome_of (length new.seen) None (Err fault)) c.of_step.ensures) c.answer_of.ensures.position
    c.answer_of.ensures.edge in
    record {
      versions = [];
      went = WithoutNumber c.in-Err.fault
          (not_taken view c.args.seat.now new client.call u client.now counts (still_later _ _) c.in-Err.fault c.in-Err.ensures) refl refl refl is;
      answers = subst (IsAnswer c.args.seat.now new client.call (Objects (object.Upload u)) client.now (IsUploadTold u client.now) counts 0) (sym is)
          (early view c.args.seat.now new client.call u client.now counts (still_later _ _) c.in-Err.fault c.in-Err.ensures);
    }

pub returns-in-Err-clause-turn : goal.returns-in-Err-clause-turn
returns-in-Err-clause-turn g c = ap (λ (s : LakeSeat). s.turn) c.in-Err.ensures.seat

pub store_body-stored-requires-clause-ticket : goal.store_body-stored-requires-clause-ticket
store_body-stored-requires-clause-ticket g c =
    let view : KeeperView _ = record { kept = g.K.Keeper.kept; faults = g.K.Keeper.faults; calls = g.K.Keeper.calls; successes = g.K.Keeper.successes } in
    let client = c.args.client.now in
    let u : UploadCall = record {
      repo = c.args.repo.now;
      branch = c.args.branch.now;
      path = c.args.path.now;
      content_type = c.args.content_type.now;
      body = c.args.body.now;
    } in
    taken_ticket view c.args.seat.now c.take_ticket.new.seat client.call _ c.in-Ok.number u client.now c.in-Ok.ensures

pub give_up-requires-clause-ticket : goal.give_up-requires-clause-ticket
give_up-requires-clause-ticket g c =
    let view : KeeperView _ = record { kept = g.K.Keeper.kept; faults = g.K.Keeper.faults; calls = g.K.Keeper.calls; successes = g.K.Keeper.successes } in
    let client = c.args.client.now in
    let u : UploadCall = record {
      repo = c.args.repo.now;
      branch = c.args.branch.now;
      path = c.args.path.now;
      content_type = c.args.content_type.now;
      body = c.args.body.now;
    } in
    let was = was_refused_body c.store_body-stored.result c.in-Refused.fault c.in-Refused.ensures in
    ticket_still u.repo u.branch u.path _ client.call _ c.take_ticket.new.seat c.store_body-stored.new.seat _ _ _ view c.in-Ok.number c.in-Refused.fault was.0
    (subst (BodyStored u.repo u.branch u.path _ client.call _ c.take_ticket.new.seat c.store_body-stored.new.seat _ _ _) was.1
    c.store_body-stored.ensures.stored.1)
    (taken_ticket view c.args.seat.now c.take_ticket.new.seat client.call _ c.in-Ok.number u client.now c.in-Ok.ensures)

pub returns-in-Told-clause-served : goal.returns-in-Told-clause-served
returns-in-Told-clause-served g c =
    let view : KeeperView _ = record { kept = g.K.Keeper.kept; faults = g.K.Keeper.faults; calls = g.K.Keeper.calls; successes = g.K.Keeper.successes } in
    let client = c.args.client.now in
    let u : UploadCall = record {
      repo = c.args.repo.now;
      branch = c.args.branch.now;
      path = c.args.path.now;
      content_type = c.args.content_type.now;
      body = c.args.body.now;
    } in
    let counts : BlockCounts = record {
      faults = record { before = g.B.Blocks.faults client.blocks.now; now = g.B.Blocks.faults c.store_body-stored.new.blocks };
      misses = record { before = g.B.Blocks.misses client.blocks.now; now = g.B.Blocks.misses c.store_body-stored.new.blocks };
      missed_last = g.B.Blocks.missed c.store_body-stored.new.blocks;
    } in
    let stored = c.store_body-stored in
    let held = g.B.Blocks.held client.blocks.now in
    let held_now = g.B.Blocks.held stored.new.blocks in
    let mid = c.take_ticket.new.seat in
    let now = c.store_body-stored.new.seat in
    upload_told view c.args.seat.now mid client.call _ c.in-Ok.number u client.now c.in-Ok.ensures counts held held_now
    (stored.ensures.faults, stored.ensures.misses) _ _ stored.ensures.stored.0 now c.in-Told.entry
    c.answer_of-in-Told.result
    (subst (BodyStored u.repo u.branch u.path _ client.call _ mid now _ _ _)
    (was_told_entry stored.result c.in-Told.entry c.in-Told.ensures) stored.ensures.stored.1)
    (subst (HoldsPut c.in-Ok.number u.body held held_now) (was_told_entry stored.result c.in-Told.entry c.in-Told.ensures) stored.ensures.held)
    (same_answer c.answer_of-in-Told.result (Ok (record { at = length now.seen; entry = Some c.in-Told.entry })) (length now.seen) (length now.seen)
    c.answer_of-in-Told.ensures.outcome c.answer_of-in-Told.ensures.position c.answer_of-in-Told.ensures.edge)

pub returns-in-Told-clause-turn : goal.returns-in-Told-clause-turn
returns-in-Told-clause-turn g c =
    let view : KeeperView _ = record { kept = g.K.Keeper.kept; faults = g.K.Keeper.faults; calls = g.K.Keeper.calls; successes = g.K.Keeper.successes } in
    let client = c.args.client.now in
    let u : UploadCall = record {
      repo = c.args.repo.now;
      branch = c.args.branch.now;
      path = c.args.path.now;
      content_type = c.args.content_type.now;
      body = c.args.body.now;
    } in
    let counts : BlockCounts = record {
      faults = record { before = g.B.Blocks.faults client.blocks.now; now = g.B.Blocks.faults c.store_body-stored.new.blocks };
      misses = record { before = g.B.Blocks.misses client.blocks.now; now = g.B.Blocks.misses c.store_body-stored.new.blocks };
      missed_last = g.B.Blocks.missed c.store_body-stored.new.blocks;
    } in
    let stored = c.store_body-stored in
    let held = g.B.Blocks.held client.blocks.now in
    let held_now = g.B.Blocks.held stored.new.blocks in
    let mid = c.take_ticket.new.seat in
    let now = c.store_body-stored.new.seat in
    upload_turn view c.args.seat.now mid client.call _ c.in-Ok.number u client.now c.in-Ok.ensures counts held held_now
    (stored.ensures.faults, stored.ensures.misses) _ _ stored.ensures.stored.0 now
    stored.result stored.ensures.stored.1

pub returns-in-Faulted-clause-served : goal.returns-in-Faulted-clause-served
returns-in-Faulted-clause-served g c =
    let view : KeeperView _ = record { kept = g.K.Keeper.kept; faults = g.K.Keeper.faults; calls = g.K.Keeper.calls; successes = g.K.Keeper.successes } in
    let client = c.args.client.now in
    let u : UploadCall = record {
      repo = c.args.repo.now;
      branch = c.args.branch.now;
      path = c.args.path.now;
      content_type = c.args.content_type.now;
      body = c.args.body.now;
    } in
    let counts : BlockCounts = record {
      faults = record { before = g.B.Blocks.faults client.blocks.now; now = g.B.Blocks.faults c.store_body-stored.new.blocks };
      misses = record { before = g.B.Blocks.misses client.blocks.now; now = g.B.Blocks.misses c.store_body-stored.new.blocks };
      missed_last = g.B.Blocks.missed c.store_body-stored.new.blocks;
    } in
    let stored = c.store_body-stored in
    let held = g.B.Blocks.held client.blocks.now in
    let held_now = g.B.Blocks.held stored.new.blocks in
    let mid = c.take_ticket.new.seat in
    let now = c.store_body-stored.new.seat in
    upload_faulted view c.args.seat.now mid client.call _ c.in-Ok.number u client.now c.in-Ok.ensures counts held held_now
    (stored.ensures.faults, stored.ensures.misses) _ _ stored.ensures.stored.0 now
    c.answer_of-in-Faulted.result
    (subst (BodyStored u.repo u.branch u.path _ client.call _ mid now _ _ _)
    (was_faulted stored.result c.in-Faulted.ensures) stored.ensures.stored.1)
    (subst (HoldsPut c.in-Ok.number u.body held held_now) (was_faulted stored.result c.in-Faulted.ensures) stored.ensures.held)
    (same_answer c.answer_of-in-Faulted.result (Err (Step step.StoreFault)) (length now.seen) (length now.seen)
    c.answer_of-in-Faulted.ensures.outcome c.answer_of-in-Faulted.ensures.position c.answer_of-in-Faulted.ensures.edge)

pub returns-in-Faulted-clause-turn : goal.returns-in-Faulted-clause-turn
returns-in-Faulted-clause-turn g c =
    let view : KeeperView _ = record { kept = g.K.Keeper.kept; faults = g.K.Keeper.faults; calls = g.K.Keeper.calls; successes = g.K.Keeper.successes } in
    let client = c.args.client.now in
    let u : UploadCall = record {
      repo = c.args.repo.now;
      branch = c.args.branch.now;
      path = c.args.path.now;
      content_type = c.args.content_type.now;
      body = c.args.body.now;
    } in
    let counts : BlockCounts = record {
      faults = record { before = g.B.Blocks.faults client.blocks.now; now = g.B.Blocks.faults c.store_body-stored.new.blocks };
      misses = record { before = g.B.Blocks.misses client.blocks.now; now = g.B.Blocks.misses c.store_body-stored.new.blocks };
      missed_last = g.B.Blocks.missed c.store_body-stored.new.blocks;
    } in
    let stored = c.store_body-stored in
    let held = g.B.Blocks.held client.blocks.now in
    let held_now = g.B.Blocks.held stored.new.blocks in
    let mid = c.take_ticket.new.seat in
    let now = c.store_body-stored.new.seat in
    upload_turn view c.args.seat.now mid client.call _ c.in-Ok.number u client.now c.in-Ok.ensures counts held held_now
    (stored.ensures.faults, stored.ensures.misses) _ _ stored.ensures.stored.0 now
    stored.result stored.ensures.stored.1

pub returns-in-Refused-clause-served : goal.returns-in-Refused-clause-served
returns-in-Refused-clause-served g c =
    let view : KeeperView _ = record { kept = g.K.Keeper.kept; faults = g.K.Keeper.faults; calls = g.K.Keeper.calls; successes = g.K.Keeper.successes } in
    let client = c.args.client.now in
    let u : UploadCall = record {
      repo = c.args.repo.now;
      branch = c.args.branch.now;
      path = c.args.path.now;
      content_type = c.args.content_type.now;
      body = c.args.body.now;
    } in
    let counts : BlockCounts = record {
      faults = record { before = g.B.Blocks.faults client.blocks.now; now = g.B.Blocks.faults c.store_body-stored.new.blocks };
      misses = record { before = g.B.Blocks.misses client.blocks.now; now = g.B.Blocks.misses c.store_body-stored.new.blocks };
      missed_last = g.B.Blocks.missed c.store_body-stored.new.blocks;
    } in
    let stored = c.store_body-stored in
    let held = g.B.Blocks.held client.blocks.now in
    let held_now = g.B.Blocks.held stored.new.blocks in
    let mid = c.take_ticket.new.seat in
    let now = stored.new.seat in
    let was = was_refused_body c.store_body-stored.result c.in-Refused.fault c.in-Refused.ensures in
    upload_refused view c.args.seat.now mid client.call _ c.in-Ok.number u client.now c.in-Ok.ensures counts held held_now
    (stored.ensures.faults, stored.ensures.misses) _ _ stored.ensures.stored.0 now
    c.in-Refused.fault c.give_up.new.seat c.give_up.result was.0
    (subst (BodyStored u.repo u.branch u.path _ client.call _ mid now _ _ _) was.1 stored.ensures.stored.1)
    (subst (HoldsPut c.in-Ok.number u.body held held_now) was.1 stored.ensures.held) c.give_up.ensures.gave

pub returns-in-Refused-clause-turn : goal.returns-in-Refused-clause-turn
returns-in-Refused-clause-turn g c =
    let view : KeeperView _ = record { kept = g.K.Keeper.kept; faults = g.K.Keeper.faults; calls = g.K.Keeper.calls; successes = g.K.Keeper.successes } in
    let client = c.args.client.now in
    let u : UploadCall = record {
      repo = c.args.repo.now;
      branch = c.args.branch.now;
      path = c.args.path.now;
      content_type = c.args.content_type.now;
      body = c.args.body.now;
    } in
    let counts : BlockCounts = record {
      faults = record { before = g.B.Blocks.faults client.blocks.now; now = g.B.Blocks.faults c.store_body-stored.new.blocks };
      misses = record { before = g.B.Blocks.misses client.blocks.now; now = g.B.Blocks.misses c.store_body-stored.new.blocks };
      missed_last = g.B.Blocks.missed c.store_body-stored.new.blocks;
    } in
    let stored = c.store_body-stored in
    let held = g.B.Blocks.held client.blocks.now in
    let held_now = g.B.Blocks.held stored.new.blocks in
    let mid = c.take_ticket.new.seat in
    let now = c.store_body-stored.new.seat in
    c.give_up.ensures.turn
    ∙ upload_turn view c.args.seat.now mid client.call _ c.in-Ok.number u client.now c.in-Ok.ensures counts held held_now
    (stored.ensures.faults, stored.ensures.misses) _ _ stored.ensures.stored.0 now
    stored.result stored.ensures.stored.1

pub returns-in-Err-clause-bodies : goal.returns-in-Err-clause-bodies
returns-in-Err-clause-bodies g c = upload_fits _ _ _ _ _ _ _ _ _ _ _ (returns-in-Err-clause-served g c)

pub returns-in-Told-clause-bodies : goal.returns-in-Told-clause-bodies
returns-in-Told-clause-bodies g c = upload_fits _ _ _ _ _ _ _ _ _ _ _ (returns-in-Told-clause-served g c)

pub returns-in-Faulted-clause-bodies : goal.returns-in-Faulted-clause-bodies
returns-in-Faulted-clause-bodies g c = upload_fits _ _ _ _ _ _ _ _ _ _ _ (returns-in-Faulted-clause-served g c)

pub returns-in-Refused-clause-bodies : goal.returns-in-Refused-clause-bodies
returns-in-Refused-clause-bodies g c = upload_fits _ _ _ _ _ _ _ _ _ _ _ (returns-in-Refused-clause-served g c)
