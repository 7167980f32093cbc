use Rattle.std.proofs.Common.{◌≡◌, ◌++◌, ℕ, List, [], ◌∷◌, Err, ap, sym, subst, ◌∙◌, refl}
use Rattle.http_wire.specs.ReplyText.{reply_text}
use Rattle.lake_session.specs.declared.report.Placed.{Placed}
use Rattle.lake_session.specs.SessionItems.{SessionItem, item_text}
use Rattle.lake_session.specs.SessionTexts.{Writes, told_text}
use Rattle.lake_session.specs.PrintedAnswers.{sent_by}
use Rattle.lake_session.specs.SessionTurns.{Tally, TurnEnds}
use Rattle.lake_session.specs.SessionViews.{SessionView, StoreView}
use Rattle.lake_session.proofs.ClockLemmas.{clock_told}
use Rattle.lake_session.proofs.TurnLemmas.{fault_turn, item, sends, served_turn, serves}
use Rattle.lake_session.proofs.turns.serve_next.Goals as goal

pub returns-in-Err : goal.returns-in-Err
returns-in-Err g c =
    let store : StoreView = record {
      held = g.B.Blocks.held c.args.blocks.now;
      faults = g.B.Blocks.faults c.args.blocks.now;
      misses = g.B.Blocks.misses c.args.blocks.now;
      missed = g.B.Blocks.missed c.args.blocks.now;
    } in
    let old : SessionView = record {
      unread = g.S.Source.left c.args.source.now;
      read_faults = g.S.Source.faults c.args.source.now;
      written = g.O.Sink.written c.args.sink.now;
      write_faults = g.O.Sink.faults c.args.sink.now;
      readings = g.C.Clock.readings c.args.clock.now;
      store = store;
      seat = c.args.seat.now;
    } in
    let now : SessionView = record {
      unread = g.S.Source.left c.take_request.new.source;
      read_faults = g.S.Source.faults c.take_request.new.source;
      written = g.O.Sink.written c.end_by_fault.new.sink;
      write_faults = g.O.Sink.faults c.end_by_fault.new.sink;
      readings = g.C.Clock.readings c.args.clock.now;
      store = store;
      seat = c.args.seat.now;
    } in
    let tally : Tally = record { placed = c.args.placed.now.items; edge = c.args.edge.now; held = c.args.buffer.now } in
    let held : List ℕ = c.take_request.new.buffer in
    let tally_now : Tally = record { placed = c.take_request.new.placed.items; edge = c.args.edge.now; held = held } in
    let tally_is : tally_now ≡ record tally { held = held } =
    ap (λ (placed : List Placed). record { placed = placed; edge = c.args.edge.now; held = held }) c.take_request.ensures.placed in
    record {
      read_faults = c.take_request.ensures.cause.later;
      write_faults = c.end_by_fault.ensures.later;
      came = fault_turn c.args.number old now tally tally_now (record { readings = refl; store = refl; seat = refl }) tally_is c.in-Err.fault
          c.end_by_fault.result c.in-Err.ensures.takes (λ is. c.take_request.ensures.cause.failed (c.in-Err.is ∙ ap Err is)) c.end_by_fault.ensures.ends;
    }

pub returns : goal.returns
returns g c =
    let old : SessionView = record {
      unread = g.S.Source.left c.args.source.now;
      read_faults = g.S.Source.faults c.args.source.now;
      written = g.O.Sink.written c.args.sink.now;
      write_faults = g.O.Sink.faults c.args.sink.now;
      readings = g.C.Clock.readings c.args.clock.now;
      store = record {
        held = g.B.Blocks.held c.args.blocks.now;
        faults = g.B.Blocks.faults c.args.blocks.now;
        misses = g.B.Blocks.misses c.args.blocks.now;
        missed = g.B.Blocks.missed c.args.blocks.now;
      };
      seat = c.args.seat.now;
    } in
    let now : SessionView = record {
      unread = g.S.Source.left c.take_request.new.source;
      read_faults = g.S.Source.faults c.take_request.new.source;
      written = g.O.Sink.written c.send-sent.new.sink;
      write_faults = g.O.Sink.faults c.send-sent.new.sink;
      readings = g.C.Clock.readings c.now-moment.new.self;
      store = record {
        held = g.B.Blocks.held c.answer_request-answered.new.blocks;
        faults = g.B.Blocks.faults c.answer_request-answered.new.blocks;
        misses = g.B.Blocks.misses c.answer_request-answered.new.blocks;
        missed = g.B.Blocks.missed c.answer_request-answered.new.blocks;
      };
      seat = c.answer_request-answered.new.seat;
    } in
    let edge = c.args.edge.now in
    let held : List ℕ = c.args.buffer.now in
    let held_now : List ℕ = c.take_request.new.buffer in
    let tally : Tally = record { placed = c.args.placed.now.items; edge = edge; held = held } in
    let tally_now : Tally = record { placed = c.push_reserved.new.self.items; edge = c.later.result; held = held_now } in
    let request = c.in-Ok.request in
    let answers = c.answer_request-answered.ensures in
    let printed = c.print_answer-told.result in
    let is_printed = c.print_answer-told.ensures in
    let one : SessionItem = item c.args.number edge c.now-moment.result request old now c.answer_request-answered.result answers printed in
    let serves_one = serves c.args.number edge c.now-moment.result request old now c.answer_request-answered.result answers printed c.later.result
    held held_now is_printed c.later.ensures c.in-Ok.ensures.takes c.now-moment.ensures.reading
    (clock_told (g.C.Clock.readings c.now-moment.new.self) (g.C.Clock.readings c.args.clock.now) c.now-moment.ensures.told)
    c.now-moment.ensures.kept in
    let text : reply_text (sent_by c.closes_behind.result printed.reply) ≡ item_text c.args.number one =
    sends c.args.number edge c.now-moment.result request old now c.answer_request-answered.result answers printed is_printed c.closes_behind.result
    ∙ ap (λ close. told_text close one.told) c.closes_behind.ensures in
    record {
      read_faults = c.take_request.ensures.cause.later;
      write_faults = c.send-sent.ensures.cause.later;
      came = subst (TurnEnds c.args.number old now tally tally_now) (sym c.end_behind.ensures)
          (served_turn c.args.number old now tally tally_now one serves_one c.send-sent.result
          (c.push_reserved.ensures.items
          ∙ ap (λ (placed : List Placed). placed ++ (record { call = c.args.number; position = printed.position; written = c.is_ok.result }) ∷ [])
          c.take_request.ensures.placed
          ∙ ap (λ written. c.args.placed.now.items ++ (record { call = c.args.number; position = printed.position; written = written }) ∷ [])
          c.is_ok.ensures.value)
          (subst (λ t. Writes old.written now.written t c.send-sent.result) text c.send-sent.ensures.sent) c.send-sent.ensures.cause.failed);
    }
