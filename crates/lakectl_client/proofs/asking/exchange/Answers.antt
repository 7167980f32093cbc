use Rattle.http_wire.specs.Streams.{Streams}
use Rattle.lakectl_client.proofs.AskingLemmas.{read_so}
use Rattle.lakectl_client.proofs.asking.exchange.Goals as goal

pub returns-in-Ok : goal.returns-in-Ok
returns-in-Ok g c =
    let given : Streams = record {
      unread = g.S.Source.left c.args.input.now;
      read_faults = g.S.Source.faults c.args.input.now;
      written = g.O.Sink.written c.args.output.now;
      write_faults = g.O.Sink.faults c.args.output.now;
    } in
    let back : Streams = record {
      unread = g.S.Source.left c.next_reply.new.source;
      read_faults = g.S.Source.faults c.next_reply.new.source;
      written = g.O.Sink.written c.write_all.new.sink;
      write_faults = g.O.Sink.faults c.write_all.new.sink;
    } in
    read_so c.args.text.now given back c.next_reply.result c.in-Ok.ensures.all c.next_reply.ensures.read c.next_reply.ensures.cause
