use Rattle.http_wire.specs.Streams.{Streams}
use Rattle.lakectl_client.specs.Dialing.{DialView}
use Rattle.lakectl_client.proofs.AskingLemmas.{asked_so, one_call}
use Rattle.lakectl_client.proofs.asking.ask.Goals as goal

pub returns-clause-asks : goal.returns-clause-asks
returns-clause-asks g c =
    let dial : _ → DialView = λ n. record { dialed = g.N.Connect.dialed n; hung_up = g.N.Connect.hung_up n; faults = g.N.Connect.faults n } in
    let given : Streams = record {
      unread = g.N.In.Source.left c.in_ok-input.input;
      read_faults = g.N.In.Source.faults c.in_ok-input.input;
      written = g.N.Out.Sink.written c.in_ok-input.output;
      write_faults = g.N.Out.Sink.faults c.in_ok-input.output;
    } in
    let back : Streams = record {
      unread = g.N.In.Source.left c.exchange-reply.new.input;
      read_faults = g.N.In.Source.faults c.exchange-reply.new.input;
      written = g.N.Out.Sink.written c.exchange-reply.new.output;
      write_faults = g.N.Out.Sink.faults c.exchange-reply.new.output;
    } in
    asked_so c.args.at.now c.args.text.now (dial c.args.network.now) (dial c.hang_up.new.self) given back c.exchange-reply.result
    (one_call c.args.at.now (dial c.args.network.now) (dial c.connect.new.self) (dial c.hang_up.new.self) given back c.in_ok-input.ensures.dialed
    c.hang_up.ensures.dialed c.in_ok-input.ensures.hung_up c.hang_up.ensures.hung_up)
    c.exchange-reply.ensures
