use Rattle.std.proofs.Common.{Result, refl, sym, subst}
use Rattle.batch_lines.specs.declared.status.ExitStatus.{ExitStatus}
use Rattle.lakectl_client.specs.ClientCommands.{ClientView}
use Rattle.lakectl_shown.specs.declared.showing.Shown.{Shown}
use Rattle.lake_program.specs.Controls.{ControlView}
use Rattle.lake_program.specs.Run.{IsPrinted}
use Rattle.lake_program.proofs.local.print_ended.Goals as goal

pub returns-in-Ok-clause-printed : goal.returns-in-Ok-clause-printed
returns-in-Ok-clause-printed g c = λ before after.
    let view : ClientView → _ → _ → ControlView = λ client sink errors. record {
      client = client;
      written = g.O.Sink.written sink;
      sink_faults = g.O.Sink.faults sink;
      errors = g.E.Sink.written errors;
      errors_faults = g.E.Sink.faults errors;
    } in
    subst (λ (e : Result Shown ExitStatus). IsPrinted (view before c.args.sink.now c.args.errors.now)
    (view after c.print_shown.new.sink c.print_shown.new.errors) e c.print_shown.result) (sym c.in-Ok.is) (c.print_shown.ensures.prints before after)

pub returns-in-Err-clause-printed : goal.returns-in-Err-clause-printed
returns-in-Err-clause-printed g c = λ before after.
    let view : ClientView → ControlView = λ client. record {
      client = client;
      written = g.O.Sink.written c.args.sink.now;
      sink_faults = g.O.Sink.faults c.args.sink.now;
      errors = g.E.Sink.written c.args.errors.now;
      errors_faults = g.E.Sink.faults c.args.errors.now;
    } in
    subst (λ (e : Result Shown ExitStatus). IsPrinted (view before) (view after) e c.number_of.result) (sym c.in-Err.is)
    (record { written = refl; sink_faults = refl; errors = refl; errors_faults = refl }, c.number_of.ensures)
