use Rattle.std.proofs.Common.{refl}
use Rattle.lakectl_client.specs.ClientCommands.{ClientView}
use Rattle.lake_program.specs.Controls.{Showed, Stopped}
use Rattle.lake_program.proofs.control.run_control.Goals as goal

pub returns-in-Ok-clause-controls : goal.returns-in-Ok-clause-controls
returns-in-Ok-clause-controls g c =
    let client : _ → _ → ClientView = λ files network. record {
      files = g.F.Files.files files;
      file_faults = g.F.Files.faults files;
      dial = record { dialed = g.N.Connect.dialed network; hung_up = g.N.Connect.hung_up network; faults = g.N.Connect.faults network };
    } in
    Showed c.in-Ok.shown c.in-Ok.ensures.ends
    (c.print_shown.ensures.prints (client c.args.files.now c.args.network.now) (client c.send_command.new.files c.send_command.new.network))

pub returns-in-Err-clause-controls : goal.returns-in-Err-clause-controls
returns-in-Err-clause-controls g c =
    Stopped c.in-Err.trouble c.in-Err.ensures.ends (record { written = refl; sink_faults = refl; errors = refl; errors_faults = refl }) c.stop_number.ensures
