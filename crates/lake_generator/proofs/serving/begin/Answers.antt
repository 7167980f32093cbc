use Rattle.std.proofs.Common.{[], refl}
use Rattle.lake_generator.specs.GeneratedLines.{begin_line, lines_to}
use Rattle.lake_generator.proofs.ServingLemmas.{none_served, served_then, stopped_then}
use Rattle.lake_generator.proofs.serving.begin.Goals as goal

pub returns-in-Ok-clause-goes : goal.returns-in-Ok-clause-goes
unfolding lines_to
returns-in-Ok-clause-goes g c =
    λ number objects.
    served_then g.L.LineServer.serves c.args.lines.now [] (record { uploads = 0; heads = 0 }) c.args.lines.now begin_line c.serve.new.lines c.in-Ok.field-0
    (record { uploads = 0; heads = 0 }) (none_served g.L.LineServer.serves c.args.lines.now) (c.in-Ok.ensures.serves begin_line c.begin_line.ensures) refl refl

pub returns-in-Err-clause-goes : goal.returns-in-Err-clause-goes
unfolding lines_to
returns-in-Err-clause-goes g c =
    λ number objects.
    stopped_then g.L.LineServer.serves c.args.lines.now [] (record { uploads = 0; heads = 0 }) c.args.lines.now begin_line c.serve.new.lines c.in-Err.status
    (none_served g.L.LineServer.serves c.args.lines.now) (c.in-Err.ensures.serves begin_line c.begin_line.ensures)
