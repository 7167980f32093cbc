use Rattle.std.proofs.Common.{Some, ap, refl, arith}
use Rattle.std.specs.FinMap.{empty}
use Rattle.lake_base.specs.Clocks.{fixed_readings}
use Rattle.lake_generator.proofs.GenerateLemmas.{line_starves, runs_to, stands_behind}
use Rattle.lake_generator.proofs.run.run_lines.Goals as goal

pub serve_lines-requires-clause-starves : goal.serve_lines-requires-clause-starves
serve_lines-requires-clause-starves g c = λ text server. line_starves text _

pub returns-clause-runs : goal.returns-clause-runs
returns-clause-runs g c = λ unnoted.
    runs_to _
    (λ lines. record {
      lake = record {
        readings = fixed_readings lines.clock;
        store = record { held = Some lines.blocks.held; faults = 0; misses = lines.blocks.misses; missed = lines.blocks.missed };
        seat = lines.seat;
      };
      files = Some empty;
    })
    (λ line old now reply ends. ends) c.args.asked (omega arith) _ c.serve_lines.new.lines
    (record {
      seat = c.requires.fresh;
      store = λ i. record { held = Some (c.requires.store i).held; faults = 0; misses = (c.requires.store i).misses; missed = (c.requires.store i).missed };
      files = refl;
      moment = ap fixed_readings c.requires.clock;
    })
    c.serve_lines.new.lines.clock refl refl unnoted c.serve_lines.result c.serve_lines.ensures.goes

pub returns-clause-main : goal.returns-clause-main
returns-clause-main g c =
    stands_behind _
    (λ lines. record {
      lake = record {
        readings = fixed_readings lines.clock;
        store = record { held = Some lines.blocks.held; faults = 0; misses = lines.blocks.misses; missed = lines.blocks.missed };
        seat = lines.seat;
      };
      files = Some empty;
    })
    (λ line old now reply ends. ends) c.args.asked (omega arith) _ c.serve_lines.new.lines
    (record {
      seat = c.requires.fresh;
      store = λ i. record { held = Some (c.requires.store i).held; faults = 0; misses = (c.requires.store i).misses; missed = (c.requires.store i).missed };
      files = refl;
      moment = ap fixed_readings c.requires.clock;
    })
    c.serve_lines.new.lines.clock refl refl c.serve_lines.result c.serve_lines.ensures.goes
