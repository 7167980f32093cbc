use Rattle.lake_batch.specs.CommandWords.{CommandView}
use Rattle.folder_batch.proofs.DeskLemmas.{command_by_clock}
use Rattle.folder_batch.proofs.desk.command_by_clock.Goals as goal

pub returns-clause-ends : goal.returns-clause-ends
returns-clause-ends g c =
    let ended = c.serve_command-ended in
    let old : CommandView = record {
      lake = record {
        readings = g.C.Clock.readings c.args.clock;
        store = record {
          held = g.B.Blocks.held c.args.desk.blocks;
          faults = g.B.Blocks.faults c.args.desk.blocks;
          misses = g.B.Blocks.misses c.args.desk.blocks;
          missed = g.B.Blocks.missed c.args.desk.blocks;
        };
        seat = c.args.desk.seat;
      };
      files = g.F.Files.files c.args.files;
    } in
    let now : CommandView = record {
      lake = record {
        readings = g.C.Clock.readings ended.new.clock;
        store = record {
          held = g.B.Blocks.held ended.new.blocks;
          faults = g.B.Blocks.faults ended.new.blocks;
          misses = g.B.Blocks.misses ended.new.blocks;
          missed = g.B.Blocks.missed ended.new.blocks;
        };
        seat = ended.new.seat;
      };
      files = g.F.Files.files ended.new.files;
    } in
    command_by_clock c.args.words.now old now ended.result ended.ensures.ends
