use Rattle.std.proofs.Common.{◌∙◌, ap, refl, subst, sym}
use Rattle.lake_base.specs.Clocks.{FixedClockValue}
use Rattle.lake_base.specs.Memory.{next_count}
use Rattle.program_words.specs.declared.batch.Timing.{Timing}
use Rattle.folder_batch.specs.Desks.{CommandAround, Desk, IsCommandAt}
use Rattle.folder_batch.proofs.DeskLemmas.{command_at_moment}
use Rattle.folder_batch.proofs.desk.command_at.Goals as goal

pub returns-in-At-clause-ends : goal.returns-in-At-clause-ends
returns-in-At-clause-ends g c =
    let ended = c.command_by_clock-ended in
    let before : CommandAround = record { readings = g.C.Clock.readings c.args.clock; files = g.F.Files.files c.args.files } in
    let after : CommandAround = record { readings = g.C.Clock.readings c.args.clock; files = g.F.Files.files ended.result.3 } in
    let old : Desk = record {
      store = record {
        held = g.B.Blocks.held c.args.desk.blocks;
        faults = g.B.Blocks.faults c.args.desk.blocks;
        misses = g.B.Blocks.misses c.args.desk.blocks;
        missed = g.B.Blocks.missed c.args.desk.blocks;
      };
      seat = c.args.desk.seat;
    } in
    let new : Desk = record {
      store = record {
        held = g.B.Blocks.held ended.result.1.blocks;
        faults = g.B.Blocks.faults ended.result.1.blocks;
        misses = g.B.Blocks.misses ended.result.1.blocks;
        missed = g.B.Blocks.missed ended.result.1.blocks;
      };
      seat = ended.result.1.seat;
    } in
    let begins = c.now.ensures.counted ∙ ap (λ (clock : FixedClockValue). record clock { given = next_count clock.given }) c.new-still.ensures in
    subst (λ (timing : Timing). IsCommandAt timing c.args.words.now before after old new ended.result.0) (sym c.in-At.is)
    (command_at_moment c.in-At.moment c.now.new.self ended.result.2 begins c.args.words.now before after old new ended.result.0 ended.ensures.ends refl)
