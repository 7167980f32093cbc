use Rattle.std.proofs.Common.{◌∙◌, Some, ap, subst, sym}
use Rattle.block_store.specs.Blocks.{Misses}
use Rattle.read_flow.specs.ObjectReads.{RoundEnds, counted_between, round_after}
use Rattle.read_flow.proofs.RoundLemmas.{missed_so, none_got, unheld_at}
use Rattle.read_flow.proofs.rounds.ask_once.Goals as goal

pub returns-in-Ok-None : goal.returns-in-Ok-None
returns-in-Ok-None g c =
    let blocks = counted_between (g.B.Blocks.faults c.args.blocks.now) (g.B.Blocks.misses c.args.blocks.now) (g.B.Blocks.faults c.get.new.self)
    (g.B.Blocks.misses c.get.new.self) (g.B.Blocks.missed c.get.new.self) in
    let held = g.B.Blocks.held c.args.blocks.now in
    let entry = c.args.entry.now in
    let number = c.number_of-number.ensures in
    let none = c.in-Ok-None.field-0-is in
    let miss = none_got
    {P = Misses c.number_of-number.result (g.B.Blocks.misses c.args.blocks.now) (g.B.Blocks.misses c.get.new.self) (g.B.Blocks.missed c.get.new.self)}
    c.in-Ok-None.field-0 none c.in-Ok-None.ensures.miss in
    let ends = missed_so c.args.wanted.now.repo.now c.args.wanted.now.path.now c.args.wanted.now.e.now entry c.args.seat.now c.look_for-looked.new.seat blocks
    held c.look_for-looked.result (record {
      look = c.look_for-looked.ensures;
      counted = miss.counted;
      number = number ∙ ap Some (sym miss.last);
      unheld = unheld_at _ c.in-Ok-None.field-0 held entry.place c.number_of-number.result none number c.in-Ok-None.ensures.got;
    }) in
    record {
      ends = subst (RoundEnds c.args.wanted.now.repo.now c.args.wanted.now.path.now c.args.wanted.now.e.now entry c.args.seat.now c.look_for-looked.new.seat
          blocks held)
          (ap (λ n. round_after entry n c.look_for-looked.result) miss.last
          ∙ sym {b = round_after entry c.number_of-number.result c.look_for-looked.result} c.after_miss.ensures) ends;
      kept = c.get.ensures.held;
      pause = c.between.ensures.called;
      faults = c.get.ensures.cause.later;
      misses = c.get.ensures.later;
    }
