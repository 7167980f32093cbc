use Rattle.std.proofs.Common.{◌-◌, ◌∙◌, ℕ, List, ap, arith}
use Rattle.std.specs.Prelude.{slice_range}
use Rattle.http_wire.proofs.ReadingLemmas.{range_longer, range_copied}
use Rattle.http_wire.proofs.buffer.make_room.Goals as goal

pub returns-then-end-lt-ROOM-clause-same : goal.returns-then-end-lt-ROOM-clause-same
returns-then-end-lt-ROOM-clause-same c =
    ap (λ (l : List ℕ). slice_range l c.args.start c.args.end) c.in_ok-resize.ensures.items
    ∙ range_longer c.args.room.now.items _ 16384 c.args.start c.args.end c.requires.ordered
    (omega (arith, c.requires.within, c.args.room.now.ok)) (omega (arith, c.requires.limit, c.args.room.now.ok))

pub returns-clause-same : goal.returns-clause-same
returns-clause-same c =
    ap (λ (l : List ℕ). slice_range l 0 (c.args.end - c.args.start)) c.copy_within.ensures.items
    ∙ range_copied c.resize.new.self.items c.args.start c.args.end (omega (arith, c.requires, c.in_ok-resize.ensures.len, c.resize.new.self.ok))
    ∙ ap (λ (l : List ℕ). slice_range l c.args.start c.args.end) c.in_ok-resize.ensures.items
    ∙ range_longer c.args.room.now.items _ 16384 c.args.start c.args.end c.requires.ordered
    (omega (arith, c.requires.within, c.args.room.now.ok)) (omega (arith, c.requires.limit, c.args.room.now.ok))
