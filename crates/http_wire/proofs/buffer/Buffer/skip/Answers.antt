use Rattle.std.proofs.Common.{arith, ap, ◌∙◌, length, drop}
use Rattle.http_wire.proofs.SearchLemmas.{range_skip, length_range}
use Rattle.http_wire.proofs.buffer.Buffer.skip.Goals as goal

pub returns : goal.returns
returns c =
    range_skip c.self.inside.room.items c.self.inside.start c.self.inside.end c.args.count
    (omega (arith, c.requires, ap length c.self.view_is, c.self.invariant, length_range c.self.inside.room.items c.self.inside.start c.self.inside.end))
    ∙ ap (drop c.args.count) c.self.view_is
