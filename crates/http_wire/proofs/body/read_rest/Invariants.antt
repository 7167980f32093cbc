use Rattle.std.proofs.Common.{◌≤◌, ◌-◌, IfSome}
use Rattle.std.specs.Prelude.{vec_len}
use Rattle.http_wire.specs.BodyReading.{Came}
use Rattle.http_wire.proofs.body.read_rest.Given as goal

-- a part of the body came
abbrev pub invariant-reading : goal.invariant-reading
invariant-reading g l = record {
  told : IfSome (g.S.Source.left l.fn.source) (λ left. Came l.fn.body.items left l.body.items l.came (g.S.Source.left l.source));
  within : l.came ≤ vec_len l.body;
  room : vec_len l.body ≤ l.size;
  later : g.S.Source.faults l.fn.source ≤ g.S.Source.faults l.source;
}

abbrev pub decreases-reading : goal.decreases-reading
decreases-reading g l = l.size - l.came
