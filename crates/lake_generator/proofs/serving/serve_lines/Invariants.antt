use Rattle.std.proofs.Common.{◌≡◌, ◌≤◌, ◌*◌, ◌-◌}
use Rattle.lake_generator.specs.GeneratedLines.{lines_to, number_at}
use Rattle.lake_generator.specs.Serving.{HasServed}
use Rattle.lake_generator.proofs.serving.serve_lines.Given as goal

-- the first lines were served, and the number is that of the last upload
abbrev pub invariant-loop-at : goal.invariant-loop-at
invariant-loop-at g l =
    (l.at ≤ l.asked.objects) × (l.number ≡ number_at l.asked.number l.at) × (l.counts.uploads ≤ l.at) × (l.counts.heads ≤ 2 * l.at)
    × g.L.LineServer.ready l.lines
    × HasServed g.L.LineServer.serves l.fn.lines (lines_to l.asked.number l.asked.objects l.at) l.counts l.lines

abbrev pub decreases-loop-at : goal.decreases-loop-at
decreases-loop-at g l = l.asked.objects - l.at
