use Rattle.std.proofs.Common.{◌≡◌, ◌-◌, []}
use Rattle.meta_range.specs.Metarange.{read_lines}
use Rattle.meta_range.proofs.metarange.read_lines.Given as goal

-- what is said of the ranges so far, and what is still read behind it, are all
abbrev pub invariant-loop : goal.invariant-loop
invariant-loop l = read_lines l.len (l.count - l.counter) l.lines.items l.rest ≡ read_lines l.len l.count [] l.bytes
