use Rattle.std.proofs.Common.{◌≡◌, ◌-◌, []}
use Rattle.range_file.specs.RangeReading.{read_rows}
use Rattle.range_file.proofs.decoding.read_rows.Given as goal

-- the rows so far, and those still read behind them, are all
abbrev pub invariant-loop : goal.invariant-loop
invariant-loop l = read_rows l.len (l.count - l.counter) l.rows.items l.rest ≡ read_rows l.len l.count [] l.bytes
