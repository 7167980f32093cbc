use Rattle.std.proofs.Common.{◌≡◌, ◌-◌, []}
use Rattle.pair_format.specs.PairReading.{read_more_tokens}
use Rattle.pair_format.proofs.fields.read_more_tokens.Given as goal

-- the tokens so far, and those still read behind them, are all
abbrev pub invariant-loop : goal.invariant-loop
invariant-loop l = read_more_tokens (l.count - l.counter) l.tokens.items l.rest ≡ read_more_tokens l.count [] l.bytes
