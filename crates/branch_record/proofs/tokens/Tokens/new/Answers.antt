use Rattle.std.proofs.Common.{ap, None}
use Rattle.branch_record.specs.Tokens.{TokensValue}
use Rattle.branch_record.specs.TokenRows.{tokens_of, with_waiting}
use Rattle.branch_record.proofs.RowsLemmas.{TokenRows}
use Rattle.branch_record.proofs.tokens.Tokens.new.Goals as goal

shown : TokenRows → TokensValue
shown rows = record { changes = with_waiting None (tokens_of rows); spare = 1 }

pub returns : goal.returns
unfolding with_waiting tokens_of shown
returns c = ap shown c.new.ensures.empty
