use Rattle.lake_format.proofs.CutLemmas.{IsScanned}
use Rattle.lake_format.proofs.cut.first_len.Given as goal

-- the rows so far can be one range, and no break key is among them
abbrev pub invariant-loop-at : goal.invariant-loop-at
invariant-loop-at l = IsScanned l.cut l.rows l.at l.room
