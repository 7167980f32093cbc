use Rattle.branch_record.proofs.TokensLemmas.{distinct_one}
use Rattle.branch_record.proofs.record.BranchRecord.fresh.Goals as goal

pub invariant_of-result : goal.invariant_of-result
invariant_of-result c = distinct_one c.args.staging _ c.new.ensures.items
