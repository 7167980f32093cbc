use Rattle.branch_record.proofs.TokensLemmas.{distinct_one}
use Rattle.branch_record.proofs.record.BranchRecord.clear_sealed.Goals as goal

pub invariant_of-self : goal.invariant_of-self
invariant_of-self c = distinct_one c.self.inside.staging _ c.clear.ensures.items
