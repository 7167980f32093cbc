use Rattle.meta_range.proofs.EndsLemmas.{same_between, same_file}
use Rattle.meta_range.proofs.ends.law_of_ends.Goals as goal

pub returns : goal.returns
returns c = record { same = same_file; agree = same_between }
