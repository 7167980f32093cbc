use Rattle.range_file.proofs.ReadingLemmas.{again, apart, found}
use Rattle.range_file.proofs.laws.laws_of_ranges.Goals as goal

pub returns : goal.returns
returns c = record { again = again; apart = apart; found = found }
