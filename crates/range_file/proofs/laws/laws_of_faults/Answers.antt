use Rattle.range_file.proofs.FaultLemmas.{fronts, trailing, settled, sure}
use Rattle.range_file.proofs.laws.laws_of_faults.Goals as goal

pub returns : goal.returns
returns c = record { fronts = fronts; trailing = trailing; settled = settled; sure = sure }
