use Rattle.lake_program.proofs.OneGenerationLemmas.{one_generation}
use Rattle.lake_program.proofs.laws.law_of_one_generation.Goals as goal

pub returns : goal.returns
returns c = one_generation
