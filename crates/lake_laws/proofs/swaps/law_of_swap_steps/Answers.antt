use Rattle.lake_laws.proofs.SwapStepLemmas.{swap_allowed}
use Rattle.lake_laws.proofs.swaps.law_of_swap_steps.Goals as goal

pub returns : goal.returns
returns c = record { swap = swap_allowed }
