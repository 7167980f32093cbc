use Rattle.seat_laws.proofs.TroubleLemmas.{none_told}
use Rattle.seat_laws.proofs.troubles.law_of_no_trouble.Goals as goal

pub returns : goal.returns
returns c = none_told
