use Rattle.pair_format.proofs.ReadingLemmas.{again, apart, keys_apart, found}
use Rattle.pair_format.proofs.encoding.laws_of_pairs.Goals as goal

pub returns : goal.returns
returns c = record { again = again; apart = apart; keys_apart = keys_apart; found = found }
