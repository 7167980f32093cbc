use Rattle.lake_format.proofs.EncodingLemmas.{entry_again, apart, found}
use Rattle.lake_format.proofs.encoding.laws_of_spelling.Goals as goal

pub returns : goal.returns
returns c = record { again = entry_again; apart = apart; found = found }
