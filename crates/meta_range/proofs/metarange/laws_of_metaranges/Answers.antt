use Rattle.meta_range.proofs.MetarangeLemmas.{again, apart, found}
use Rattle.meta_range.proofs.metarange.laws_of_metaranges.Goals as goal

pub returns : goal.returns
returns c = record { again = again; apart = apart; found = found }
