use Rattle.commit_graph.proofs.ReadingLemmas.{again, apart, found}
use Rattle.commit_graph.proofs.encoding.laws_of_commits.Goals as goal

pub returns : goal.returns
returns c = record { again = again; apart = apart; found = found }
