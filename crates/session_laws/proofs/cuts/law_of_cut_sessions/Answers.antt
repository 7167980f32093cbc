use Rattle.session_laws.proofs.OneSessionLemmas.{cut_sessions}
use Rattle.session_laws.proofs.cuts.law_of_cut_sessions.Goals as goal

pub returns : goal.returns
returns c = cut_sessions
