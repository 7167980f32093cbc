use Rattle.core_standing.proofs.PresentLemmas.{present_sound}
use Rattle.core_standing.proofs.present.law_of_present.Goals as goal

pub returns : goal.returns
returns c = present_sound c.law_of_soundness.ensures.replay
