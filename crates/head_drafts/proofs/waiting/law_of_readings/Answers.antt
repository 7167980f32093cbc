use Rattle.head_drafts.proofs.ReadingLemmas.{refuses_as}
use Rattle.head_drafts.proofs.waiting.law_of_readings.Goals as goal

pub returns : goal.returns
returns c = refuses_as
