use Rattle.core_readings.specs.Preparations.{HasSides}
use Rattle.head_drafts.specs.HeadDrafts.{sides_of}
use Rattle.head_drafts.proofs.ReadyLemmas.{some_sides}
use Rattle.head_drafts.proofs.WaitingLemmas.{waits}
use Rattle.head_drafts.proofs.waiting.law_of_waiting.Goals as goal

pub returns : goal.returns
returns c state given repo branch kind about p tree sound below reply have =
    waits state given repo branch kind about p tree reply (some_sides (HasSides state repo) (sides_of kind) have) sound below
