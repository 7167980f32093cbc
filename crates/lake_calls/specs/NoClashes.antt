-- Where no two contents share a name, and how far replies are one where some do.
use Rattle.std.specs.Prelude.{◌≡◌, ◌⊎◌, List, ◌∷◌, ◌++◌, None}
use Rattle.call_placement.specs.Rules.{Caller}
use Rattle.call_placement.specs.Points.{entries_of}
use Rattle.call_placement.specs.Alone.{Pass}
use Rattle.lake_base.specs.declared.digest.Digest.{Digest}
use Rattle.lake_model.specs.declared.history.HistoryEntry.{HistoryEntry}
use Rattle.lake_model.specs.declared.history.Operation.{Operation}
use Rattle.lake_model.specs.History.{replay}
use Rattle.lake_model.specs.State.{State}
use Rattle.lake_calls.specs.CallRefusals.{IsClashOf}
use Rattle.lake_calls.specs.Courses.{CallPoint, Fixed, Makes}
use Rattle.lake_calls.specs.LakeRules.{asked_course, lake_rules}
use Rattle.lake_calls.specs.Requests.{CallRequest}
use Rattle.lake_calls.specs.declared.reply.CallReply.{CallReply}
use Rattle.lake_calls.specs.declared.reply.CallReply.TheVariants.{Refused}
use Rattle.lake_calls.specs.declared.reply.Refusal.TheVariants.{NameClash}

-- NO TWO CONTENTS SHARE A NAME: wherever the points of the call's course before a step passed, behind what its seat had seen,
-- nothing clashes with the commit that the step makes, if it makes one.
abbrev pub NothingClashes : (opened : State) → Caller → (seen : List HistoryEntry) → CallRequest → Type 0
NothingClashes opened by seen request = (fixed : Fixed) (passed later : List CallPoint) (operation : Operation)
    → asked_course request.asked request.moment fixed ≡ passed ++ Makes operation ∷ later
    → Pass lake_rules opened by request passed seen
    → IsClashOf (replay opened (seen ++ entries_of lake_rules by passed)) operation None

-- a reply that tells of a clash, by the name that is shared
abbrev pub TellsClash : CallReply → Type 0
TellsClash reply = (name : Digest) × (reply ≡ Refused (NameClash name))

-- two replies are one, unless both tell of a clash: then it may be another
abbrev pub AreOneButForClash : (reply other : CallReply) → Type 0
AreOneButForClash reply other = (reply ≡ other) ⊎ (TellsClash reply × TellsClash other)
