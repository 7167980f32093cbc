-- An upload as what its steps tell: it took a number, it tried, and it staged its body or gave the number back.
use Rattle.std.specs.Prelude.{◌≡◌, ◌≢◌, ◌++◌, ℕ, zero, suc, true, List, [], ◌∷◌, None}
use Rattle.lake_values.specs.declared.entry.Change.TheVariants.{Put}
use Rattle.lake_model.specs.declared.history.HistoryEntry.{HistoryEntry}
use Rattle.lake_model.specs.declared.history.Operation.{Operation}
use Rattle.lake_model.specs.declared.history.Operation.TheVariants.{TicketTake, TicketDrop, Stage}
use Rattle.lake_model.specs.State.{State}
use Rattle.lake_model.specs.History.{accepted_entry, faulted_entry, replay}
use Rattle.lake_model.specs.Refusals.{first_cause, no_causes, with_branch}
use Rattle.lake_model.specs.Versions.{VersionsGiven, branch_version, count_versions}
use Rattle.call_placement.specs.Rules.{Caller}
use Rattle.call_placement.specs.Points.{Came}
use Rattle.call_placement.specs.Sessions.{Item}
use Rattle.lake_calls.specs.Calls.{UploadCall}
use Rattle.lake_calls.specs.CallExceptions.{CallMet, nothing_met}
use Rattle.lake_calls.specs.CallRefusals.{step_causes}
use Rattle.lake_calls.specs.Courses.{upload_entry}
use Rattle.lake_calls.specs.LakeRules.{by_caller, lake_rules}
use Rattle.lake_calls.specs.Requests.{Asks, CallRequest, Malformed}
use Rattle.lake_calls.specs.declared.call.Call.{Call}
use Rattle.lake_calls.specs.declared.call.Call.TheVariants.{Objects}
use Rattle.lake_calls.specs.declared.objects.ObjectCall.TheVariants as object
use Rattle.lake_calls.specs.declared.reply.CallReply.{CallReply}
use Rattle.lake_calls.specs.declared.reply.CallReply.TheVariants as reply
use Rattle.lake_calls.specs.declared.reply.Done.TheVariants as done
use Rattle.lake_calls.specs.declared.reply.FormRefusal.{FormRefusal}

-- a call that is asked at a moment
abbrev pub asked : Call → (moment : ℕ) → CallRequest
asked call moment = record { asked = Asks call; moment = moment }

-- an upload as a call
abbrev pub upload_call : UploadCall → Call
upload_call u = Objects (object.Upload u)

-- the operations of its two steps
abbrev pub taking : UploadCall → (number : ℕ) → Operation
taking u number = TicketTake u.repo u.branch number

abbrev pub staging : UploadCall → (moment number : ℕ) → Operation
staging u moment number = Stage u.repo u.branch u.path (Put (upload_entry u moment number))

-- the reply once its body is staged
abbrev pub uploaded : UploadCall → (moment number : ℕ) → CallReply
uploaded u moment number = reply.Done (done.Uploaded (record { path = u.path; entry = upload_entry u moment number }))

-- no cause of a step holds in the lake after these entries
abbrev pub NothingRefuses : State → UploadCall → Operation → List HistoryEntry → Type 0
NothingRefuses opened u operation found = first_cause (step_causes (replay opened found) (upload_call u) operation None) ≡ None

-- A step was accepted: others' entries came, nothing refused it, and its entry stood.
abbrev pub WasAccepted : State → Caller → UploadCall → Operation → (seen next : List HistoryEntry) → Type 0
WasAccepted opened by u operation seen next =
    (found : List HistoryEntry) × Came lake_rules by seen found × NothingRefuses opened u operation found
    × (next ≡ found ++ accepted_entry (by_caller by) operation ∷ [])

-- The store failed at a step: others' entries came, nothing refused it, and the note of it stood.
abbrev pub Failed : State → Caller → UploadCall → Operation → (seen next : List HistoryEntry) → Type 0
Failed opened by u operation seen next =
    (found : List HistoryEntry) × Came lake_rules by seen found × NothingRefuses opened u operation found
    × (next ≡ found ++ faulted_entry (by_caller by) operation ∷ [])

-- its first step took this number, which was the next one
abbrev pub TookNumber : State → Caller → UploadCall → (seen next : List HistoryEntry) → (number : ℕ) → Type 0
TookNumber opened by u seen next number =
    (step : WasAccepted opened by u (taking u number) seen next) × (number ≡ (replay opened step.0).next_number)

-- the reading of a try found the branch
abbrev pub Looked : State → Caller → UploadCall → (seen read : List HistoryEntry) → Type 0
Looked opened by u seen read =
    Came lake_rules by seen read × (first_cause (with_branch (replay opened read) u.repo u.branch no_causes) ≡ None)

-- So many tries added nothing: the step of each found another version of the branch than its reading, and others' entries
-- alone came before and between. The lake was opened with these versions.
abbrev pub Tried : VersionsGiven → Caller → UploadCall → (tries : ℕ) → (seen found : List HistoryEntry) → Type 0
Tried given by u zero seen found = found ≡ seen
Tried given by u (suc tries) seen found =
    (read : List HistoryEntry) × Came lake_rules by seen read × (step : List HistoryEntry) × Came lake_rules by read step
    × (branch_version (count_versions given step) u.repo u.branch ≢ branch_version (count_versions given read) u.repo u.branch)
    × Tried given by u tries step found

-- a further try staged the body
abbrev pub StagedBody : State → Caller → UploadCall → (moment number : ℕ) → (seen next : List HistoryEntry) → Type 0
StagedBody opened by u moment number seen next =
    (read : List HistoryEntry) × Looked opened by u seen read × WasAccepted opened by u (staging u moment number) read next

-- its number was given back
abbrev pub GaveBack : State → Caller → UploadCall → (number : ℕ) → (seen next : List HistoryEntry) → Type 0
GaveBack opened by u number seen next = WasAccepted opened by u (TicketDrop number) seen next

-- its seat saw that the store had failed
abbrev pub FoundStopped : State → Caller → (seen found : List HistoryEntry) → Type 0
FoundStopped opened by seen found = Came lake_rules by seen found × ((replay opened found).stopped ≡ true)

-- a call met that so many of its tries added nothing
abbrev pub met_tries : ℕ → CallMet
met_tries tries = record nothing_met { changed = tries }

-- what a session wrote of a call, and of a request that it couldn't read
abbrev pub item_of : CallRequest → CallMet → CallReply → (position : ℕ) → Item CallRequest CallMet CallReply
item_of request met told position = record { request = request; met = met; reply = told; position = position }

abbrev pub unreadable_item : FormRefusal → (moment position : ℕ) → Item CallRequest CallMet CallReply
unreadable_item refused moment position =
    item_of (record { asked = Malformed refused; moment = moment }) nothing_met (reply.Malformed refused) position
