-- What a client is told of a call whose course went by, and what one that stops gives up.
use Rattle.std.specs.Prelude.{◌≡◌, ℕ, Bool, true, false, List, [], ◌∷◌, Option, Some, None, Ok}
use Rattle.lake_base.specs.declared.digest.Digest.{Digest}
use Rattle.lake_format.specs.Spelling.{commit_id}
use Rattle.lake_values.specs.Body.{Fits}
use Rattle.lake_values.specs.Commit.{AboutValue, CommitRecordValue}
use Rattle.lake_values.specs.Entry.{EntryValue}
use Rattle.lake_values.specs.declared.commit.Strategy.TheVariants.{Refuse}
use Rattle.lake_model.specs.declared.history.Operation.{Operation}
use Rattle.lake_model.specs.declared.history.Operation.TheVariants.{TicketTake, TicketDrop}
use Rattle.lake_model.specs.declared.reply.SwapKind.{SwapKind}
use Rattle.lake_model.specs.declared.reply.SwapKind.TheVariants as kind
use Rattle.lake_model.specs.State.{State}
use Rattle.lake_model.specs.Steps.{new_commit, swap_rule}
use Rattle.lake_calls.specs.CallExceptions.{CallMet}
use Rattle.lake_calls.specs.CallReadings.{known_commit}
use Rattle.lake_calls.specs.CallRefusals.{found_object}
use Rattle.lake_calls.specs.Courses.{CallPoint, Fixed, Looks, Makes, commit_about, link_entry, merge_about, pick_about, revert_about, upload_entry}
use Rattle.lake_calls.specs.declared.call.Call.{Call}
use Rattle.lake_calls.specs.declared.call.Call.TheVariants.{Names, Objects, Heads, Settings}
use Rattle.lake_calls.specs.declared.call.SettingCall.{SettingCall}
use Rattle.lake_calls.specs.declared.call.SettingCall.TheVariants.{GetProtection, SetProtection, GetHooks, SetHooks}
use Rattle.lake_calls.specs.declared.heads.HeadCall.{HeadCall}
use Rattle.lake_calls.specs.declared.heads.HeadCall.TheVariants as head
use Rattle.lake_calls.specs.declared.names.NamingCall.{NamingCall}
use Rattle.lake_calls.specs.declared.names.NamingCall.TheVariants as naming
use Rattle.lake_calls.specs.declared.objects.ObjectCall.{ObjectCall}
use Rattle.lake_calls.specs.declared.objects.ObjectCall.TheVariants as object
use Rattle.lake_calls.specs.declared.objects.ReadCall.{ReadCall}
use Rattle.lake_calls.specs.declared.reply.CallReply.{CallReply}
use Rattle.lake_calls.specs.declared.reply.CallReply.TheVariants as reply
use Rattle.lake_calls.specs.declared.reply.Done.{Done}
use Rattle.lake_calls.specs.declared.reply.Done.TheVariants as done
use Rattle.lake_calls.specs.CallReadings as reading

-- ---- objects

-- the bytes of the object that is found: those that the store gave, which fit its entry
abbrev pub IsObject : ReadCall → CallMet → State → Done → Type 0
IsObject c met state told = (entry : EntryValue) × (bytes : List ℕ) × (found_object c state ≡ Ok (Ok entry))
    × (met.bytes ≡ Some bytes) × Fits entry bytes × (told ≡ done.Object entry.content_type bytes)

abbrev pub IsObjectDone : ObjectCall → (moment : ℕ) → Fixed → CallMet → State → Done → Type 0
IsObjectDone (object.Upload u) moment fixed met state told =
    told ≡ done.Uploaded (record { path = u.path; entry = upload_entry u moment fixed.number })
IsObjectDone (object.Link c) moment fixed met state told = told ≡ done.Linked (record { path = c.path; entry = link_entry c moment })
IsObjectDone (object.Delete c) moment fixed met state told = told ≡ done.ObjectDeleted
IsObjectDone (object.Copy c) moment fixed met state told = told ≡ done.Copied (record { path = c.path; entry = fixed.entry })
IsObjectDone (object.Read c) moment fixed met state told = IsObject c met state told
IsObjectDone (object.Stat c) moment fixed met state told = reading.stat_reading c state ≡ Ok told
IsObjectDone (object.List c) moment fixed met state told = reading.list_objects c state ≡ Ok told

-- ---- repositories, branches and tags

abbrev pub IsNamingDone : NamingCall → (moment : ℕ) → Fixed → State → Done → Type 0
IsNamingDone (naming.ListRepositories after amount) moment fixed state told = reading.list_repositories after amount state ≡ Ok told
IsNamingDone (naming.CreateRepository c) moment fixed state told =
    told ≡ done.RepositoryCreated (record { name = c.name; default_branch = c.default_branch; created = moment })
IsNamingDone (naming.ListBranches c) moment fixed state told = reading.list_branches c state ≡ Ok told
IsNamingDone (naming.CreateBranch c) moment fixed state told = told ≡ done.BranchCreated fixed.commit
IsNamingDone (naming.GetBranch c) moment fixed state told = reading.find_branch c state ≡ Ok told
IsNamingDone (naming.DeleteBranch c) moment fixed state told = told ≡ done.BranchDeleted
IsNamingDone (naming.ResetBranch c) moment fixed state told = told ≡ done.BranchReset
IsNamingDone (naming.ListTags c) moment fixed state told = reading.list_tags c state ≡ Ok told
IsNamingDone (naming.CreateTag c) moment fixed state told = told ≡ done.TagCreated (record { name = c.name; commit = fixed.commit })
IsNamingDone (naming.GetTag c) moment fixed state told = reading.find_tag c state ≡ Ok told
IsNamingDone (naming.DeleteTag c) moment fixed state told = told ≡ done.TagDeleted

-- ---- commits

-- the commit that a new head is made of, in the state before it
abbrev pub IsNewHead : State → (repo branch : List ℕ) → SwapKind → AboutValue → Digest → CommitRecordValue → Type 0
IsNewHead state repo branch kind about id commit = (new_commit state repo branch (swap_rule kind about) ≡ Some commit) × (id ≡ commit_id commit)

-- what is told of it
abbrev pub IsHeadTold : (Digest × CommitRecordValue → Done) → State → (repo branch : List ℕ) → SwapKind → AboutValue → Done → Type 0
IsHeadTold telling state repo branch kind about told =
    (id : Digest) × (commit : CommitRecordValue) × IsNewHead state repo branch kind about id commit × (told ≡ telling (id, commit))

abbrev pub IsHeadDone : HeadCall → (moment : ℕ) → Fixed → State → Done → Type 0
IsHeadDone (head.Commit c) moment fixed state told =
    IsHeadTold (λ one. done.Committed (known_commit one)) state c.repo c.branch kind.Commit (commit_about c moment) told
IsHeadDone (head.Merge c) moment fixed state told =
    IsHeadTold (λ one. done.Merged one.0) state c.repo c.branch (kind.Merge fixed.commit c.strategy) (merge_about c moment) told
IsHeadDone (head.Revert c) moment fixed state told =
    IsHeadTold (λ one. done.Reverted (known_commit one)) state c.repo c.branch (kind.Pick fixed.commit fixed.parent Refuse)
    (revert_about c moment fixed.commit) told
IsHeadDone (head.CherryPick c) moment fixed state told =
    IsHeadTold (λ one. done.CherryPicked (known_commit one)) state c.repo c.branch (kind.Pick fixed.parent fixed.commit Refuse)
    (pick_about c moment fixed.message) told
IsHeadDone (head.Log c) moment fixed state told = reading.log_reading c state ≡ Ok told
IsHeadDone (head.GetCommit repo id) moment fixed state told = reading.commit_reading repo id state ≡ Ok told

-- ---- settings

abbrev pub IsSettingDone : SettingCall → State → Done → Type 0
IsSettingDone (GetProtection repo) state told = reading.protection_reading repo state ≡ Ok told
IsSettingDone (SetProtection repo protection) state told = told ≡ done.ProtectionSet
IsSettingDone (GetHooks repo) state told = reading.hooks_reading repo state ≡ Ok told
IsSettingDone (SetHooks repo hooks) state told = told ≡ done.HooksSet

-- ---- every call

-- WHAT A DONE CALL IS TOLD, in the state before its last entry, or of a reading in the state that it read
abbrev pub IsDone : Call → (moment : ℕ) → Fixed → CallMet → State → Done → Type 0
IsDone (Names call) moment fixed met state told = IsNamingDone call moment fixed state told
IsDone (Objects call) moment fixed met state told = IsObjectDone call moment fixed met state told
IsDone (Heads call) moment fixed met state told = IsHeadDone call moment fixed state told
IsDone (Settings call) moment fixed met state told = IsSettingDone call state told

-- whether a reply is no refusal
abbrev pub is_reply_done : CallReply → Bool
is_reply_done (reply.Done told) = true
is_reply_done _ = false

-- whether a call puts a body
abbrev pub is_upload : Call → Bool
is_upload (Objects (object.Upload u)) = true
is_upload call = false

-- what a call that stops gives up: an upload behind its ticket, and before its last point, gives the number back
abbrev pub owed_behind : List CallPoint → Option Operation
owed_behind (Makes (TicketTake repo branch number) ∷ []) = Some (TicketDrop number)
owed_behind (Makes (TicketTake repo branch number) ∷ Looks _ _ ∷ []) = Some (TicketDrop number)
owed_behind passed = None

-- a call that makes no commit, whose clash with other contents could be told in several ways
abbrev pub MakesNoCommit : Call → Type 0
MakesNoCommit (Names (naming.CreateRepository c)) = ⊥
MakesNoCommit (Heads (head.Commit c)) = ⊥
MakesNoCommit (Heads (head.Merge c)) = ⊥
MakesNoCommit (Heads (head.Revert c)) = ⊥
MakesNoCommit (Heads (head.CherryPick c)) = ⊥
MakesNoCommit call = Unit {0}
