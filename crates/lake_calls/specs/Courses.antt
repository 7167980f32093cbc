-- THE COURSE OF EACH CALL: its points in order, and the operations that they make.
use Rattle.std.specs.Prelude.{ℕ, false, List, [], ◌∷◌, ◌++◌, length, codes, Option, Some, None}
use Rattle.std.specs.Option.{unwrap_or}
use Rattle.lake_base.specs.Digest.{encode_lower, sha256}
use Rattle.lake_base.specs.declared.digest.Digest.{Digest}
use Rattle.lake_values.specs.Commit.{AboutValue}
use Rattle.lake_values.specs.Entry.{EntryValue}
use Rattle.lake_values.specs.declared.commit.Strategy.TheVariants.{Refuse}
use Rattle.lake_values.specs.declared.entry.Change.TheVariants as change
use Rattle.lake_values.specs.declared.entry.Place.TheVariants.{Own, External}
use Rattle.lake_values.specs.declared.settings.Note.TheVariants as note
use Rattle.lake_values.specs.declared.settings.NoteName.TheVariants as name
use Rattle.lake_model.specs.declared.history.CopySource.{CopySource}
use Rattle.lake_model.specs.declared.history.CopySource.TheVariants as source
use Rattle.lake_model.specs.declared.history.Operation.{Operation}
use Rattle.lake_model.specs.declared.history.Operation.TheVariants.{RepoCreate, BranchCreate, BranchDelete, TagCreate, TagDelete, TicketTake, Stage}
use Rattle.lake_model.specs.declared.history.Operation.TheVariants.{Copy, Reset, Seal}
use Rattle.lake_model.specs.declared.history.Operation.TheVariants.{NoteSet}
use Rattle.lake_model.specs.declared.history.SealFor.{SealFor}
use Rattle.lake_model.specs.declared.history.SealFor.TheVariants as seal
use Rattle.lake_model.specs.declared.reply.SwapKind.{SwapKind}
use Rattle.lake_model.specs.declared.reply.SwapKind.TheVariants as kind
use Rattle.lake_model.specs.Steps.{swap_operation}
use Rattle.lake_calls.specs.Calls.{ExpressionValue, UploadCall, LinkCall, CommitCall, MergeCall, PickCall, merge_message}
use Rattle.lake_calls.specs.declared.call.Call.{Call}
use Rattle.lake_calls.specs.declared.call.Call.TheVariants.{Names, Objects, Heads, Settings}
use Rattle.lake_calls.specs.declared.call.SettingCall.{SettingCall}
use Rattle.lake_calls.specs.declared.call.SettingCall.TheVariants.{GetProtection, SetProtection, GetHooks, SetHooks}
use Rattle.lake_calls.specs.declared.heads.HeadCall.{HeadCall}
use Rattle.lake_calls.specs.declared.heads.HeadCall.TheVariants as head
use Rattle.lake_calls.specs.declared.names.NamingCall.{NamingCall}
use Rattle.lake_calls.specs.declared.names.NamingCall.TheVariants as naming
use Rattle.lake_calls.specs.declared.objects.CopyCall.{CopyCall}
use Rattle.lake_calls.specs.declared.objects.ObjectCall.{ObjectCall}
use Rattle.lake_calls.specs.declared.objects.ObjectCall.TheVariants as object
use Rattle.lake_calls.specs.declared.objects.ReadCall.{ReadCall}

-- what the points of a course fix: the number that a ticket gives out; the commit that an expression leads to, its parent
-- and its message; what an entry is copied from, and the entry
pub record Fixed : Type 0 where
  pub number : ℕ
  pub commit : Digest
  pub parent : Digest
  pub message : List ℕ
  pub source : CopySource
  pub entry : EntryValue

-- what a course fixes that fixes nothing
abbrev pub nothing_fixed : Fixed
nothing_fixed = record {
  number = 0;
  commit = record { 0 = [] };
  parent = record { 0 = [] };
  message = [];
  source = source.Branch [];
  entry = record { place = External [] []; size = 0; mtime = 0; content_type = []; metadata = [] };
}

-- A point of a course. A guarded change is two points: the reading that has its early refusals, and the step.
pub data CallPoint : Type 0 where
  -- the reading that answers a call that reads
  Answers : CallPoint
  -- the reading that finds the object whose bytes are asked for
  Finds : ReadCall → CallPoint
  -- the reading that resolves the commit of an expression: what is merged
  ResolvesSource : (commit : Digest) → CallPoint
  -- the reading that resolves a commit, with its message, and its parent: what is taken or undone
  ResolvesParent : (commit parent : Digest) (message : List ℕ) → CallPoint
  -- the reading of the branch that is written to
  Looks : (repo branch : List ℕ) → CallPoint
  -- the reading of what a new head is made from
  Prepares : (repo branch : List ℕ) → SwapKind → AboutValue → CallPoint
  -- a step
  Makes : Operation → CallPoint

-- the operation that a point makes
abbrev pub made_by : CallPoint → Option Operation
made_by (Makes operation) = Some operation
made_by _ = None

-- ---- objects

-- the entry of an upload: the lake's own object of this number, with the body's length and SHA-256, the moment of the
-- request, and no metadata
abbrev pub upload_entry : UploadCall → (moment number : ℕ) → EntryValue
upload_entry u moment number = record {
  place = Own number (record { 0 = sha256 u.body });
  size = length u.body;
  mtime = moment;
  content_type = u.content_type;
  metadata = [];
}

-- the entry of an object outside: without a time of change it has the request's moment
abbrev pub link_entry : LinkCall → (moment : ℕ) → EntryValue
link_entry c moment = record {
  place = External c.address c.checksum;
  size = c.size;
  mtime = unwrap_or c.mtime moment;
  content_type = c.content_type;
  metadata = c.metadata;
}

-- the expression that is copied from: without one it is the branch itself
abbrev pub copied_from : CopyCall → ExpressionValue
copied_from c = unwrap_or c.source (record { e = record { name = c.branch; at = false; moves = [] }; text = c.branch })

-- a change that is staged
abbrev pub staging_points : (repo branch : List ℕ) → Operation → List CallPoint
staging_points repo branch operation = Looks repo branch ∷ Makes operation ∷ []

abbrev pub object_course : ObjectCall → (moment : ℕ) → Fixed → List CallPoint
object_course (object.Upload u) moment fixed =
    Makes (TicketTake u.repo u.branch fixed.number)
    ∷ staging_points u.repo u.branch (Stage u.repo u.branch u.path (change.Put (upload_entry u moment fixed.number)))
object_course (object.Link c) moment fixed =
    staging_points c.repo c.branch (Stage c.repo c.branch c.path (change.Put (link_entry c moment)))
object_course (object.Delete c) moment fixed = staging_points c.repo c.branch (Stage c.repo c.branch c.path change.Delete)
object_course (object.Copy c) moment fixed =
    staging_points c.repo c.branch (Copy c.repo c.branch c.path fixed.source c.source_path fixed.entry)
object_course (object.Read c) moment fixed = Finds c ∷ []
object_course (object.Stat c) moment fixed = Answers ∷ []
object_course (object.List c) moment fixed = Answers ∷ []

-- ---- repositories, branches and tags

abbrev pub naming_course : NamingCall → (moment : ℕ) → Fixed → List CallPoint
naming_course (naming.ListRepositories after amount) moment fixed = Answers ∷ []
naming_course (naming.CreateRepository c) moment fixed = Makes (RepoCreate c.name c.default_branch moment) ∷ []
naming_course (naming.ListBranches c) moment fixed = Answers ∷ []
naming_course (naming.CreateBranch c) moment fixed = Makes (BranchCreate c.repo c.name fixed.commit) ∷ []
naming_course (naming.GetBranch c) moment fixed = Answers ∷ []
naming_course (naming.DeleteBranch c) moment fixed = Makes (BranchDelete c.repo c.name) ∷ []
naming_course (naming.ResetBranch c) moment fixed = Makes (Reset c.repo c.branch c.what) ∷ []
naming_course (naming.ListTags c) moment fixed = Answers ∷ []
naming_course (naming.CreateTag c) moment fixed = Makes (TagCreate c.repo c.name fixed.commit) ∷ []
naming_course (naming.GetTag c) moment fixed = Answers ∷ []
naming_course (naming.DeleteTag c) moment fixed = Makes (TagDelete c.repo c.name) ∷ []

-- ---- commits

-- what is said of a commit
abbrev pub commit_about : CommitCall → (moment : ℕ) → AboutValue
commit_about c moment = record { committer = c.committer; message = c.message; metadata = c.metadata; date = moment }

-- what is said of a merge
abbrev pub merge_about : MergeCall → (moment : ℕ) → AboutValue
merge_about c moment = record {
  committer = c.committer;
  message = unwrap_or c.message (merge_message c.source.text c.branch);
  metadata = c.metadata;
  date = moment;
}

-- what is said of a commit that undoes another: Revert ID
abbrev pub revert_about : PickCall → (moment : ℕ) → Digest → AboutValue
revert_about c moment id =
    record { committer = c.committer; message = codes "Revert " ++ encode_lower id.0; metadata = []; date = moment }

-- what is said of a commit that takes another's changes: that one's message
abbrev pub pick_about : PickCall → (moment : ℕ) → (message : List ℕ) → AboutValue
pick_about c moment message = record { committer = c.committer; message = message; metadata = []; date = moment }

-- a new head: the branch is sealed, what it is made from is read, and it is put in place
abbrev pub head_points : (repo branch : List ℕ) → SealFor → SwapKind → AboutValue → List CallPoint
head_points repo branch why kind about =
    Makes (Seal repo branch why) ∷ Prepares repo branch kind about ∷ Makes (swap_operation repo branch kind about) ∷ []

abbrev pub head_course : HeadCall → (moment : ℕ) → Fixed → List CallPoint
head_course (head.Commit c) moment fixed = head_points c.repo c.branch seal.Commit kind.Commit (commit_about c moment)
head_course (head.Merge c) moment fixed =
    ResolvesSource fixed.commit
    ∷ head_points c.repo c.branch seal.Other (kind.Merge fixed.commit c.strategy) (merge_about c moment)
head_course (head.Revert c) moment fixed =
    ResolvesParent fixed.commit fixed.parent fixed.message
    ∷ head_points c.repo c.branch seal.Other (kind.Pick fixed.commit fixed.parent Refuse) (revert_about c moment fixed.commit)
head_course (head.CherryPick c) moment fixed =
    ResolvesParent fixed.commit fixed.parent fixed.message
    ∷ head_points c.repo c.branch seal.Other (kind.Pick fixed.parent fixed.commit Refuse) (pick_about c moment fixed.message)
head_course (head.Log c) moment fixed = Answers ∷ []
head_course (head.GetCommit repo id) moment fixed = Answers ∷ []

-- ---- settings

abbrev pub setting_course : SettingCall → List CallPoint
setting_course (GetProtection repo) = Answers ∷ []
setting_course (SetProtection repo protection) = Makes (NoteSet repo name.Protection (Some (note.Protection protection))) ∷ []
setting_course (GetHooks repo) = Answers ∷ []
setting_course (SetHooks repo hooks) = Makes (NoteSet repo name.Hooks (Some (note.Hooks hooks))) ∷ []

-- ---- every call

abbrev pub call_course : Call → (moment : ℕ) → Fixed → List CallPoint
call_course (Names call) moment fixed = naming_course call moment fixed
call_course (Objects call) moment fixed = object_course call moment fixed
call_course (Heads call) moment fixed = head_course call moment fixed
call_course (Settings call) moment fixed = setting_course call
