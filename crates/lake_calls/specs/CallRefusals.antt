-- What refuses each point of a course, and where a point passes.
use Rattle.std.specs.Prelude.{◌≡◌, ◌⊎◌, ℕ, zero, suc, nat_lt, false, List, [], length, slice_get, Option, Some, None, Result, Ok, Err, if◌then◌else◌}
use Rattle.std.specs.Option.{option_map_or}
use Rattle.lake_base.specs.Digest.{encode_lower}
use Rattle.lake_base.specs.declared.digest.Digest.{Digest}
use Rattle.lake_values.specs.Entry.{EntryValue}
use Rattle.lake_values.specs.declared.entry.Place.{Place}
use Rattle.lake_values.specs.declared.entry.Place.TheVariants.{Own, External}
use Rattle.commit_graph.specs.Expressions.{RefExprValue}
use Rattle.lake_model.specs.declared.fault.HeadRefusal.{HeadRefusal}
use Rattle.lake_model.specs.declared.fault.HeadRefusal.TheVariants as unmade
use Rattle.lake_model.specs.declared.fault.Reference.TheVariants as reference
use Rattle.lake_model.specs.declared.fault.StepFault.{StepFault}
use Rattle.lake_model.specs.declared.fault.StepFault.TheVariants as step
use Rattle.lake_model.specs.declared.history.Operation.{Operation}
use Rattle.lake_model.specs.declared.history.Operation.TheVariants.{RepoCreate, BranchCreate, BranchDelete, TagCreate, TagDelete, TicketTake, TicketDrop}
use Rattle.lake_model.specs.declared.history.Operation.TheVariants.{Stage, Copy, Reset}
use Rattle.lake_model.specs.declared.history.Operation.TheVariants.{Seal, Commit, Merge, Pick, NoteSet, Expire, Condemn}
use Rattle.lake_model.specs.declared.reply.Point.{Point}
use Rattle.lake_model.specs.declared.reply.Seen.{Seen}
use Rattle.lake_model.specs.declared.reply.SwapKind.TheVariants as kind
use Rattle.lake_model.specs.State.{State}
use Rattle.lake_model.specs.Commits.{bare_repository, first_draft}
use Rattle.lake_model.specs.HeadRefusals.{ReadingRefusal, Step, Head, reading_refusal}
use Rattle.lake_model.specs.Readings.{look_reply, resolve_reply, ◌then◌}
use Rattle.lake_model.specs.Refusals.{Causes, Clash, IsClashOrNone, causes_of_change, first_cause, no_causes, with_branch}
use Rattle.lake_model.specs.Steps.{IsSwapClash, copied_entry, copy_causes_of, copy_source, create_branch_causes, create_repository_causes}
use Rattle.lake_model.specs.Steps.{create_tag_causes, delete_branch_causes}
use Rattle.lake_model.specs.Steps.{delete_tag_causes, in_it, new_head_causes, seal_causes, set_note_causes_of, swap_rule, target_in, write_causes}
use Rattle.lake_calls.specs.Calls.{ExpressionValue}
use Rattle.lake_calls.specs.CallReadings.{reading_of}
use Rattle.lake_calls.specs.Courses.{CallPoint, Answers, Finds, ResolvesSource, ResolvesParent, Looks, Prepares, Makes, copied_from}
use Rattle.lake_calls.specs.declared.call.Call.{Call}
use Rattle.lake_calls.specs.declared.call.Call.TheVariants.{Names, Objects, Heads, Settings}
use Rattle.lake_calls.specs.declared.call.SettingCall.{SettingCall}
use Rattle.lake_calls.specs.declared.call.SettingCall.TheVariants.{GetProtection, SetProtection, GetHooks, SetHooks}
use Rattle.lake_calls.specs.declared.heads.HeadCall.{HeadCall}
use Rattle.lake_calls.specs.declared.heads.HeadCall.TheVariants as head
use Rattle.lake_calls.specs.declared.names.NamingCall.{NamingCall}
use Rattle.lake_calls.specs.declared.names.NamingCall.TheVariants as naming
use Rattle.lake_calls.specs.declared.objects.ObjectCall.{ObjectCall}
use Rattle.lake_calls.specs.declared.objects.ObjectCall.TheVariants as object
use Rattle.lake_calls.specs.declared.objects.ReadCall.{ReadCall}
use Rattle.lake_calls.specs.declared.reply.CallReply.{CallReply}
use Rattle.lake_calls.specs.declared.reply.CallReply.TheVariants.{Refused}
use Rattle.lake_calls.specs.declared.reply.Done.{Done}
use Rattle.lake_calls.specs.declared.reply.MissingParent.TheVariants.{OfExpression, OfNumber}
use Rattle.lake_calls.specs.declared.reply.Refusal.{Refusal}
use Rattle.lake_calls.specs.declared.reply.Refusal.TheVariants as refusal

-- ---- what the text of a refusal names

-- the repository; the branch or the tag that is named, or what is to be made; the expression, with its text; the path; and
-- the commit after which a log is to begin. What a call hasn't is empty, and no refusal of it names it.
pub record CallNames : Type 0 where
  pub repo : List ℕ
  pub named : List ℕ
  pub expression : ExpressionValue
  pub path : List ℕ
  pub after : List ℕ

-- an expression that is no expression of a call
abbrev pub no_expression : ExpressionValue
no_expression = record { e = record { name = []; at = false; moves = [] }; text = [] }

-- a call that names a repository, and something of it
abbrev pub names_in : (repo named : List ℕ) → CallNames
names_in repo named = record { repo = repo; named = named; expression = no_expression; path = []; after = [] }

abbrev pub names_at : (repo named : List ℕ) → ExpressionValue → (path : List ℕ) → CallNames
names_at repo named e path = record { repo = repo; named = named; expression = e; path = path; after = [] }

abbrev pub names_of_naming : NamingCall → CallNames
names_of_naming (naming.ListRepositories after amount) = names_in [] []
names_of_naming (naming.CreateRepository c) = names_in c.name c.name
names_of_naming (naming.ListBranches c) = names_in c.repo []
names_of_naming (naming.CreateBranch c) = names_at c.repo c.name c.source []
names_of_naming (naming.GetBranch c) = names_in c.repo c.name
names_of_naming (naming.DeleteBranch c) = names_in c.repo c.name
names_of_naming (naming.ResetBranch c) = names_in c.repo c.branch
names_of_naming (naming.ListTags c) = names_in c.repo []
names_of_naming (naming.CreateTag c) = names_at c.repo c.name c.source []
names_of_naming (naming.GetTag c) = names_in c.repo c.name
names_of_naming (naming.DeleteTag c) = names_in c.repo c.name

abbrev pub names_of_object : ObjectCall → CallNames
names_of_object (object.Upload u) = names_in u.repo u.branch
names_of_object (object.Link c) = names_in c.repo c.branch
names_of_object (object.Delete c) = names_in c.repo c.branch
names_of_object (object.Copy c) = names_at c.repo c.branch (copied_from c) c.source_path
names_of_object (object.Read c) = names_at c.repo [] c.at c.path
names_of_object (object.Stat c) = names_at c.repo [] c.at c.path
names_of_object (object.List c) = names_at c.repo [] c.at []

-- a commit's id, which is asked for as an expression
abbrev pub id_expression : Digest → ExpressionValue
id_expression id = record { e = record { name = encode_lower id.0; at = false; moves = [] }; text = encode_lower id.0 }

abbrev pub names_of_head : HeadCall → CallNames
names_of_head (head.Commit c) = names_in c.repo c.branch
names_of_head (head.Merge c) = names_at c.repo c.branch c.source []
names_of_head (head.Revert c) = names_at c.repo c.branch c.at []
names_of_head (head.CherryPick c) = names_at c.repo c.branch c.at []
names_of_head (head.Log c) =
    record (names_at c.repo [] c.at []) { after = option_map_or (λ (id : Digest). encode_lower id.0) c.after [] }
names_of_head (head.GetCommit repo id) = names_at repo [] (id_expression id) []

abbrev pub names_of_setting : SettingCall → CallNames
names_of_setting (GetProtection repo) = names_in repo []
names_of_setting (SetProtection repo protection) = names_in repo []
names_of_setting (GetHooks repo) = names_in repo []
names_of_setting (SetHooks repo hooks) = names_in repo []

abbrev pub names_of : Call → CallNames
names_of (Names call) = names_of_naming call
names_of (Objects call) = names_of_object call
names_of (Heads call) = names_of_head call
names_of (Settings call) = names_of_setting call

-- what a client is told of a step's refusal; that versions changed, that the store failed and that memory ran out are no
-- refusals of a state
abbrev pub told : CallNames → StepFault → Option Refusal
told names step.Stopped = Some refusal.Stopped
told names step.HistoryFull = Some refusal.HistoryFull
told names step.NoRepo = Some (refusal.NoRepo names.repo)
told names (step.NoRef reference.Named) = Some (refusal.NoRef names.named)
told names (step.NoRef reference.Expression) = Some (refusal.NoRef names.expression.text)
told names (step.NoRef reference.After) = Some (refusal.NoRef names.after)
told names (step.NoParent number) = Some (refusal.NoParent (OfExpression names.expression.text))
told names step.NoNote = Some refusal.NoNote
told names step.Exists = Some (refusal.Exists names.named)
told names step.DefaultBranch = Some refusal.DefaultBranch
told names (step.Protected pattern) = Some (refusal.Protected pattern)
told names step.NoPath = Some (refusal.NoPath names.path)
told names (step.Expired id) = Some (refusal.Expired id)
told names (step.NameClash name kept new) = Some (refusal.NameClash name)
told names (step.Changed version settings) = None
told names step.StoreFault = None
told names step.NoMemory = None

-- the reply to a step's refusal
abbrev pub IsToldOf : CallNames → StepFault → CallReply → Type 0
IsToldOf names fault reply = (refused : Refusal) × (told names fault ≡ Some refused) × (reply ≡ Refused refused)

-- what a client is told of a new head that isn't made
abbrev pub told_of_head : HeadRefusal → Refusal
told_of_head (unmade.NoChanges head) = refusal.NoChanges
told_of_head (unmade.Dirty path) = refusal.Dirty path
told_of_head (unmade.Conflicts paths total) = refusal.Conflicts total
told_of_head (unmade.HookDenied hook) = refusal.HookDenied hook

-- the reply to what a new head is refused for at its reading
abbrev pub IsToldOfReading : CallNames → ReadingRefusal → CallReply → Type 0
IsToldOfReading names (Step fault) reply = IsToldOf names fault reply
IsToldOfReading names (Head refused) reply = reply ≡ Refused (told_of_head refused)

-- ---- readings that fix something

-- the object whose bytes are asked for: it is there, it is the lake's own, and it isn't gone
abbrev pub object_found : ReadCall → Seen → EntryValue → Place → Result EntryValue Refusal
object_found c seen entry (External at checksum) = Err (refusal.NotHeld c.path)
object_found c seen entry (Own number digest) = if seen.gone then Err (refusal.Gone c.path) else Ok entry

abbrev pub object_seen : ReadCall → Result Seen StepFault → Result (Result EntryValue Refusal) StepFault
object_seen c (Err fault) = Err fault
object_seen c (Ok seen) = option_map_or (λ entry. Ok (object_found c seen entry entry.place)) seen.found (Err step.NoPath)

-- what a call that asks for an object finds in a state
abbrev pub found_object : ReadCall → State → Result (Result EntryValue Refusal) StepFault
found_object c state = object_seen c (look_reply state c.repo c.at.e c.path)

-- the parent of a number, counted from 1
abbrev pub nth_parent : List Digest → ℕ → Option Digest
nth_parent parents zero = None
nth_parent parents (suc number) = slice_get parents number

-- the parent over which a commit is taken or undone: that of the number; without one the only one there is
abbrev pub chosen_parent : List Digest → Option ℕ → Result Digest Refusal
chosen_parent parents (Some number) = option_map_or Ok (nth_parent parents number) (Err (refusal.NoParent (OfNumber number)))
chosen_parent parents None =
    if nat_lt 1 (length parents) then Err refusal.NeedsParentNumber
    else option_map_or Ok (nth_parent parents 1) (Err (refusal.NoParent (OfNumber 1)))

-- ---- steps

-- the expression and the name of what a call makes or copies
abbrev pub expression_of : Call → RefExprValue
expression_of call = (names_of call).expression.e

-- THE CAUSES AT A STEP, in the one order, without versions
abbrev pub step_causes : State → Call → Operation → Option Clash → Causes
step_causes state call (RepoCreate repo branch date) clash = create_repository_causes state repo clash
step_causes state call (BranchCreate repo branch commit) clash = create_branch_causes state repo branch (expression_of call)
step_causes state call (BranchDelete repo branch) clash = delete_branch_causes state repo branch
step_causes state call (TagCreate repo tag commit) clash = create_tag_causes state repo tag (expression_of call)
step_causes state call (TagDelete repo tag) clash = delete_tag_causes state repo tag
step_causes state call (TicketTake repo branch number) clash = write_causes state repo branch
step_causes state call (TicketDrop number) clash = causes_of_change state
step_causes state call (Stage repo branch path change) clash = write_causes state repo branch
step_causes state call (Copy repo branch path source from entry) clash = copy_causes_of state repo branch (expression_of call) from
step_causes state call (Reset repo branch what) clash = write_causes state repo branch
step_causes state call (Seal repo branch why) clash = seal_causes why state repo branch
step_causes state call (Commit repo branch about) clash = new_head_causes state repo branch (swap_rule kind.Commit about) clash
step_causes state call (Merge repo branch source strategy about) clash =
    new_head_causes state repo branch (swap_rule (kind.Merge source strategy) about) clash
step_causes state call (Pick repo branch base source strategy about) clash =
    new_head_causes state repo branch (swap_rule (kind.Pick base source strategy) about) clash
step_causes state call (NoteSet repo name note) clash = set_note_causes_of state repo name note
step_causes state call (Expire now commits) clash = causes_of_change state
step_causes state call (Condemn numbers) clash = causes_of_change state

-- a clash of the commit that a step makes, or that there is none; a step that makes no commit has none
abbrev pub IsClashOf : State → Operation → Option Clash → Type 0
IsClashOf state (RepoCreate repo branch date) clash = IsClashOrNone state (bare_repository date branch) (first_draft date) clash
IsClashOf state (Commit repo branch about) clash = IsSwapClash state repo branch (swap_rule kind.Commit about) clash
IsClashOf state (Merge repo branch source strategy about) clash =
    IsSwapClash state repo branch (swap_rule (kind.Merge source strategy) about) clash
IsClashOf state (Pick repo branch base source strategy about) clash =
    IsSwapClash state repo branch (swap_rule (kind.Pick base source strategy) about) clash
IsClashOf state operation clash = clash ≡ None

-- what the reading of a guarded step asks, asked at the step: a new head is worth making; what other steps' readings ask
-- they ask themselves
abbrev pub IsWorthReading : State → Operation → Type 0
IsWorthReading state (Commit repo branch about) = reading_refusal state repo branch kind.Commit about ≡ None
IsWorthReading state (Merge repo branch source strategy about) =
    reading_refusal state repo branch (kind.Merge source strategy) about ≡ None
IsWorthReading state (Pick repo branch base source strategy about) =
    reading_refusal state repo branch (kind.Pick base source strategy) about ≡ None
IsWorthReading state operation = Unit {0}

-- what a step fixes may be fixed: the next number; the commit that the expression leads to; what is copied
abbrev pub MayFix : State → Call → Operation → Type 0
MayFix state call (TicketTake repo branch number) = number ≡ state.next_number
MayFix state call (BranchCreate repo branch commit) = in_it state repo (λ r. target_in r (expression_of call)) ≡ Some commit
MayFix state call (TagCreate repo tag commit) = in_it state repo (λ r. target_in r (expression_of call)) ≡ Some commit
MayFix state call (Copy repo branch path source from entry) =
    (in_it state repo (λ r. copy_source r (expression_of call)) ≡ Some source) × (copied_entry state repo (expression_of call) from ≡ Some entry)
MayFix state call operation = Unit {0}

-- A step passes: no cause of its own list holds, and none of its reading's; and what it fixes may be fixed.
pub record StepPasses (state : State) (call : Call) (operation : Operation) : Type 0 where
  pub none : first_cause (step_causes state call operation None) ≡ None
  pub no_clash : IsClashOf state operation None
  pub worth : IsWorthReading state operation
  pub fixes : MayFix state call operation

-- A step is refused: by the first cause that holds.
pub record StepRefused (state : State) (call : Call) (operation : Operation) (reply : CallReply) : Type 0 where
  pub clash : Option Clash
  pub is_clash : IsClashOf state operation clash
  pub fault : StepFault
  pub first : first_cause (step_causes state call operation clash) ≡ Some fault
  pub told_so : IsToldOf (names_of call) fault reply

-- ---- every point

-- the number of a parent that a call gives
abbrev pub parent_number : Call → Option ℕ
parent_number (Heads (head.Revert c)) = c.parent
parent_number (Heads (head.CherryPick c)) = c.parent
parent_number call = None

-- what the expression of a call leads to
abbrev pub resolved : State → Call → Result Point StepFault
resolved state call = resolve_reply state (names_of call).repo (expression_of call)

-- A POINT PASSES in a state: nothing refuses it, and what it fixes may be fixed.
abbrev pub PointPasses : Call → CallPoint → State → Type 0
PointPasses call Answers state = (told : Done) × (reading_of call state ≡ Some (Ok told))
PointPasses call (Finds c) state = (entry : EntryValue) × (found_object c state ≡ Ok (Ok entry))
PointPasses call (ResolvesSource commit) state = (point : Point) × (resolved state call ≡ Ok point) × (point.commit ≡ commit)
PointPasses call (ResolvesParent commit parent message) state =
    (point : Point) × (resolved state call ≡ Ok point) × (point.commit ≡ commit) × (point.message ≡ message)
    × (chosen_parent point.parents (parent_number call) ≡ Ok parent)
PointPasses call (Looks repo branch) state = first_cause (with_branch state repo branch no_causes) ≡ None
PointPasses call (Prepares repo branch kind about) state = reading_refusal state repo branch kind about ≡ None
PointPasses call (Makes operation) state = StepPasses state call operation

-- A POINT IS REFUSED in a state, with this reply: the first of its list that holds.
abbrev pub PointRefused : Call → CallPoint → State → CallReply → Type 0
PointRefused call Answers state reply =
    (fault : StepFault) × (reading_of call state ≡ Some (Err fault)) × IsToldOf (names_of call) fault reply
PointRefused call (Finds c) state reply =
    ((fault : StepFault) × (found_object c state ≡ Err fault) × IsToldOf (names_of call) fault reply)
    ⊎ ((refused : Refusal) × (found_object c state ≡ Ok (Err refused)) × (reply ≡ Refused refused))
PointRefused call (ResolvesSource commit) state reply =
    (fault : StepFault) × (resolved state call ≡ Err fault) × IsToldOf (names_of call) fault reply
PointRefused call (ResolvesParent commit parent message) state reply =
    ((fault : StepFault) × (resolved state call ≡ Err fault) × IsToldOf (names_of call) fault reply)
    ⊎ ((point : Point) × (refused : Refusal) × (resolved state call ≡ Ok point)
    × (chosen_parent point.parents (parent_number call) ≡ Err refused) × (reply ≡ Refused refused))
PointRefused call (Looks repo branch) state reply =
    (fault : StepFault) × (first_cause (with_branch state repo branch no_causes) ≡ Some fault) × IsToldOf (names_of call) fault reply
PointRefused call (Prepares repo branch kind about) state reply =
    (refused : ReadingRefusal) × (reading_refusal state repo branch kind about ≡ Some refused)
    × IsToldOfReading (names_of call) refused reply
PointRefused call (Makes operation) state reply = StepRefused state call operation reply
