-- Drafts of a branch's new head, of what a lake replies when it is asked for what they are made of.
use Rattle.std.specs.Prelude.{◌≡◌, ℕ, List, Option, Some, None, option_map, Result, Ok, Err}
use Rattle.lake_values.specs.Commit.{AboutValue}
use Rattle.lake_values.specs.declared.commit.Strategy.{Strategy}
use Rattle.lake_values.specs.declared.commit.Strategy.TheVariants.{Refuse}
use Rattle.lake_model.specs.declared.fault.StepFault.{StepFault}
use Rattle.lake_model.specs.declared.fault.StepFault.TheVariants as step
use Rattle.lake_model.specs.declared.history.HistoryEntry.{HistoryEntry}
use Rattle.lake_model.specs.declared.reply.Sides.{Sides}
use Rattle.lake_model.specs.declared.reply.Sides.TheVariants as sides
use Rattle.lake_model.specs.declared.reply.SwapKind.{SwapKind}
use Rattle.lake_model.specs.declared.reply.SwapKind.TheVariants as kind
use Rattle.head_drafts.specs.declared.fault.DraftFault.TheVariants as draft
use Rattle.head_drafts.specs.declared.fault.HeadFault.{HeadFault}
use Rattle.head_drafts.specs.declared.fault.HeadFault.TheVariants.{Step, Draft}
use Rattle.head_drafts.specs.declared.heads.HeadDraft.{HeadDraft}
use Rattle.lake_model.specs.HeadRefusals.{ReadingRefusal}
use Rattle.lake_model.specs.HeadRefusals as reading
use Rattle.lake_model.specs.History.{IsLegal, replay}
use Rattle.lake_model.specs.Preparing.{PreparedValue}
use Rattle.lake_model.specs.State.{State}
use Rattle.lake_model.specs.Versions.{VersionsGiven, count_versions}
use Rattle.lake_core.specs.HeadConditions.{IsReadyFor}
use Rattle.head_drafts.specs.Drafts.{DraftedMap, IsDraft}

-- the commits of a merge or a pick
abbrev pub sides_of : SwapKind → Option Sides
sides_of kind.Commit = None
sides_of (kind.Merge source strategy) = Some (sides.Merge source)
sides_of (kind.Pick base source strategy) = Some (sides.Pick base source)

-- what it does at conflicts; a commit has none
abbrev pub strategy_of : SwapKind → Strategy
strategy_of kind.Commit = Refuse
strategy_of (kind.Merge source strategy) = strategy
strategy_of (kind.Pick base source strategy) = strategy

-- a draft, with the versions of what was handed out
pub record IsHeadDraft (p : PreparedValue) (drafted : DraftedMap) (head : HeadDraft) : Type 0 where
  pub version : head.version ≡ p.version
  pub settings : head.settings ≡ p.settings
  pub draft : IsDraft p.cut drafted (Ok head.tree)

-- A draft of a lake of this state and these versions waits: whatever legal entries follow, it keeps the condition of `swap`
-- by its versions.
abbrev pub Waits : State → VersionsGiven → List ℕ → List ℕ → SwapKind → AboutValue → HeadDraft → Type 0
Waits state given repo branch kind about head = (later : List HistoryEntry) → IsLegal state later
    → IsReadyFor (replay state later) (count_versions given later) repo branch head.version head.settings kind about head.tree

-- What was answered for a branch is a draft of what the lake replies when it is asked for it, or why there is none.
abbrev pub IsHeadReply : Result PreparedValue StepFault → (PreparedValue → DraftedMap) → Result HeadDraft HeadFault → Type 0
IsHeadReply reply draft (Err (Step step.NoMemory)) = Unit {0}
IsHeadReply reply draft (Err (Step fault)) = reply ≡ Err fault
IsHeadReply (Ok p) draft (Err (Draft fault)) = IsDraft p.cut (draft p) (Err fault)
IsHeadReply (Ok p) draft (Ok head) = IsHeadDraft p (draft p) head
IsHeadReply (Err fault) draft answer = ⊥

-- What a lake replies when it is asked, and then what refuses the draft of what it hands out, is what refuses the new head at
-- its reading.
abbrev pub RefusesAs : Result PreparedValue StepFault → (PreparedValue → DraftedMap) → Option ReadingRefusal → Type 0
RefusesAs (Err fault) draft refusal = refusal ≡ Some (reading.Step fault)
RefusesAs (Ok p) draft refusal = refusal ≡ option_map reading.Head (draft p).refusal

-- What was answered is what refuses the new head at its reading, or a draft where nothing does; or memory ran out.
abbrev pub IsReadingReply : Option ReadingRefusal → Result HeadDraft HeadFault → Type 0
IsReadingReply refusal (Err (Step step.NoMemory)) = Unit {0}
IsReadingReply refusal (Err (Step fault)) = refusal ≡ Some (reading.Step fault)
IsReadingReply refusal (Err (Draft draft.NoMemory)) = Unit {0}
IsReadingReply refusal (Err (Draft (draft.Refused cause))) = refusal ≡ Some (reading.Head cause)
IsReadingReply refusal (Ok head) = refusal ≡ None
