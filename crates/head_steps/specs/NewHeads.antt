-- A new head of a branch: what refuses it in a state, and the versions that guard it.
use Rattle.std.specs.Prelude.{◌≡◌, ℕ, List, Option, None, Result, Ok, Err, IfOk}
use Rattle.lake_values.specs.Commit.{AboutValue, CommitRecordValue}
use Rattle.lake_model.specs.declared.history.Operation.{Operation}
use Rattle.lake_model.specs.declared.reply.SwapKind.{SwapKind}
use Rattle.lake_model.specs.State.{State}
use Rattle.lake_model.specs.HeadRefusals.{ReadingRefusal, reading_refusal}
use Rattle.lake_model.specs.Refusals.{Causes, Clash, first_cause}
use Rattle.lake_model.specs.Steps.{IsSwapClash, SwapRule, new_commit, new_head_causes, swap_operation, swap_rule}
use Rattle.lake_model.specs.Versions.{VersionsGiven, branch_version, settings_version}
use Rattle.head_drafts.specs.declared.fault.HeadFault.{HeadFault}
use Rattle.head_drafts.specs.declared.heads.HeadDraft.{HeadDraft}
use Rattle.head_drafts.specs.HeadDrafts.{IsReadingReply, Waits}

-- a new head that a call asks for: of which branch, how it is made, and what is said of it
pub record NewHead : Type 0 where
  pub repo : List ℕ
  pub branch : List ℕ
  pub kind : SwapKind
  pub about : AboutValue

-- how it is made
abbrev pub rule_of : NewHead → SwapRule
rule_of head = swap_rule head.kind head.about

-- by which operation
abbrev pub operation_of : NewHead → Operation
operation_of head = swap_operation head.repo head.branch head.kind head.about

-- its commit in a state, where its branch is there
abbrev pub commit_in : NewHead → State → Option CommitRecordValue
commit_in head state = new_commit state head.repo head.branch (rule_of head)

-- what refuses it first at its reading
abbrev pub early_refusal : NewHead → State → Option ReadingRefusal
early_refusal head state = reading_refusal state head.repo head.branch head.kind head.about

-- the causes that its step asks, without versions, where its commit clashes so, or doesn't
abbrev pub late_causes : NewHead → State → Option Clash → Causes
late_causes head state clash = new_head_causes state head.repo head.branch (rule_of head) clash

abbrev pub IsClashIn : NewHead → State → Option Clash → Type 0
IsClashIn head state clash = IsSwapClash state head.repo head.branch (rule_of head) clash

-- Nothing refuses it in a state: no cause of its step, no clash, and nothing at its reading.
pub record IsFree (head : NewHead) (state : State) : Type 0 where
  pub none : first_cause (late_causes head state None) ≡ None
  pub no_clash : IsClashIn head state None
  pub worth : early_refusal head state ≡ None

-- WHAT IS DRAFTED FOR IT in a state: a draft, by the versions given then, which waits, where nothing refuses the head at its
-- reading; else what refuses it there. Or memory ran out.
pub record IsDraftedIn (head : NewHead) (state : State) (given : VersionsGiven) (result : Result HeadDraft HeadFault) : Type 0 where
  pub reading : IsReadingReply (early_refusal head state) result
  pub version : IfOk result (λ draft. draft.version ≡ branch_version given head.repo head.branch)
  pub settings : IfOk result (λ draft. draft.settings ≡ settings_version given head.repo)
  pub waits : IfOk result (Waits state given head.repo head.branch head.kind head.about)

-- the draft of what was drafted with a copy of what is said of it
abbrev pub draft_in : Result (HeadDraft × AboutValue) HeadFault → Result HeadDraft HeadFault
draft_in (Ok drafted) = Ok drafted.0
draft_in (Err fault) = Err fault
