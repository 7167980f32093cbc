-- Why a step is refused: each cause by its name, and the one order in which they are asked.
use Rattle.std.specs.Prelude.{◌≡◌, ◌⊎◌, ℕ, nat_lt, Bool, List, [], ◌∷◌, Option, Some, None, option_and_then, option_map, is_some, not, Result, Ok, Err, IsOk}
use Rattle.std.specs.Prelude.{if◌then◌else◌}
use Rattle.std.specs.FinMap.{get, contains_key}
use Rattle.std.specs.List.{Contains}
use Rattle.lake_base.specs.declared.digest.Digest.{Digest}
use Rattle.lake_format.specs.Cutting.{files}
use Rattle.lake_format.specs.Spelling.{file_name}
use Rattle.lake_model.specs.declared.fault.StepFault.{StepFault}
use Rattle.lake_model.specs.declared.fault.StepFault.TheVariants.{Stopped, HistoryFull, NoRepo, NoRef, Protected, Changed, NameClash, StoreFault, NoMemory}
use Rattle.lake_model.specs.declared.fault.Reference.TheVariants.{Named}
use Rattle.lake_model.specs.State.{Repository, State, branch_of}
use Rattle.lake_model.specs.Branches.{protected_by}
use Rattle.lake_model.specs.Commits.{Draft, AreKept, StandsBefore, bytes_of}

-- the causes that a step asks, each where it holds
pub record Causes : Type 0 where
  pub stopped : Option StepFault
  pub full : Option StepFault
  pub repository : Option StepFault
  pub reference : Option StepFault
  pub parent : Option StepFault
  pub note : Option StepFault
  pub exists : Option StepFault
  pub default_branch : Option StepFault
  pub protected : Option StepFault
  pub version : Option StepFault
  pub path : Option StepFault
  pub expired : Option StepFault
  pub clash : Option StepFault

-- no cause
abbrev pub no_causes : Causes
no_causes = record {
  stopped = None;
  full = None;
  repository = None;
  reference = None;
  parent = None;
  note = None;
  exists = None;
  default_branch = None;
  protected = None;
  version = None;
  path = None;
  expired = None;
  clash = None;
}

-- the first cause that holds
abbrev pub first_of : {X : Type 0} → List (Option X) → Option X
first_of [] = None
first_of (None ∷ later) = first_of later
first_of (Some fault ∷ later) = Some fault

-- THE ORDER OF REFUSALS, one for all steps
abbrev pub first_cause : Causes → Option StepFault
first_cause c = first_of
    (c.stopped ∷ c.full ∷ c.repository ∷ c.reference ∷ c.parent ∷ c.note ∷ c.exists ∷ c.default_branch ∷ c.protected
    ∷ c.version ∷ c.path ∷ c.expired ∷ c.clash ∷ [])

-- the answer, unless it is refused
abbrev pub unless_refused : {X : Type 0} → Option StepFault → X → Result X StepFault
unless_refused None answer = Ok answer
unless_refused (Some fault) answer = Err fault

-- a refusal: neither lack of memory nor a fault of the store
abbrev pub IsRefusal : StepFault → Type 0
IsRefusal StoreFault = ⊥
IsRefusal NoMemory = ⊥
IsRefusal _ = Unit {0}

-- What a reading answered is the reply, or memory ran out.
abbrev pub Gives : {X : Type 0} → Result X StepFault → Result X StepFault → Type 0
Gives (Err NoMemory) reply = Unit {0}
Gives answer reply = answer ≡ reply

-- What a change answered is the reply; or memory ran out; or the store failed where nothing refuses the change.
abbrev pub GivesOrFails : {X : Type 0} → Result X StepFault → Result X StepFault → Type 0
GivesOrFails (Err NoMemory) reply = Unit {0}
GivesOrFails (Err StoreFault) reply = IsOk reply
GivesOrFails answer reply = answer ≡ reply

-- a cause that holds where something does
abbrev pub cause_if : Bool → StepFault → Option StepFault
cause_if holds fault = if holds then Some fault else None

-- every change asks whether the lake is stopped, and whether the history is full
abbrev pub causes_of_change : State → Causes
causes_of_change state = record no_causes {
  stopped = cause_if state.stopped Stopped;
  full = cause_if (not (nat_lt state.entries 4194304)) HistoryFull;
}

-- what names a repository asks whether it is there
abbrev pub with_repository : State → List ℕ → Causes → Causes
with_repository state repo c = record c { repository = cause_if (not (contains_key state.repositories repo)) NoRepo }

-- what names a branch asks whether it and its repository are there
abbrev pub with_branch : State → List ℕ → List ℕ → Causes → Causes
with_branch state repo branch c =
    record (with_repository state repo c) { reference = cause_if (not (is_some (branch_of state repo branch))) (NoRef Named) }

-- the pattern that protects a branch
abbrev pub protection_of : State → List ℕ → List ℕ → Option StepFault
protection_of state repo branch =
    option_and_then (λ r. option_map Protected (protected_by r.notes.protection branch)) (get state.repositories repo)

-- what a protected branch refuses asks for the pattern
abbrev pub with_protection : State → List ℕ → List ℕ → Causes → Causes
with_protection state repo branch c = record c { protected = protection_of state repo branch }

-- what is guarded by versions asks whether they are those now
abbrev pub with_current_version : Bool → ℕ → ℕ → Causes → Causes
with_current_version current version settings c = record c { version = cause_if (not current) (Changed version settings) }

-- two contents of one name
pub record Clash : Type 0 where
  pub name : Digest
  pub kept : List ℕ
  pub new : List ℕ

-- A clash of a new commit: its bytes or a file of its map, and other bytes of the same name that are kept. Of two files of
-- its own map the earlier one counts as kept.
pub record IsClash (state : State) (r : Repository) (draft : Draft) (clash : Clash) : Type 0 where
  pub is_new : Contains (bytes_of state.cut r.commits draft) clash.new
  pub is_kept : AreKept state clash.kept ⊎ StandsBefore (files state.cut draft.objects) clash.kept clash.new
  pub name_of_new : clash.name ≡ file_name clash.new
  pub name_of_kept : clash.name ≡ file_name clash.kept
  pub apart : clash.new ≡ clash.kept → ⊥

-- a clash of a new commit, or that there is none
abbrev pub IsClashOrNone : State → Repository → Draft → Option Clash → Type 0
IsClashOrNone state r draft None = (clash : Clash) → IsClash state r draft clash → ⊥
IsClashOrNone state r draft (Some clash) = IsClash state r draft clash

-- the fault that tells of a clash
abbrev pub clash_fault : Option Clash → Option StepFault
clash_fault = option_map (λ clash. NameClash clash.name clash.kept clash.new)
