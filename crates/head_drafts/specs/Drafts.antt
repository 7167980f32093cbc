-- The maps that are drafted for new heads, of what a lake hands out for them, and what refuses them.
use Rattle.std.specs.Prelude.{◌≡◌, ℕ, List, Option, Some, None, Result, Ok, Err}
use Rattle.std.specs.Option.{option_map_or}
use Rattle.lake_values.specs.HookDecisions.{denying_rule}
use Rattle.lake_values.specs.KeyMap.{KeyMapValue, apply, differences}
use Rattle.lake_values.specs.Merging.{merged_map}
use Rattle.lake_values.specs.declared.commit.Strategy.{Strategy}
use Rattle.lake_format.specs.declared.cut.Cut.{Cut}
use Rattle.key_merge.specs.declared.fault.MergeFault.{MergeFault}
use Rattle.key_merge.specs.declared.fault.MergeFault.TheVariants as merge
use Rattle.meta_range.specs.Ranges.{TreeValue}
use Rattle.lake_model.specs.declared.fault.HeadRefusal.{HeadRefusal}
use Rattle.lake_model.specs.declared.fault.HeadRefusal.TheVariants.{Conflicts}
use Rattle.lake_model.specs.Commits.{MergeSides}
use Rattle.lake_model.specs.HeadRefusals.{commit_refusals, merge_refusals}
use Rattle.lake_model.specs.Preparing.{PreparedValue}
use Rattle.lake_model.specs.Refusals.{first_of}
use Rattle.core_readings.specs.Trees.{IsCutTree}
use Rattle.head_drafts.specs.declared.fault.DraftFault.{DraftFault}
use Rattle.head_drafts.specs.declared.fault.DraftFault.TheVariants.{Refused, NoMemory}

-- the fault of a merge that is refused, and of one that found no memory
abbrev pub conflict_fault : MergeFault → DraftFault
conflict_fault (merge.Conflicts paths total) = Refused (Conflicts paths total)
conflict_fault merge.NoMemory = NoMemory

-- the map of the sealed changes
abbrev pub sealed_objects : PreparedValue → KeyMapValue
sealed_objects p = apply p.sealed p.objects

-- the first hook rule that denies a map, by the paths at which it differs from the head's
abbrev pub denied_of : PreparedValue → List ℕ → List (List ℕ × List ℕ) → KeyMapValue → Option ℕ
denied_of p branch metadata new = denying_rule p.rules branch metadata (differences new p.objects)

-- the map that is drafted for a new head, and what refuses it first
pub record DraftedMap : Type 0 where
  pub objects : KeyMapValue
  pub refusal : Option HeadRefusal

-- of the sealed changes
abbrev pub drafted_commit : PreparedValue → List ℕ → List (List ℕ × List ℕ) → DraftedMap
drafted_commit p branch metadata = record {
  objects = sealed_objects p;
  refusal = first_of (commit_refusals p.head (sealed_objects p) p.objects (denied_of p branch metadata (sealed_objects p)));
}

-- the sides of a merge or a pick, of the maps of its base and its source
abbrev pub sides_by : Strategy → KeyMapValue × KeyMapValue → MergeSides
sides_by strategy maps = record { base = maps.0; source = maps.1; strategy = strategy }

-- of a merge or a pick of a source over a base
abbrev pub drafted_merge : Strategy → KeyMapValue × KeyMapValue → PreparedValue → List ℕ → List (List ℕ × List ℕ) → DraftedMap
drafted_merge strategy maps p branch metadata =
    let merged = merged_map strategy maps.0 maps.1 p.objects in
    record {
      objects = merged;
      refusal = first_of (merge_refusals p.head (sealed_objects p) p.objects (sides_by strategy maps) (denied_of p branch metadata merged));
    }

-- of what a lake handed out: a merge or a pick where it has their maps, and else a commit
abbrev pub drafted_map : Strategy → PreparedValue → List ℕ → List (List ℕ × List ℕ) → DraftedMap
drafted_map strategy p branch metadata =
    option_map_or (λ maps. drafted_merge strategy maps p branch metadata) p.sides (drafted_commit p branch metadata)

-- A test passed where nothing refuses, and was refused by what does; or memory ran out.
abbrev pub IsTest : {X : Type 0} → Option HeadRefusal → Result X DraftFault → Type 0
IsTest refusal (Ok x) = refusal ≡ None
IsTest refusal (Err NoMemory) = Unit {0}
IsTest refusal (Err (Refused cause)) = refusal ≡ Some cause

-- What was answered is the tree of a draft that nothing refuses, or what refuses it first; or memory ran out.
abbrev pub IsDraft : Cut → DraftedMap → Result TreeValue DraftFault → Type 0
IsDraft cut draft (Ok tree) = (draft.refusal ≡ None) × IsCutTree cut draft.objects tree
IsDraft cut draft (Err NoMemory) = Unit {0}
IsDraft cut draft (Err (Refused cause)) = draft.refusal ≡ Some cause
