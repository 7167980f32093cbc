-- The clashes of new bytes with those that are kept, as the index of a lake in memory finds them.
use Rattle.std.specs.Prelude.{◌≡◌, ◌⊎◌, ◌++◌, ℕ, List, [], ◌∷◌, Option, Some, None, option_map, Result, MatchResult, if◌then◌else◌}
use Rattle.std.specs.Option.{option_or}
use Rattle.std.specs.Str.{bytes_eq}
use Rattle.std.specs.FinMap.{get}
use Rattle.lake_base.specs.declared.digest.Digest.{Digest}
use Rattle.lake_format.specs.Spelling.{commit_spelling, file_name}
use Rattle.meta_range.specs.RangeNames.{first_named}
use Rattle.lake_model.specs.declared.fault.StepFault.{StepFault}
use Rattle.lake_model.specs.declared.fault.StepFault.TheVariants.{NoMemory}
use Rattle.lake_model.specs.State.{Repository, State}
use Rattle.lake_model.specs.Commits.{Draft, bare_repository, first_draft}
use Rattle.lake_model.specs.Refusals.{Clash, IsClashOrNone, clash_fault, first_cause}
use Rattle.lake_model.specs.Steps.{create_repository_causes}
use Rattle.core_state.specs.Index.{indexed_commit}
use Rattle.core_state.specs.LakeStates.{LakeStateValue}
use Rattle.meta_range.specs.Provenance.{IsFileOf}
use Rattle.meta_range.specs.declared.provenance.Provenance.{Provenance}

-- what a test answers that takes memory: it passed where there is no cause; else its answer is the cause; or memory ran
-- out
abbrev pub TellsOrFails : {X : Type 0} → Option StepFault → Result X StepFault → Type 0
TellsOrFails cause answer =
    MatchResult answer (λ x. cause ≡ None) (λ fault. (fault ≡ NoMemory) ⊎ (cause ≡ Some fault))

-- What the test of a repository answers that is to be made: for a clash of its first commit that is there, or for none
-- where there is none, it tells the first cause.
pub record AsksToCreate {X : Type 0} (state : State) (repo branch : List ℕ) (date : ℕ) (answer : Result X StepFault) : Type 0 where
  pub clash : Option Clash
  pub there : IsClashOrNone state (bare_repository date branch) (first_draft date) clash
  pub tells : TellsOrFails (first_cause (create_repository_causes state repo clash)) answer

-- What the test of the bytes of a new commit answers: for a clash of theirs that is there, or for none where there is
-- none, it tells of it.
pub record AsksForBytes {X : Type 0} (state : State) (r : Repository) (draft : Draft) (answer : Result X StepFault) : Type 0 where
  pub clash : Option Clash
  pub there : IsClashOrNone state r draft clash
  pub tells : TellsOrFails (clash_fault clash) answer

-- each file of the trees that a map was made from is found by its name
abbrev pub AreFound : LakeStateValue → Provenance → Type 0
AreFound l provenance = (file : List ℕ) → IsFileOf provenance file → get l.names.files (file_name file).0 ≡ Some file

-- ---- in the hands of the code

-- what is found, where it isn't these bytes
abbrev pub other_than : List ℕ → Option (List ℕ) → Option (List ℕ)
other_than new None = None
other_than new (Some kept) = if bytes_eq kept new then None else Some kept

-- the bytes of the commit that the index finds of an id
abbrev pub indexed_content : LakeStateValue → Digest → Option (List ℕ)
indexed_content l id = option_map commit_spelling (indexed_commit l id)

-- bytes that the index finds under a name, other than these: those of a commit, or else those of a file
abbrev pub other_content : LakeStateValue → Digest → List ℕ → Option (List ℕ)
other_content l name new =
    option_or (other_than new (indexed_content l name)) (other_than new (get l.names.files name.0))

-- the clash of new bytes with those that the index finds
abbrev pub indexed_clash : LakeStateValue → List ℕ → Option Clash
indexed_clash l new =
    option_map (λ kept. record { name = file_name new; kept = kept; new = new }) (other_content l (file_name new) new)

-- the first clash of some new bytes
abbrev pub first_clash : LakeStateValue → List (List ℕ) → Option Clash
first_clash l [] = None
first_clash l (new ∷ later) = option_or (indexed_clash l new) (first_clash l later)

-- the clash of new bytes with those of their name that are there, where they differ
abbrev pub clash_with : List ℕ → Option (List ℕ) → Option Clash
clash_with new there = option_map (λ kept. record { name = file_name new; kept = kept; new = new }) (other_than new there)

-- the clash of a file with the first of the earlier ones that has its name
abbrev pub twin_clash : List (List ℕ) → List ℕ → Option Clash
twin_clash earlier new = clash_with new (first_named file_name (file_name new) earlier)

-- the first clash of a file, of some, with those before it
abbrev pub first_twins : List (List ℕ) → List (List ℕ) → Option Clash
first_twins earlier [] = None
first_twins earlier (new ∷ later) = option_or (twin_clash earlier new) (first_twins (earlier ++ new ∷ []) later)
