-- What a new head of a branch makes of the parts of a lake.
use Rattle.std.specs.Prelude.{ℕ, List, Option, option_map, Result, Ok, Err, IsSomeAnd}
use Rattle.lake_base.specs.Maps.{ByteMap}
use Rattle.lake_base.specs.declared.digest.Digest.{Digest}
use Rattle.lake_values.specs.Commit.{AboutValue, CommitRecordValue}
use Rattle.lake_format.specs.Spelling.{IsSpelledCommit}
use Rattle.meta_range.specs.Files.{FitsTree}
use Rattle.lake_model.specs.declared.fault.StepFault.{StepFault}
use Rattle.lake_model.specs.declared.fault.StepFault.TheVariants.{StoreFault}
use Rattle.lake_model.specs.declared.reply.SwapKind.{SwapKind}
use Rattle.lake_model.specs.Steps.{swap_operation}
use Rattle.core_state.specs.declared.file_place.FilePlace.{FilePlace}
use Rattle.core_state.specs.declared.lake.LakeState.{LakeState}
use Rattle.core_state.specs.LakeStates.{LakeStateValue, lake_value}
use Rattle.core_state.specs.NewCommits.{NewCommit}
use Rattle.core_changes.specs.LakeChanges.{after_new_head}
use Rattle.core_changes.specs.NewPlaces.{HasNewPlaces, HaveSamePlaces}
use Rattle.core_puts.specs.Puts.{new_head_puts}
use Rattle.core_puts.specs.KeptChanges.{Making}
use Rattle.core_commits.specs.KeptHeads.{MayHaveIn}
use Rattle.core_commits.specs.Testing.{drafted_in}

-- a new head, of the commit that is drafted for a branch, where that is there
abbrev pub head_making : List ℕ → List ℕ → SwapKind → AboutValue → LakeState → Option Making
head_making repo branch swap about present = option_map (λ new. record {
  operation = swap_operation repo branch swap about;
  after = after_new_head repo branch new;
  puts = new_head_puts repo branch new present.names.files (lake_value present);
}) (drafted_in repo branch swap about (lake_value present))

-- where it was made, or the store failed, its repository could have its commit
abbrev pub MayHaveTried : {X : Type 0} → List ℕ → Option NewCommit → Result X StepFault → LakeStateValue → Type 0
MayHaveTried repo drafted (Ok x) l = IsSomeAnd drafted (λ new. MayHaveIn repo new l)
MayHaveTried repo drafted (Err StoreFault) l = IsSomeAnd drafted (λ new. MayHaveIn repo new l)
MayHaveTried repo drafted (Err fault) l = Unit {0}

-- a new commit is within its limits, and so is the map of its tree
pub record IsWithinLimits (new : NewCommit) : Type 0 where
  pub content : IsSpelledCommit new.content
  pub objects : FitsTree new.tree.map

-- where it was made, or the store failed, this holds of what was drafted
abbrev pub HoldsOfTried : {X : Type 0} → (NewCommit → Type 0) → Option NewCommit → Result X StepFault → Type 0
HoldsOfTried P drafted (Ok x) = IsSomeAnd drafted P
HoldsOfTried P drafted (Err StoreFault) = IsSomeAnd drafted P
HoldsOfTried P drafted (Err fault) = Unit {0}

-- where it was made, places of files of its tree came to the index; otherwise none did
abbrev pub LeavesPlaces : {X : Type 0} → Option NewCommit → Result X StepFault → ByteMap (Option FilePlace) → ByteMap (Option FilePlace) → Type 0
LeavesPlaces drafted (Ok x) before after = IsSomeAnd drafted (λ new. HasNewPlaces before after new.tree)
LeavesPlaces drafted (Err fault) before after = HaveSamePlaces before after

-- the answer of a step, as a place with a reply
abbrev pub head_answer : Result (ℕ × Digest × CommitRecordValue) StepFault → Result (ℕ × (Digest × CommitRecordValue)) StepFault
head_answer (Ok answer) = Ok (answer.0, (answer.1, answer.2))
head_answer (Err fault) = Err fault
