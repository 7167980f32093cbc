-- A new repository that isn't in a lake yet.
use Rattle.std.specs.Prelude.{◌≡◌, ℕ, List}
use Rattle.std.specs.FinMap.{empty}
use Rattle.lake_format.specs.Cutting.{files, tree_id}
use Rattle.meta_range.specs.Ranges.{first_file}
use Rattle.core_state.specs.FirstStates.{first_id, founded_repository}
use Rattle.core_state.specs.RepositoryStates.{repository_value}
use Rattle.core_state.specs.LakeStates.{LakeStateValue}
use Rattle.core_changes.specs.declared.founding.NewRepository.{NewRepository}

-- It is the one of a date with a default branch, with what the lake gives out next; its names are those of the lake's
-- cut.
pub record IsNew (repo branch : List ℕ) (date : ℕ) (l : LakeStateValue) (new : NewRepository) : Type 0 where
  pub repository : repository_value new.repository ≡ founded_repository l.cut date branch l.next_version l.next_token
  pub commit : new.commit ≡ first_id l.cut date
  pub home : new.home ≡ repo
  pub file : new.file ≡ tree_id l.cut empty
  pub place : new.place.bytes ≡ first_file (files l.cut empty)
