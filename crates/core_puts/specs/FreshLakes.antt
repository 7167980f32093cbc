-- What a lake begins with, and the puts by which that is kept.
use Rattle.std.specs.Prelude.{◌≡◌, ℕ, false, List, codes}
use Rattle.std.specs.FinMap.{empty}
use Rattle.lake_format.specs.Cutting.{files}
use Rattle.lake_format.specs.Spelling.{commit_spelling}
use Rattle.lake_format.specs.declared.cut.Cut.{Cut}
use Rattle.meta_range.specs.Files.{file_of}
use Rattle.meta_range.specs.Ranges.{first_file}
use Rattle.keeper.specs.declared.put.Put.{Put}
use Rattle.core_state.specs.FirstStates.{first_record, first_tree}
use Rattle.core_state.specs.NameIndexes.{empty_index}
use Rattle.core_state.specs.LakeStates.{LakeStateValue}
use Rattle.core_puts.specs.Puts.{create_repository_puts}
use Rattle.core_puts.specs.declared.commits.FirstCommit.{FirstCommit}

-- the first commit of a repository that is made at a date, with its bytes, its tree, and the one file of that
pub record IsFirst (cut : Cut) (date : ℕ) (first : FirstCommit) : Type 0 where
  pub commit : first.commit ≡ first_record cut date
  pub content : first.content ≡ file_of (commit_spelling (first_record cut date))
  pub tree : first.tree.value ≡ first_tree cut
  pub metarange : first.metarange ≡ file_of (first_file (files cut empty))

-- a lake before its first repository: nothing stands in it, and the next version is 1
abbrev pub bare_lake : Cut → LakeStateValue
bare_lake cut = record {
  cut = cut;
  repositories = empty;
  names = empty_index;
  tickets = empty;
  gone = empty;
  stopped = false;
  entries = 0;
  references = 0;
  next_number = 0;
  next_version = 1;
  next_token = 0;
}

-- the puts of the fresh lake: those by which its repository is made
abbrev pub fresh_puts : Cut → List Put
fresh_puts cut = create_repository_puts (codes "quickstart") (codes "main") 0 (bare_lake cut)
