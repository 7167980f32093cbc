-- What else has to be so of a lake in memory, so that its pairs can be read again.
use Rattle.std.specs.Prelude.{◌≡◌, ◌<◌, ◌^◌, ℕ, List, Some}
use Rattle.std.specs.FinMap.{get}
use Rattle.lake_values.specs.declared.settings.Note.{Note}
use Rattle.lake_values.specs.declared.settings.NoteName.{NoteName}
use Rattle.lake_format.specs.declared.cut.Cut.{Cut}
use Rattle.meta_range.specs.Files.{FitsTree}
use Rattle.meta_range.specs.Ranges.{TreeValue}
use Rattle.lake_model.specs.NoteChanges.{note_at}
use Rattle.lake_model.specs.Soundness.{IsSound}
use Rattle.lake_model.specs.Versions.{AreBelowNext}
use Rattle.pair_trees.specs.SettingTexts.{IsTextOf}
use Rattle.core_state.specs.Counts.{versions_of}
use Rattle.core_state.specs.Index.{HasIndex}
use Rattle.core_state.specs.RepositoryStates.{RepositoryStateValue}
use Rattle.core_state.specs.LakeStates.{LakeStateValue, state_of}
use Rattle.core_changes.specs.FreshTokens.{AreTokensBelow}
use Rattle.core_puts.specs.Puts.{note_text}
use Rattle.core_pairs.specs.LakePairs.{AreTokensApart}
use Rattle.reading_again.specs.GivenNumbers.{AreNumbersGiven}

-- what a lake that stands for its history gives: it is sound, its versions and tokens are below the next ones, and its index
-- tells of just what is kept; and no two branches name one token
pub record IsInOrder (l : LakeStateValue) : Type 0 where
  pub sound : IsSound (state_of l)
  pub versions : AreBelowNext (versions_of l)
  pub tokens : AreTokensBelow l
  pub index : HasIndex l
  pub apart : AreTokensApart l

-- the text of each setting of a lake reads as that setting, and is the text in which it is kept
abbrev pub HasTexts : LakeStateValue → Type 0
HasTexts l = (repo : List ℕ) (r : RepositoryStateValue) (name : NoteName) (note : Note) → get l.repositories repo ≡ Some r
    → note_at name r.notes ≡ Some note → IsTextOf name (note_text note) note

-- each map of a commit of a lake is one that a tree can hold, and its settings have texts
pub record HasReadableParts (l : LakeStateValue) : Type 0 where
  pub fits : (repo : List ℕ) (r : RepositoryStateValue) (id : List ℕ) (tree : TreeValue) → get l.repositories repo ≡ Some r → get r.trees id ≡ Some tree
      → FitsTree tree.map
  pub texts : HasTexts l

-- Pairs that stand for a lake can be read: by its cut; what it gives out next is below 2^63; its numbers were given out; and its
-- maps and settings can be read.
pub record CanBeRead (cut : Cut) (l : LakeStateValue) : Type 0 where
  pub cut_is : l.cut ≡ cut
  pub small_number : l.next_number < 2 ^ 63
  pub small_version : l.next_version < 2 ^ 63
  pub small_token : l.next_token < 2 ^ 63
  pub numbers : AreNumbersGiven l
  pub parts : HasReadableParts l
