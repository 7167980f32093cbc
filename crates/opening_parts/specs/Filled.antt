-- A lake that is filled with what pairs spell.
use Rattle.std.specs.Prelude.{◌≡◌, ℕ, Bool, List, ◌∷◌, Option, Some, IsPermutation}
use Rattle.std.specs.FinMap.{get}
use Rattle.lake_base.specs.Maps.{ByteMap}
use Rattle.lake_base.specs.declared.digest.Digest.{Digest}
use Rattle.lake_values.specs.Commit.{CommitRecordValue}
use Rattle.lake_values.specs.declared.settings.NoteName.{NoteName}
use Rattle.lake_format.specs.Spelling.{commit_id}
use Rattle.lake_format.specs.declared.cut.Cut.{Cut}
use Rattle.branch_record.specs.Record.{AreDistinct}
use Rattle.pair_format.specs.declared.stored.Stored.{Stored}
use Rattle.pair_format.specs.declared.stored.Stored.TheVariants as stored
use Rattle.pair_trees.specs.SettingTexts.{IsSettingText}
use Rattle.pair_trees.specs.Things.{IsThere, Things}
use Rattle.core_state.specs.LakeStates.{LakeStateValue}
use Rattle.core_state.specs.declared.file_place.FilePlace.{FilePlace}
use Rattle.core_filling.specs.Filling.{CommitRead, bare_lake, with_commits}
use Rattle.core_filling.specs.NewPlaces.{IsPlaceAmong}
use Rattle.opening_parts.specs.Fillings.{from_last, holder_in, reads_of, with_base, with_branch_of, with_rest}

-- one thing can join a lake: a branch names no token twice, a commit has the id of its bytes, and a text is that of a setting
abbrev pub CanJoin : Option Stored → Type 0
CanJoin (Some (stored.Branch repo branch version head staging sealed)) = AreDistinct (staging ∷ sealed)
CanJoin (Some (stored.Commit repo id expired commit)) = commit_id commit ≡ id
CanJoin (Some (stored.Note repo name text)) = IsSettingText name text
CanJoin _ = Unit {0}

-- a lake of these counts without anything in it
abbrev pub counted_lake : Cut → ℕ × ℕ × ℕ → LakeStateValue
counted_lake cut counts = record (bare_lake cut) { next_number = counts.0; next_version = counts.1; next_token = counts.2 }

-- a lake with the repositories, and then the branches, that these are
abbrev pub branched_lake : Cut → ℕ × ℕ × ℕ → Things → LakeStateValue
branched_lake cut counts things = from_last with_branch_of things (from_last with_base things (counted_lake cut counts))

-- with all but the commits
abbrev pub lake_before : Cut → ℕ × ℕ × ℕ → Things → LakeStateValue
lake_before cut counts things = from_last (with_rest (holder_in things)) things (branched_lake cut counts things)

-- a lake was filled with what these are, its commits in some order
pub record IsFilledWith (cut : Cut) (counts : ℕ × ℕ × ℕ) (things : Things) (l : LakeStateValue) : Type 0 where
  pub commits : List CommitRead
  pub order : IsPermutation (reads_of cut things) commits
  pub is : l ≡ with_commits commits (lake_before cut counts things)

-- each place that an index has under a name is that of a file of a tree of these commits
abbrev pub ArePlacesAmong : List CommitRead → ByteMap (Option FilePlace) → Type 0
ArePlacesAmong commits files = (name : List ℕ) (place : FilePlace) → get files name ≡ Some (Some place) → IsPlaceAmong commits name place
