-- What tables tell of all pairs.
use Rattle.std.specs.Prelude.{◌≡◌, ◌&&◌, ◌||◌, suc, false, true, ℕ, Bool, List, [], ◌∷◌, drop, Option, Some, None, Result, Ok, is_some, if◌then◌else◌}
use Rattle.std.specs.Prelude.{MatchOption}
use Rattle.std.specs.Ordering.{nat_cmp}
use Rattle.std.specs.BTreeMap.{BTreeMap, get}
use Rattle.std.specs.List.{list_any}
use Rattle.std.specs.Option.{option_or}
use Rattle.lake_base.specs.declared.digest.Digest.{Digest}
use Rattle.lake_values.specs.Ancestry.{id_order, same_id}
use Rattle.lake_format.specs.Spelling.{file_name}
use Rattle.lake_format.specs.declared.cut.Cut.{Cut}
use Rattle.branch_record.specs.Record.{is_among}
use Rattle.meta_range.specs.Ranges.{TreeValue, first_file}
use Rattle.meta_range.specs.declared.fault.TreeFault.{TreeFault}
use Rattle.pair_format.specs.declared.key.OwnedKey.TheVariants as key
use Rattle.pair_format.specs.declared.stored.Stored.{Stored}
use Rattle.pair_format.specs.declared.stored.Stored.TheVariants as stored
use Rattle.pair_trees.specs.Found.{AreCounts}
use Rattle.pair_trees.specs.Things.{HasKey, Things, tokens_in}
use Rattle.pair_trees.specs.PairTrees.{tree_in, trees_of}
use Rattle.pair_trees.specs.declared.tables.Tables.{Tables}

-- ---- tests of what one pair spells

-- a branch that names this token
abbrev pub names : ℕ → Option Stored → Bool
names token thing = is_among (tokens_in thing) token

-- a commit of this id
abbrev pub is_commit : Digest → Option Stored → Bool
is_commit id (Some (stored.Commit repo other expired commit)) = same_id other id
is_commit id _ = false

-- a commit that isn't expired
abbrev pub is_live : Option Stored → Bool
is_live (Some (stored.Commit repo id expired commit)) = if expired then false else true
is_live _ = false

-- one of these files has this name
abbrev pub has_name : Digest → List (List ℕ) → Bool
has_name name files = list_any (λ bytes. same_id (file_name bytes) name) files

-- the metarange of a tree that is read has this name, and one of its ranges
abbrev pub has_metarange : Digest → Option (Result TreeValue TreeFault) → Bool
has_metarange name (Some (Ok tree)) = same_id (file_name (first_file tree.files)) name
has_metarange name _ = false

abbrev pub has_range : Digest → Option (Result TreeValue TreeFault) → Bool
has_range name (Some (Ok tree)) = has_name name (drop 1 tree.files)
has_range name _ = false

-- a live commit of which a range has this name
abbrev pub has_live_range : Cut → Things → Digest → Option Stored → Bool
has_live_range cut all name thing = is_live thing && has_range name (tree_in cut all thing)

-- ---- tables

-- the place, counted from i, of the first thing that passes a test
unfoldable pub first_place : (Option Stored → Bool) → ℕ → Things → Option ℕ
first_place test i [] = None
first_place test i (thing ∷ things) = if test thing then Some i else first_place test (suc i) things

-- a table of tokens after these were put at a place, where it didn't tell of them yet
abbrev pub PutsTokens : BTreeMap ℕ ℕ → BTreeMap ℕ ℕ → List ℕ → ℕ → Type 0
PutsTokens old new tokens at = (token : ℕ) → get nat_cmp new token
    ≡ option_or (get nat_cmp old token) (if is_among tokens token then Some at else None)

-- so with an id
abbrev pub PutsId : BTreeMap Digest ℕ → BTreeMap Digest ℕ → Digest → ℕ → Type 0
PutsId old new id at = (other : Digest) → get id_order new other
    ≡ option_or (get id_order old other) (if same_id id other then Some at else None)

abbrev pub PutsCommit : BTreeMap Digest ℕ → BTreeMap Digest ℕ → Option Stored → ℕ → Type 0
PutsCommit old new thing at = (other : Digest) → get id_order new other
    ≡ option_or (get id_order old other) (if is_commit other thing then Some at else None)

-- a table tells of the first branches that name tokens, and of the first commits of ids
abbrev pub TellsTokens : BTreeMap ℕ ℕ → Things → Type 0
TellsTokens table things = (token : ℕ) → get nat_cmp table token ≡ first_place (names token) 0 things

abbrev pub TellsCommits : BTreeMap Digest ℕ → Things → Type 0
TellsCommits table things = (id : Digest) → get id_order table id ≡ first_place (is_commit id) 0 things

-- a table has these names, and no others
abbrev pub HasNames : BTreeMap Digest (Unit {0}) → (Digest → Bool) → Type 0
HasNames table test = (name : Digest) → is_some (get id_order table name) ≡ test name

-- a table after names were put
abbrev pub AddsNames : BTreeMap Digest (Unit {0}) → BTreeMap Digest (Unit {0}) → (Digest → Bool) → Type 0
AddsNames old new test = HasNames new (λ name. is_some (get id_order old name) || test name)

-- tables tell of all pairs
pub record AreTablesOf (things : Things) (tables : Tables) : Type 0 where
  pub tokens : TellsTokens tables.tokens things
  pub commits : TellsCommits tables.commits things
  pub metaranges : HasNames tables.metaranges (λ name. list_any (has_metarange name) (trees_of tables.cut things))
  pub ranges : HasNames tables.ranges (λ name. list_any (has_range name) (trees_of tables.cut things))
  pub live_ranges : HasNames tables.live_ranges (λ name. list_any (has_live_range tables.cut things name) things)
  pub counts : MatchOption tables.counts (HasKey things key.Counts → ⊥) (AreCounts things)
