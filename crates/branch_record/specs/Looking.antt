-- What a branch's changes say of a path.
use Rattle.std.specs.Prelude.{ℕ, List, [], ◌∷◌, Option, Some, None}
use Rattle.std.specs.Option.{option_or}
use Rattle.std.specs.FinMap.{get}
use Rattle.lake_values.specs.declared.entry.Change.{Change}
use Rattle.lake_values.specs.declared.entry.Change.TheVariants.{Put, Delete}
use Rattle.branch_record.specs.declared.looking.Looked.{Looked}
use Rattle.branch_record.specs.declared.looking.Looked.TheVariants.{Entry, Tombstone, Below}
use Rattle.branch_record.specs.Tokens.{TokenMap, changes_under}
use Rattle.branch_record.specs.Record.{BranchRecordValue, named_tokens}

-- the change of a path under the first of these tokens that has one
unfoldable pub first_change : TokenMap → List ℕ → List ℕ → Option Change
first_change tokens [] path = None
first_change tokens (token ∷ older) path = option_or (get (changes_under tokens token) path) (first_change tokens older path)

-- what the record's tokens say of a path: the staging token's word first, then the sealed ones', newest first
abbrev pub branch_change : BranchRecordValue → TokenMap → List ℕ → Option Change
branch_change r tokens path = first_change tokens (named_tokens r) path

-- what a look tells: an entry was put there, it was deleted, or nothing is said of it
abbrev pub change_told : Looked → Option Change
change_told (Entry entry) = Some (Put entry.now)
change_told Tombstone = Some Delete
change_told Below = None
