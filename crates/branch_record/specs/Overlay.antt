-- The changes of a branch: those of its tokens, the newer over the older.
use Rattle.std.specs.Prelude.{ℕ, Bool, List, [], ◌∷◌, if◌then◌else◌}
use Rattle.std.specs.FinMap.{empty}
use Rattle.lake_values.specs.KeyMap.{ChangesValue, over}
use Rattle.branch_record.specs.Tokens.{TokenMap, changes_under}
use Rattle.branch_record.specs.Record.{BranchRecordValue}

-- the changes of tokens, newest first: each over those of the older ones
unfoldable pub layers_of : TokenMap → List ℕ → ChangesValue
layers_of tokens [] = empty
layers_of tokens (token ∷ older) = over (changes_under tokens token) (layers_of tokens older)

-- the staged changes of a branch
abbrev pub staged_changes : BranchRecordValue → TokenMap → ChangesValue
staged_changes r tokens = changes_under tokens r.staging

-- its sealed changes
abbrev pub sealed_changes : BranchRecordValue → TokenMap → ChangesValue
sealed_changes r tokens = layers_of tokens r.sealed

-- its sealed changes alone, or the staged ones over them
abbrev pub overlay_of : BranchRecordValue → TokenMap → Bool → ChangesValue
overlay_of r tokens sealed_only =
    if sealed_only then sealed_changes r tokens else over (staged_changes r tokens) (sealed_changes r tokens)
