-- The own numbers of a lake were given out.
use Rattle.std.specs.Prelude.{◌≡◌, ◌<◌, ℕ, List, Some}
use Rattle.std.specs.FinMap.{get}
use Rattle.lake_values.specs.KeyMap.{KeyMapValue}
use Rattle.lake_values.specs.declared.entry.Change.{Change}
use Rattle.meta_range.specs.Ranges.{TreeValue}
use Rattle.branch_record.specs.Tokens.{changes_under}
use Rattle.lake_model.specs.Naming.{IsInMap}
use Rattle.lake_model.specs.Uncommitted.{put_number}
use Rattle.core_state.specs.BranchStates.{BranchStateValue}
use Rattle.core_state.specs.RepositoryStates.{RepositoryStateValue}
use Rattle.core_state.specs.LakeStates.{LakeStateValue}

-- each own number that a change of a branch puts, under any token, is below one
abbrev pub AreChangesBelow : ℕ → BranchStateValue → Type 0
AreChangesBelow next b = (token : ℕ) (path : List ℕ) (change : Change) (number : ℕ) → get (changes_under b.tokens token) path ≡ Some change
    → put_number change ≡ Some number → number < next

-- each own number in a map is below one
abbrev pub IsMapBelow : ℕ → KeyMapValue → Type 0
IsMapBelow next map = (number : ℕ) → IsInMap map number → number < next

-- so it is with each branch of a repository, and with the map of each of its trees
pub record HasNumbersBelow (next : ℕ) (r : RepositoryStateValue) : Type 0 where
  pub changes : (name : List ℕ) (b : BranchStateValue) → get r.branches name ≡ Some b → AreChangesBelow next b
  pub maps : (id : List ℕ) (tree : TreeValue) → get r.trees id ≡ Some tree → IsMapBelow next tree.map

-- The own numbers of a lake were given out: those that a change puts, also one that a newer one hides, and those in the map of a
-- commit, also of an expired one. What no reading finds no state names, so that soundness doesn't say it.
abbrev pub AreNumbersGiven : LakeStateValue → Type 0
AreNumbersGiven l = (repo : List ℕ) (r : RepositoryStateValue) → get l.repositories repo ≡ Some r → HasNumbersBelow l.next_number r
