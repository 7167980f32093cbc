-- Trees that aren't read, of one commit and of those before a place.
use Rattle.std.specs.Prelude.{◌<◌, ℕ, Bool, List, Option, Some, None, Result, Err, IsOk}
use Rattle.lake_base.specs.declared.digest.Digest.{Digest}
use Rattle.lake_values.specs.Commit.{CommitRecordValue}
use Rattle.lake_format.specs.declared.cut.Cut.{Cut}
use Rattle.meta_range.specs.Ranges.{TreeValue}
use Rattle.meta_range.specs.declared.fault.TreeFault.{TreeFault}
use Rattle.pair_format.specs.declared.stored.Stored.{Stored}
use Rattle.pair_format.specs.declared.stored.Stored.TheVariants as stored
use Rattle.pair_trees.specs.PairTrees.{tree_named}
use Rattle.pair_trees.specs.Things.{Spells, Things}

-- the commit that this is, and the fault of its tree, where that isn't read
abbrev pub unread_in : Option Stored → Option (Result TreeValue TreeFault) → Option (Digest × TreeFault)
unread_in (Some (stored.Commit repo id expired commit)) (Some (Err fault)) = Some (id, fault)
unread_in _ _ = None

-- the tree of each commit in a pair before pair n is read
abbrev pub AreReadBefore : Cut → Things → ℕ → Type 0
AreReadBefore cut things n = (k : ℕ) (home : List ℕ) (other : Digest) (old : Bool) (earlier : CommitRecordValue) → k < n
    → Spells things k (stored.Commit home other old earlier) → IsOk (tree_named cut things earlier)
