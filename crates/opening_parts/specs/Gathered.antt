-- A commit that is gathered with what was read of its tree.
use Rattle.std.specs.Prelude.{ℕ, Bool, List, Option, Some, None, Result}
use Rattle.lake_values.specs.Commit.{CommitRecordValue}
use Rattle.meta_range.specs.Ranges.{TreeValue}
use Rattle.meta_range.specs.declared.fault.TreeFault.{TreeFault}
use Rattle.pair_format.specs.declared.stored.Stored.{Stored}
use Rattle.pair_format.specs.declared.stored.Stored.TheVariants as stored
use Rattle.core_filling.specs.Filling.{CommitRead}
use Rattle.opening_parts.specs.Fillings.{read_with}

-- a commit with its tree, where that is there and read
abbrev pub read_of_tree : List ℕ → Bool → CommitRecordValue → Option (Option (Result TreeValue TreeFault)) → Option CommitRead
read_of_tree repo expired commit (Some (Some tree)) = read_with repo expired commit tree
read_of_tree repo expired commit _ = None

-- the commit that a thing is, with this tree
abbrev pub read_from : Option Stored → Option (Option (Result TreeValue TreeFault)) → Option CommitRead
read_from (Some (stored.Commit repo id expired commit)) tree = read_of_tree repo expired commit tree
read_from _ tree = None
