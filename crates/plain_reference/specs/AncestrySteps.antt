-- What the search for a merge base has of its commits so far.
use Rattle.std.specs.Prelude.{Option, Some, None, if◌then◌else◌}
use Rattle.lake_values.specs.Ancestry.{Graph, comes_first}
use Rattle.lake_base.specs.declared.digest.Digest.{Digest}

-- the first of the best so far and this commit, in the order of the log
abbrev pub first_of : Graph → Option Digest → Digest → Digest
first_of graph None id = id
first_of graph (Some best) id = if comes_first graph id best then id else best
