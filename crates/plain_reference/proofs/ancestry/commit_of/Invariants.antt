use Rattle.std.proofs.Common.{◌≡◌, drop}
use Rattle.lake_values.specs.Ancestry.{graph_of, commit_of}
use Rattle.plain_reference.proofs.ancestry.commit_of.Given as goal

-- it stands in what is left
abbrev pub invariant-loop-other : goal.invariant-loop-other
invariant-loop-other l = commit_of (graph_of l.commits) l.id ≡ commit_of (graph_of (drop l.other-index l.commits)) l.id
