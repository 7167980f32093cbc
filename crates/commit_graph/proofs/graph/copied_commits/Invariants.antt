use Rattle.std.proofs.Common.{◌≡◌, ◌++◌}
use Rattle.commit_graph.proofs.graph.copied_commits.Given as goal

-- the commits so far are copied
abbrev pub invariant-loop-id : goal.invariant-loop-id
invariant-loop-id l = l.copy.entries ++ l.id-iterator ≡ l.commits.entries
