use Rattle.std.proofs.Common.{◌≡◌, Some}
use Rattle.lake_values.specs.Ancestry.{graph_of, back}
use Rattle.plain_reference.proofs.ancestry.back.Given as goal

-- it stands so many steps back
abbrev pub invariant-loop : goal.invariant-loop
invariant-loop l = back (graph_of l.commits) l.counter l.id ≡ Some l.at
