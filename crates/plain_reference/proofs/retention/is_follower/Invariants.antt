use Rattle.std.proofs.Common.{◌≡◌, ◌<◌, ℕ, Some}
use Rattle.lake_values.specs.Ancestry.{graph_of, back}
use Rattle.lake_values.proofs.AncestryWalkLemmas.{FollowsAt}
use Rattle.plain_reference.proofs.retention.is_follower.Given as goal

-- it stands so many steps back, and the commit follows none before that is dated at or after the limit
abbrev pub invariant-loop : goal.invariant-loop
invariant-loop l = (back (graph_of l.commits) l.counter l.head ≡ Some l.at)
    × ((steps : ℕ) → steps < l.counter → FollowsAt (graph_of l.commits) l.head l.limit l.id steps → ⊥)
