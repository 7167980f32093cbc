use Rattle.std.proofs.Common.{◌≡◌, ◌<◌, ℕ, Some}
use Rattle.lake_values.specs.Ancestry.{graph_of, back}
use Rattle.plain_reference.proofs.ancestry.is_on_walk.Given as goal

-- it stands so many steps back, and the commit stands at none before
abbrev pub invariant-loop : goal.invariant-loop
invariant-loop l = (back (graph_of l.commits) l.counter l.head ≡ Some l.at)
    × ((steps : ℕ) → steps < l.counter → back (graph_of l.commits) steps l.head ≡ Some l.id → ⊥)
