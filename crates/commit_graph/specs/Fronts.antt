-- What a walk through the ancestors of a commit, in the order of the log, still has before it.
use Rattle.std.specs.Prelude.{◌≡◌, ◌⊎◌, ℕ, Bool, List}
use Rattle.std.specs.List.{Contains, filter, list_any}
use Rattle.std.specs.Option.{IsSome}
use Rattle.std.specs.declared.cmp.Reverse.{Reverse}
use Rattle.lake_base.specs.declared.digest.Digest.{Digest}
use Rattle.lake_values.specs.Ancestry.{Graph, IsGraph, commit_of, generation, is_ancestor, log}

-- where a commit stands in the log: those of greater generation come first, and of one generation those of less id
abbrev pub Place : Type 0
Place = Reverse ℕ × Digest

abbrev pub place_of : Graph → Digest → Place
place_of graph id = (record { 0 = generation graph id }, id)

-- whether it is an ancestor of one of the commits at these places
abbrev pub is_left : Graph → List Place → Digest → Bool
is_left graph front old = list_any (λ place. is_ancestor graph old place.1) front

-- the ancestors of the commits at these places, each once, in the order of the log
unfoldable pub ancestors_left : Graph → List Place → List Digest
ancestors_left graph front = filter (is_left graph front) (log graph)

-- the place of a commit that is there
pub record IsPlace (graph : Graph) (place : Place) : Type 0 where
  pub there : IsSome (commit_of graph place.1)
  pub generation : place.0.0 ≡ generation graph place.1

-- places of commits of a graph
pub record IsFront (graph : Graph) (front : List Place) : Type 0 where
  pub due : IsGraph graph
  pub places : (place : Place) → Contains front place → IsPlace graph place

-- the places of these commits are put in, and those that were there are kept
pub record PutsIn (graph : Graph) (ids : List Digest) (old new : List Place) : Type 0 where
  pub kept : (place : Place) → Contains old place → Contains new place
  pub put : (id : Digest) → Contains ids id → (place : Place) × Contains new place × (place.1 ≡ id)
  pub only : (place : Place) → Contains new place → Contains old place ⊎ ((id : Digest) × Contains ids id × (place ≡ place_of graph id))
