-- Commit graphs: ancestors, generations, the order of the log, the merge base, and the way back by first parents
-- (Git's words; that a base is of greatest generation and then of least id is this project's profile).
use Rattle.std.specs.Prelude.{◌≡◌, ◌≤◌, ◌+◌, ◌++◌, ◌&&◌, ◌||◌, false, ℕ, zero, suc, max, Bool, List, [], ◌∷◌, map, slice_get, Option, Some, None, IsSome}
use Rattle.std.specs.Prelude.{is_some, option_map, option_and_then}
use Rattle.std.specs.Option.{unwrap_or, option_to_list}
use Rattle.std.specs.Ordering.{is_lt, nat_cmp, ordering_then}
use Rattle.std.specs.declared.cmp.Ordering.{Ordering}
use Rattle.std.specs.List.{Contains, filter, find, list_any}
use Rattle.std.specs.Str.{bytes_eq}
use Rattle.std.specs.FinMap.{get, keys, entries, from_entries}
use Rattle.lake_values.specs.Commit.{CommitRecordValue}
use Rattle.lake_base.specs.Maps.{ByteMap, byte_order}
use Rattle.lake_base.specs.declared.digest.Digest.{Digest}

-- commits by the bytes of their ids
abbrev pub Graph : Type 0
Graph = ByteMap CommitRecordValue

-- the graph of a list of commits; where an id stands twice, its first commit counts
abbrev pub graph_of : List (Digest × CommitRecordValue) → Graph
graph_of commits = from_entries (map (λ c. (c.0.0, c.1)) commits)

-- the commit of an id
abbrev pub commit_of : Graph → Digest → Option CommitRecordValue
commit_of graph id = get graph id.0

-- the id of these bytes
abbrev pub id_of : List ℕ → Digest
id_of bytes = record { 0 = bytes }

-- the same bytes
abbrev pub same_id : Digest → Digest → Bool
same_id id other = bytes_eq id.0 other.0

-- ids in order of their bytes
abbrev pub id_order : Digest → Digest → Ordering
id_order id other = byte_order id.0 other.0

-- the ids of the commits, each once, in that order
unfoldable pub ids : Graph → List Digest
ids graph = map id_of (keys graph)

-- the parents of a commit, where there is one
abbrev pub parents_in : Option CommitRecordValue → List Digest
parents_in None = []
parents_in (Some commit) = commit.parents

-- its parents; none where there is no such commit
unfoldable pub parents : Graph → Digest → List Digest
parents graph id = parents_in (commit_of graph id)

-- its generation; 0 where there is no such commit
unfoldable pub generation : Graph → Digest → ℕ
generation graph id = unwrap_or (option_map (λ c. c.generation) (commit_of graph id)) 0

-- its date in seconds since 1970; 0 where there is no such commit
unfoldable pub date : Graph → Digest → ℕ
date graph id = unwrap_or (option_map (λ c. c.date) (commit_of graph id)) 0

-- the generation due after these parents: 1 plus the greatest of theirs, and 1 without parents
abbrev pub due_generation : Graph → List Digest → ℕ
due_generation graph [] = 1
due_generation graph (id ∷ ids) = max (generation graph id + 1) (due_generation graph ids)

-- its parents are there, and its generation is the one due
pub record IsDue (graph : Graph) (id : Digest) : Type 0 where
  pub whole : (parent : Digest) → Contains (parents graph id) parent → IsSome (commit_of graph parent)
  pub counted : generation graph id ≡ due_generation graph (parents graph id)

-- a graph of commits: each has its parents there, and the generation that is due
abbrev pub IsGraph : Graph → Type 0
IsGraph graph = (id : Digest) → IsSome (commit_of graph id) → IsDue graph id

-- a commit reaches that one by parents in so many steps
unfoldable pub Reaches : Graph → ℕ → Digest → Digest → Type 0
Reaches graph zero id old = id ≡ old
Reaches graph (suc n) id old = (parent : Digest) × Contains (parents graph id) parent × Reaches graph n parent old

-- its ancestors are the commits that it reaches in any number of steps, none included
abbrev pub IsAncestor : Graph → Digest → Digest → Type 0
IsAncestor graph old id = IsSome (commit_of graph old) × ((steps : ℕ) × Reaches graph steps id old)

-- an ancestor of both
abbrev pub IsCommon : Graph → Digest → Digest → Digest → Type 0
IsCommon graph a b old = IsAncestor graph old a × IsAncestor graph old b

-- reached in at most so many steps
abbrev pub IsReachedWithin : Graph → ℕ → Digest → Digest → Type 0
IsReachedWithin graph most old id = (steps : ℕ) × (steps ≤ most) × Reaches graph steps id old

-- whether a commit reaches that one by parents in at most so many steps
unfoldable pub is_reached : Graph → ℕ → Digest → Digest → Bool
is_reached graph zero id old = same_id id old
is_reached graph (suc n) id old =
    same_id id old || list_any (λ parent. is_reached graph n parent old) (parents graph id)

-- whether it is an ancestor; no way back in a graph takes more steps than the generation counts
unfoldable pub is_ancestor : Graph → Digest → Digest → Bool
is_ancestor graph old id = is_some (commit_of graph old) && is_reached graph (generation graph id) id old

-- the order of the log: greatest generation first, and of one generation the least id as bytes
abbrev pub log_order : Graph → Digest → Digest → Ordering
log_order graph id other =
    ordering_then (nat_cmp (generation graph other) (generation graph id)) (id_order id other)

-- it stands before the other in the log
abbrev pub comes_first : Graph → Digest → Digest → Bool
comes_first graph id other = is_lt (log_order graph id other)

-- the ids of the commits, each once, in the order of the log
unfoldable pub log : Graph → List Digest
log graph = keys (from_entries {R = log_order graph} (map (λ e. (id_of e.0, e.1)) (entries graph)))

-- the ancestors of a commit, each once, in the order of the log
unfoldable pub ancestors_in_order : Graph → Digest → List Digest
ancestors_in_order graph id = filter (λ old. is_ancestor graph old id) (log graph)

-- the merge base: of the ancestors of a, in the order of the log, the first that is an ancestor of b
unfoldable pub base : Graph → Digest → Digest → Option Digest
base graph a b = find (λ old. is_ancestor graph old b) (ancestors_in_order graph a)

-- what a merge base is: of the common ancestors, the first in the order of the log
pub record IsBase (graph : Graph) (a b base : Digest) : Type 0 where
  pub common : IsCommon graph a b base
  pub first : (other : Digest) → IsCommon graph a b other → comes_first graph other base ≡ false

-- its first parent
abbrev pub first_parent : Graph → Digest → Option Digest
first_parent graph id = slice_get (parents graph id) 0

-- so many first parents back from a commit, as `~n` of an expression
unfoldable pub back : Graph → ℕ → Digest → Option Digest
back graph zero id = option_map (λ commit. id) (commit_of graph id)
back graph (suc n) id = option_and_then (first_parent graph) (back graph n id)

-- it lies on the walk of first parents from a head
abbrev pub IsOnWalk : Graph → Digest → Digest → Type 0
IsOnWalk graph head id = (steps : ℕ) × (back graph steps head ≡ Some id)

-- the commits that stand fewer than so many first parents back from a head
abbrev pub walk_within : ℕ → Graph → Digest → List Digest
walk_within zero graph head = []
walk_within (suc n) graph head = walk_within n graph head ++ option_to_list (back graph n head)

-- the walk of first parents: the head, its first parent and so on; in a graph they are no more than the head's
-- generation counts
unfoldable pub walk : Graph → Digest → List Digest
walk graph head = walk_within (generation graph head) graph head
