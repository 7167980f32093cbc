-- Why a commit can't join a graph.
use Rattle.std.specs.Prelude.{◌≡◌, ◌==◌, ℕ, List, min, is_none, Option, Some, None, option_map, option_and_then, Result, Ok, Err, if◌then◌else◌}
use Rattle.std.specs.List.{find}
use Rattle.std.specs.Option.{option_or}
use Rattle.std.specs.Str.{bytes_eq}
use Rattle.lake_base.specs.declared.digest.Digest.{Digest}
use Rattle.lake_values.specs.Commit.{CommitRecordValue}
use Rattle.lake_values.specs.Ancestry.{Graph, commit_of, due_generation}
use Rattle.lake_format.specs.Spelling.{commit_spelling, commit_id}
use Rattle.commit_graph.specs.declared.fault.GraphFault.{GraphFault}
use Rattle.commit_graph.specs.declared.fault.GraphFault.TheVariants.{NoParent, Generation, NameClash, NoMemory}

-- the first of these parents that isn't there
abbrev pub missing_parent : Graph → List Digest → Option Digest
missing_parent graph parents = find (λ id. is_none (commit_of graph id)) parents

-- a generation that isn't the one due; above 64 bits, the greatest number of 64 bits is told
abbrev pub untimely : Graph → CommitRecordValue → Option GraphFault
untimely graph c =
    if c.generation == due_generation graph c.parents then None
    else Some (Generation c.generation (min (due_generation graph c.parents) 18446744073709551615))

-- other bytes of one name
abbrev pub clash : Digest → List ℕ → CommitRecordValue → Option GraphFault
clash name new kept = if bytes_eq (commit_spelling kept) new then None else Some (NameClash name (commit_spelling kept) new)

-- the first reason: a parent that isn't there, a generation that isn't due, a commit of this id that has other bytes
abbrev pub refusal : Graph → CommitRecordValue → Option GraphFault
refusal graph c =
    option_or (option_map NoParent (missing_parent graph c.parents))
    (option_or (untimely graph c) (option_and_then (clash (commit_id c) (commit_spelling c)) (commit_of graph (commit_id c))))

-- What was answered: the reason where there is one, else it went well, unless memory ran out.
abbrev pub Refuses : {A : Type 0} → Result A GraphFault → Option GraphFault → Type 0
Refuses (Ok x) reason = reason ≡ None
Refuses (Err NoMemory) reason = Unit {0}
Refuses (Err fault) reason = reason ≡ Some fault
