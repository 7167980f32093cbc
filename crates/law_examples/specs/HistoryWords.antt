-- Words that the examples share: names, entries, and who makes them.
use Rattle.std.specs.Prelude.{false, ℕ, List, [], ◌∷◌, Option, codes, option_and_then, option_map}
use Rattle.std.specs.Option.{unwrap_or}
use Rattle.std.specs.FinMap.{empty, get}
use Rattle.lake_base.specs.declared.digest.Digest.{Digest}
use Rattle.lake_values.specs.Commit.{AboutValue}
use Rattle.lake_values.specs.Entry.{EntryValue}
use Rattle.lake_values.specs.declared.entry.Place.TheVariants.{Own, External}
use Rattle.lake_values.specs.declared.entry.Change.TheVariants.{Put, Delete}
use Rattle.lake_format.specs.Spelling.{commit_id}
use Rattle.lake_format.specs.declared.cut.Cut.{Cut}
use Rattle.commit_graph.specs.Expressions.{RefExprValue}
use Rattle.lake_model.specs.declared.history.EntryKind.TheVariants.{Accepted}
use Rattle.lake_model.specs.declared.history.HistoryEntry.{HistoryEntry}
use Rattle.lake_model.specs.declared.history.Operation.{Operation}
use Rattle.lake_model.specs.declared.history.Operation.TheVariants.{TicketTake, Stage, Seal, Commit}
use Rattle.lake_model.specs.declared.history.SealFor.TheVariants as seal
use Rattle.lake_model.specs.State.{State, HasBranch, branch_of}
use Rattle.lake_model.specs.Commits.{IsAdmissible, commit_draft, record_of, first_draft}
use Rattle.lake_model.specs.Now.{now_of}
use Rattle.lake_model.specs.Versions.{VersionsGiven, branch_version}

-- the repository of a fresh lake, and its branch
abbrev pub quickstart : List ℕ
quickstart = codes "quickstart"

abbrev pub main : List ℕ
main = codes "main"

-- paths
abbrev pub a : List ℕ
a = codes "a"

abbrev pub b : List ℕ
b = codes "b"

-- the branch as an expression
abbrev pub at_main : RefExprValue
at_main = record { name = main; at = false; moves = [] }

-- the first commit of a fresh lake
abbrev pub first : Cut → Digest
first cut = commit_id (record_of cut empty (first_draft 0))

-- an object outside, of 5 bytes: it has no number
abbrev pub outside : EntryValue
outside = record { place = External (codes "s3://x") []; size = 5; mtime = 0; content_type = []; metadata = [] }

-- an object of the lake's own, of 5 bytes with this digest
abbrev pub own : Digest → ℕ → EntryValue
own digest number = record { place = Own number digest; size = 5; mtime = 0; content_type = []; metadata = [] }

-- an entry of a seat: its operation was accepted
abbrev pub entry_by : ℕ → Operation → HistoryEntry
entry_by seat operation = record { by = record { seat = seat; call = 0 }; kind = Accepted operation }

-- an entry of the seat 1
abbrev pub entry_of : Operation → HistoryEntry
entry_of operation = entry_by 1 operation

-- the number is given out for an upload to `main`
abbrev pub ticket_entry : ℕ → HistoryEntry
ticket_entry number = entry_of (TicketTake quickstart main number)

-- an entry is put at a path of `main`, and staged
abbrev pub put_entry : List ℕ → EntryValue → HistoryEntry
put_entry path entry = entry_of (Stage quickstart main path (Put entry))

-- a path of `main` is deleted, and that is staged
abbrev pub delete_entry : List ℕ → HistoryEntry
delete_entry path = entry_of (Stage quickstart main path Delete)

-- what is staged on `main` is sealed for a commit
abbrev pub seal_entry : HistoryEntry
seal_entry = entry_of (Seal quickstart main seal.Commit)

-- the outside object is put at `a`, and `main` is sealed
abbrev pub until_seal : List HistoryEntry
until_seal = put_entry a outside ∷ seal_entry ∷ []

-- what is sealed on `main` is committed
abbrev pub commit_entry : AboutValue → HistoryEntry
commit_entry about = entry_of (Commit quickstart main about)

-- what is read at a path of `main`
abbrev pub read_at : State → List ℕ → Option EntryValue
read_at state path = option_and_then (λ map. get map path) (now_of state quickstart main)

-- the head of `main`
abbrev pub head_of : State → Digest
head_of state = unwrap_or (option_map (λ b. b.head) (branch_of state quickstart main)) (record { 0 = [] })

-- the version of `main`
abbrev pub main_version : VersionsGiven → ℕ
main_version given = branch_version given quickstart main

-- the commit of what is sealed on `main` would be admissible
abbrev pub IsCommitAdmissible : State → AboutValue → Type 0
IsCommitAdmissible state about = HasBranch state quickstart main (λ r b. IsAdmissible state r (commit_draft r b about))
