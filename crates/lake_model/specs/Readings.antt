-- What each reading of the one-thread lake answers.
use Rattle.std.specs.Prelude.{ℕ, Bool, true, false, List, [], ◌∷◌, length, map, take, nat_lt, Option, Some, None, option_map, option_and_then, is_some, Result}
use Rattle.std.specs.Prelude.{Ok, Err, if◌then◌else◌}
use Rattle.std.specs.FinMap.{entries, get, contains_key}
use Rattle.std.specs.List.{filter}
use Rattle.std.specs.Option.{option_map_or}
use Rattle.std.specs.Ordering.{is_lt}
use Rattle.lake_base.specs.Maps.{ByteMap, byte_order}
use Rattle.lake_base.specs.declared.digest.Digest.{Digest}
use Rattle.lake_values.specs.Ancestry.{commit_of, parents}
use Rattle.lake_values.specs.Commit.{CommitRecordValue}
use Rattle.lake_values.specs.Entry.{EntryValue}
use Rattle.lake_values.specs.KeyMap.{KeyMapValue}
use Rattle.lake_values.specs.Log.{LogPageValue, log_page}
use Rattle.lake_values.specs.declared.settings.Note.{Note}
use Rattle.lake_values.specs.declared.settings.NoteName.{NoteName}
use Rattle.lake_pages.specs.Listing.{page_items, has_more}
use Rattle.lake_pages.specs.declared.listing.Item.{Item}
use Rattle.lake_pages.specs.declared.listing.PageQuery.{PageQuery}
use Rattle.commit_graph.specs.Expressions.{RefExprValue}
use Rattle.lake_model.specs.declared.fault.StepFault.{StepFault}
use Rattle.lake_model.specs.declared.fault.StepFault.TheVariants.{NoRef, NoNote}
use Rattle.lake_model.specs.declared.fault.Reference.TheVariants.{Named, After}
use Rattle.lake_model.specs.declared.reply.Point.{Point}
use Rattle.lake_model.specs.declared.reply.RepoInfo.{RepoInfo}
use Rattle.lake_model.specs.declared.reply.Seen.{Seen}
use Rattle.lake_model.specs.declared.reply.Versions.{Versions}
use Rattle.lake_model.specs.State.{Repository, State, map_of, now_map}
use Rattle.lake_model.specs.NoteChanges.{note_at}
use Rattle.lake_model.specs.Resolving.{expression_target, is_plain_branch, in_repository_of}
use Rattle.lake_model.specs.Uncommitted.{own_number}
use Rattle.lake_model.specs.Versions.{VersionsGiven, branch_version, settings_version}

-- an answer, and then what comes of it; the first refusal ends it
infixl 10 ◌then◌
abbrev pub ◌then◌ : {X Y : Type 0} → Result X StepFault → (X → Result Y StepFault) → Result Y StepFault
(Ok x) then f = f x
(Err fault) then f = Err fault

-- what is told of a commit that an expression leads to
abbrev pub point_of : State → Repository → RefExprValue → Digest → Point
point_of state r e id = record {
  at = state.entries;
  commit = id;
  plain_branch = is_plain_branch r e;
  parents = parents r.commits id;
  message = option_map_or (λ c. c.message) (commit_of r.commits id) [];
}

-- what an expression leads to
abbrev pub resolve_reply : State → List ℕ → RefExprValue → Result Point StepFault
resolve_reply state repo e = in_repository_of state repo (λ r. expression_target r e then λ id. Ok (point_of state r e id))

-- what is read at an expression: on a plain branch what is read on it now, else the commit's map
abbrev pub map_at : Repository → RefExprValue → Digest → KeyMapValue
map_at r e id = if is_plain_branch r e then option_map_or (now_map r) (get r.branches e.name) (map_of r id) else map_of r id

-- the map that an expression leads to
abbrev pub expression_map : Repository → RefExprValue → Result KeyMapValue StepFault
expression_map r e = expression_target r e then λ id. Ok (map_at r e id)

-- whether the object of an entry is gone for good
abbrev pub is_gone : State → Option EntryValue → Bool
is_gone state found = option_map_or (contains_key state.gone) (option_and_then (λ entry. own_number entry.place) found) false

-- what stands at a path of a map
abbrev pub seen_in : State → KeyMapValue → List ℕ → Seen
seen_in state map path = record { at = state.entries; found = get map path; gone = is_gone state (get map path) }

abbrev pub look_reply : State → List ℕ → RefExprValue → List ℕ → Result Seen StepFault
look_reply state repo e path = in_repository_of state repo (λ r. expression_map r e then λ map. Ok (seen_in state map path))

-- one page of a listing: its items, and whether one is left
pub record PageReply : Type 0 where
  pub at : ℕ
  pub items : List Item
  pub more : Bool

abbrev pub page_reply : State → List ℕ → RefExprValue → PageQuery → Result PageReply StepFault
page_reply state repo e query =
    in_repository_of state repo (λ r. expression_map r e then λ map.
    Ok (record { at = state.entries; items = page_items query map; more = has_more query map }))

-- the commits of ids, with their ids
abbrev pub commits_in : Repository → List Digest → List (Digest × CommitRecordValue)
commits_in r [] = []
commits_in r (id ∷ later) = option_map_or (λ c. (id, c) ∷ commits_in r later) (commit_of r.commits id) (commits_in r later)

-- one page of a log
pub record LogReply : Type 0 where
  pub at : ℕ
  pub commits : List (Digest × CommitRecordValue)
  pub more : Bool

-- a commit that is named by its id, where one is named
abbrev pub known_commit : Repository → Option Digest → Result (Option Digest) StepFault
known_commit r None = Ok None
known_commit r (Some id) = if is_some (commit_of r.commits id) then Ok (Some id) else Err (NoRef After)

abbrev pub log_page_reply : State → Repository → LogPageValue → LogReply
log_page_reply state r page = record { at = state.entries; commits = commits_in r page.ids; more = page.has_more }

-- the ancestors of a commit, dated at or after a moment, that come after another commit: the other one is asked for
-- before the moves of the expression, and after its name
abbrev pub log_reply : State → List ℕ → RefExprValue → Option Digest → Option ℕ → ℕ → Result LogReply StepFault
log_reply state repo e after since amount =
    in_repository_of state repo (λ r. expression_target r (record e { moves = [] }) then λ name.
    known_commit r after then λ other. expression_target r e then λ id.
    Ok (log_page_reply state r (log_page r.commits id other since amount)))

-- the entries of a map whose keys are above some bytes
abbrev pub above : {X : Type 0} → List ℕ → ByteMap X → List (List ℕ × X)
above after map = filter (λ e. is_lt (byte_order after e.0)) (entries map)

-- the first of some values, so many, and whether one is left
pub record ListReply (X : Type 0) : Type 0 where
  pub at : ℕ
  pub values : List X
  pub more : Bool

abbrev pub first_values : {X : Type 0} → State → ℕ → List X → ListReply X
first_values state amount values = record { at = state.entries; values = take amount values; more = nat_lt amount (length values) }

-- what is told of a repository
abbrev pub repository_info : List ℕ × Repository → RepoInfo
repository_info one = record { name = one.0; default_branch = one.1.default_branch; created = one.1.created }

abbrev pub repositories_reply : State → List ℕ → ℕ → Result (ListReply RepoInfo) StepFault
repositories_reply state after amount = Ok (first_values state amount (map repository_info (above after state.repositories)))

-- the branches of a repository with their heads, or its tags with their commits, above some bytes
abbrev pub names_above : Repository → Bool → List ℕ → List (List ℕ × Digest)
names_above r true after = above after r.tags
names_above r false after = map (λ b. (b.0, b.1.head)) (above after r.branches)

abbrev pub names_reply : State → List ℕ → Bool → List ℕ → ℕ → Result (ListReply (List ℕ × Digest)) StepFault
names_reply state repo tags after amount = in_repository_of state repo (λ r. Ok (first_values state amount (names_above r tags after)))

-- the commit of a tag, or the head of a branch
abbrev pub name_in : Repository → Bool → List ℕ → Option Digest
name_in r true name = get r.tags name
name_in r false name = option_map (λ b. b.head) (get r.branches name)

abbrev pub find_reply : State → List ℕ → Bool → List ℕ → Result (ℕ × Digest) StepFault
find_reply state repo tags name =
    in_repository_of state repo (λ r. option_map_or (λ id. Ok (state.entries, id)) (name_in r tags name) (Err (NoRef Named)))

-- a setting, and the version of the repository's settings
pub record NoteReply : Type 0 where
  pub at : ℕ
  pub settings : ℕ
  pub note : Note

abbrev pub note_reply : State → VersionsGiven → List ℕ → NoteName → Result NoteReply StepFault
note_reply state given repo name =
    in_repository_of state repo (λ r. option_map_or (λ note. Ok (record { at = state.entries; settings = settings_version given repo; note = note }))
    (note_at name r.notes) (Err NoNote))

-- the versions of a branch and of its repository's settings
abbrev pub versions_at : ℕ → VersionsGiven → List ℕ → List ℕ → Versions
versions_at at given repo branch =
    record { at = at; version = branch_version given repo branch; settings = settings_version given repo }

abbrev pub versions_reply : State → VersionsGiven → List ℕ → List ℕ → Result Versions StepFault
versions_reply state given repo branch =
    in_repository_of state repo (λ r. if contains_key r.branches branch then Ok (versions_at state.entries given repo branch) else Err (NoRef Named))
