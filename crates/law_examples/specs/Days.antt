-- Two days of commits and what comes after them: the older commits expire, and an object of theirs is condemned.
use Rattle.std.specs.Prelude.{◌≡◌, List, [], ◌∷◌, ◌++◌, ℕ, Some, codes}
use Rattle.lake_base.specs.declared.digest.Digest.{Digest}
use Rattle.lake_values.specs.Commit.{AboutValue}
use Rattle.lake_values.specs.declared.settings.NoteName.TheVariants as name
use Rattle.lake_format.specs.declared.cut.Cut.{Cut}
use Rattle.lake_model.specs.declared.history.HistoryEntry.{HistoryEntry}
use Rattle.lake_model.specs.declared.history.Operation.TheVariants.{NoteSet, Expire, Condemn}
use Rattle.lake_model.specs.declared.history.RepositoryCommit.{RepositoryCommit}
use Rattle.lake_model.specs.State.{State}
use Rattle.lake_model.specs.History.{after, replay}
use Rattle.lake_model.specs.Soundness.{fresh}
use Rattle.law_examples.specs.HistoryWords.{quickstart, first, own, head_of, entry_of, ticket_entry, put_entry, delete_entry, seal_entry, commit_entry}
use Rattle.law_examples.specs.RefusedLakes.{one_day}

abbrev pub x : List ℕ
x = codes "x"

abbrev pub y : List ℕ
y = codes "y"

abbrev pub z : List ℕ
z = codes "z"

-- what is said of a commit of this date
abbrev pub said_at : ℕ → AboutValue
said_at date = record { committer = codes "seat"; message = codes "a day"; metadata = []; date = date }

-- the number 0 is put at `x`, and sealed
abbrev pub first_changes : Digest → List HistoryEntry
first_changes digest = ticket_entry 0 ∷ put_entry x (own digest 0) ∷ seal_entry ∷ []

abbrev pub lake_before_first : Cut → Digest → State
lake_before_first cut digest = replay (fresh cut) (first_changes digest)

-- and committed at the moment 1,000,000
abbrev pub first_day : Digest → List HistoryEntry
first_day digest = first_changes digest ++ commit_entry (said_at 1000000) ∷ []

unfoldable pub lake_of_first : Cut → Digest → State
lake_of_first cut digest = replay (fresh cut) (first_day digest)

-- `x` is deleted, the number 1 is put at `y`, and both are sealed
abbrev pub second_changes : Digest → List HistoryEntry
second_changes digest = delete_entry x ∷ ticket_entry 1 ∷ put_entry y (own digest 1) ∷ seal_entry ∷ []

abbrev pub lake_before_second : Cut → Digest → State
lake_before_second cut digest = replay (lake_of_first cut digest) (second_changes digest)

-- and committed at the moment 1,100,000
abbrev pub second_day : Digest → List HistoryEntry
second_day digest = second_changes digest ++ commit_entry (said_at 1100000) ∷ []

unfoldable pub lake_of_second : Cut → Digest → State
lake_of_second cut digest = replay (lake_of_first cut digest) (second_day digest)

-- the number 2 is put at `z` and sealed, the number 3 is given out for an upload, and commits are kept for a day
abbrev pub last_changes : Digest → List HistoryEntry
last_changes digest =
    ticket_entry 2 ∷ put_entry z (own digest 2) ∷ seal_entry ∷ ticket_entry 3 ∷ entry_of (NoteSet quickstart name.Retention (Some one_day)) ∷ []

unfoldable pub lake_of_days : Cut → Digest → State
lake_of_days cut digest = replay (lake_of_second cut digest) (last_changes digest)

-- the lake of the two days with nothing sealed or given out after them: commits are kept for a day
unfoldable pub quiet_lake : Cut → Digest → State
quiet_lake cut digest = replay (lake_of_second cut digest) (entry_of (NoteSet quickstart name.Retention (Some one_day)) ∷ [])

-- the commits of the two days
unfoldable pub first_commit : Cut → Digest → Digest
first_commit cut digest = head_of (lake_of_first cut digest)

unfoldable pub second_commit : Cut → Digest → Digest
second_commit cut digest = head_of (lake_of_second cut digest)

-- the ids of the three commits differ
pub record AreApart (cut : Cut) (digest : Digest) : Type 0 where
  pub early : first cut ≡ first_commit cut digest → ⊥
  pub late : first_commit cut digest ≡ second_commit cut digest → ⊥
  pub ends : first cut ≡ second_commit cut digest → ⊥

-- a commit of the repository
abbrev pub commit : Digest → RepositoryCommit
commit id = record { repo = quickstart; commit = id }

-- at the moment 1,300,000 these commits expire
abbrev pub expire_entry : List RepositoryCommit → HistoryEntry
expire_entry commits = entry_of (Expire 1300000 commits)

-- the older two: that of the first day, and the one that the repository began with
abbrev pub older_commits : Cut → Digest → List RepositoryCommit
older_commits cut digest = commit (first_commit cut digest) ∷ commit (first cut) ∷ []

-- the lake after that
abbrev pub lake_after : Cut → Digest → State
lake_after cut digest = after (lake_of_days cut digest) (expire_entry (older_commits cut digest))

-- the quiet lake after that
abbrev pub quiet_lake_after : Cut → Digest → State
quiet_lake_after cut digest = after (quiet_lake cut digest) (expire_entry (older_commits cut digest))

-- the number 0 is condemned
abbrev pub condemn_entry : HistoryEntry
condemn_entry = entry_of (Condemn (0 ∷ []))

-- the whole history
abbrev pub two_days : Cut → Digest → List HistoryEntry
two_days cut digest =
    first_day digest ++ (second_day digest ++ (last_changes digest ++ expire_entry (older_commits cut digest) ∷ condemn_entry ∷ []))
