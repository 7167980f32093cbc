-- Commits that are made, hooks that deny them, and commits that are picked.
use Rattle.std.specs.Prelude.{◌≡◌, List, [], ◌∷◌, ℕ, Some, codes}
use Rattle.lake_base.specs.declared.digest.Digest.{Digest}
use Rattle.lake_values.specs.Commit.{AboutValue}
use Rattle.lake_values.specs.Entry.{EntryValue}
use Rattle.lake_values.specs.declared.commit.Strategy.{Strategy}
use Rattle.lake_values.specs.declared.commit.Strategy.TheVariants.{Refuse}
use Rattle.lake_values.specs.declared.settings.Deny.TheVariants.{MaxChanges, RequireMeta}
use Rattle.lake_values.specs.declared.settings.Note.{Note}
use Rattle.lake_values.specs.declared.settings.Note.TheVariants.{Hooks}
use Rattle.lake_values.specs.declared.settings.NoteName.TheVariants as name
use Rattle.lake_format.specs.declared.cut.Cut.{Cut}
use Rattle.lake_model.specs.declared.history.HistoryEntry.{HistoryEntry}
use Rattle.lake_model.specs.declared.history.Operation.TheVariants.{Copy, NoteSet, Pick}
use Rattle.lake_model.specs.declared.history.CopySource.TheVariants as source
use Rattle.lake_model.specs.State.{State, HasBranch}
use Rattle.lake_model.specs.Parts.{in_repository}
use Rattle.lake_model.specs.Removal.{with_expired}
use Rattle.lake_model.specs.Commits.{IsAdmissible, pick_draft}
use Rattle.lake_model.specs.History.{after, replay}
use Rattle.law_examples.specs.HistoryWords.{quickstart, main, first, outside, head_of, entry_of, put_entry, seal_entry, commit_entry, a, b}
use Rattle.law_examples.specs.RefusedLakes.{ready_lake}

-- a commit of `main` may change no path
abbrev pub no_changes : Note
no_changes = Hooks (record { branch = main; deny = MaxChanges 0 } ∷ [])

-- the outside object is put at `a` and sealed, and then the hook is set
abbrev pub limited_lake : Cut → State
limited_lake cut = after (ready_lake cut) (entry_of (NoteSet quickstart name.Hooks (Some no_changes)))

-- a commit of `main` must have the key `reason`
abbrev pub reason : List ℕ
reason = codes "reason"

abbrev pub reason_wanted : Note
reason_wanted = Hooks (record { branch = main; deny = RequireMeta reason } ∷ [])

-- what is said of a commit, with a reason and without metadata
abbrev pub with_reason : AboutValue → AboutValue
with_reason about = record about { metadata = (reason, []) ∷ [] }

abbrev pub without_metadata : AboutValue → AboutValue
without_metadata about = record about { metadata = [] }

-- the outside object is committed at `a`
unfoldable pub committed_lake : Cut → AboutValue → State
committed_lake cut about = after (ready_lake cut) (commit_entry about)

-- the commit of it
unfoldable pub new_commit : Cut → AboutValue → Digest
new_commit cut about = head_of (committed_lake cut about)

-- then the outside object is put at `b` too, and sealed
abbrev pub sealed_lake : Cut → AboutValue → State
sealed_lake cut about = replay (committed_lake cut about) (put_entry b outside ∷ seal_entry ∷ [])

-- the lake of the commit, after which the hook is set that wants a reason
abbrev pub asking_lake : Cut → AboutValue → State
asking_lake cut about = after (committed_lake cut about) (entry_of (NoteSet quickstart name.Hooks (Some reason_wanted)))

-- the lake before the commit, but that the id of it is expired: no legal history gives it
abbrev pub barred_lake : Cut → AboutValue → State
barred_lake cut about = in_repository quickstart (with_expired (new_commit cut about)) (ready_lake cut)

-- the lake of the commit, but that this one is expired: no legal history gives it
abbrev pub expired_head_lake : Cut → AboutValue → State
expired_head_lake cut about = in_repository quickstart (with_expired (new_commit cut about)) (committed_lake cut about)

-- the outside object is copied from a path of a commit to `b` of `main`
abbrev pub copy_entry : Digest → List ℕ → HistoryEntry
copy_entry id path = entry_of (Copy quickstart main b (source.Commit id) path outside)

-- another outside object, of 6 bytes
abbrev pub larger_object : EntryValue
larger_object = record outside { size = 6 }

-- it is put at `a` in place of the other, sealed, and committed
unfoldable pub twice_committed_lake : Cut → AboutValue → AboutValue → State
twice_committed_lake cut about other = replay (committed_lake cut about) (put_entry a larger_object ∷ seal_entry ∷ commit_entry other ∷ [])

-- the commit of it
unfoldable pub last_commit : Cut → AboutValue → AboutValue → Digest
last_commit cut about other = head_of (twice_committed_lake cut about other)

-- the ids of the three commits differ
pub record AreThree (cut : Cut) (about other : AboutValue) : Type 0 where
  pub early : first cut ≡ new_commit cut about → ⊥
  pub late : new_commit cut about ≡ last_commit cut about other → ⊥
  pub ends : first cut ≡ last_commit cut about other → ⊥

-- what a commit has over a base is taken into `main`
abbrev pub pick_entry : Digest → Digest → Strategy → AboutValue → HistoryEntry
pick_entry base source strategy about = entry_of (Pick quickstart main base source strategy about)

-- what the second commit has over the first is taken into `main`
abbrev pub new_pick : Cut → AboutValue → AboutValue → HistoryEntry
new_pick cut about other = pick_entry (first cut) (new_commit cut about) Refuse other

-- the lake of the commit, but that the id which this pick would give is expired: no legal history gives it
abbrev pub barred_pick_lake : Cut → AboutValue → AboutValue → State
barred_pick_lake cut about other =
    let picked = head_of (after (committed_lake cut about) (new_pick cut about other)) in
    in_repository quickstart (with_expired picked) (committed_lake cut about)

-- the commit of such a pick would be admissible
abbrev pub IsPickAdmissible : State → Digest → Digest → Strategy → AboutValue → Type 0
IsPickAdmissible state base source strategy about =
    HasBranch state quickstart main (λ r x. IsAdmissible state r (pick_draft base source strategy about r x))
