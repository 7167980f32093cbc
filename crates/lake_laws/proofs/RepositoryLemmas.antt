-- Each repository of a sound lake is sound after an entry.
use Rattle.std.proofs.Common.{◌≡◌, ℕ, false, List, [], ◌∷◌, refl, sym, ap, subst, ◌∙◌, inl, inr}
use Rattle.std.specs.Prelude.{Option, Some, None, IsSome, codes}
use Rattle.std.specs.FinMap.{empty, get, insert, remove}
use Rattle.lake_base.specs.Maps.{ByteMap}
use Rattle.lake_base.specs.Names.{is_like_id}
use Rattle.lake_base.specs.declared.digest.Digest.{Digest}
use Rattle.lake_format.specs.declared.cut.Cut.{Cut}
use Rattle.lake_model.specs.declared.history.HistoryEntry.{HistoryEntry}
use Rattle.lake_model.specs.declared.history.EntryKind.{EntryKind}
use Rattle.lake_model.specs.declared.history.EntryKind.TheVariants.{Accepted, Faulted}
use Rattle.lake_model.specs.declared.history.Operation.{Operation}
use Rattle.lake_model.specs.declared.history.Operation.TheVariants.{RepoCreate, BranchCreate, BranchDelete, TagCreate, TagDelete, Stage, Copy, Reset, Seal}
use Rattle.lake_model.specs.declared.history.Operation.TheVariants.{Commit, Merge, Pick, NoteSet, Expire}
use Rattle.lake_model.specs.declared.history.RepositoryCommit.{RepositoryCommit}
use Rattle.lake_model.specs.State.{Branch, Repository, State, HasRepository, HasLiveCommit}
use Rattle.lake_model.specs.Parts.{changed_at, in_repository}
use Rattle.lake_model.specs.Branches.{MayBegin, MayEnd, MayName, clean_branch}
use Rattle.lake_model.specs.Uncommitted.{put_number, without_ticket, with_staged, reset_branch, sealed_branch}
use Rattle.lake_model.specs.Commits.{commit_draft, merge_draft, pick_draft, new_repository}
use Rattle.lake_model.specs.NoteChanges.{IsNoteChange, notes_after}
use Rattle.lake_model.specs.Removal.{after_expire, with_expired}
use Rattle.lake_model.specs.History.{Allows, IsPossible, operation_of, after_operation, after_kind, after}
use Rattle.lake_model.specs.Soundness.{IsSound, IsSoundRepository, fresh}
use Rattle.lake_laws.proofs.ChangeLemmas.{insert_cases, remove_stood, changed_cases, nothing_stands}
use Rattle.lake_laws.proofs.LookupLemmas.{one_value, insert_keeps, remove_other, changed_keeps}
use Rattle.lake_laws.proofs.CommitLemmas.{IsSoundBranch, branch_sound, tag_sound, sound_branches, sound_tags, sound_notes}
use Rattle.lake_laws.proofs.DraftLemmas.{sound_draft_on, one_there, both_there, sound_new}
use Rattle.lake_laws.proofs.ExpiryLemmas.{sound_after_expire}

-- each of these repositories is sound, in a lake of this cut
abbrev pub AreSound : Cut → ByteMap Repository → Type 0
AreSound cut repositories = (name : List ℕ) (r : Repository) → get repositories name ≡ Some r → IsSoundRepository cut r

-- ---- a change of one repository

-- a change that keeps the repository of a name sound keeps each so
repository_changed : (cut : Cut) (repositories : ByteMap Repository) (repo : List ℕ) (change : Repository → Repository) → AreSound cut repositories
    → ((r : Repository) → get repositories repo ≡ Some r → IsSoundRepository cut r → IsSoundRepository cut (change r))
    → AreSound cut (changed_at repo change repositories)
repository_changed cut repositories repo change sound step name r is = elim (changed_cases repo change repositories name r is) [
  | inl stood ↦ sound name r stood
  | inr new ↦ subst (IsSoundRepository cut) (sym new.3) (step new.0 new.1 (sound repo new.0 new.1))
]

-- so does one that does so for a repository with P, where it has P
changed_with : (state : State) (repo : List ℕ) (P : Repository → Type 0) (change : Repository → Repository) → AreSound state.cut state.repositories
    → HasRepository state repo P
    → ((r : Repository) → IsSoundRepository state.cut r → P r → IsSoundRepository state.cut (change r))
    → AreSound state.cut (changed_at repo change state.repositories)
changed_with state repo P change sound has step =
    repository_changed state.cut state.repositories repo change sound
    (λ r is s. step r s (subst P (one_value (get state.repositories repo) has.0 r has.1 is) has.2))

-- so does a change of a branch that leaves the head
branch_changed : (cut : Cut) (repositories : ByteMap Repository) (repo branch : List ℕ) (change : Branch → Branch) → ((b : Branch) → (change b).head ≡ b.head)
    → AreSound cut repositories
    → AreSound cut (changed_at repo (λ r. record r { branches = changed_at branch change r.branches }) repositories)
branch_changed cut repositories repo branch change stays sound =
    repository_changed cut repositories repo (λ r. record r { branches = changed_at branch change r.branches }) sound
    (λ r is s. sound_branches cut r s (changed_at branch change r.branches) (changed_keeps r.branches branch change r.default_branch s.default) (each r s))
  where
    each : (r : Repository) → IsSoundRepository cut r → (name : List ℕ) (b : Branch) → get (changed_at branch change r.branches) name ≡ Some b
        → IsSoundBranch r name b
    each r s name b is = elim (changed_cases branch change r.branches name b is) [
      | inl stood ↦ branch_sound cut r s name b stood
      | inr new ↦
          let old = branch_sound cut r s name new.0 (ap (get r.branches) new.2 ∙ new.1) in
          record { plain = old.plain; live = subst (HasLiveCommit r) (sym (ap (λ (x : Branch). x.head) new.3 ∙ stays new.0)) old.live }
    ]

-- ---- branches and tags that come and go

module _ (cut : Cut) (r : Repository) (sound : IsSoundRepository cut r) where
  -- a branch begins
  branch_created : (branch : List ℕ) (id : Digest) → MayBegin branch id r
      → IsSoundRepository cut (record r { branches = insert r.branches branch (clean_branch id) })
  branch_created branch id may =
      sound_branches cut r sound (insert r.branches branch (clean_branch id)) (insert_keeps r.branches branch (clean_branch id) r.default_branch sound.default)
      (λ name b is. elim (insert_cases r.branches branch (clean_branch id) name b is) [
        | inl put ↦ record {
          plain = subst (λ n. is_like_id n ≡ false) (sym put.0) may.plain;
          live = subst (λ (x : Branch). HasLiveCommit r x.head) (sym put.1) may.live;
        }
        | inr stood ↦ branch_sound cut r sound name b stood
      ])

  -- a branch ends
  branch_deleted : (branch : List ℕ) → MayEnd branch r → IsSoundRepository cut (record r { branches = remove r.branches branch })
  branch_deleted branch may =
      sound_branches cut r sound (remove r.branches branch) (subst IsSome (sym (remove_other r.branches branch r.default_branch may.other)) sound.default)
      (λ name b is. branch_sound cut r sound name b (remove_stood r.branches branch name b is))

  -- a tag begins
  tag_created : (tag : List ℕ) (id : Digest) → MayName tag id r → IsSoundRepository cut (record r { tags = insert r.tags tag id })
  tag_created tag id may =
      sound_tags cut r sound (insert r.tags tag id)
      (λ name q is. elim (insert_cases r.tags tag id name q is) [
        | inl put ↦ record {
          plain = subst (λ n. is_like_id n ≡ false) (sym put.0) may.plain;
          live = subst (HasLiveCommit r) (sym put.1) may.live;
        }
        | inr stood ↦ tag_sound cut r sound name q stood
      ])

  -- a tag ends
  tag_deleted : (tag : List ℕ) → IsSoundRepository cut (record r { tags = remove r.tags tag })
  tag_deleted tag = sound_tags cut r sound (remove r.tags tag) (λ name q is. tag_sound cut r sound name q (remove_stood r.tags tag name q is))

-- ---- each kind of entry

-- a ticket that goes leaves the repositories
ticket_leaves : (number : Option ℕ) (state : State) → (without_ticket number state).repositories ≡ state.repositories
ticket_leaves None state = refl
ticket_leaves (Some number) state = refl

-- the repositories after an operation are sound
sound-after_operation : (state : State) (seat : ℕ) (operation : Operation) → AreSound state.cut state.repositories → IsPossible state seat operation
    → AreSound state.cut (after_operation seat operation state).repositories
sound-after_operation state seat (RepoCreate repo branch date) sound may =
    λ name r is. elim (insert_cases state.repositories repo (new_repository state.cut date branch) name r is) [
      | inl put ↦ subst (IsSoundRepository state.cut) (sym put.1) (sound_new state.cut date branch may.plain)
      | inr stood ↦ sound name r stood
    ]
sound-after_operation state seat (BranchCreate repo branch id) sound may =
    changed_with state repo (MayBegin branch id) _ sound may (λ r s begin. branch_created state.cut r s branch id begin)
sound-after_operation state seat (BranchDelete repo branch) sound may =
    changed_with state repo _ _ sound may (λ r s w. branch_deleted state.cut r s branch w.2)
sound-after_operation state seat (TagCreate repo tag id) sound may =
    changed_with state repo (MayName tag id) _ sound may (λ r s begin. tag_created state.cut r s tag id begin)
sound-after_operation state seat (TagDelete repo tag) sound may =
    changed_with state repo _ _ sound may (λ r s there. tag_deleted state.cut r s tag)
sound-after_operation state seat (Stage repo branch path change) sound may =
    branch_changed state.cut (without_ticket (put_number change) state).repositories repo branch (with_staged path change) (λ b. refl)
    (subst (AreSound state.cut) (sym (ticket_leaves (put_number change) state)) sound)
sound-after_operation state seat (Copy repo branch path from from_path entry) sound may =
    branch_changed state.cut state.repositories repo branch _ (λ b. refl) sound
sound-after_operation state seat (Reset repo branch what) sound may =
    branch_changed state.cut state.repositories repo branch (reset_branch what) (λ b. refl) sound
sound-after_operation state seat (Seal repo branch why) sound may =
    branch_changed state.cut state.repositories repo branch sealed_branch (λ b. refl) sound
sound-after_operation state seat (Commit repo branch about) sound may =
    changed_with state repo _ _ sound may (λ r s w.
    sound_draft_on state branch (λ r b. commit_draft r b about) r w.0 w.1 s (one_there r w.0.head (s.heads branch w.0 w.1).0) w.2.head.admissible)
sound-after_operation state seat (Merge repo branch source strategy about) sound may =
    changed_with state repo _ _ sound may (λ r s w.
    sound_draft_on state branch (merge_draft source strategy about) r w.0 w.1 s (both_there r w.0.head source (s.heads branch w.0 w.1).0 w.2.live.0)
    w.2.head.admissible)
sound-after_operation state seat (Pick repo branch base source strategy about) sound may =
    changed_with state repo _ _ sound may (λ r s w.
    sound_draft_on state branch (pick_draft base source strategy about) r w.0 w.1 s (one_there r w.0.head (s.heads branch w.0 w.1).0) w.2.head.admissible)
sound-after_operation state seat (NoteSet repo name note) sound may =
    changed_with state repo (IsNoteChange name note) _ sound may (λ r s change. sound_notes state.cut r s (notes_after name note r.notes))
sound-after_operation state seat (Expire now commits) sound may = sound_after_expire state now commits sound may
sound-after_operation state seat _ sound may = sound

-- and so after what an entry says
sound-after_kind : (state : State) (seat : ℕ) (kind : EntryKind) → AreSound state.cut state.repositories → IsPossible state seat (operation_of kind)
    → AreSound state.cut (after_kind seat kind state).repositories
sound-after_kind state seat (Accepted operation) sound may = sound-after_operation state seat operation sound may
sound-after_kind state seat (Faulted operation) sound may = sound

-- each repository after an entry is sound
pub repositories_after : (state : State) (entry : HistoryEntry) → IsSound state → Allows state entry → (name : List ℕ) (r : Repository)
    → get (after state entry).repositories name ≡ Some r
    → IsSoundRepository state.cut r
repositories_after state entry sound allows = sound-after_kind state entry.by.seat entry.kind sound.repositories allows.possible

-- ---- what no entry changes, and the fresh lake

-- a ticket that goes, and commits that expire, leave it
ticket_leaves_cut : (number : Option ℕ) (state : State) → (without_ticket number state).cut ≡ state.cut
ticket_leaves_cut None state = refl
ticket_leaves_cut (Some number) state = refl

expire_leaves_cut : (commits : List RepositoryCommit) (state : State) → (after_expire commits state).cut ≡ state.cut
expire_leaves_cut [] state = refl
expire_leaves_cut (one ∷ commits) state = expire_leaves_cut commits (in_repository one.repo (with_expired one.commit) state)

cut-after_operation : (state : State) (seat : ℕ) (operation : Operation) → (after_operation seat operation state).cut ≡ state.cut
cut-after_operation state seat (Stage repo branch path change) = ticket_leaves_cut (put_number change) state
cut-after_operation state seat (Expire now commits) = expire_leaves_cut commits state
cut-after_operation state seat _ = refl

-- no entry changes by which maps are cut
pub cut_after : (state : State) (entry : HistoryEntry) → (after state entry).cut ≡ state.cut
cut_after state entry = by entry.kind
  where
    by : (kind : EntryKind) → (after_kind entry.by.seat kind state).cut ≡ state.cut
    by (Accepted operation) = cut-after_operation state entry.by.seat operation
    by (Faulted operation) = refl

-- a lake of one new repository has it alone
new_alone : (cut : Cut) (repo branch : List ℕ) (date : ℕ) → is_like_id branch ≡ false → AreSound cut (insert empty repo (new_repository cut date branch))
new_alone cut repo branch date plain name r is = elim (insert_cases empty repo (new_repository cut date branch) name r is) [
  | inl put ↦ subst (IsSoundRepository cut) (sym put.1) (sound_new cut date branch plain)
  | inr stood ↦ absurd (nothing_stands name r stood)
]

-- the repositories of a fresh lake are sound
pub repositories_fresh : (cut : Cut) → AreSound cut (fresh cut).repositories
repositories_fresh cut = new_alone cut (codes "quickstart") (codes "main") 0 refl
