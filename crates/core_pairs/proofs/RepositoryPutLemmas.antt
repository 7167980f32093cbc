-- A repository is put, or a commit, a tag or a setting of it.
use Rattle.std.proofs.Common.{◌≡◌, ◌⊎◌, inl, inr, ℕ, false, List, Option, Some, None, IsSomeAnd, IfSome, refl, sym, ap, subst, ◌∙◌}
use Rattle.std.specs.Prelude.{option_map}
use Rattle.std.specs.FinMap.{contains_key, empty, get, insert, remove}
use Rattle.lake_base.specs.Maps.{ByteMap, byte_order}
use Rattle.lake_base.specs.declared.digest.Digest.{Digest}
use Rattle.lake_values.specs.Ancestry.{id_of}
use Rattle.lake_values.specs.Commit.{CommitRecordValue}
use Rattle.lake_values.specs.NoteNames.{note_name}
use Rattle.lake_values.specs.declared.settings.Note.{Note}
use Rattle.lake_values.specs.declared.settings.Note.TheVariants as setting
use Rattle.lake_values.specs.declared.settings.NoteName.{NoteName}
use Rattle.lake_values.specs.declared.settings.NoteName.TheVariants as note
use Rattle.meta_range.specs.Ranges.{TreeValue}
use Rattle.byte_map.proofs.ByteMapLemmas.{get_empty, get_inserted}
use Rattle.lake_model.specs.State.{Notes}
use Rattle.lake_model.specs.NoteChanges.{note_at, notes_after}
use Rattle.pair_format.specs.declared.key.OwnedKey.TheVariants as key
use Rattle.pair_format.specs.declared.stored.Stored.{Stored}
use Rattle.pair_format.specs.declared.stored.Stored.TheVariants as stored
use Rattle.pair_format.specs.PairSpelling.{IsSpelledKey, IsSpelledStored, key_of}
use Rattle.core_state.specs.BranchStates.{BranchStateValue}
use Rattle.core_state.specs.RepositoryStates.{RepositoryStateValue}
use Rattle.core_state.specs.LakeStates.{LakeStateValue}
use Rattle.core_puts.specs.Puts.{note_text}
use Rattle.core_pairs.proofs.PlaceLemmas.{found, get_left, get_other, left}
use Rattle.core_pairs.proofs.ThingLemmas.{HasChange, IsRecord, Makes, ThingOf, closed}

module _ (l : LakeStateValue) (q : List ℕ) where
  -- ---- the repository

  abbrev pub repository_thing : RepositoryStateValue → Stored
  repository_thing r = stored.Repository q r.created r.default_branch r.settings

  -- all but these of a repository are as they were
  abbrev pub with_settings : ℕ → RepositoryStateValue → RepositoryStateValue
  with_settings settings r = record r { settings = settings }

  elsewhere_repository : (p : List ℕ) (x : RepositoryStateValue) (s : Stored) → (p ≡ q → ⊥) → get l.repositories p ≡ Some x → ThingOf p x s
      → key_of s ≡ key.Repository q → ⊥
  elsewhere_repository p x (stored.Repository repo created default_branch settings) ne at (same, h) e = ne cc
  elsewhere_repository p x s ne at h e = cc

  either_settings : (r : RepositoryStateValue) (settings : ℕ) (s : Stored) → ThingOf q (with_settings settings r) s
      → (Some (repository_thing (with_settings settings r)) ≡ Some s) ⊎ (ThingOf q r s × (key_of s ≡ key.Repository q → ⊥))
  either_settings r settings (stored.Repository repo created default_branch version) (same, (a, (b, c))) = inl cc
  either_settings r settings s h = inr (h, λ e. cc)

  stays_settings : (r : RepositoryStateValue) (settings : ℕ) (s : Stored) → ThingOf q r s → (key_of s ≡ key.Repository q → ⊥)
      → ThingOf q (with_settings settings r) s
  stays_settings r settings (stored.Repository repo created default_branch version) (same, h) apart = absurd (apart cc)
  stays_settings r settings s h apart = h

  -- its settings have another version
  pub makes_settings : (r : RepositoryStateValue) (settings : ℕ) → IsSpelledStored (repository_thing (with_settings settings r))
      → Makes l q (Some r) (with_settings settings r) (key.Repository q) (Some (repository_thing (with_settings settings r)))
  makes_settings r settings spelled = record {
    within = spelled.named;
    new = λ s put.
        let same : repository_thing (with_settings settings r) ≡ s = cc in
        subst (λ s. (key_of s ≡ key.Repository q) × (IsSpelledStored s × ThingOf q (with_settings settings r) s)) same
        (refl, (spelled, (refl, (refl, (refl, refl)))));
    either = either_settings r settings;
    stays = stays_settings r settings;
    elsewhere = elsewhere_repository;
    gone = λ number e. cc;
    counts = λ e. cc;
  }

  -- a repository in which nothing stands yet
  abbrev pub bare : ℕ → List ℕ → ℕ → RepositoryStateValue
  bare created default_branch settings = record {
    created = created;
    default_branch = default_branch;
    settings = settings;
    branches = empty;
    tags = empty;
    commits = empty;
    trees = empty;
    expired = empty;
    notes = record { retention = None; protection = None; hooks = None };
  }

  no_branch : {R : Type 0} (name : List ℕ) (Q : BranchStateValue → Type 0) → IsSomeAnd (get (empty {X = BranchStateValue} {R = byte_order}) name) Q → R
  no_branch name Q h = absurd (subst (λ o. IsSomeAnd o Q) (get_empty name) h)

  no_note : {R : Type 0} (name : NoteName) (text : List ℕ)
      → IsSomeAnd (note_at name (record { retention = None; protection = None; hooks = None })) (λ note. note_text note ≡ text) → R
  no_note note.Retention text h = absurd h
  no_note note.Protection text h = absurd h
  no_note note.Hooks text h = absurd h

  either_bare : (created : ℕ) (default_branch : List ℕ) (settings : ℕ) (s : Stored) → ThingOf q (bare created default_branch settings) s
      → (Some (repository_thing (bare created default_branch settings)) ≡ Some s) ⊎ (⊥ × (key_of s ≡ key.Repository q → ⊥))
  either_bare created default_branch settings (stored.Repository repo c d version) (same, (a, (b, e))) = inl cc
  either_bare created default_branch settings (stored.Branch repo branch version head staging sealed) (same, h) =
      no_branch branch (IsRecord version head staging sealed) h
  either_bare created default_branch settings (stored.Tag repo tag commit) (same, h) = let none = get_empty {X = Digest} tag in absurd cc
  either_bare created default_branch settings (stored.Commit repo id expired commit)
      (same, (h, e)) = let none = get_empty {X = CommitRecordValue} id.0 in absurd cc
  either_bare created default_branch settings (stored.MetaRange name bytes)
      (named, (tree, ((id, h), is))) = let none = get_empty {X = TreeValue} id in absurd cc
  either_bare created default_branch settings (stored.Range name bytes) (named, (tree, ((id, h), is))) = let none = get_empty {X = TreeValue} id in absurd cc
  either_bare created default_branch settings (stored.Staged token path change) (branch, h) = no_branch branch (HasChange token path change) h
  either_bare created default_branch settings (stored.Note repo name text) (same, h) = no_note name text h
  either_bare created default_branch settings (stored.Gone number) h = absurd h
  either_bare created default_branch settings (stored.Counts number version token) h = absurd h

  -- a repository is put where none of its name is
  pub makes_bare : (created : ℕ) (default_branch : List ℕ) (settings : ℕ) → IsSpelledStored (repository_thing (bare created default_branch settings))
      → Makes l q None (bare created default_branch settings) (key.Repository q) (Some (repository_thing (bare created default_branch settings)))
  makes_bare created default_branch settings spelled = record {
    within = spelled.named;
    new = λ s put.
        let same : repository_thing (bare created default_branch settings) ≡ s = cc in
        subst (λ s. (key_of s ≡ key.Repository q) × (IsSpelledStored s × ThingOf q (bare created default_branch settings) s)) same
        (refl, (spelled, (refl, (refl, (refl, refl)))));
    either = either_bare created default_branch settings;
    stays = λ s h apart. absurd h;
    elsewhere = elsewhere_repository;
    gone = λ number e. cc;
    counts = λ e. cc;
  }

  module _ (r : RepositoryStateValue) where
    -- ---- a commit

    abbrev pub with_content : Digest → CommitRecordValue → RepositoryStateValue
    with_content id content = record r { commits = insert r.commits id.0 content }

    abbrev pub commit_thing : Digest → CommitRecordValue → Stored
    commit_thing id content = stored.Commit q id false content

    elsewhere_commit : (id : Digest) (p : List ℕ) (x : RepositoryStateValue) (s : Stored) → (p ≡ q → ⊥) → get l.repositories p ≡ Some x → ThingOf p x s
        → key_of s ≡ key.Commit q id → ⊥
    elsewhere_commit id p x (stored.Commit repo other expired commit) ne at (same, h) e = ne cc
    elsewhere_commit id p x s ne at h e = cc

    module _ (id : Digest) (content : CommitRecordValue) (live : contains_key r.expired id.0 ≡ false) where
      either_commit : (s : Stored) → ThingOf q (with_content id content) s
          → (Some (commit_thing id content) ≡ Some s) ⊎ (ThingOf q r s × (key_of s ≡ key.Commit q id → ⊥))
      either_commit (stored.Commit repo other expired commit) (same, (there, dead)) = by (found r.commits id.0 content other.0 commit there)
        where
          by : ((other.0 ≡ id.0) × (content ≡ commit)) ⊎ ((other.0 ≡ id.0 → ⊥) × (get r.commits other.0 ≡ Some commit))
              → (Some (commit_thing id content) ≡ Some (stored.Commit repo other expired commit))
              ⊎ (ThingOf q r (stored.Commit repo other expired commit) × (key.Commit repo other ≡ key.Commit q id → ⊥))
          by (inl (named, one)) =
              let is : other ≡ id = ap id_of named in
              let alive : contains_key r.expired other.0 ≡ false = subst (λ (d : Digest). contains_key r.expired d.0 ≡ false) (sym is) live in
              inl cc
          by (inr (apart, at)) = inr ((same, (at, dead)), λ e. let is : other ≡ id = cc in apart (ap (λ (d : Digest). d.0) is))
      either_commit s h = inr (h, λ e. cc)

      stays_commit : (s : Stored) → ThingOf q r s → (key_of s ≡ key.Commit q id → ⊥) → ThingOf q (with_content id content) s
      stays_commit (stored.Commit repo other expired commit) (same, (there, dead)) apart =
          (same, (get_other r.commits id.0 content other.0 (λ named. let is : other ≡ id = ap id_of named in apart cc) ∙ there, dead))
      stays_commit s h apart = h

      -- a commit is put that isn't expired
      pub makes_commit : IsSpelledStored (commit_thing id content)
          → Makes l q (Some r) (with_content id content) (key.Commit q id) (Some (commit_thing id content))
      makes_commit spelled = record {
        within = spelled.named;
        new = λ s put.
            let same : commit_thing id content ≡ s = cc in
            subst (λ s. (key_of s ≡ key.Commit q id) × (IsSpelledStored s × ThingOf q (with_content id content) s)) same
            (refl, (spelled, (refl, (get_inserted r.commits id.0 content, live))));
        either = either_commit;
        stays = stays_commit;
        elsewhere = elsewhere_commit id;
        gone = λ number e. cc;
        counts = λ e. cc;
      }

    -- ---- tags

    abbrev pub with_tags : ByteMap Digest → RepositoryStateValue
    with_tags tags = record r { tags = tags }

    elsewhere_tag : (name p : List ℕ) (x : RepositoryStateValue) (s : Stored) → (p ≡ q → ⊥) → get l.repositories p ≡ Some x → ThingOf p x s
        → key_of s ≡ key.Tag q name → ⊥
    elsewhere_tag name p x (stored.Tag repo tag commit) ne at (same, h) e = ne cc
    elsewhere_tag name p x s ne at h e = cc

    module _ (name : List ℕ) (commit : Digest) where
      either_tag : (s : Stored) → ThingOf q (with_tags (insert r.tags name commit)) s
          → (Some (stored.Tag q name commit) ≡ Some s) ⊎ (ThingOf q r s × (key_of s ≡ key.Tag q name → ⊥))
      either_tag (stored.Tag repo tag id) (same, there) = by (found r.tags name commit tag id there)
        where
          by : ((tag ≡ name) × (commit ≡ id)) ⊎ ((tag ≡ name → ⊥) × (get r.tags tag ≡ Some id))
              → (Some (stored.Tag q name commit) ≡ Some (stored.Tag repo tag id))
              ⊎ (ThingOf q r (stored.Tag repo tag id) × (key.Tag repo tag ≡ key.Tag q name → ⊥))
          by (inl (named, one)) = inl cc
          by (inr (apart, at)) = inr ((same, at), λ e. apart cc)
      either_tag s h = inr (h, λ e. cc)

      stays_tag : (s : Stored) → ThingOf q r s → (key_of s ≡ key.Tag q name → ⊥) → ThingOf q (with_tags (insert r.tags name commit)) s
      stays_tag (stored.Tag repo tag id) (same, there) apart = (same, get_other r.tags name commit tag (λ named. apart cc) ∙ there)
      stays_tag s h apart = h

      -- a tag is put
      pub makes_tag : IsSpelledStored (stored.Tag q name commit)
          → Makes l q (Some r) (with_tags (insert r.tags name commit)) (key.Tag q name) (Some (stored.Tag q name commit))
      makes_tag spelled = record {
        within = spelled.named;
        new = λ s put.
            let same : stored.Tag q name commit ≡ s = cc in
            subst (λ s. (key_of s ≡ key.Tag q name) × (IsSpelledStored s × ThingOf q (with_tags (insert r.tags name commit)) s)) same
            (refl, (spelled, (refl, get_inserted r.tags name commit)));
        either = either_tag;
        stays = stays_tag;
        elsewhere = elsewhere_tag name;
        gone = λ number e. cc;
        counts = λ e. cc;
      }

    module _ (name : List ℕ) where
      either_untagged : (s : Stored) → ThingOf q (with_tags (remove r.tags name)) s
          → (None ≡ Some s) ⊎ (ThingOf q r s × (key_of s ≡ key.Tag q name → ⊥))
      either_untagged (stored.Tag repo tag id) (same, there) =
          let was = left r.tags name tag id there in inr ((same, was.1), λ e. was.0 cc)
      either_untagged s h = inr (h, λ e. cc)

      stays_untagged : (s : Stored) → ThingOf q r s → (key_of s ≡ key.Tag q name → ⊥) → ThingOf q (with_tags (remove r.tags name)) s
      stays_untagged (stored.Tag repo tag id) (same, there) apart = (same, get_left r.tags name tag (λ named. apart cc) ∙ there)
      stays_untagged s h apart = h

      -- a tag goes
      pub makes_untagged : IsSpelledKey (key.Tag q name) → Makes l q (Some r) (with_tags (remove r.tags name)) (key.Tag q name) None
      makes_untagged spelled = record {
        within = spelled;
        new = λ s put. absurd cc;
        either = either_untagged;
        stays = stays_untagged;
        elsewhere = elsewhere_tag name;
        gone = λ number e. cc;
        counts = λ e. cc;
      }

    -- ---- settings

    abbrev pub with_notes : Notes → RepositoryStateValue
    with_notes notes = record r { notes = notes }

    -- what stands of a setting
    abbrev pub note_thing : NoteName → Option Note → Option Stored
    note_thing name = option_map (λ n. stored.Note q name (note_text n))

    -- the setting of a name is another one then, and the others are as they were
    abbrev IsSetting : NoteName → Option Note → Notes → NoteName → Type 0
    IsSetting name value notes n = ((n ≡ name) × (note_at n notes ≡ value)) ⊎ ((n ≡ name → ⊥) × (note_at n notes ≡ note_at n r.notes))

    elsewhere_note : (name : NoteName) (p : List ℕ) (x : RepositoryStateValue) (s : Stored) → (p ≡ q → ⊥) → get l.repositories p ≡ Some x → ThingOf p x s
        → key_of s ≡ key.Note q name → ⊥
    elsewhere_note name p x (stored.Note repo other text) ne at (same, h) e = ne cc
    elsewhere_note name p x s ne at h e = cc

    module _ (name : NoteName) (value : Option Note) (notes : Notes) (set : (n : NoteName) → IsSetting name value notes n) where
      noted : (repo : List ℕ) (n : NoteName) (text : List ℕ) → repo ≡ q → n ≡ name → (o : Option Note) → value ≡ o
          → IsSomeAnd o (λ note. note_text note ≡ text) → note_thing name value ≡ Some (stored.Note repo n text)
      noted repo n text same named None is h = absurd h
      noted repo n text same named (Some one) is h =
          ap (note_thing name) is
          ∙ (let all : Some (stored.Note q name (note_text one)) ≡ Some (stored.Note repo n text) = cc in all)

      either_note : (s : Stored) → ThingOf q (with_notes notes) s → (note_thing name value ≡ Some s) ⊎ (ThingOf q r s × (key_of s ≡ key.Note q name → ⊥))
      either_note (stored.Note repo n text) (same, h) = by (set n)
        where
          by : IsSetting name value notes n
              → (note_thing name value ≡ Some (stored.Note repo n text)) ⊎ (ThingOf q r (stored.Note repo n text) × (key.Note repo n ≡ key.Note q name → ⊥))
          by (inl (named, is)) =
              inl (noted repo n text same named value refl (subst (λ o. IsSomeAnd o (λ note. note_text note ≡ text)) is h))
          by (inr (apart, is)) = inr ((same, subst (λ o. IsSomeAnd o (λ note. note_text note ≡ text)) is h), λ e. apart cc)
      either_note s h = inr (h, λ e. cc)

      stays_note : (s : Stored) → ThingOf q r s → (key_of s ≡ key.Note q name → ⊥) → ThingOf q (with_notes notes) s
      stays_note (stored.Note repo n text) (same, h) apart = by (set n)
        where
          by : IsSetting name value notes n → ThingOf q (with_notes notes) (stored.Note repo n text)
          by (inl (named, is)) = absurd (apart cc)
          by (inr (other, is)) = (same, subst (λ o. IsSomeAnd o (λ note. note_text note ≡ text)) (sym is) h)
      stays_note s h apart = h

      new_note : IfSome value (λ n. IsSpelledStored (stored.Note q name (note_text n))) → (s : Stored) → note_thing name value ≡ Some s
          → (key_of s ≡ key.Note q name) × (IsSpelledStored s × ThingOf q (with_notes notes) s)
      new_note spelled s put = by value refl spelled put
        where
          by : (o : Option Note) → value ≡ o → IfSome o (λ n. IsSpelledStored (stored.Note q name (note_text n))) → note_thing name o ≡ Some s
              → (key_of s ≡ key.Note q name) × (IsSpelledStored s × ThingOf q (with_notes notes) s)
          by None is within put = absurd cc
          by (Some one) is within put =
              let same : stored.Note q name (note_text one) ≡ s = cc in
              subst (λ s. (key_of s ≡ key.Note q name) × (IsSpelledStored s × ThingOf q (with_notes notes) s)) same
              (refl, (within, (refl, there (set name))))
            where
              there : IsSetting name value notes name → IsSomeAnd (note_at name notes) (λ note. note_text note ≡ note_text one)
              there (inl (named, at)) = closed (note_at name notes) (λ note. note_text note ≡ note_text one) one (at ∙ is) refl
              there (inr (other, at)) = absurd (other refl)

      -- a setting is put, or goes
      pub makes_note : IsSpelledKey (key.Note q name) → IfSome value (λ n. IsSpelledStored (stored.Note q name (note_text n)))
          → Makes l q (Some r) (with_notes notes) (key.Note q name) (note_thing name value)
      makes_note named spelled = record {
        within = named;
        new = new_note spelled;
        either = either_note;
        stays = stays_note;
        elsewhere = elsewhere_note name;
        gone = λ number e. cc;
        counts = λ e. cc;
      }

    -- the settings after one was set or deleted
    pub is_set : (name : NoteName) (value : Option Note) → IfSome value (λ n. note_name n ≡ name) → (n : NoteName)
        → IsSetting name value (notes_after name value r.notes) n
    is_set note.Retention None ok note.Retention = inl (refl, refl)
    is_set note.Retention None ok note.Protection = inr (λ e. cc, refl)
    is_set note.Retention None ok note.Hooks = inr (λ e. cc, refl)
    is_set note.Protection None ok note.Retention = inr (λ e. cc, refl)
    is_set note.Protection None ok note.Protection = inl (refl, refl)
    is_set note.Protection None ok note.Hooks = inr (λ e. cc, refl)
    is_set note.Hooks None ok note.Retention = inr (λ e. cc, refl)
    is_set note.Hooks None ok note.Protection = inr (λ e. cc, refl)
    is_set note.Hooks None ok note.Hooks = inl (refl, refl)
    is_set name (Some (setting.Retention rules)) named note.Retention = inl (named, refl)
    is_set name (Some (setting.Retention rules)) named note.Protection = inr (λ e. cc, refl)
    is_set name (Some (setting.Retention rules)) named note.Hooks = inr (λ e. cc, refl)
    is_set name (Some (setting.Protection patterns)) named note.Retention = inr (λ e. cc, refl)
    is_set name (Some (setting.Protection patterns)) named note.Protection = inl (named, refl)
    is_set name (Some (setting.Protection patterns)) named note.Hooks = inr (λ e. cc, refl)
    is_set name (Some (setting.Hooks rules)) named note.Retention = inr (λ e. cc, refl)
    is_set name (Some (setting.Hooks rules)) named note.Protection = inr (λ e. cc, refl)
    is_set name (Some (setting.Hooks rules)) named note.Hooks = inl (named, refl)
