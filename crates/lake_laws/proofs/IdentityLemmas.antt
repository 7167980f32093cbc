-- An id keeps its commit and its map, and a tag its commit.
use Rattle.std.proofs.Common.{◌≡◌, ℕ, Bool, true, false, cond, List, [], ◌∷◌, refl, sym, ap, ◌∙◌, subst}
use Rattle.std.specs.Prelude.{Option, Some, None}
use Rattle.std.specs.Option.{unwrap_or}
use Rattle.std.specs.FinMap.{empty, get, insert, remove, get-insert, get-remove}
use Rattle.std.proofs.lemmas.Cmp.{nat_list_cmp_total}
use Rattle.lake_base.specs.declared.digest.Digest.{Digest}
use Rattle.lake_values.specs.Ancestry.{commit_of}
use Rattle.lake_values.specs.Commit.{CommitRecordValue}
use Rattle.lake_values.specs.KeyMap.{KeyMapValue}
use Rattle.lake_format.specs.Spelling.{commit_id}
use Rattle.lake_model.specs.declared.history.EntryKind.TheVariants.{Accepted}
use Rattle.lake_model.specs.declared.history.HistoryEntry.{HistoryEntry}
use Rattle.lake_model.specs.declared.history.Operation.{Operation}
use Rattle.lake_model.specs.declared.history.Operation.TheVariants.{TagCreate, TagDelete, Commit, Merge, Pick, Expire}
use Rattle.lake_model.specs.State.{Branch, Repository, State, HasRepository, HasBranch, map_of}
use Rattle.lake_model.specs.Commits.{Draft, IsAdmissible, record_of, with_draft, draft_on, commit_draft, merge_draft, pick_draft}
use Rattle.lake_model.specs.History.{Allows, IsLegal, after, replay}
use Rattle.lake_laws.specs.Tags.{DeletesNot}
use Rattle.lake_laws.proofs.PartsLemmas.{ties, tied_stands, names_tied}
use Rattle.lake_laws.proofs.OperationLemmas.{Keeps, HasRepository-after}
use Rattle.lake_laws.proofs.KeepingLemmas.{kept_expired, kept_draft, held_there}

put_same : {X : Type 0} (test : Bool) (x y : X) (had : Option X) → had ≡ Some x → (test ≡ true → x ≡ y) → cond test (Some y) had ≡ Some x
put_same true x y had is same = ap Some (sym (same refl))
put_same false x y had is same = is

put_same_map : (test : Bool) (new : KeyMapValue) (had : Option KeyMapValue) → (test ≡ true → new ≡ unwrap_or had empty)
    → unwrap_or (cond test (Some new) had) empty ≡ unwrap_or had empty
put_same_map true new had same = same refl
put_same_map false new had same = refl

-- ---- an id keeps its commit and the map of it
module _ (id : Digest) (commit : CommitRecordValue) (map : KeyMapValue) where
  -- the id has the commit, of the map
  abbrev pub HasMapped : Repository → Type 0
  HasMapped r = (commit_of r.commits id ≡ Some commit) × (map_of r id ≡ map)

  pub mapped_with_draft : (state : State) (branch : List ℕ) (r : Repository) (draft : Draft) → IsAdmissible state r draft → HasMapped r
      → HasMapped (with_draft state.cut branch draft r)
  mapped_with_draft state branch r draft may has =
      let made = record_of state.cut r.commits draft in
      let new = commit_id made in
      let old : ties id.0 new.0 ≡ true → commit_of r.commits new ≡ Some commit = λ tie. tied_stands r.commits id.0 new.0 tie ∙ has.0 in (
        get-insert nat_list_cmp_total r.commits new.0 made id.0
            ∙ put_same (ties id.0 new.0) commit made (get r.commits id.0) has.0 (λ tie. may.same_record commit (old tie)),
        ap (λ o. unwrap_or o empty) (get-insert nat_list_cmp_total r.maps new.0 draft.objects id.0)
            ∙ put_same_map (ties id.0 new.0) draft.objects (get r.maps id.0)
            (λ tie. sym (may.same_map commit (old tie)) ∙ ap (λ o. unwrap_or o empty) (tied_stands r.maps id.0 new.0 tie))
            ∙ has.1,
      )

  mapped_drafted : (state : State) (q repo branch : List ℕ) (r : Repository) (draft : Repository → Branch → Draft) (P : Repository → Branch → Type 0)
      → ((s : Repository) (b : Branch) → P s b → IsAdmissible state s (draft s b)) → HasBranch state repo branch P → ties q repo ≡ true
      → get state.repositories q ≡ Some r
      → HasMapped r → HasMapped (draft_on state.cut branch draft r)
  mapped_drafted state q repo branch r draft P admissible may tie is has =
      let on = held_there (λ s. (b : Branch) × (get s.branches branch ≡ Some b) × P s b) state q repo r tie is may in
      kept_draft HasMapped state.cut branch draft r (λ b was.
      let same : on.0 ≡ b = cc (on.1) in
      mapped_with_draft state branch r (draft r b) (admissible r b (subst (P r) same on.2)) has) has

  mapped_by : (state : State) (seat : ℕ) (q : List ℕ) (operation : Operation) → Keeps state seat q HasMapped operation
  mapped_by state seat q (Commit repo branch about) r may tie is has =
      mapped_drafted state q repo branch r _ _ (λ s b h. h.head.admissible) may tie is has
  mapped_by state seat q (Merge repo branch source strategy about) r may tie is has =
      mapped_drafted state q repo branch r _ _ (λ s b h. h.head.admissible) may tie is has
  mapped_by state seat q (Pick repo branch base source strategy about) r may tie is has =
      mapped_drafted state q repo branch r _ _ (λ s b h. h.head.admissible) may tie is has
  mapped_by state seat q (Expire now commits) r may tie is has = kept_expired HasMapped (λ s one h. h) q commits r has
  mapped_by state seat q _ r may tie is has = has

  -- an entry keeps the commit and the map of an id
  pub mapped-after : (state : State) (entry : HistoryEntry) (q : List ℕ) → Allows state entry → HasRepository state q HasMapped
      → HasRepository (after state entry) q HasMapped
  mapped-after state entry q may =
      HasRepository-after state entry q HasMapped may (λ operation kind. mapped_by state entry.by.seat q operation)

-- ---- a tag names its commit until it is deleted
module _ (tag : List ℕ) (id : Digest) where
  -- the tag names the commit
  abbrev pub HasTag : Repository → Type 0
  HasTag r = get r.tags tag ≡ Some id

  tagged_more : (r : Repository) (new : List ℕ) (commit : Digest) → get r.tags new ≡ None → HasTag r
      → HasTag (record r { tags = insert r.tags new commit })
  tagged_more r new commit fresh has =
      get-insert nat_list_cmp_total r.tags new commit tag
      ∙ put_same (ties tag new) id commit (get r.tags tag) has (λ tie. let there = tied_stands r.tags tag new tie in absurd cc)

  tagged_less : (r : Repository) (old : List ℕ) → ties tag old ≡ false → HasTag r → HasTag (record r { tags = remove r.tags old })
  tagged_less r old other has = get-remove nat_list_cmp_total r.tags old tag ∙ ap (λ b. cond b None (get r.tags tag)) other ∙ has

  tagged_by : (state : State) (seat : ℕ) (q : List ℕ) (operation : Operation) → (operation ≡ TagDelete q tag → ⊥)
      → Keeps state seat q HasTag operation
  tagged_by state seat q (TagCreate repo new commit) stays r may tie is has =
      tagged_more r new commit (held_there (λ s. get s.tags new ≡ None) state q repo r tie is (may.0, may.1, may.2.fresh)) has
  tagged_by state seat q (TagDelete repo old) stays r may tie is has =
      tagged_less r old (other (ties tag old) refl) has
    where
      other : (test : Bool) → ties tag old ≡ test → ties tag old ≡ false
      other true same = absurd (stays (λ i. TagDelete (sym (names_tied q repo tie) i) (sym (names_tied tag old same) i)))
      other false same = same
  tagged_by state seat q (Commit repo branch about) stays r may tie is has =
      kept_draft HasTag state.cut branch (λ s b. commit_draft s b about) r (λ b was. has) has
  tagged_by state seat q (Merge repo branch source strategy about) stays r may tie is has =
      kept_draft HasTag state.cut branch (merge_draft source strategy about) r (λ b was. has) has
  tagged_by state seat q (Pick repo branch base source strategy about) stays r may tie is has =
      kept_draft HasTag state.cut branch (pick_draft base source strategy about) r (λ b was. has) has
  tagged_by state seat q (Expire now commits) stays r may tie is has = kept_expired HasTag (λ s one h. h) q commits r has
  tagged_by state seat q _ stays r may tie is has = has

  -- entries that don't delete the tag keep it
  pub tagged-replay : (q : List ℕ) (entries : List HistoryEntry) (state : State) → IsLegal state entries → DeletesNot q tag entries
      → HasRepository state q HasTag → HasRepository (replay state entries) q HasTag
  tagged-replay q [] state legal stays has = has
  tagged-replay q (entry ∷ entries) state legal stays has =
      tagged-replay q entries (after state entry) legal.1 stays.1
      (HasRepository-after state entry q HasTag legal.0
      (λ operation kind. tagged_by state entry.by.seat q operation (λ deletes. stays.0 (kind ∙ ap Accepted deletes))) has)
