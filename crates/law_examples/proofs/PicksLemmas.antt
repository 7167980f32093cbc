-- Why picks are allowed and refused.
use Rattle.std.proofs.Common.{◌≡◌, ◌<◌, ◌∷◌, [], ℕ, List, Bool, true, false, cond, refl, sym, ap, subst, ◌∙◌, arith, inl, inr}
use Rattle.std.proofs.lemmas.Bool.{cases_Bool}
use Rattle.std.specs.Prelude.{Option, Some, None, is_some, is_none, position, option_and_then, not, ◌&&◌, if◌then◌else◌}
use Rattle.std.specs.Option.{unwrap_or}
use Rattle.std.specs.FinMap.{find, get, insert, empty, get-empty}
use Rattle.lake_base.specs.Maps.{byte_order}
use Rattle.lake_base.specs.declared.digest.Digest.{Digest}
use Rattle.lake_values.specs.Ancestry.{commit_of}
use Rattle.lake_values.specs.Commit.{AboutValue, CommitRecordValue}
use Rattle.lake_values.specs.Entry.{EntryValue}
use Rattle.lake_values.specs.KeyMap.{KeyMapValue}
use Rattle.lake_values.specs.Merging.{is_refused}
use Rattle.lake_values.specs.Sameness.{same_value}
use Rattle.lake_values.specs.declared.commit.Strategy.TheVariants.{Refuse}
use Rattle.lake_values.specs.declared.entry.Change.TheVariants.{Put}
use Rattle.lake_values.specs.declared.merge.Side.TheVariants.{Source, Destination, Neither}
use Rattle.lake_values.specs.declared.settings.NoteName.TheVariants as name
use Rattle.lake_values.proofs.KeyMapLemmas.{get_apply, same_as_itself}
use Rattle.lake_values.proofs.MergingLemmas.{refused_from}
use Rattle.lake_format.specs.Spelling.{commit_id}
use Rattle.lake_format.specs.declared.cut.Cut.{Cut}
use Rattle.lake_model.specs.declared.history.Operation.TheVariants.{Copy, NoteSet, Pick}
use Rattle.lake_model.specs.declared.history.CopySource.TheVariants as source
use Rattle.lake_model.specs.Branches.{IsUnprotected}
use Rattle.lake_model.specs.declared.history.SealFor.TheVariants as seal
use Rattle.lake_model.specs.State.{Branch, HasCommit, HasLiveCommit, Notes, Repository, State, head_map, is_expired, map_of, sealed_map}
use Rattle.lake_model.specs.Commits.{Draft, IsAdmissible, IsCommittable, IsPick, denied_by, first_draft, pick_draft, record_of, with_head}
use Rattle.lake_model.specs.Removal.{with_expired}
use Rattle.lake_model.specs.Parts.{in_repository}
use Rattle.lake_model.specs.Uncommitted.{copied_map, with_staged}
use Rattle.lake_model.specs.History.{Allows, after, replay}
use Rattle.law_examples.specs.HistoryWords.{quickstart, main, first, outside, head_of, entry_of, put_entry, seal_entry, commit_entry, a, b}
use Rattle.law_examples.specs.RefusedLakes.{ready_lake}
use Rattle.law_examples.specs.Picks.{IsPickAdmissible, asking_lake, barred_lake, barred_pick_lake, committed_lake, copy_entry, expired_head_lake, new_commit}
use Rattle.law_examples.specs.Picks.{new_pick, pick_entry, reason, reason_wanted, sealed_lake, with_reason, without_metadata}
use Rattle.law_examples.proofs.SceneLemmas.{scene, counted, get_one, in_quickstart, main_there, on_main, the_main}
use Rattle.law_examples.proofs.BranchesLemmas.{head_in, in_draft, with_drafted}
use Rattle.law_examples.proofs.EntriesLemmas.{after_put_outside, after_seal_of_one, apply_nothing, first_repository, may}
use Rattle.law_examples.proofs.CommitsLemmas.{after_committing, apart_at, at_new, new_id, new_map, new_record, with_new}
use Rattle.law_examples.proofs.InsertsLemmas.{get_other, same_digest, stands, stood}
use Rattle.law_examples.proofs.MapsLemmas.{first_map, get_put, head_scene, no_entry}
use Rattle.law_examples.proofs.StaysStagedLemmas.{a_sealed, has_a, second_state}
use Rattle.law_examples.proofs.LakesLemmas.{ready_scene, refuses_by, with_notes}
use Rattle.law_examples.proofs.CommittingLemmas.{main_itself}

-- where source and destination are the same nothing conflicts
same_side : (is other : Bool) → other ≡ true → cond is Destination (cond is Source (cond other Source Neither)) ≡ Neither → ⊥
same_side true other e conflict = absurd cc
same_side false true e conflict = absurd cc
same_side false false e conflict = absurd cc

same_settled : (base map : KeyMapValue) → is_refused Refuse base map map ≡ false
same_settled base map = elim (cases_Bool (is_refused Refuse base map map)) [
  | inl refused ↦
      let found = refused_from base map map Refuse refused in
      absurd (same_side (same_value (get map found.1.0) (get base found.1.0)) (same_value (get map found.1.0) (get map found.1.0))
      (same_as_itself (get map found.1.0)) found.1.1)
  | inr free ↦ free
]

module _ (cut : Cut) (about : AboutValue) where
  abbrev pub r0 : Repository
  r0 = first_repository cut

  abbrev pub s : State
  s = counted (second_state cut)

  abbrev pub k : Digest
  k = new_id (second_state cut) r0 (a_sealed cut) about

  abbrev pub r1 : Repository
  r1 = with_new (second_state cut) r0 (a_sealed cut) about

  abbrev pub b1 : Branch
  b1 = at_new (second_state cut) r0 (a_sealed cut) about

  pub committed_scene : committed_lake cut about ≡ scene s r1 b1
  unfolding committed_lake
  committed_scene = ap (λ (l : State). after l (commit_entry about)) (ready_scene cut) ∙ after_committing (second_state cut) r0 (a_sealed cut) about

  pub new_is : new_commit cut about ≡ k
  unfolding new_commit
  new_is = ap head_of committed_scene ∙ head_scene s r1 b1

  pub first_there : HasCommit r1 (first cut)
  first_there = stands r0.commits k.0 (new_record (second_state cut) r0 (a_sealed cut) about)
      (first cut).0 (ap is_some (get_put empty (first cut).0 (record_of cut empty (first_draft 0))))

  new_live : HasLiveCommit r1 k
  new_live = (ap is_some (get_put r0.commits k.0 (new_record (second_state cut) r0 (a_sealed cut) about)), ap is_some (get-empty {X = Unit {0}} byte_order k.0))

  one_of_two : (id : Digest) → HasCommit r1 id → (first cut ≡ id → ⊥) → (new_commit cut about ≡ id → ⊥) → ⊥
  one_of_two id there not_first not_new = elim (stood r0.commits k.0 (new_record (second_state cut) r0 (a_sealed cut) about) id.0 there) [
    | inl is ↦ not_new (new_is ∙ sym (same_digest id k is))
    | inr old ↦ elim (stood empty (first cut).0 (record_of cut empty (first_draft 0)) id.0 old) [
      | inl is ↦ not_first (sym (same_digest id (first cut) is))
      | inr in_empty ↦ absurd (cc (sym (ap is_some (get-empty {X = CommitRecordValue} byte_order id.0)) ∙ in_empty))
    ]
  ]

  -- the maps of the two commits
  new_has : get (map_of r1 k) a ≡ Some outside
  new_has = ap (λ (m : KeyMapValue). get m a) (new_map (second_state cut) r0 (a_sealed cut) about) ∙ has_a cut

  first_lacks : (first cut ≡ k → ⊥) → get (map_of r1 (first cut)) a ≡ None
  first_lacks apart =
      ap (λ (o : Option KeyMapValue). get (unwrap_or o empty) a)
      (get_other r0.maps k.0 (sealed_map r0 (a_sealed cut)) (first cut).0 (λ is. apart (same_digest (first cut) k is)))
      ∙ ap (λ (m : KeyMapValue). get m a) (first_map cut (first cut)) ∙ no_entry a

  -- the repository with other settings
  abbrev pub noted : Notes → Repository
  noted notes = record r1 { notes = notes }

  pub pick_where : (t : State) (notes : Notes) (other : AboutValue) → t.stopped ≡ false → t.entries < 4194304 → (first cut ≡ k → ⊥)
      → denied_by notes.hooks main (head_map r1 b1) (pick_draft (first cut) k Refuse other r1 b1) ≡ None
      → IsPickAdmissible (scene t (noted notes) b1) (first cut) k Refuse other → Allows (scene t (noted notes) b1) (pick_entry (first cut) k Refuse other)
  pick_where t notes other running room apart free admissible = may t (noted notes) b1 1 (Pick quickstart main (first cut) k Refuse other) running room
      (on_main (IsPick (scene t (noted notes) b1) main (first cut) k Refuse other) t (noted notes) b1 (record {
        there = first_there;
        live = new_live;
        sides = record {
          clean = apply_nothing (map_of r1 k);
          changed = apart_at (map_of r1 k) (map_of r1 (first cut)) a outside new_has (first_lacks apart);
          settled = same_settled (map_of r1 (first cut)) (map_of r1 k);
        };
        head = record {
          allowed = free;
          admissible =
              the_main (λ r x. IsAdmissible (scene t (noted notes) b1) r (pick_draft (first cut) k Refuse other r x)) t (noted notes) b1 admissible;
        };
      }))

  -- a lake that is a scene, and the new commit by its id
  pub to_scene : (P : State → Digest → Type 0) {lake : State} {t : State} → lake ≡ t → P lake (new_commit cut about) → P t k
  to_scene P {lake = lake} {t = t} is p = subst (P t) new_is (subst (λ (l : State). P l (new_commit cut about)) is p)

  pub of_scene : (P : State → Digest → Type 0) {lake : State} {t : State} → lake ≡ t → P t k → P lake (new_commit cut about)
  of_scene P {lake = lake} {t = t} is p = subst (λ (l : State). P l (new_commit cut about)) (sym is) (subst (P t) (sym new_is) p)

  pub apart_k : (first cut ≡ new_commit cut about → ⊥) → first cut ≡ k → ⊥
  apart_k apart is = apart (is ∙ sym new_is)

  pub pick_allowed : (other : AboutValue) → (first cut ≡ new_commit cut about → ⊥)
      → IsPickAdmissible (committed_lake cut about) (first cut) (new_commit cut about) Refuse other
      → Allows (committed_lake cut about) (pick_entry (first cut) (new_commit cut about) Refuse other)
  pick_allowed other apart admissible = of_scene (λ (l : State) (id : Digest). Allows l (pick_entry (first cut) id Refuse other)) committed_scene
      (pick_where s r1.notes other refl (omega arith)
      (apart_k apart) refl (to_scene (λ (l : State) (id : Digest). IsPickAdmissible l (first cut) id Refuse other) committed_scene admissible))

  pub without_base : (other : AboutValue) (id : Digest) → (first cut ≡ id → ⊥) → (new_commit cut about ≡ id → ⊥)
      → Allows (committed_lake cut about) (pick_entry id (new_commit cut about) Refuse other) → ⊥
  without_base other id not_first not_new = refuses_by (pick_entry id (new_commit cut about) Refuse other) committed_scene (λ allowed.
      one_of_two id (the_main (IsPick (scene s r1 b1) main id (new_commit cut about) Refuse other) s r1 b1 allowed.possible).there not_first not_new)

  pub without_source : (other : AboutValue) (id : Digest) → (first cut ≡ id → ⊥) → (new_commit cut about ≡ id → ⊥)
      → Allows (committed_lake cut about) (pick_entry (first cut) id Refuse other) → ⊥
  without_source other id not_first not_new = refuses_by (pick_entry (first cut) id Refuse other) committed_scene (λ allowed.
      one_of_two id (the_main (IsPick (scene s r1 b1) main (first cut) id Refuse other) s r1 b1 allowed.possible).live.0 not_first not_new)

  expired_head_scene : expired_head_lake cut about ≡ scene s (with_expired k r1) b1
  expired_head_scene =
      ap (λ (id : Digest). in_repository quickstart (with_expired id) (committed_lake cut about)) new_is
      ∙ ap (in_repository quickstart (with_expired k)) committed_scene
      ∙ in_quickstart (with_expired k) s r1 b1

  new_lost : is_expired (with_expired k r1) k ≡ true
  new_lost = ap is_some (get_put {X = Unit {0}} empty k.0 tt)

  pub expired_source : (other : AboutValue) → Allows (expired_head_lake cut about) (pick_entry (first cut) (new_commit cut about) Refuse other) → ⊥
  expired_source other allowed =
      let moved = to_scene (λ (l : State) (id : Digest). Allows l (pick_entry (first cut) id Refuse other)) expired_head_scene allowed in
      let kept = (the_main (IsPick (scene s (with_expired k r1) b1) main (first cut) k Refuse other) s (with_expired k r1) b1 moved.possible).live.1 in
      absurd (cc (sym kept ∙ new_lost))

  pub same_map : (other : AboutValue) → Allows (committed_lake cut about) (pick_entry (first cut) (first cut) Refuse other) → ⊥
  same_map other = refuses_by (pick_entry (first cut) (first cut) Refuse other) committed_scene (λ allowed.
      (the_main (IsPick (scene s r1 b1) main (first cut) (first cut) Refuse other) s r1 b1 allowed.possible).sides.changed refl)

  -- the branch with the object at `b` sealed
  abbrev resealed : Branch
  resealed = record b1 { sealed = insert empty b (Put outside) }

  sealed_scene : sealed_lake cut about ≡ scene (counted (counted s)) r1 resealed
  sealed_scene =
      ap (λ (l : State). replay l (put_entry b outside ∷ seal_entry ∷ [])) committed_scene
      ∙ ap (λ (l : State). after l seal_entry) (after_put_outside s r1 b1 b)
      ∙ after_seal_of_one (counted s) r1 (with_staged b (Put outside) b1) 1 seal.Commit b (Put outside) refl

  sealed_has : get (sealed_map r1 resealed) b ≡ Some outside
  sealed_has = get_apply (insert empty b (Put outside)) (map_of r1 k) b ∙ simp (get_one b (Put outside) b)

  head_lacks : get (head_map r1 resealed) b ≡ None
  head_lacks =
      ap (λ (m : KeyMapValue). get m b) (new_map (second_state cut) r0 (a_sealed cut) about)
      ∙ get_apply (insert empty a (Put outside)) (head_map r0 (a_sealed cut)) b ∙ simp (get_one a (Put outside) b, first_map cut, no_entry)

  pub over_sealed : (other : AboutValue) → Allows (sealed_lake cut about) (pick_entry (first cut) (new_commit cut about) Refuse other) → ⊥
  over_sealed other = refuses_by (pick_entry (first cut) (new_commit cut about) Refuse other) sealed_scene (λ allowed.
      let clean = (the_main (IsPick (scene (counted (counted s)) r1 resealed) main (first cut) (new_commit cut about) Refuse other)
      (counted (counted s)) r1 resealed allowed.possible).sides.clean in
      apart_at (sealed_map r1 resealed) (head_map r1 resealed) b outside sealed_has head_lacks clean)

  -- what a copy from a commit finds, by whether it is there and whether it is expired
  abbrev found : Digest → List ℕ → Bool → Bool → Option EntryValue
  found id path there lost = option_and_then (λ (m : KeyMapValue). get m path) (if there && not lost then Some (map_of r1 id) else None)

  abbrev IsCopy : Digest → List ℕ → Repository → Branch → Type 0
  IsCopy id path r x = IsUnprotected r main × (option_and_then (λ (m : KeyMapValue). get m path) (copied_map r (source.Commit id)) ≡ Some outside)

  found_new : (path : List ℕ) → found k path (is_some (commit_of r1.commits k)) (is_expired r1 k) ≡ get (map_of r1 k) path
  found_new path = ap (λ (t : Bool). found k path t (is_expired r1 k)) new_live.0 ∙ ap (found k path true) new_live.1

  pub copy_allowed : Allows (committed_lake cut about) (copy_entry (new_commit cut about) a)
  copy_allowed = of_scene (λ (l : State) (id : Digest). Allows l (copy_entry id a)) committed_scene
      (may s r1 b1 1 (Copy quickstart main b (source.Commit k) a outside) refl (omega arith)
      (on_main (IsCopy k a) s r1 b1 (refl, found_new a ∙ new_has)))

  pub copy_refused : Allows (expired_head_lake cut about) (copy_entry (new_commit cut about) a) → ⊥
  copy_refused allowed =
      let moved = to_scene (λ (l : State) (id : Digest). Allows l (copy_entry id a)) expired_head_scene allowed in
      let has = (the_main (IsCopy k a) s (with_expired k r1) b1 moved.possible).1 in
      let none : found k a true true ≡ Some outside =
      sym (ap (λ (t : Bool). found k a t (is_expired (with_expired k r1) k)) new_live.0 ∙ ap (found k a true) new_lost) ∙ has in
      absurd cc

  pub copy_of_nothing : Allows (committed_lake cut about) (copy_entry (new_commit cut about) b) → ⊥
  copy_of_nothing allowed =
      let moved = to_scene (λ (l : State) (id : Digest). Allows l (copy_entry id b)) committed_scene allowed in
      let has = (the_main (IsCopy k b) s r1 b1 moved.possible).1 in
      absurd (cc (sym head_lacks ∙ (sym (found_new b) ∙ has)))

  pub copy_of_none : (id : Digest) → (first cut ≡ id → ⊥) → (new_commit cut about ≡ id → ⊥) → Allows (committed_lake cut about) (copy_entry id a) → ⊥
  copy_of_none id not_first not_new = refuses_by (copy_entry id a) committed_scene (λ allowed.
      let has = (the_main (IsCopy id a) s r1 b1 allowed.possible).1 in
      elim (cases_Bool (is_some (commit_of r1.commits id))) [
        | inl there ↦ one_of_two id there not_first not_new
        | inr lacking ↦
            let none : found id a false (is_expired r1 id) ≡ Some outside = sym (ap (λ (t : Bool). found id a t (is_expired r1 id)) lacking) ∙ has in
            absurd cc
      ])

  -- where a hook wants a reason
  abbrev asked : Repository
  asked = with_notes reason_wanted name.Hooks r1

  asking_scene : asking_lake cut about ≡ scene (counted s) asked b1
  asking_scene =
      ap (λ (l : State). after l (entry_of (NoteSet quickstart name.Hooks (Some reason_wanted)))) committed_scene
      ∙ ap counted (in_quickstart (with_notes reason_wanted name.Hooks) s r1 b1)

  -- what the hook says of a pick
  told : (other : AboutValue) → denied_by asked.notes.hooks main (head_map r1 b1) (pick_draft (first cut) k Refuse other r1 b1)
      ≡ position (λ (x : ℕ). is_none (find byte_order reason other.metadata)) (0 ∷ [])
  told other = ap (λ (t : Bool). position (λ (x : ℕ). t && is_none (find byte_order reason other.metadata)) (0 ∷ [])) main_itself

  pub reasoned : (other : AboutValue) → (first cut ≡ new_commit cut about → ⊥)
      → IsPickAdmissible (asking_lake cut about) (first cut) (new_commit cut about) Refuse (with_reason other)
      → Allows (asking_lake cut about) (pick_entry (first cut) (new_commit cut about) Refuse (with_reason other))
  reasoned other apart admissible = of_scene (λ (l : State) (id : Digest). Allows l (pick_entry (first cut) id Refuse (with_reason other))) asking_scene
      (pick_where (counted s) asked.notes (with_reason other) refl (omega arith) (apart_k apart) (told (with_reason other))
      (to_scene (λ (l : State) (id : Digest). IsPickAdmissible l (first cut) id Refuse (with_reason other)) asking_scene admissible))

  pub unreasoned : (other : AboutValue) → Allows (asking_lake cut about) (pick_entry (first cut) (new_commit cut about) Refuse (without_metadata other)) → ⊥
  unreasoned other allowed =
      let moved = to_scene (λ (l : State) (id : Digest). Allows l (pick_entry (first cut) id Refuse (without_metadata other))) asking_scene allowed in
      let free =
      (the_main (IsPick (scene (counted s) asked b1) main (first cut) k Refuse (without_metadata other)) (counted s) asked b1 moved.possible).head.allowed in
      absurd (cc (sym (told (without_metadata other)) ∙ free))

  -- the lake before the commit, whose id is expired
  abbrev barred : Repository
  barred = with_expired k r0

  barred_scene : barred_lake cut about ≡ scene (second_state cut) barred (a_sealed cut)
  barred_scene =
      ap (λ (id : Digest). in_repository quickstart (with_expired id) (ready_lake cut)) new_is
      ∙ ap (in_repository quickstart (with_expired k)) (ready_scene cut)
      ∙ in_quickstart (with_expired k) (second_state cut) r0 (a_sealed cut)

  pub expired_commit : Allows (barred_lake cut about) (commit_entry about) → ⊥
  expired_commit = refuses_by (commit_entry about) barred_scene (λ allowed.
      let kept = (the_main (IsCommittable (scene (second_state cut) barred (a_sealed cut)) main about)
      (second_state cut) barred (a_sealed cut) allowed.possible).head.admissible.live in
      let lost = ap is_some (get_put {X = Unit {0}} empty k.0 tt) in
      absurd (cc (sym kept ∙ lost)))

  -- the commit of the pick
  module _ (other : AboutValue) where
    abbrev picking : Repository → Branch → Draft
    picking = pick_draft (first cut) k Refuse other

    abbrev picked : Digest
    picked = commit_id (record_of s.cut r1.commits (picking r1 b1))

    picked_is : head_of (after (committed_lake cut about) (new_pick cut about other)) ≡ picked
    picked_is = of_scene (λ (l : State) (id : Digest). head_of (after l (pick_entry (first cut) id Refuse other)) ≡ picked) committed_scene
        (ap (λ (l : State). head_of (counted l)) (in_draft s r1 (insert empty main b1) main b1 (main_there b1) picking)
        ∙ head_in (counted s) (with_drafted s r1 (picking r1 b1)) (insert (insert empty main b1) main (with_head picked b1)) main (with_head picked b1)
        (get_put (insert empty main b1) main (with_head picked b1)))

    abbrev lost_pick : Repository
    lost_pick = with_expired picked r1

    lost_pick_scene : barred_pick_lake cut about other ≡ scene s lost_pick b1
    lost_pick_scene =
        ap (λ (id : Digest). in_repository quickstart (with_expired id) (committed_lake cut about)) picked_is
        ∙ ap (in_repository quickstart (with_expired picked)) committed_scene
        ∙ in_quickstart (with_expired picked) s r1 b1

    pub expired_pick : Allows (barred_pick_lake cut about other) (new_pick cut about other) → ⊥
    expired_pick allowed =
        let moved = to_scene (λ (l : State) (id : Digest). Allows l (pick_entry (first cut) id Refuse other)) lost_pick_scene allowed in
        let kept = (the_main (IsPick (scene s lost_pick b1) main (first cut) k Refuse other) s lost_pick b1 moved.possible).head.admissible.live in
        let lost = ap is_some (get_put {X = Unit {0}} empty picked.0 tt) in
        absurd (cc (sym kept ∙ lost))
