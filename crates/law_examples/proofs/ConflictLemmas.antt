-- Why a pick that conflicts wants a strategy.
use Rattle.std.proofs.Common.{◌≡◌, ◌∷◌, [], refl, sym, ap, subst, ◌∙◌, arith}
use Rattle.std.specs.Prelude.{Option, Some, None, is_some}
use Rattle.std.specs.Option.{unwrap_or}
use Rattle.std.specs.FinMap.{get, insert, empty, get-empty}
use Rattle.lake_base.specs.Maps.{byte_order}
use Rattle.lake_base.specs.declared.digest.Digest.{Digest}
use Rattle.lake_values.specs.Commit.{AboutValue}
use Rattle.lake_values.specs.Entry.{EntryValue}
use Rattle.lake_values.specs.KeyMap.{KeyMapValue}
use Rattle.lake_values.specs.Merging.{IsConflict, side_of}
use Rattle.lake_values.specs.Sameness.{same_entry}
use Rattle.lake_values.specs.declared.commit.Strategy.TheVariants.{Refuse, SourceWins}
use Rattle.lake_values.specs.declared.entry.Change.TheVariants.{Put}
use Rattle.lake_values.specs.declared.merge.Side.TheVariants.{Neither}
use Rattle.lake_values.proofs.KeyMapLemmas.{get_apply}
use Rattle.lake_values.proofs.MergingLemmas.{refused_to}
use Rattle.lake_format.specs.declared.cut.Cut.{Cut}
use Rattle.lake_model.specs.declared.history.Operation.TheVariants.{Pick}
use Rattle.lake_model.specs.declared.history.SealFor.TheVariants as seal
use Rattle.lake_model.specs.State.{Branch, HasCommit, HasLiveCommit, Repository, State, head_map, map_of, sealed_map}
use Rattle.lake_model.specs.Commits.{IsAdmissible, IsPick, pick_draft}
use Rattle.lake_model.specs.Uncommitted.{with_staged}
use Rattle.lake_model.specs.History.{Allows, after, replay}
use Rattle.law_examples.specs.HistoryWords.{quickstart, main, first, outside, head_of, put_entry, seal_entry, commit_entry, a}
use Rattle.law_examples.specs.Picks.{AreThree, IsPickAdmissible, larger_object, last_commit, new_commit, pick_entry, twice_committed_lake}
use Rattle.law_examples.proofs.SceneLemmas.{scene, counted, get_one, in_main, on_main, the_main}
use Rattle.law_examples.proofs.EntriesLemmas.{after_seal_of_one, apply_nothing, may}
use Rattle.law_examples.proofs.CommitsLemmas.{after_committing, apart_at, at_new, new_id, new_map, new_record, with_new}
use Rattle.law_examples.proofs.InsertsLemmas.{get_other, same_digest, stands}
use Rattle.law_examples.proofs.MapsLemmas.{first_map, get_put, head_scene, no_entry}
use Rattle.law_examples.proofs.StaysStagedLemmas.{a_sealed, has_a, second_state}
use Rattle.law_examples.proofs.LakesLemmas.{allows_by}
use Rattle.law_examples.proofs.PicksLemmas.{b1, committed_scene, first_there, k, new_is, r0, r1, s}

-- the object is gone in the source, and another one in the destination
neither_side : side_of (Some outside) None (Some larger_object) ≡ Neither
unfolding same_entry
neither_side = refl

module _ (cut : Cut) (about other : AboutValue) where
  abbrev s2 : State
  s2 = counted (counted (s cut about))

  abbrev larger_sealed : Branch
  larger_sealed = record (b1 cut about) { sealed = insert empty a (Put larger_object) }

  abbrev k2 : Digest
  k2 = new_id s2 (r1 cut about) larger_sealed other

  abbrev r2 : Repository
  r2 = with_new s2 (r1 cut about) larger_sealed other

  abbrev b2 : Branch
  b2 = at_new s2 (r1 cut about) larger_sealed other

  twice_scene : twice_committed_lake cut about other ≡ scene (counted s2) r2 b2
  unfolding twice_committed_lake
  twice_scene =
      ap (λ (l : State). replay l (put_entry a larger_object ∷ seal_entry ∷ commit_entry other ∷ [])) (committed_scene cut about)
      ∙ ap (λ (l : State). replay (counted l) (seal_entry ∷ commit_entry other ∷ []))
      (in_main (with_staged a (Put larger_object)) (s cut about) (r1 cut about) (b1 cut about))
      ∙ ap (λ (l : State). after l (commit_entry other))
      (after_seal_of_one (counted (s cut about)) (r1 cut about) (with_staged a (Put larger_object) (b1 cut about)) 1 seal.Commit a (Put larger_object) refl)
      ∙ after_committing s2 (r1 cut about) larger_sealed other

  last_is : last_commit cut about other ≡ k2
  unfolding last_commit
  last_is = ap head_of twice_scene ∙ head_scene (counted s2) r2 b2

  module _ (three : AreThree cut about other) where
    early : first cut ≡ k cut about → ⊥
    early is = three.early (is ∙ sym (new_is cut about))

    late : k cut about ≡ k2 → ⊥
    late is = three.late (new_is cut about ∙ (is ∙ sym last_is))

    ends : first cut ≡ k2 → ⊥
    ends is = three.ends (is ∙ sym last_is)

    -- what the three maps have at `a`
    base_has : get (map_of r2 (k cut about)) a ≡ Some outside
    base_has =
        ap (λ (o : Option KeyMapValue). get (unwrap_or o empty) a)
        (get_other (r1 cut about).maps k2.0 (sealed_map (r1 cut about) larger_sealed) (k cut about).0 (λ is. late (same_digest (k cut about) k2 is)))
        ∙ ap (λ (m : KeyMapValue). get m a) (new_map (second_state cut) (r0 cut about) (a_sealed cut) about) ∙ has_a cut

    source_lacks : get (map_of r2 (first cut)) a ≡ None
    source_lacks =
        ap (λ (o : Option KeyMapValue). get (unwrap_or o empty) a)
        (get_other (r1 cut about).maps k2.0 (sealed_map (r1 cut about) larger_sealed) (first cut).0 (λ is. ends (same_digest (first cut) k2 is)))
        ∙ ap (λ (o : Option KeyMapValue). get (unwrap_or o empty) a) (get_other (r0 cut about).maps (k cut about).0 (sealed_map (r0 cut about) (a_sealed cut))
        (first cut).0 (λ is. early (same_digest (first cut) (k cut about) is)))
        ∙ ap (λ (m : KeyMapValue). get m a) (first_map cut (first cut)) ∙ no_entry a

    dest_has : get (head_map r2 b2) a ≡ Some larger_object
    dest_has =
        ap (λ (m : KeyMapValue). get m a) (new_map s2 (r1 cut about) larger_sealed other)
        ∙ get_apply (insert empty a (Put larger_object)) (head_map (r1 cut about) larger_sealed) a ∙ simp (get_one a (Put larger_object) a)

    conflict : IsConflict (map_of r2 (k cut about)) (map_of r2 (first cut)) (head_map r2 b2) a
    conflict =
        ap (λ (o : Option EntryValue). side_of o (get (map_of r2 (first cut)) a) (get (head_map r2 b2) a)) base_has
        ∙ ap (λ (o : Option EntryValue). side_of (Some outside) o (get (head_map r2 b2) a)) source_lacks
        ∙ ap (side_of (Some outside) None) dest_has
        ∙ neither_side

    pub conflict_refused : (third : AboutValue) → Allows (twice_committed_lake cut about other) (pick_entry (new_commit cut about) (first cut) Refuse third) → ⊥
    conflict_refused third allowed =
        let moved : Allows (scene (counted s2) r2 b2) (pick_entry (k cut about) (first cut) Refuse third) =
        subst (λ (id : Digest). Allows (scene (counted s2) r2 b2) (pick_entry id (first cut) Refuse third)) (new_is cut about)
        (subst (λ (l : State). Allows l (pick_entry (new_commit cut about) (first cut) Refuse third)) twice_scene allowed) in
        let settled =
        (the_main (IsPick (scene (counted s2) r2 b2) main (k cut about) (first cut) Refuse third) (counted s2) r2 b2 moved.possible).sides.settled in
        let refused = refused_to (map_of r2 (k cut about)) (map_of r2 (first cut)) (head_map r2 b2) Refuse (refl, (a, conflict)) in
        absurd (cc (sym settled ∙ refused))

    base_there : HasCommit r2 (k cut about)
    base_there = stands (r1 cut about).commits k2.0 (new_record s2 (r1 cut about) larger_sealed other) (k cut about).0
        (ap is_some (get_put (r0 cut about).commits (k cut about).0 (new_record (second_state cut) (r0 cut about) (a_sealed cut) about)))

    source_live : HasLiveCommit r2 (first cut)
    source_live = (
      stands (r1 cut about).commits k2.0 (new_record s2 (r1 cut about) larger_sealed other) (first cut).0 (first_there cut about),
      ap is_some (get-empty {X = Unit {0}} byte_order (first cut).0),
    )

    pub conflict_allowed : (third : AboutValue) → IsPickAdmissible (twice_committed_lake cut about other) (new_commit cut about) (first cut) SourceWins third
        → Allows (twice_committed_lake cut about other) (pick_entry (new_commit cut about) (first cut) SourceWins third)
    conflict_allowed third admissible =
        let of_k : IsPickAdmissible (scene (counted s2) r2 b2) (k cut about) (first cut) SourceWins third =
        subst (λ (id : Digest). IsPickAdmissible (scene (counted s2) r2 b2) id (first cut) SourceWins third) (new_is cut about)
        (subst (λ (l : State). IsPickAdmissible l (new_commit cut about) (first cut) SourceWins third) twice_scene admissible) in
        allows_by (pick_entry (new_commit cut about) (first cut) SourceWins third) twice_scene
        (subst (λ (id : Digest). Allows (scene (counted s2) r2 b2) (pick_entry id (first cut) SourceWins third)) (sym (new_is cut about))
        (may (counted s2) r2 b2 1 (Pick quickstart main (k cut about) (first cut) SourceWins third) refl (omega arith)
        (on_main (IsPick (scene (counted s2) r2 b2) main (k cut about) (first cut) SourceWins third) (counted s2) r2 b2 (record {
          there = base_there;
          live = source_live;
          sides = record {
            clean = apply_nothing (head_map r2 b2);
            changed = λ is. apart_at (map_of r2 (k cut about)) (map_of r2 (first cut)) a outside base_has source_lacks (sym is);
            settled = refl;
          };
          head = record {
            allowed = refl;
            admissible =
                the_main (λ r x. IsAdmissible (scene (counted s2) r2 b2) r (pick_draft (k cut about) (first cut) SourceWins third r x)) (counted s2) r2 b2 of_k;
          };
        }))))
