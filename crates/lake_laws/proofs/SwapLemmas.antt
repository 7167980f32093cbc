-- A new commit that doesn't clash is admissible, and may become the head.
use Rattle.std.proofs.Common.{◌≡◌, ℕ, false, List, ◌∷◌, refl, sym, ap, subst, ◌∙◌, ◌⊎◌, inl, inr, true≢false}
use Rattle.std.proofs.lemmas.Bool.{cases_Bool}
use Rattle.std.proofs.lemmas.List.Elements.{Contains-append_right}
use Rattle.std.proofs.lemmas.Slice.Eq.{bytes_eq-Decides}
use Rattle.std.specs.Prelude.{Some, None, option_map, option_and_then}
use Rattle.std.specs.Option.{option_or}
use Rattle.std.specs.Str.{bytes_eq}
use Rattle.std.specs.FinMap.{get}
use Rattle.std.specs.List.{Contains}
use Rattle.lake_values.specs.Commit.{CommitRecordValue}
use Rattle.lake_values.proofs.OrderLemmas.{Contains-first, Contains-later}
use Rattle.lake_format.specs.Cutting.{files}
use Rattle.lake_format.specs.Spelling.{commit_id, commit_spelling, file_name}
use Rattle.lake_model.specs.declared.fault.StepFault.TheVariants.{Expired}
use Rattle.lake_model.specs.State.{Branch, Repository, State, is_expired}
use Rattle.lake_model.specs.Commits.{AreKept, Draft, IsAdmissible, MayBecomeHead, StandsBefore, bytes_of, record_of}
use Rattle.lake_model.specs.Refusals.{IsClashOrNone}
use Rattle.lake_model.specs.Steps.{SwapRule, expired_fault, swap_expired, new_commit}
use Rattle.lake_laws.specs.Prepared.{IsPreparedDraft}
use Rattle.lake_laws.proofs.CauseLemmas.{or_none, test_fails}
use Rattle.lake_laws.proofs.PlaceLemmas.{answered, asked}

-- of two that stand in a list the later one is in it
later_within : {X : Type 0} (xs : List X) (one other : X) → StandsBefore xs one other → Contains xs other
later_within xs one other stands =
    subst (λ ys. Contains ys other) (sym stands.parts)
    (Contains-append_right stands.before (other ∷ stands.after) other (Contains-first other stands.after))

module _ (state : State) (r : Repository) (draft : Draft) (none : IsClashOrNone state r draft None) where
  -- bytes of one name that don't clash are the same
  one_content : (new kept : List ℕ) → Contains (bytes_of state.cut r.commits draft) new
      → AreKept state kept ⊎ StandsBefore (files state.cut draft.objects) kept new → file_name new ≡ file_name kept → new ≡ kept
  one_content new kept within are name = elim (cases_Bool (bytes_eq new kept)) [
    | inl same ↦ (bytes_eq-Decides new kept).0 same
    | inr differ ↦ absurd (none (record { name = file_name new; kept = kept; new = new }) (record {
      is_new = within;
      is_kept = are;
      name_of_new = refl;
      name_of_kept = name;
      apart = λ same. true≢false (sym ((bytes_eq-Decides new kept).1 same) ∙ differ);
    }))
  ]

  -- a new commit whose id isn't expired is admissible
  pub admissible : (branch : List ℕ) (b : Branch) → IsPreparedDraft state branch r b draft
      → is_expired r (commit_id (record_of state.cut r.commits draft)) ≡ false → IsAdmissible state r draft
  admissible branch b prepared live = record {
    live = live;
    same_record = prepared.same_record;
    same_map = prepared.same_map;
    apart = λ new kept within are. one_content new kept within (inl are);
    files_apart = λ new kept stands.
        one_content new kept
        (Contains-later (commit_spelling (record_of state.cut r.commits draft)) new (files state.cut draft.objects)
        (later_within (files state.cut draft.objects) kept new stands)) (inr stands);
  }

  -- and may become the head
  pub becomes_head : (branch : List ℕ) (b : Branch) → IsPreparedDraft state branch r b draft
      → is_expired r (commit_id (record_of state.cut r.commits draft)) ≡ false → MayBecomeHead state branch r b draft
  becomes_head branch b prepared live = record { allowed = prepared.allowed; admissible = admissible branch b prepared live }

module _ (state : State) (repo branch : List ℕ) (rule : SwapRule) (r : Repository) (b : Branch) (is : get state.repositories repo ≡ Some r)
    (has : get r.branches branch ≡ Some b) where
  -- the new commit
  pub new_commit_is : new_commit state repo branch rule ≡ Some (record_of state.cut r.commits (rule.draft r b))
  new_commit_is =
      answered state repo (λ x. option_map (λ y. record_of state.cut x.commits (rule.draft x y)) (get x.branches branch)) r _ is
      (ap (option_map (λ y. record_of state.cut r.commits (rule.draft r y))) has)

  both_live : swap_expired state repo branch rule ≡ None
      → (option_and_then (expired_fault r) rule.source ≡ None)
      × (option_and_then (λ commit. expired_fault r (commit_id commit)) (new_commit state repo branch rule) ≡ None)
  both_live none = or_none _ _ (asked state repo
      (λ x. option_or (option_and_then (expired_fault x) rule.source)
      (option_and_then (λ commit. expired_fault x (commit_id commit)) (new_commit state repo branch rule))) r None is none)

  -- the source isn't expired, where there is one
  pub source_live : swap_expired state repo branch rule ≡ None → option_and_then (expired_fault r) rule.source ≡ None
  source_live none = (both_live none).0

  -- the new commit's id isn't expired
  pub new_live : swap_expired state repo branch rule ≡ None
      → is_expired r (commit_id (record_of state.cut r.commits (rule.draft r b))) ≡ false
  new_live none =
      test_fails _ (Expired (commit_id (record_of state.cut r.commits (rule.draft r b))))
      (ap (option_and_then (λ (commit : CommitRecordValue). expired_fault r (commit_id commit))) (sym new_commit_is) ∙ (both_live none).1)
