-- The pairs of a lake's keeper after a change, and after one that the keeper refused.
use Rattle.std.proofs.Common.{◌≡◌, ◌++◌, ◌∷◌, [], List, refl, sym, ap, ◌∙◌, subst, inl, inr}
use Rattle.std.specs.Prelude.{◌⊎◌, true, false, Option, Some, None, IfSome, Err, is_some}
use Rattle.std.specs.List.{Contains}
use Rattle.std.proofs.lemmas.List.Elements.{Contains-push}
use Rattle.lake_base.specs.Maps.{ByteMap}
use Rattle.byte_map.specs.Values.{some_values}
use Rattle.keeper.specs.Keepers.{KeptPairs, MayHaveMade, pairs_after}
use Rattle.keeper.specs.declared.put.Put.{Put}
use Rattle.lake_model.specs.declared.fault.StepFault.{StepFault}
use Rattle.lake_model.specs.declared.fault.StepFault.TheVariants.{StoreFault, NoMemory}
use Rattle.lake_model.specs.declared.history.By.{By}
use Rattle.lake_model.specs.declared.history.HistoryEntry.{HistoryEntry}
use Rattle.lake_model.specs.declared.history.Operation.{Operation}
use Rattle.lake_model.specs.History.{faulted_entry}
use Rattle.core_state.specs.declared.file_place.FilePlace.{FilePlace}
use Rattle.core_state.specs.declared.names.NameIndex.{NameIndex}
use Rattle.core_state.specs.LakeStates.{LakeStateValue, lake_value}
use Rattle.core_changes.specs.LakeChanges.{after_fault}
use Rattle.core_changes.specs.NewPlaces.{HaveSamePlaces}
use Rattle.core_puts.specs.KeeperViews.{KeeperView}
use Rattle.core_puts.specs.KeptChanges.{IsAsBefore, IsFaulted, IsMade, Keeps, Making, Parts}
use Rattle.core_standing.specs.Standing.{MayMake, Stands}
use Rattle.core_keeping.specs.Following.{FollowLake, KeepLake, KeepsFollowing}
use Rattle.core_keeping.specs.Following.{at_rest}
use Rattle.core_keeping.proofs.FollowingLemmas.{follow_fault, follow_same, keep_rest}
use Rattle.core_keeping.proofs.PossibleLemmas.{allowed}
use Rattle.lake_core.specs.Faults.{HasFault}
use Rattle.lake_core.specs.FollowedLakes.{FollowOrTried, IsTried, KeepTried}
use Rattle.lake_core.proofs.StopLemmas.{stopped_just}

-- an index that is the same has the same places
pub same_places : {one other : NameIndex} → other ≡ one → HaveSamePlaces one.files other.files
same_places is = ap (λ (i : NameIndex). some_values (λ (place : Option FilePlace). place) i.files) is

-- ---- pairs that are told

-- of those that a keeper made all puts of
pub told_made : (old new : Option KeptPairs) (puts : List Put) (P Q : KeptPairs → Type 0) → is_some new ≡ is_some old
    → IfSome old (λ before. new ≡ Some (pairs_after puts before)) → IfSome old P
    → ((pairs : KeptPairs) → P pairs → Q (pairs_after puts pairs)) → IfSome new Q
told_made None None puts P Q told made holds step = tt
told_made None (Some after) puts P Q told made holds step = absurd cc
told_made (Some before) new puts P Q told made holds step = subst (λ o. IfSome o Q) (sym made) (step before holds)

-- of those that a keeper made all puts of, or none
told_tried : (old new : Option KeptPairs) (puts : List Put) (P Q : KeptPairs → Type 0) → is_some new ≡ is_some old
    → IfSome old (λ before. IfSome new (MayHaveMade puts before)) → IfSome old P
    → ((pairs : KeptPairs) → P pairs → Q pairs) → ((pairs : KeptPairs) → P pairs → Q (pairs_after puts pairs)) → IfSome new Q
told_tried None None puts P Q told may holds same step = tt
told_tried None (Some after) puts P Q told may holds same step = absurd cc
told_tried (Some before) None puts P Q told may holds same step = tt
told_tried (Some before) (Some after) puts P Q told may holds same step = elim may [
  | inl is ↦ subst Q (sym is) (same before holds)
  | inr is ↦ subst Q (sym is) (step before holds)
]

-- of the same
pub told_same : (old new : Option KeptPairs) (P Q : KeptPairs → Type 0) → new ≡ old → IfSome old P
    → ((pairs : KeptPairs) → P pairs → Q pairs) → IfSome new Q
told_same None new P Q is holds same = subst (λ o. IfSome o Q) (sym is) tt
told_same (Some pairs) new P Q is holds same = subst (λ o. IfSome o Q) (sym is) (same pairs holds)

-- a history of which the last entry was tried has a fault
pub fault_tried : {opened : LakeStateValue} {history : List HistoryEntry} {tried : LakeStateValue} → IsTried opened history tried → HasFault history
fault_tried is =
    let fault = faulted_entry is.by is.operation in
    record { by = is.by; tried = is.operation; among = subst (λ h. Contains h fault) (sym is.faulted) (Contains-push is.before fault) }

-- ---- where nothing that is said changed

module _ (opened : LakeStateValue) (history : List HistoryEntry) (l : LakeStateValue) (files : ByteMap (Option FilePlace)) where
  -- an index that has the same places tells the same
  still_follow : (index : ByteMap (Option FilePlace)) (now : List HistoryEntry) (m : LakeStateValue) → now ≡ history → m ≡ l
      → HaveSamePlaces files index → (pairs : KeptPairs) → FollowOrTried opened history files l pairs → FollowOrTried opened now index m pairs
  still_follow index now m entries same places pairs (inl follow) =
      inl (subst (λ n. FollowLake pairs index n) (sym same) (follow_same pairs files index l places follow))
  still_follow index now m entries same places pairs (inr tried) = inr (subst (λ h. KeepTried opened h pairs) (sym entries) tried)

  -- memory ran out
  pub pairs_before : {K : Type 0} (view : KeeperView K) (index : ByteMap (Option FilePlace)) (old new : Parts K)
      → old.history ≡ history → lake_value old.present ≡ l → HaveSamePlaces files index
      → IfSome (view.kept old.keeper) (FollowOrTried opened history files l)
      → IsAsBefore view old new
      → IfSome (view.kept new.keeper) (FollowOrTried opened new.history index (lake_value new.present))
  pairs_before view index old new entries same places before is =
      told_same (view.kept old.keeper) (view.kept new.keeper) (FollowOrTried opened history files l)
      (FollowOrTried opened new.history index (lake_value new.present)) is.kept before
      (still_follow index new.history (lake_value new.present) (is.history ∙ entries) (is.present ∙ same) places)

  -- what was made ready says the same
  pub pairs_ready : (o : Option KeptPairs) (index : ByteMap (Option FilePlace)) (m : LakeStateValue) → m ≡ l → HaveSamePlaces files index
      → IfSome o (FollowOrTried opened history files l) → IfSome o (FollowOrTried opened history index m)
  pairs_ready None index m same places before = tt
  pairs_ready (Some pairs) index m same places before = still_follow index history m refl same places pairs before

  -- a lake was just opened
  pub pairs_opened : (o : Option KeptPairs) → IfSome o (λ pairs. FollowLake pairs files l) → IfSome o (FollowOrTried opened history files l)
  pairs_opened None follow = tt
  pairs_opened (Some pairs) follow = inl follow

  -- where the history has no fault, nothing was tried
  pub kept_at_rest : (o : Option KeptPairs) → (HasFault history → ⊥) → IfSome o (FollowOrTried opened history files l)
      → IfSome o (λ pairs. KeepLake pairs (at_rest l))
  kept_at_rest None none follow = tt
  kept_at_rest (Some pairs) none (inl follow) = keep_rest pairs l follow.kept
  kept_at_rest (Some pairs) none (inr tried) = absurd (none (fault_tried tried.tried))

  -- pairs keep the lake put to rest, or the one that was tried
  pub kept_or_tried : (o : Option KeptPairs) → IfSome o (FollowOrTried opened history files l)
      → IfSome o (λ pairs. KeepLake pairs (at_rest l) ⊎ ((tried : LakeStateValue) × (IsTried opened history tried × KeepLake pairs (at_rest tried))))
  kept_or_tried None follow = tt
  kept_or_tried (Some pairs) (inl follow) = inl (keep_rest pairs l follow.kept)
  kept_or_tried (Some pairs) (inr tried) = inr (tried.lake, (tried.tried, keep_rest pairs tried.lake tried.kept))

-- ---- of a change that may be made

module _ {opened : LakeStateValue} {history : List HistoryEntry} {l : LakeStateValue} {by : By} {operation : Operation}
    {make : LakeStateValue → LakeStateValue} (stands : Stands opened history l) (may : MayMake opened history l by operation make) where
  -- nothing was tried before: the lake would be stopped
  not_tried : (pairs : KeptPairs) → KeepTried opened history pairs → ⊥
  not_tried pairs tried =
      let stopped : l.stopped ≡ true = (stopped_just opened history l stands).1 (fault_tried tried.tried) in
      let running : l.stopped ≡ false = (allowed stands may).running in
      cc

  module _ {files : ByteMap (Option FilePlace)} where
    -- so the pairs follow the lake
    pub following : (pairs : KeptPairs) → FollowOrTried opened history files l pairs → FollowLake pairs files l
    following pairs (inl follow) = follow
    following pairs (inr tried) = absurd (not_tried pairs tried)

    module _ {K : Type 0} (view : KeeperView K) {puts : List Put} where
      -- it was made
      pub pairs_made : {index : ByteMap (Option FilePlace)} (old new : Parts K) (made : Making) (next : LakeStateValue)
          → made.puts ≡ puts → next ≡ make l
          → ((pairs : KeptPairs) → FollowLake pairs files l → FollowLake (pairs_after puts pairs) index (make l))
          → IfSome (view.kept old.keeper) (FollowOrTried opened history files l)
          → IsMade view by made old new
          → IfSome (view.kept new.keeper) (FollowOrTried opened new.history index next)
      pairs_made {index} old new made next are makes step before is =
          told_made (view.kept old.keeper) (view.kept new.keeper) made.puts (FollowOrTried opened history files l)
          (FollowOrTried opened new.history index next) is.keeper.told is.kept before
          (λ pairs follow. inl (subst (λ n. FollowLake (pairs_after made.puts pairs) index n) (sym makes)
          (subst (λ ps. FollowLake (pairs_after ps pairs) index (make l)) (sym are) (step pairs (following pairs follow)))))

      -- the store failed, so that its pairs may be those of the lake that was tried
      pairs_faulted : (index : ByteMap (Option FilePlace)) (old new : Parts K) (made : Making)
          → made.operation ≡ operation → made.puts ≡ puts → old.history ≡ history → lake_value old.present ≡ l → HaveSamePlaces files index
          → ((pairs : KeptPairs) → FollowLake pairs files l → KeepLake (pairs_after puts pairs) (make l))
          → IfSome (view.kept old.keeper) (FollowOrTried opened history files l)
          → IsFaulted view by made old new
          → IfSome (view.kept new.keeper) (FollowOrTried opened new.history index (lake_value new.present))
      pairs_faulted index old new made is are entries same places step before faulted =
          told_tried (view.kept old.keeper) (view.kept new.keeper) made.puts (FollowOrTried opened history files l)
          (FollowOrTried opened new.history index (lake_value new.present)) faulted.keeper.told faulted.kept before
          (λ pairs follow. inl (subst (λ n. FollowLake pairs index n) (sym (faulted.present ∙ ap after_fault same))
          (follow_same pairs files index (after_fault l) places (follow_fault pairs files l (following pairs follow)))))
          (λ pairs follow. inr (record {
            lake = make l;
            tried = record {
              before = history;
              by = by;
              operation = operation;
              faulted = faulted.history ∙ ap (λ h. h ++ faulted_entry by made.operation ∷ []) entries
                  ∙ ap (λ o. history ++ faulted_entry by o ∷ []) is;
              stands = may.accepted;
            };
            kept = subst (λ ps. KeepLake (pairs_after ps pairs) (make l)) (sym are) (step pairs (following pairs follow));
          }))

      -- the keeper refused it
      pub pairs_refused : (index : ByteMap (Option FilePlace)) (old new : Parts K) (made : Making) (fault : StepFault)
          → made.operation ≡ operation → made.puts ≡ puts → old.history ≡ history → lake_value old.present ≡ l → HaveSamePlaces files index
          → ((pairs : KeptPairs) → FollowLake pairs files l → KeepLake (pairs_after puts pairs) (make l))
          → IfSome (view.kept old.keeper) (FollowOrTried opened history files l)
          → Keeps {X = Unit {0}} view by made (Err fault) old new
          → IfSome (view.kept new.keeper) (FollowOrTried opened new.history index (lake_value new.present))
      pairs_refused index old new made StoreFault is are entries same places step before keeps =
          pairs_faulted index old new made is are entries same places step before keeps
      pairs_refused index old new made NoMemory is are entries same places step before keeps =
          pairs_before opened history l files view index old new entries same places before keeps
      pairs_refused index old new made fault is are entries same places step before keeps = absurd keeps

-- ---- of a change that puts no files

-- the index may have more room
pub with_places : (l : LakeStateValue) (puts : List Put) (make : LakeStateValue → LakeStateValue) (files index : ByteMap (Option FilePlace))
    → KeepsFollowing l puts make → HaveSamePlaces files index
    → (pairs : KeptPairs) → FollowLake pairs files l → FollowLake (pairs_after puts pairs) index (make l)
with_places l puts make files index keeps same pairs follow =
    follow_same (pairs_after puts pairs) files index (make l) same (keeps pairs files follow)

pub kept_by : (l : LakeStateValue) (puts : List Put) (make : LakeStateValue → LakeStateValue) (files : ByteMap (Option FilePlace))
    → KeepsFollowing l puts make → (pairs : KeptPairs) → FollowLake pairs files l → KeepLake (pairs_after puts pairs) (make l)
kept_by l puts make files keeps pairs follow = (keeps pairs files follow).kept
