-- A lake that is opened over the pairs that another left.
use Rattle.std.proofs.Common.{◌≡◌, ◌++◌, ◌∷◌, [], List, refl, sym, ap, ◌∙◌, subst, inl, inr}
use Rattle.std.specs.Prelude.{◌⊎◌, Option, Some, IfSome}
use Rattle.std.specs.FinMap.{empty, get}
use Rattle.byte_map.proofs.ByteMapLemmas.{get_empty}
use Rattle.lake_base.specs.Maps.{HasAscendingKeys}
use Rattle.lake_format.specs.declared.cut.Cut.{Cut}
use Rattle.lake_model.specs.declared.history.HistoryEntry.{HistoryEntry}
use Rattle.lake_model.specs.State.{State}
use Rattle.lake_laws.proofs.HistoryLemmas.{kept-replay}
use Rattle.lake_laws.proofs.RepositoryLemmas.{cut_after}
use Rattle.pair_trees.specs.Things.{kept_of, things_of}
use Rattle.pair_ties.specs.PairTies.{AreTied}
use Rattle.lake_model.specs.History.{accepted_entry, replay}
use Rattle.pair_format.specs.declared.pair.Pair.{Pair}
use Rattle.pair_format.specs.declared.stored.Stored.TheVariants as stored
use Rattle.pair_format.specs.PairSpelling.{key_of, key_spelling}
use Rattle.keeper.specs.Keepers.{KeptPairs, entries_of}
use Rattle.core_state.specs.declared.lake.LakeState.{LakeState}
use Rattle.core_state.specs.LakeStates.{LakeStateValue, lake_value, state_of}
use Rattle.core_pairs.specs.LakePairs.{AreTokensApart, StandFor, at_rest}
use Rattle.core_puts.specs.KeeperViews.{KeeperView}
use Rattle.core_standing.specs.Standing.{Stands}
use Rattle.core_keeping.specs.Following.{KeepLake}
use Rattle.reading_again.specs.ReadableLakes.{CanBeRead, HasReadableParts, HasTexts, IsInOrder}
use Rattle.reading_again.proofs.SameLakeLemmas.{state_same}
use Rattle.lake_core.specs.Faults.{HasFault}
use Rattle.lake_core.specs.FollowedLakes.{FollowOrTried}
use Rattle.lake_core.specs.Lakes.{Holds, LakeValue}
use Rattle.lake_core.proofs.PairLemmas.{fault_tried}
use Rattle.lake_opening.specs.Opening.{AreLoaded, IsLakeOf}
use Rattle.lake_opening.proofs.OpeningLemmas.{had_none, kept_loaded}
use Rattle.lake_base.specs.Maps.{ByteMap}
use Rattle.core_state.specs.declared.file_place.FilePlace.{FilePlace}
use Rattle.restart_laws.specs.Restarts.{CanTriedBeRead, IsOpenedAgain, IsReadAgain, IsTriedAgain, rested}

-- what a law tells of lakes that stand for their history
abbrev pub TellsOfOrder : Type 0
TellsOfOrder = (opened : LakeStateValue) (history : List HistoryEntry) (present : LakeStateValue) → Stands opened history present
    → AreTokensApart present → IsInOrder present

-- and what one tells of a lake whose pairs are tied
abbrev pub TellsOfReading : Type 0
TellsOfReading = (cut : Cut) (pairs : List Pair) (l : LakeStateValue) → HasAscendingKeys (entries_of pairs) → StandFor (kept_of pairs) l → IsInOrder l
    → AreTied cut (things_of pairs) → l.cut ≡ cut → HasReadableParts l → CanBeRead cut l

-- no entry changes the cut
same_cut : (opened : LakeStateValue) (history : List HistoryEntry) (l : LakeStateValue) → Stands opened history l → l.cut ≡ opened.cut
same_cut opened history l stands =
    ap (λ (s : State). s.cut) (sym stands.replayed)
    ∙ kept-replay (λ s. s.cut ≡ opened.cut) history (state_of opened) (λ s entry may is. cut_after s entry ∙ is) stands.legal refl

-- pairs that stand for a lake are some: the counts have theirs
some_pairs : (pairs : KeptPairs) (l : LakeStateValue) → StandFor pairs l → pairs ≡ empty → ⊥
some_pairs pairs l stand none =
    let counts = stored.Counts l.next_number l.next_version l.next_token in
    let there = stand.each counts (refl, (refl, refl)) in
    let gone = ap (λ (ps : KeptPairs). get ps (key_spelling (key_of counts))) none ∙ get_empty (key_spelling (key_of counts)) in
    absurd (let both = sym gone ∙ there in cc)

-- a lake that was opened over pairs that stand for another is that one, put to rest
module _ (reads : TellsOfReading) (cut : Cut) (kept : KeptPairs) (again : LakeState) (texts : HasTexts (lake_value again)) where
  same_lake : (pairs : List Pair) → AreLoaded (Some kept) pairs → IsLakeOf cut pairs again
      → (l : LakeStateValue) → StandFor kept l → IsInOrder l → l.cut ≡ cut → HasReadableParts l
      → state_of (lake_value again) ≡ state_of (at_rest l)
  same_lake [] loaded is l stand order cut_is parts = absurd (some_pairs kept l stand (had_none (Some kept) [] loaded.all refl))
  same_lake (pair ∷ pairs) loaded is l stand order cut_is parts =
      let stands = subst (λ ps. StandFor ps l) (sym (kept_loaded (pair ∷ pairs) kept loaded.ascend loaded.all)) stand in
      state_same cut (pair ∷ pairs) l (lake_value again) loaded.ascend stands order
      (reads cut (pair ∷ pairs) l loaded.ascend stands order is.whole.tied cut_is parts) is.read texts

module _ (order : TellsOfOrder) (reads : TellsOfReading) (opened : LakeStateValue) (history : List HistoryEntry) (files : ByteMap (Option FilePlace))
    (present : LakeStateValue) (cut : Cut) (again : LakeState) (is : IsReadAgain opened history files present cut again) where
  -- it has the state of a lake that the pairs keep, which stands for a history
  same_state : (entries : List HistoryEntry) (l : LakeStateValue) → Stands opened entries l → KeepLake is.pairs l → HasReadableParts l
      → state_of (lake_value again) ≡ rested (replay (state_of opened) entries)
  same_state entries l stands kept parts =
      same_lake reads cut is.pairs again is.texts is.loaded is.are is.lake l kept.stand (order opened entries l stands kept.apart)
      (same_cut opened entries l stands ∙ is.cut_is) parts
      ∙ ap rested (sym stands.replayed)

  pub same_again : HasReadableParts present → (HasFault history → ⊥) → state_of (lake_value again) ≡ rested (replay (state_of opened) history)
  same_again parts none = of is.follow
    where
      of : FollowOrTried opened history files present is.pairs → state_of (lake_value again) ≡ rested (replay (state_of opened) history)
      of (inl follow) = same_state history present is.stands follow.kept parts
      of (inr tried) = absurd (none (fault_tried tried.tried))

  pub tried_again : HasReadableParts present → CanTriedBeRead opened history is.pairs
      → (state_of (lake_value again) ≡ rested (replay (state_of opened) history)) ⊎ IsTriedAgain opened history is.pairs (lake_value again)
  tried_again parts tried_parts = of is.follow
    where
      of : FollowOrTried opened history files present is.pairs
          → (state_of (lake_value again) ≡ rested (replay (state_of opened) history)) ⊎ IsTriedAgain opened history is.pairs (lake_value again)
      of (inl follow) = inl (same_state history present is.stands follow.kept parts)
      of (inr tried) = inr (record {
        tried = tried.lake;
        is = tried.tried;
        kept = tried.kept;
        same = same_state (tried.tried.before ++ accepted_entry tried.tried.by tried.tried.operation ∷ []) tried.lake tried.tried.stands tried.kept
            (tried_parts tried.lake tried.tried tried.kept);
      })

-- ---- over keepers

module _ {K L : Type 0} (left : KeeperView K) (view : KeeperView L) (cut : Cut) (lake : LakeValue K) (keeper : L) (again : LakeValue L)
    (holds : Holds left lake)
    (pairs : IfSome (left.kept lake.keeper) (FollowOrTried (lake_value lake.opened) lake.history lake.present.names.files (lake_value lake.present)))
    (is : IsOpenedAgain left view cut lake keeper again) where
  -- the lake was read of the pairs that the other left
  abbrev pub read_again : IsReadAgain (lake_value lake.opened) lake.history lake.present.names.files (lake_value lake.present) cut again.opened
  read_again = record {
    pairs = is.pairs;
    stands = holds.stands;
    follow = subst
        (λ o. IfSome o (FollowOrTried (lake_value lake.opened) lake.history lake.present.names.files (lake_value lake.present))) is.were pairs;
    loaded = is.opened.pairs;
    are = subst (λ o. AreLoaded o is.opened.pairs) is.are is.opened.loaded;
    lake = is.opened.opened;
    cut_is = is.cut_is;
    texts = is.texts;
  }
