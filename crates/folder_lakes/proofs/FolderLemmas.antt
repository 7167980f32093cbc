-- A folder that is opened, or isn't, and closed.
use Rattle.std.proofs.Common.{inl, inr, ◌≡◌, ◌≤◌, ◌++◌, [], ℕ, true, List, Some, refl, sym, ◌∙◌, ap, subst}
use Rattle.std.specs.Prelude.{IfSome, IsErrAnd, MatchResult, Result, Ok, Err}
use Rattle.lake_base.specs.Outside.{Rose}
use Rattle.lake_base.specs.declared.outside.Trouble.{Trouble}
use Rattle.lake_base.specs.declared.outside.Trouble.TheVariants as trouble
use Rattle.core_puts.specs.KeeperViews.{KeeperView}
use Rattle.core_state.specs.LakeStates.{lake_value}
use Rattle.lake_core.specs.Faults.{HasFault}
use Rattle.lake_core.specs.FollowedLakes.{FollowOrTried}
use Rattle.lake_core.specs.Lakes.{LakeValue}
use Rattle.lake_core.specs.declared.standing.LakeOrigin.{LakeOrigin}
use Rattle.lake_model.specs.declared.history.HistoryEntry.{HistoryEntry}
use Rattle.shared_lake.specs.SeatSteps.{Finds, LakeSeat, origin_of}
use Rattle.fresh_lakes.specs.FreshLakes.{usual_cut}
use Rattle.core_opening.specs.declared.fault.OpeningFault.TheVariants as reading
use Rattle.lake_opening.specs.Opening.{IsUnopened}
use Rattle.lake_opening.specs.declared.fault.OpenFault.{OpenFault}
use Rattle.lake_opening.specs.declared.fault.OpenFault.TheVariants as opening
use Rattle.lake_folders.specs.Folders.{FoldersView, KeeperShow}
use Rattle.folder_lakes.specs.FolderFaults.{of_opening, of_trouble}
use Rattle.folder_lakes.specs.FolderLakes.{IsFolderRefused, IsKeeperBack, NothingBack}
use Rattle.folder_lakes.specs.declared.fault.FolderFault.{FolderFault}

module _ {T : Type 0} (folder : List ℕ) (before after : FoldersView) (P : T → Type 0) where
  -- no keeper was given
  pub no_keeper : (answer : Result T FolderFault) (t : Trouble) → IsErrAnd answer (λ e. e ≡ of_trouble t)
      → NothingBack before after → before.faults ≤ after.faults → (t ≡ trouble.Failed → Rose before.faults after.faults)
      → MatchResult answer P (IsFolderRefused folder before after)
  no_keeper (Ok x) t is back later rose = absurd is
  no_keeper (Err e) trouble.Failed is back later rose = subst (IsFolderRefused folder before after) (sym is) (inl (back, rose refl))
  no_keeper (Err e) trouble.NoMemory is back later rose = subst (IsFolderRefused folder before after) (sym is) later

module _ {K : Type 0} (view : KeeperView K) (folder : List ℕ) (before after : FoldersView) (old back : K) where
  -- the lake wasn't opened, and the keeper was given back
  abbrev show : KeeperShow
  show = record { kept = view.kept back; faults = view.faults back }

  rose_from : view.faults old ≡ 0 → Rose (view.faults old) (view.faults back) → Rose 0 (view.faults back)
  rose_from none rose = subst (λ n. Rose n (view.faults back)) none rose

  pub no_lake : (fault : OpenFault) → IsUnopened view usual_cut old fault back
      → IfSome (before.pairs folder) (λ held. view.kept old ≡ Some held) → view.faults old ≡ 0
      → IsKeeperBack show before after → before.faults ≤ after.faults
      → IsFolderRefused folder before after (of_opening fault)
  no_lake opening.StoreFault is held none given later = inr (show, given, rose_from none is.cause, later)
  no_lake (opening.BadPair number) is held none given later =
      let cause = is.cause in (
        (cause.0, record { kept = view.kept old; held = held; loaded = cause.1 }, cause.4, reading.BadPair number, (λ e. absurd cc), cause.2),
        (show, given),
        later,
      )
  no_lake (opening.Tree commit fault) is held none given later =
      let cause = is.cause in (
        (cause.0, record { kept = view.kept old; held = held; loaded = cause.1 }, cause.4, reading.Tree commit fault, (λ e. absurd cc), cause.2),
        (show, given),
        later,
      )
  no_lake opening.NoMemory is held none given later = later

-- ---- closed

module _ {K : Type 0} (view : KeeperView K) (closed : LakeValue K) where
  -- behind what a seat has seen came entries of others, none where it is alone
  pub begins : (seat : LakeSeat) → Finds view seat closed
      → (others : List HistoryEntry) × (closed.history ≡ seat.seen ++ others) × (seat.alone ≡ true → others ≡ [])
  begins seat is = (is.others, is.begins, is.alone)

  -- what the keeper counted since the opening
  pub counted : (HasFault closed.history → Rose (view.faults closed.first) (view.faults closed.keeper))
      → ((HasFault closed.history → ⊥) → view.faults closed.keeper ≡ view.faults closed.first)
      → (back : K) → back ≡ closed.keeper → (seat : LakeSeat) → Finds view seat closed → (origin : LakeOrigin) → seat.origin ≡ Some origin
      → (HasFault closed.history → Rose origin.faults (view.faults back)) × ((HasFault closed.history → ⊥) → view.faults back ≡ origin.faults)
  counted rose quiet back same seat is origin from =
      let one : Some origin ≡ Some (origin_of view closed) = sym from ∙ is.origin in
      let goes_out : origin_of view closed ≡ origin = cc in
      let count = ap (λ (o : LakeOrigin). o.faults) goes_out in
      let kept = ap view.faults same in (
        λ has. subst (λ n. Rose n (view.faults back)) count (subst (λ n. Rose (view.faults closed.first) n) (sym kept) (rose has)),
        λ none. kept ∙ quiet none ∙ count,
      )

  -- a seat went out from what the lake was opened as
  pub went_out : (seat : LakeSeat) → Finds view seat closed → (origin : LakeOrigin) → seat.origin ≡ Some origin → origin.opened ≡ closed.opened
  went_out seat is origin from =
      let one : Some origin ≡ Some (origin_of view closed) = sym from ∙ is.origin in
      let goes_out : origin_of view closed ≡ origin = cc in
      sym (ap (λ (o : LakeOrigin). o.opened) goes_out)

  -- what the pairs stand for of the keeper that was given back
  pub left : (back : K) → back ≡ closed.keeper
      → IfSome (view.kept closed.keeper) (FollowOrTried (lake_value closed.opened) closed.history closed.present.names.files (lake_value closed.present))
      → IfSome (view.kept back) (FollowOrTried (lake_value closed.opened) closed.history closed.present.names.files (lake_value closed.present))
  left back same follow =
      subst (λ (k : K). IfSome (view.kept k) (FollowOrTried (lake_value closed.opened) closed.history closed.present.names.files (lake_value closed.present)))
      (sym same) follow
