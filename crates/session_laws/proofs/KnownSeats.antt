-- What is known of a seat, behind a session.
use Rattle.std.proofs.Common.{◌≡◌, ◌⊎◌, inl, inr, [], ◌++◌, List, Some, refl, sym, ap, subst, ◌∙◌, append-nil}
use Rattle.lake_core.specs.declared.standing.LakeOrigin.{LakeOrigin}
use Rattle.lake_model.specs.declared.history.HistoryEntry.{HistoryEntry}
use Rattle.lake_model.specs.History.{IsLegal}
use Rattle.lake_model.specs.Soundness.{IsSound}
use Rattle.flow_steps.specs.FlowSeats.{opened_state}
use Rattle.turn_lock.specs.Seats.{seat_after}
use Rattle.shared_lake.specs.SeatSteps.{LakeSeat, SeesOwn}
use Rattle.lake_session.specs.WholeSessions.{GoesThrough}
use Rattle.session_laws.specs.KnownSeats.{IsKnown}

module _ (origin : LakeOrigin) (old now : LakeSeat) (goes : GoesThrough old now) (known : IsKnown origin old) where
  -- a session that brought nothing left the seat as it was
  unmoved : goes.added ≡ [] → now.mine ≡ old.mine → now ≡ old
  unmoved none mine =
      goes.seat ∙ ap (λ (seen : List HistoryEntry). seat_after old seen now.mine) (goes.seen ∙ ap (λ l. old.seen ++ l) none ∙ append-nil old.seen)
      ∙ ap (λ (m : List HistoryEntry). seat_after old old.seen m) mine

  by_case : ((goes.added ≡ []) × (now.mine ≡ old.mine)) ⊎ (IsSound (opened_state origin) × IsLegal (opened_state origin) now.seen × SeesOwn now)
      → IsKnown origin now
  by_case (inl (none, mine)) = subst (IsKnown origin) (sym (unmoved none mine)) known
  by_case (inr (sound, legal, own)) = record { sound = sound; legal = legal; own = own }

pub known_further : (origin : LakeOrigin) (old now : LakeSeat) → GoesThrough old now → old.origin ≡ Some origin → IsKnown origin old → IsKnown origin now
known_further origin old now goes from known = by_case origin old now goes known (goes.legal origin from)
