-- The seats at a lake that was opened.
use Rattle.std.proofs.Common.{◌≡◌, ◌<◌, ◌==◌, ℕ, true, All, List, [], length, slice_index_or, Some, refl, ◌∙◌, ap, arith}
use Rattle.std.specs.List.{slice_get}
use Rattle.std.proofs.lemmas.Option.{get_or_from_slice_get}
use Rattle.lake_model.specs.declared.history.HistoryEntry.{HistoryEntry}
use Rattle.core_puts.specs.KeeperViews.{KeeperView}
use Rattle.lake_core.specs.Lakes.{LakeValue}
use Rattle.shared_lake.specs.SeatSteps.{LakeSeat, origin_of}
use Rattle.turn_lock.specs.Seats.{TableId, new_seat, by_seat}
use Rattle.folder_lakes.specs.FolderLakes.{AreNewSeats, IsNewSeat}

module _ {K : Type 0} (view : KeeperView K) (turn : TableId) (lake : LakeValue K) (count : ℕ) where
  -- the k-th seat
  abbrev seat_at : ℕ → LakeSeat
  seat_at k = new_seat (origin_of view) (λ (l : LakeValue K). l.history) (λ (e : HistoryEntry). e.by.seat) turn lake count k

  new_at : (at : ℕ) (seat : LakeSeat) → lake.history ≡ [] → seat ≡ seat_at at → IsNewSeat lake.opened at seat
  new_at at seat none same = record {
    origin = origin_of view lake;
    from = ap (λ (s : LakeSeat). s.origin) same;
    opened = refl;
    number = ap (λ (s : LakeSeat). s.number) same;
    seen = ap (λ (s : LakeSeat). s.seen) same ∙ none;
    mine = ap (λ (s : LakeSeat). s.mine) same ∙ ap (λ (l : List HistoryEntry). by_seat (λ (e : HistoryEntry). e.by.seat) at l) none;
  }

  module _ (seats : List LakeSeat) (many : length seats ≡ count) (each : (k : ℕ) → k < count → slice_get seats k ≡ Some (seat_at k)) where
    -- they are new
    pub new_seats : lake.history ≡ [] → AreNewSeats lake.opened seats
    new_seats none = λ k d within.
        new_at k (slice_index_or seats k d) none (get_or_from_slice_get seats k (seat_at k) d (each k (omega (arith, many, within))))

    -- the only one of them is alone
    pub lone_seats : count ≡ 1 → All (λ (seat : LakeSeat). seat.alone ≡ true) seats
    lone_seats one = λ k d within.
        ap (λ (s : LakeSeat). s.alone) (get_or_from_slice_get seats k (seat_at k) d (each k (omega (arith, many, within)))) ∙ ap (λ n. n == 1) one
