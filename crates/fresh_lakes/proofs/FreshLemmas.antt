-- A fresh lake in memory, and the seat at it.
use Rattle.std.proofs.Common.{◌≡◌, ◌<◌, ◌+◌, ◌==◌, ◌++◌, ℕ, true, All, List, [], ◌∷◌, length, length-append, slice_index_or, Option, Some, refl, sym, ◌∙◌}
use Rattle.std.proofs.Common.{ap, subst, arith, append-nil}
use Rattle.std.specs.List.{slice_get}
use Rattle.std.proofs.lemmas.Option.{get_or_from_slice_get}
use Rattle.std.specs.Option.{option_to_list}
use Rattle.keeper.specs.Keepers.{KeptPairs}
use Rattle.lake_format.specs.declared.cut.Cut.{Cut}
use Rattle.lake_model.specs.Soundness.{fresh}
use Rattle.lake_model.specs.declared.history.HistoryEntry.{HistoryEntry}
use Rattle.core_state.specs.FirstStates as founding
use Rattle.core_state.specs.LakeStates.{state_of}
use Rattle.core_puts.specs.KeeperViews.{KeeperView}
use Rattle.lake_core.specs.Faults.{HasFault}
use Rattle.lake_core.specs.Lakes.{Holds, LakeValue}
use Rattle.lake_core.specs.Opening.{IsUnfounded}
use Rattle.lake_core.specs.declared.open_fault.OpenFault.{OpenFault}
use Rattle.lake_core.specs.declared.open_fault.OpenFault.TheVariants as opening
use Rattle.shared_lake.specs.SeatSteps.{Finds, LakeSeat, origin_of}
use Rattle.turn_lock.specs.Seats.{TableId, new_seat, by_seat}
use Rattle.fresh_lakes.specs.FreshLakes.{AreFreshSeats, IsFounded, IsFreshSeat, IsLoneSeat, sure_view, usual_cut}

-- a lake over a keeper that never fails isn't founded for lack of memory alone
pub founds_but_for_memory : (cut : Cut) (keeper back : KeptPairs) (fault : OpenFault) → IsUnfounded sure_view cut keeper fault back
    → fault ≡ opening.NoMemory
founds_but_for_memory cut keeper back opening.StoreFault is = let rose : 0 < 0 = is.cause (omega arith) in absurd (omega arith)
founds_but_for_memory cut keeper back opening.NoMemory is = refl

-- what is popped of a list of one is all of it
pub popped_only : {X : Type 0} (items rest : List X) (last : X) (result : Option X) → length items ≡ 1
    → items ≡ rest ++ option_to_list result → result ≡ Some last → items ≡ last ∷ []
popped_only items [] last result one whole is = whole ∙ ap option_to_list is
popped_only items (x ∷ rest) last result one whole is =
    let more : items ≡ (x ∷ rest) ++ last ∷ [] = whole ∙ ap (λ o. (x ∷ rest) ++ option_to_list o) is in
    let long : length items ≡ length ((x ∷ rest) ++ last ∷ []) = ap length more in
    let sum : length (rest ++ last ∷ []) ≡ length rest + 1 = length-append rest (last ∷ []) in
    absurd (omega (arith, one, long, sum))

-- a new seat at a founded lake is one at a fresh lake
fresh_seat : {K : Type 0} (view : KeeperView K) (turn : TableId) (lake : LakeValue K) (count at : ℕ) (seat : LakeSeat)
    → ((cut : Cut) → state_of (founding.fresh_lake cut) ≡ fresh cut) → IsFounded lake
    → seat ≡ new_seat (origin_of view) (λ (l : LakeValue K). l.history) (λ (e : HistoryEntry). e.by.seat) turn lake count at → IsFreshSeat at seat
fresh_seat view turn lake count at seat founded is same = record {
  origin = origin_of view lake;
  from = ap (λ (s : LakeSeat). s.origin) same;
  fresh = ap state_of is.opened ∙ founded usual_cut;
  number = ap (λ (s : LakeSeat). s.number) same;
  seen = ap (λ (s : LakeSeat). s.seen) same ∙ is.history;
  mine = ap (λ (s : LakeSeat). s.mine) same ∙ ap (λ (l : List HistoryEntry). by_seat (λ (e : HistoryEntry). e.by.seat) at l) is.history;
}

pub fresh_seats : {K : Type 0} (view : KeeperView K) (turn : TableId) (lake : LakeValue K) (count : ℕ) (seats : List LakeSeat)
    → ((cut : Cut) → state_of (founding.fresh_lake cut) ≡ fresh cut) → IsFounded lake → length seats ≡ count
    → ((k : ℕ) → k < count → slice_get seats k
    ≡ Some (new_seat (origin_of view) (λ (l : LakeValue K). l.history) (λ (e : HistoryEntry). e.by.seat) turn lake count k))
    → AreFreshSeats seats
fresh_seats view turn lake count seats founded is many each = λ k d within.
    fresh_seat view turn lake count k (slice_index_or seats k d) founded is
    (get_or_from_slice_get seats k (new_seat (origin_of view) (λ l. l.history) (λ (e : HistoryEntry). e.by.seat) turn lake count k) d
    (each k (omega (arith, many, within))))

-- the only one of them is alone
pub lone_seats : {K : Type 0} (view : KeeperView K) (turn : TableId) (lake : LakeValue K) (count : ℕ) (seats : List LakeSeat)
    → length seats ≡ count
    → ((k : ℕ) → k < count → slice_get seats k
    ≡ Some (new_seat (origin_of view) (λ (l : LakeValue K). l.history) (λ (e : HistoryEntry). e.by.seat) turn lake count k))
    → count ≡ 1 → All (λ (seat : LakeSeat). seat.alone ≡ true) seats
lone_seats view turn lake count seats many each one = λ k d within.
    ap (λ (s : LakeSeat). s.alone) (get_or_from_slice_get seats k
    (new_seat (origin_of view) (λ l. l.history) (λ (e : HistoryEntry). e.by.seat) turn lake count k) d (each k (omega (arith, many, within))))
    ∙ ap (λ n. n == 1) one

-- so the one that is popped is the only seat at a fresh lake
pub lone_seat : (items : List LakeSeat) (seat : LakeSeat) → items ≡ seat ∷ [] → AreFreshSeats items
    → All (λ (seat : LakeSeat). seat.alone ≡ true) items → IsLoneSeat seat
lone_seat items seat only fresh alone = record {
  fresh = subst (λ (seats : List LakeSeat). AreFreshSeats seats) only fresh 0 seat (omega arith);
  alone = subst (λ (seats : List LakeSeat). All (λ (s : LakeSeat). s.alone ≡ true) seats) only alone 0 seat (omega arith);
}

-- ---- the lake is closed

-- a lone seat at a lake whose history has no note that the keeper failed has seen none
none_noted : (seat : LakeSeat) (closed : LakeValue KeptPairs) → Finds sure_view seat closed → (HasFault closed.history → ⊥) → seat.alone ≡ true
    → HasFault seat.seen → ⊥
none_noted seat closed finds sure alone has =
    let all : closed.history ≡ seat.seen =
    finds.begins ∙ ap (λ (others : List HistoryEntry). seat.seen ++ others) (finds.alone alone) ∙ append-nil seat.seen in
    sure (subst HasFault (sym all) has)

-- so it is of one that was put into the room, where no lake's history has such a note
pub none_noted_of : (seat : LakeSeat) (room seats : List LakeSeat) (closed : LakeValue KeptPairs)
    → ((lake : LakeValue KeptPairs) → Holds sure_view lake → HasFault lake.history → ⊥) → room ≡ [] → seats ≡ room ++ seat ∷ []
    → All (λ (s : LakeSeat). Finds sure_view s closed) seats → seat.alone ≡ true → HasFault seat.seen → ⊥
none_noted_of seat room seats closed sure none put found =
    let only : seats ≡ seat ∷ [] = put ∙ ap (λ (l : List LakeSeat). l ++ seat ∷ []) none in
    let finds = subst (λ (l : List LakeSeat). All (λ (s : LakeSeat). Finds sure_view s closed) l) only found 0 seat (omega arith) in
    none_noted seat closed finds (sure closed finds.holds)
