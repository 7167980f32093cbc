-- Workers over one lake: they begin, serve, and their seats find the lake that is handed out.
use native.Mathlib.Omega.{arith}
use Rattle.std.proofs.Common.{◌≡◌, ◌+◌, ◌⊎◌, ⊎_elim, inl, inr, suc, ℕ, All, List, [], ◌∷◌, ◌++◌, append-nil, drop, length, map, take, Option, Some, IfSome}
use Rattle.std.proofs.Common.{refl, sym, ◌∙◌, ap, subst, None}
use Rattle.std.proofs.Math.ListN.{drop_of_length-le}
use Rattle.std.proofs.Math.Seq.{take-length}
use Rattle.std.proofs.lemmas.List.Elements.{All-cons, All-nil}
use Rattle.lake_base.specs.Outside.{Rose}
use Rattle.lake_base.specs.declared.outside.Trouble.{Trouble}
use Rattle.lake_base.specs.declared.outside.Trouble.TheVariants as outside
use Rattle.turn_lock.specs.Seats.{TableId}
use Rattle.core_puts.specs.KeeperViews.{KeeperView}
use Rattle.lake_core.specs.Lakes.{LakeValue}
use Rattle.shared_lake.specs.SeatSteps.{Finds, LakeSeat, origin_of}
use Rattle.lake_server.specs.ServedConnections.{IsReady, PartViews, WorkerView, worker_view}
use Rattle.lake_server.specs.Workers.{HaveServed}
use Rattle.lake_server.specs.declared.worker.Worker.{Worker}
use Rattle.lake_host.specs.Doors.{AreOut, DoorView, Opened, door_of, opened_at}
use Rattle.lake_host.specs.Workers.{AreBegun}
use Rattle.lake_host.specs.declared.server.ServerEnd.{ServerEnd}
use Rattle.lake_host.specs.declared.server.ServerEnd.TheVariants as end

-- what is so of the first of a list, and of the others
all_first : {X : Type 0} (P : X → Type 0) (x : X) (xs : List X) → All P (x ∷ xs) → P x
all_first P x xs all = all 0 x (omega arith)

all_others : {X : Type 0} (P : X → Type 0) (x : X) (xs : List X) → All P (x ∷ xs) → All P xs
all_others P x xs all = λ k d within. all (suc k) d (omega arith)

pub all_mapped : {X Y : Type 0} (P : Y → Type 0) (f : X → Y) (xs : List X) → All P (map f xs) → All (λ x. P (f x)) xs
all_mapped P f [] all = All-nil (λ x. P (f x))
all_mapped P f (x ∷ xs) all =
    All-cons (λ y. P (f y)) x xs (all_first P (f x) (map f xs) all) (all_mapped P f xs (all_others P (f x) (map f xs) all))

-- workers that begin at seats of a turn may begin there
pub all_ready : {B C L : Type 0} (show : PartViews B C L) (turn : TableId) (connections : Option ℕ) (workers number : ℕ) (seats : List LakeSeat)
    (made : List (Worker B C L)) → AreBegun connections workers number seats (map (worker_view show) made)
    → All (λ (seat : LakeSeat). seat.turn ≡ turn) seats → All (λ (worker : Worker B C L). IsReady turn worker) made
all_ready show turn connections workers number [] [] are own = All-nil (λ worker. IsReady turn worker)
all_ready show turn connections workers number [] (one ∷ others) are own = absurd are
all_ready show turn connections workers number (seat ∷ seats) [] are own = absurd are
all_ready {B} {C} {L} show turn connections workers number (seat ∷ seats) (one ∷ others) are own =
    All-cons (λ (worker : Worker B C L). IsReady turn worker) one others
    (record {
      seat = ap (λ (s : LakeSeat). s.turn) are.0.seat ∙ all_first (λ (s : LakeSeat). s.turn ≡ turn) seat seats own;
      served = are.0.served;
      failed = are.0.failed;
    })
    (all_ready show turn connections workers (number + 1) seats others are.1 (all_others (λ (s : LakeSeat). s.turn ≡ turn) seat seats own))

-- their seats are of the turn still when they have served, and as many
pub turns_stay : (turn : TableId) (connections : Option ℕ) (workers number : ℕ) (seats : List LakeSeat) (begins ends : List WorkerView)
    → AreBegun connections workers number seats begins → HaveServed begins ends → All (λ (seat : LakeSeat). seat.turn ≡ turn) seats
    → All (λ (seat : LakeSeat). seat.turn ≡ turn) (map (λ (worker : WorkerView). worker.carried.seat) ends)
turns_stay turn connections workers number [] [] [] are served own = All-nil (λ (seat : LakeSeat). seat.turn ≡ turn)
turns_stay turn connections workers number [] [] (last ∷ ends) are served own = absurd served
turns_stay turn connections workers number [] (begin ∷ begins) ends are served own = absurd are
turns_stay turn connections workers number (seat ∷ seats) [] ends are served own = absurd are
turns_stay turn connections workers number (seat ∷ seats) (begin ∷ begins) [] are served own = absurd served
turns_stay turn connections workers number (seat ∷ seats) (begin ∷ begins) (last ∷ ends) are served own =
    All-cons (λ (s : LakeSeat). s.turn ≡ turn) last.carried.seat (map (λ (worker : WorkerView). worker.carried.seat) ends)
    (served.0.goes.turn ∙ ap (λ (s : LakeSeat). s.turn) are.0.seat ∙ all_first (λ (s : LakeSeat). s.turn ≡ turn) seat seats own)
    (turns_stay turn connections workers (number + 1) seats begins ends are.1 served.1 (all_others (λ (s : LakeSeat). s.turn ≡ turn) seat seats own))

pub as_many : (connections : Option ℕ) (workers number : ℕ) (seats : List LakeSeat) (begins ends : List WorkerView)
    → AreBegun connections workers number seats begins → HaveServed begins ends
    → length ends ≡ length seats
as_many connections workers number [] [] [] are served = refl
as_many connections workers number [] [] (last ∷ ends) are served = absurd served
as_many connections workers number [] (begin ∷ begins) ends are served = absurd are
as_many connections workers number (seat ∷ seats) [] ends are served = absurd are
as_many connections workers number (seat ∷ seats) (begin ∷ begins) [] are served = absurd served
as_many connections workers number (seat ∷ seats) (begin ∷ begins) (last ∷ ends) are served =
    ap suc (as_many connections workers (number + 1) seats begins ends are.1 served.1)

-- listeners that are out still, of a host that is as it was
pub out_still : (count many : ℕ) (given now_given : Option (List Opened)) (returned now_returned : Option (List DoorView)) → count ≡ many → now_given ≡ given
    → now_returned ≡ returned → AreOut count given returned → AreOut many now_given now_returned
out_still count many given now_given returned now_returned same one other out =
    subst (λ n. AreOut n now_given now_returned) same
    (subst (λ g. AreOut count g now_returned) (sym one) (subst (λ r. AreOut count given r) (sym other) out))

-- what was given back to a host that had got nothing meanwhile
pub back_since : (before between after : Option (List DoorView)) (ends : List WorkerView) → between ≡ before
    → IfSome between (λ doors. after ≡ Some (doors ++ map door_of ends)) → IfSome before (λ doors. after ≡ Some (doors ++ map door_of ends))
back_since before between after ends same back = subst (λ b. IfSome b (λ doors. after ≡ Some (doors ++ map door_of ends))) same back

-- why a server didn't begin whose host gave no listeners
pub unlistened : (how : ServerEnd) (why : Trouble) (before after : ℕ)
    → ((how ≡ end.NoMemory) × (why ≡ outside.NoMemory)) ⊎ ((how ≡ end.Failed) × (why ≡ outside.Failed))
    → (why ≡ outside.Failed → Rose before after) → (how ≡ end.NoMemory) ⊎ ((how ≡ end.Failed) × Rose before after)
unlistened how why before after told rose =
    ⊎_elim (λ starved. inl starved.0) (λ failed. inr (failed.0, rose failed.1)) told

-- a list that took the place of another as long
pub refilled : {X : Type 0} (count : ℕ) (new old : List X) → count ≡ length old → length new ≡ length old
    → take count (new ++ drop (length new) old) ≡ new
refilled count new old same one =
    ap (take count) (ap (λ rest. new ++ rest) (drop_of_length-le old (omega (arith, one))) ∙ append-nil new) ∙ subst (λ n. take n new ≡ new)
    (omega (arith, same, one)) (take-length new)

-- the lake that is handed out goes out from what the seats of workers that began go out from
pub origins_stay : {K : Type 0} (view : KeeperView K) (lake : LakeValue K) (connections : Option ℕ) (workers number : ℕ) (seats : List LakeSeat)
    (begins ends : List WorkerView) → AreBegun connections workers number seats begins → HaveServed begins ends
    → All (λ (worker : WorkerView). Finds view worker.carried.seat lake) ends
    → All (λ (seat : LakeSeat). seat.origin ≡ Some (origin_of view lake)) seats
origins_stay view lake connections workers number [] begins ends are served finds =
    All-nil (λ (seat : LakeSeat). seat.origin ≡ Some (origin_of view lake))
origins_stay view lake connections workers number (seat ∷ seats) [] ends are served finds = absurd are
origins_stay view lake connections workers number (seat ∷ seats) (begin ∷ begins) [] are served finds = absurd served
origins_stay view lake connections workers number (seat ∷ seats) (begin ∷ begins) (last ∷ ends) are served finds =
    All-cons (λ (s : LakeSeat). s.origin ≡ Some (origin_of view lake)) seat seats
    (sym (ap (λ (s : LakeSeat). s.origin) served.0.goes.seat ∙ ap (λ (s : LakeSeat). s.origin) are.0.seat)
    ∙ (all_first (λ (worker : WorkerView). Finds view worker.carried.seat lake) last ends finds).origin)
    (origins_stay view lake connections workers (number + 1) seats begins ends are.1 served.1
    (all_others (λ (worker : WorkerView). Finds view worker.carried.seat lake) last ends finds))

pub origins_found : {K : Type 0} (view : KeeperView K) (lake : LakeValue K) (seats : List LakeSeat) → All (λ (seat : LakeSeat). Finds view seat lake) seats
    → All (λ (seat : LakeSeat). seat.origin ≡ Some (origin_of view lake)) seats
origins_found view lake seats finds = λ k d within. (finds k d within).origin

-- the listeners that a host gave are those of the workers
pub opened_so : (at : List ℕ) (before listened after : Option (List Opened)) (given begins : List DoorView)
    → IfSome before (λ doors. listened ≡ Some (doors ++ opened_at at given)) → after ≡ listened → begins ≡ given
    → IfSome before (λ doors. after ≡ Some (doors ++ opened_at at begins))
opened_so at None listened after given begins told same are = tt
opened_so at (Some doors) listened after given begins told same are =
    same ∙ told ∙ ap (λ (l : List DoorView). Some (doors ++ opened_at at l)) (sym are)
