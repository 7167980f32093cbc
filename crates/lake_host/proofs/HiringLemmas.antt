-- Workers that were made so far, and workers that were taken apart so far.
use native.Mathlib.Omega.{arith}
use Rattle.std.proofs.Common.{◌≡◌, ◌<◌, ◌++◌, ◌+◌, suc, ℕ, Bool, false, ◌||◌, List, [], ◌∷◌, length, map, Option, Some, None, is_some, IfSome, append_assoc}
use Rattle.std.proofs.Common.{append-nil, length-append, refl, subst, sym, ◌∙◌, ap}
use Rattle.std.proofs.lemmas.List.{length-map, map-append}
use Rattle.std.proofs.Math.Bool.{or-false, or_assoc}
use Rattle.shared_lake.specs.SeatSteps.{LakeSeat}
use Rattle.lake_server.specs.ServedConnections.{WorkerView}
use Rattle.lake_server.proofs.ServedConnectionsLemmas.{told_more, told_none}
use Rattle.lake_host.specs.Doors.{AreOut, DoorView, Opened, door_of}
use Rattle.lake_host.specs.Shares.{share_of}
use Rattle.lake_host.specs.Workers.{AreBegun, IsBegun, any_failed}

-- ---- made

-- the first of these seats have workers, and a listener is there for each of the others
pub record HiredSoFar (connections : Option ℕ) (all rest : List LakeSeat) (begun : List WorkerView) (doors number : ℕ) : Type 0 where
  pub done : List LakeSeat
  pub whole : all ≡ done ++ rest
  pub are_begun : AreBegun connections (length all) 0 done begun
  pub doors_left : doors ≡ length rest
  pub counted : number ≡ length done
  pub as_many : length begun ≡ length done

pub hired_none : (connections : Option ℕ) (all rest : List LakeSeat) (begun : List WorkerView) (doors : ℕ) → rest ≡ all → begun ≡ [] → doors ≡ length all
    → HiredSoFar connections all rest begun doors 0
hired_none connections all rest begun doors same none enough = record {
  done = [];
  whole = sym same;
  are_begun = subst (λ workers. AreBegun connections (length all) 0 [] workers) (sym none) tt;
  doors_left = enough ∙ ap length (sym same);
  counted = refl;
  as_many = ap length none;
}

-- one more seat behind these
begun_more : (connections : Option ℕ) (workers number : ℕ) (seats : List LakeSeat) (begun : List WorkerView) (seat : LakeSeat) (worker : WorkerView)
    → AreBegun connections workers number seats begun → IsBegun seat (share_of connections workers (number + length seats)) worker
    → AreBegun connections workers number (seats ++ seat ∷ []) (begun ++ worker ∷ [])
begun_more connections workers number [] [] seat worker are is =
    (subst (λ n. IsBegun seat (share_of connections workers n) worker) (omega arith) is, tt)
begun_more connections workers number [] (one ∷ others) seat worker are is = absurd are
begun_more connections workers number (first ∷ seats) [] seat worker are is = absurd are
begun_more connections workers number (first ∷ seats) (one ∷ others) seat worker are is = (
  are.0,
  begun_more connections workers (number + 1) seats others seat worker are.1
      (subst (λ n. IsBegun seat (share_of connections workers n) worker) (omega arith) is),
)

pub hired_one : (connections : Option ℕ) (all rest left : List LakeSeat) (seat : LakeSeat) (begun : List WorkerView) (worker : WorkerView)
    (doors fewer number : ℕ)
    → HiredSoFar connections all rest begun doors number → rest ≡ seat ∷ left → doors ≡ suc fewer
    → IsBegun seat (share_of connections (length all) number) worker
    → HiredSoFar connections all left (begun ++ worker ∷ []) fewer (number + 1)
hired_one connections all rest left seat begun worker doors fewer number far next one is = record {
  done = far.done ++ seat ∷ [];
  whole = far.whole ∙ ap (λ seats. far.done ++ seats) next ∙ sym (append_assoc far.done (seat ∷ []) left);
  are_begun = begun_more connections (length all) 0 far.done begun seat worker far.are_begun
      (subst (λ n. IsBegun seat (share_of connections (length all) n) worker) (far.counted ∙ omega arith) is);
  doors_left =
      let many : length rest ≡ length (seat ∷ left) = ap length next in
      let left_over : doors ≡ length rest = far.doors_left in
      omega (arith, many, left_over, one);
  counted =
      let sum : length (far.done ++ seat ∷ []) ≡ length far.done + 1 = length-append far.done (seat ∷ []) in
      let count : number ≡ length far.done = far.counted in
      omega (arith, sum, count);
  as_many =
      let sum : length (far.done ++ seat ∷ []) ≡ length far.done + 1 = length-append far.done (seat ∷ []) in
      let sums : length (begun ++ worker ∷ []) ≡ length begun + 1 = length-append begun (worker ∷ []) in
      let same : length begun ≡ length far.done = far.as_many in
      omega (arith, sum, sums, same);
}

-- one more listener, or store, goes from those that wait to a worker
moved_over : {X Y A : Type 0} (f : X → A) (g : Y → A) (done : List X) (next : X) (waiting left : List Y) (first : Y) → waiting ≡ first ∷ left
    → f next ≡ g first → map f (done ++ next ∷ []) ++ map g left ≡ map f done ++ map g waiting
moved_over f g done next waiting left first one same =
    ap (λ l. l ++ map g left) (map-append f done (next ∷ [])) ∙ append_assoc (map f done) (f next ∷ []) (map g left)
    ∙ ap (λ x. map f done ++ x ∷ map g left) same ∙ ap (λ l. map f done ++ map g l) (sym one)

-- the same of those that have them, as these show
pub moved_on : {X Y W A : Type 0} (show : X → W) (f : W → A) (g : Y → A) (done now : List X) (next : X) (waiting left : List Y) (first : Y) (all : List A)
    → now ≡ done ++ next ∷ [] → waiting ≡ first ∷ left → f (show next) ≡ g first → map f (map show done) ++ map g waiting ≡ all
    → map f (map show now) ++ map g left ≡ all
moved_on show f g done now next waiting left first all pushed one same far =
    ap (λ l. map f (map show l) ++ map g left) pushed ∙ ap (λ l. map f l ++ map g left) (map-append show done (next ∷ []))
    ∙ moved_over f g (map show done) (show next) waiting left first one same ∙ far

-- and of those that were taken
pub moved_back : {X Y A : Type 0} (f : X → A) (g : Y → A) (done now : List X) (next : X) (waiting left : List Y) (first : Y) (all : List A)
    → now ≡ done ++ next ∷ [] → waiting ≡ first ∷ left → f next ≡ g first → map f done ++ map g waiting ≡ all → map f now ++ map g left ≡ all
moved_back f g done now next waiting left first all pushed one same far =
    ap (λ l. map f l ++ map g left) pushed ∙ moved_over f g done next waiting left first one same ∙ far

-- none is left
pub none_left : {X Y A : Type 0} (f : X → A) (g : Y → A) (done : List X) (waiting : List Y) (all : List A) → length waiting ≡ 0
    → map f done ++ map g waiting ≡ all → map f done ≡ all
none_left f g done [] all none far = sym (append-nil (map f done)) ∙ far
none_left f g done (one ∷ others) all none far = absurd (omega (arith, none))

-- of two lists one each is taken
pub one_taken : {X Y : Type 0} (xs fewer : List X) (x : X) (ys less : List Y) (y : Y) → xs ≡ x ∷ fewer → ys ≡ y ∷ less → length xs ≡ length ys
    → length fewer ≡ length less
one_taken xs fewer x ys less y one other same =
    let more : length xs ≡ suc (length fewer) = ap length one in
    let many : length ys ≡ suc (length less) = ap length other in
    omega (arith, more, many, same)

-- there is room for one more
pub has_place : (connections : Option ℕ) (all rest left : List LakeSeat) (seat : LakeSeat) (begun : List WorkerView) (doors number : ℕ)
    → HiredSoFar connections all rest begun doors number → rest ≡ seat ∷ left → length begun < length all
has_place connections all rest left seat begun doors number far next =
    let sum : length (far.done ++ rest) ≡ length far.done + length rest = length-append far.done rest in
    let whole : length all ≡ length (far.done ++ rest) = ap length far.whole in
    let many : length rest ≡ length (seat ∷ left) = ap length next in
    let same : length begun ≡ length far.done = far.as_many in
    omega (arith, sum, whole, many, same)

pub hired_all : (connections : Option ℕ) (all rest : List LakeSeat) (begun : List WorkerView) (doors number : ℕ)
    → HiredSoFar connections all rest begun doors number → rest ≡ [] → AreBegun connections (length all) 0 all begun
hired_all connections all rest begun doors number far none =
    subst (λ seats. AreBegun connections (length all) 0 seats begun)
    (sym (far.whole ∙ ap (λ seats. far.done ++ seats) none ∙ append-nil far.done)) far.are_begun

-- ---- taken apart

-- the first of these workers were taken apart: their seats are here, their listeners back at the host, and it is known whether one failed
pub record TakenSoFar (all rest : List WorkerView) (seats : List LakeSeat) (before now : Option (List DoorView)) (failed : Bool) : Type 0 where
  pub done : List WorkerView
  pub whole : all ≡ done ++ rest
  pub are_seats : seats ≡ map (λ (worker : WorkerView). worker.carried.seat) done
  pub are_back : IfSome before (λ doors. now ≡ Some (doors ++ map door_of done))
  pub told : is_some now ≡ is_some before
  pub tells : failed ≡ any_failed done

pub taken_none : (all rest : List WorkerView) (seats : List LakeSeat) (before : Option (List DoorView)) → rest ≡ all → seats ≡ []
    → TakenSoFar all rest seats before before false
taken_none all rest seats before same none = record {
  done = [];
  whole = sym same;
  are_seats = none;
  are_back = told_none door_of before;
  told = refl;
  tells = refl;
}

-- one more worker behind these
failed_more : (done : List WorkerView) (worker : WorkerView) → any_failed (done ++ worker ∷ []) ≡ (any_failed done || worker.failed)
failed_more [] worker = or-false worker.failed
failed_more (one ∷ others) worker = ap (λ b. one.failed || b) (failed_more others worker) ∙ sym (or_assoc one.failed (any_failed others) worker.failed)

pub taken_one : (all rest left : List WorkerView) (worker : WorkerView) (seats more : List LakeSeat) (before now next : Option (List DoorView))
    (failed any : Bool)
    → TakenSoFar all rest seats before now failed → rest ≡ worker ∷ left → more ≡ seats ++ worker.carried.seat ∷ []
    → IfSome now (λ doors. next ≡ Some (doors ++ door_of worker ∷ [])) → is_some next ≡ is_some now → any ≡ (failed || worker.failed)
    → TakenSoFar all left more before next any
taken_one all rest left worker seats more before now next failed any far one seat door some told = record {
  done = far.done ++ worker ∷ [];
  whole = far.whole ∙ ap (λ workers. far.done ++ workers) one ∙ sym (append_assoc far.done (worker ∷ []) left);
  are_seats = seat ∙ ap (λ s. s ++ worker.carried.seat ∷ []) far.are_seats
      ∙ sym (map-append (λ (w : WorkerView). w.carried.seat) far.done (worker ∷ []));
  are_back = told_more door_of before now next far.done worker far.are_back door;
  told = some ∙ far.told;
  tells = told ∙ ap (λ b. b || worker.failed) far.tells ∙ sym (failed_more far.done worker);
}

-- one more of each
pub one_pushed : {X Y : Type 0} (xs more : List X) (x : X) (ys others : List Y) (y : Y) → more ≡ xs ++ x ∷ [] → others ≡ ys ++ y ∷ []
    → length xs ≡ length ys → length more ≡ length others
one_pushed xs more x ys others y one other same =
    ap length one ∙ length-append xs (x ∷ []) ∙ ap (λ n. n + 1) same ∙ sym (length-append ys (y ∷ [])) ∙ sym (ap length other)

-- there is room for one more seat
pub taken_place : (all rest left : List WorkerView) (worker : WorkerView) (seats : List LakeSeat) (before now : Option (List DoorView)) (failed : Bool)
    → TakenSoFar all rest seats before now failed → rest ≡ worker ∷ left → length seats < length all
taken_place all rest left worker seats before now failed far one =
    let sum : length (far.done ++ rest) ≡ length far.done + length rest = length-append far.done rest in
    let whole : length all ≡ length (far.done ++ rest) = ap length far.whole in
    let many : length rest ≡ length (worker ∷ left) = ap length one in
    let same : length seats ≡ length (map (λ (w : WorkerView). w.carried.seat) far.done) = ap length far.are_seats in
    let mapped : length (map (λ (w : WorkerView). w.carried.seat) far.done) ≡ length far.done = length-map far.done (λ (w : WorkerView). w.carried.seat) in
    omega (arith, sum, whole, many, same, mapped)

none_out : (many : List Opened) (now : Option (List DoorView)) → is_some now ≡ false → AreOut 1 (Some many) now
none_out many None none = tt
none_out many (Some back) none = absurd cc

-- a listener is out that is to be given back
pub one_out : (all rest left : List WorkerView) (worker : WorkerView) (seats : List LakeSeat) (given : Option (List Opened))
    (before now : Option (List DoorView)) (failed : Bool)
    → TakenSoFar all rest seats before now failed → rest ≡ worker ∷ left → AreOut (length all) given before → AreOut 1 given now
one_out all rest left worker seats None before now failed far one out = tt
one_out all rest left worker seats (Some many) None now failed far one out = none_out many now far.told
one_out all rest left worker seats (Some many) (Some back) now failed far one out =
    let sum : length (far.done ++ rest) ≡ length far.done + length rest = length-append far.done rest in
    let whole : length all ≡ length (far.done ++ rest) = ap length far.whole in
    let some : length rest ≡ length (worker ∷ left) = ap length one in
    let sums : length (back ++ map door_of far.done) ≡ length back + length (map door_of far.done) = length-append back (map door_of far.done) in
    let mapped : length (map door_of far.done) ≡ length far.done = length-map far.done door_of in
    subst (λ (n : Option (List DoorView)). AreOut 1 (Some many) n) (sym far.are_back) (omega (arith, sum, whole, some, sums, mapped, out))

-- all were taken apart
done_all : (all rest : List WorkerView) (seats : List LakeSeat) (before now : Option (List DoorView)) (failed : Bool)
    (far : TakenSoFar all rest seats before now failed) → rest ≡ [] → far.done ≡ all
done_all all rest seats before now failed far none = sym (far.whole ∙ ap (λ workers. far.done ++ workers) none ∙ append-nil far.done)

pub seats_all : (all rest : List WorkerView) (seats : List LakeSeat) (before now : Option (List DoorView)) (failed : Bool)
    → TakenSoFar all rest seats before now failed → rest ≡ [] → seats ≡ map (λ (worker : WorkerView). worker.carried.seat) all
seats_all all rest seats before now failed far none =
    far.are_seats ∙ ap (map (λ (worker : WorkerView). worker.carried.seat)) (done_all all rest seats before now failed far none)

pub back_all : (all rest : List WorkerView) (seats : List LakeSeat) (before now : Option (List DoorView)) (failed : Bool)
    → TakenSoFar all rest seats before now failed → rest ≡ [] → IfSome before (λ doors. now ≡ Some (doors ++ map door_of all))
back_all all rest seats before now failed far none =
    subst (λ workers. IfSome before (λ doors. now ≡ Some (doors ++ map door_of workers))) (done_all all rest seats before now failed far none) far.are_back

pub tells_all : (all rest : List WorkerView) (seats : List LakeSeat) (before now : Option (List DoorView)) (failed : Bool)
    → TakenSoFar all rest seats before now failed → rest ≡ [] → failed ≡ any_failed all
tells_all all rest seats before now failed far none = far.tells ∙ ap any_failed (done_all all rest seats before now failed far none)
