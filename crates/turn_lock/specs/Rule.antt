-- The rule of a turn over its three words, the value's place and what the seats know, and what each step
-- tells.
-- The words are the turn (1 while a seat holds it), the length of the stored list, and how many seat
-- numbers were drawn.
use Rattle.std.specs.Prelude.{◌++◌, ◌≡◌, ◌≢◌, ◌⊎◌, ℕ, ◌+◌, ◌<◌, ◌≤◌, ◌==◌, ◌||◌, List, [], ◌∷◌, length, Bool, true, false, Option, Some, None, if◌then◌else◌}
use Rattle.std.specs.Prelude.{MatchBool}
use mathlib.Core.Option.{some, none}
use mathlib.Core.Option as maybe
use mathlib.Core.List.{IsPrefix}
use lib.ListN.{get_elem?}
use Rattle.atomic_table.specs.Table.{State, Me, Step, rest}
use Rattle.atomic_table.specs.Seated.{TableId}
use Rattle.atomic_table.specs.declared.shared.Seat.{Seat}
use Rattle.turn_lock.specs.declared.rule.View.{View}
use Rattle.turn_lock.specs.declared.rule.Kin.{Kin}
use Rattle.turn_lock.specs.declared.rule.Stage.{Stage}
use Rattle.turn_lock.specs.declared.rule.Stage.TheVariants.{Away, Holds, Out}
use Rattle.turn_lock.specs.Seats.{by_seat, SeatValue, KnowsOwn, Meets, seat_limit, longer_of}

-- the value lies in its place and stands for the stored list, or it is out with the holder
abbrev pub HoldsOfPlace : {S O E : Type 0} → (S → O) → (S → List E) → O → List E → Bool → List (maybe.Option (Option S)) → Type 0
HoldsOfPlace {S} origin list o log true homes = homes ≡ none ∷ []
HoldsOfPlace {S} origin list o log false homes = (y : S) × (homes ≡ some (Some y) ∷ []) × (origin y ≡ o) × (list y ≡ log)

-- only the holder is at work, while the turn's word is 1. While the value is out, the holder has seen
-- the whole stored list
abbrev pub HoldsOfStage : {E : Type 0} → ℕ → ℕ → Bool → List E → ℕ → List E → Stage → Type 0
HoldsOfStage turn holder lent log j seen Away = Unit {0}
HoldsOfStage turn holder lent log j seen Holds = (j ≡ holder) × (turn ≡ 1) × (lent ≡ false)
HoldsOfStage turn holder lent log j seen Out = (j ≡ holder) × (turn ≡ 1) × (lent ≡ true) × (seen ≡ log)

-- the number n is kept back for a seat that is to be split off
abbrev pub Reserves : {O E : Type 0} → View O E → ℕ → Type 0
Reserves d n = (d.from ≤ n) × (n < d.to)

-- this seat was joined to that of the view d
abbrev pub IsKin : {O E : Type 0} → View O E → Kin O E → Type 0
IsKin d k = (i : ℕ) × (get_elem? d.kin i ≡ some k)

-- what is true of a seat that was joined to one which has seen this list
pub record HoldsOfKin {O E : Type 0} (seat_of : E → ℕ) (o : O) (log seen : List E) (k : Kin O E) : Type 0 where
  pub same_origin : k.origin ≡ Some o
  pub begins : IsPrefix k.seen seen
  pub own : by_seat seat_of k.number log ≡ k.mine
  pub own_seen : by_seat seat_of k.number k.seen ≡ k.mine

-- what is true of one living view
pub record HoldsOfView {O E : Type 0} (seat_of : E → ℕ) (o : O) (log : List E) (seats turn holder : ℕ) (lent : Bool) (j : ℕ) (d : View O E) : Type 0 where
  pub same_origin : d.origin ≡ Some o
  pub begins : IsPrefix d.seen log
  pub own : by_seat seat_of d.number log ≡ d.mine
  pub own_seen : by_seat seat_of d.number d.seen ≡ d.mine
  pub drawn : d.number < seats
  pub counts : d.numbers ≤ seats
  pub stage : HoldsOfStage turn holder lent log j d.seen d.stage
  pub kept_back : (n : ℕ) → Reserves d n → (n < seats) × (n ≢ d.number) × (by_seat seat_of n log ≡ by_seat seat_of n d.seen)
  pub current : d.alone ≡ true → d.seen ≡ log
  pub before : IsPrefix d.before d.seen
  pub own_before : by_seat seat_of d.number d.before ≡ d.mine
  pub kin : (k : Kin O E) → IsKin d k → (k.number < seats) × (k.number ≢ d.number) × (Reserves d k.number → ⊥) × HoldsOfKin seat_of o log d.seen k
  pub no_clash : d.clash ≡ false

-- what is true of two living views: their numbers differ, also from those kept back, and a seat that is
-- alone has no other beside it
pub record Differ {O E : Type 0} (d e : View O E) : Type 0 where
  pub numbers : d.number ≢ e.number
  pub kept_back : (n : ℕ) → Reserves d n → n ≢ e.number
  pub both : (n : ℕ) → Reserves d n → Reserves e n → ⊥
  pub kin : (k : Kin O E) → IsKin d k → (k.number ≢ e.number) × (Reserves e k.number → ⊥)
  pub not_alone : d.alone ≡ true → ⊥

-- The rule of a turn, of its words, the value's place and all views, for one origin and one stored list
pub record HoldsOfTurn {S O E : Type 0} (origin : S → O) (list : S → List E) (seat_of : E → ℕ) (s : State (Option S) (View O E)) : Type 0 where
  pub o : O
  pub log : List E
  pub turn : ℕ
  pub seats : ℕ
  pub holder : ℕ
  pub lent : Bool
  pub words : s.words ≡ turn ∷ length log ∷ seats ∷ []
  pub one : turn ≤ 1
  pub few : seats ≤ seat_limit
  pub home : HoldsOfPlace origin list o log lent s.homes
  pub free : turn ≡ 0 → lent ≡ false
  pub held : turn ≡ 1 → (d : View O E) × (get_elem? s.views holder ≡ some d) × (d.living ≡ true) × (d.stage ≢ Away)
  pub undrawn : (n : ℕ) → seats ≤ n → by_seat seat_of n log ≡ []
  pub each_view : (j : ℕ) (d : View O E) → get_elem? s.views j ≡ some d → d.living ≡ true → HoldsOfView seat_of o log seats turn holder lent j d
  pub differ : (i j : ℕ) (d e : View O E) → i ≢ j → get_elem? s.views i ≡ some d → get_elem? s.views j ≡ some e → d.living ≡ true → e.living ≡ true → Differ d e

-- the name of no turn
abbrev pub no_turn : TableId
no_turn = record { words = 0; slots = 0; views_name = 0; atom = 0; block = 0; offset = 0; slot_names = [] }

module _ {O E : Type 0} where
  -- the view of the first seat, which keeps back the numbers of the others
  abbrev pub first_view : {S : Type 0} → (S → O) → (S → List E) → (E → ℕ) → S → ℕ → View O E
  first_view origin list seat_of x seats = record {
    living = true;
    number = 0;
    origin = Some (origin x);
    seen = list x;
    mine = by_seat seat_of 0 (list x);
    alone = seats == 1;
    numbers = seats;
    draws = 0;
    stage = Away;
    from = 1;
    to = seats;
    before = list x;
    kin = [];
    clash = false;
  }

  -- a view that was joined to another
  abbrev pub spent_view : View O E
  spent_view = record {
    living = false;
    number = 0;
    origin = None;
    seen = [];
    mine = [];
    alone = false;
    numbers = 0;
    draws = 0;
    stage = Away;
    from = 0;
    to = 0;
    before = [];
    kin = [];
    clash = false;
  }

  -- the same view, with its seat this far with the turn
  abbrev pub view_at : Stage → View O E → View O E
  view_at stage d = record d { stage = stage }

  -- what is left where a seat is split off
  abbrev pub left_view : View O E → View O E
  left_view d = record d { alone = false; from = d.to }

  -- the seat that is split off, which takes the first number kept back, and keeps the others
  abbrev pub right_view : (E → ℕ) → View O E → View O E
  right_view seat_of d =
      record d { number = d.from; mine = by_seat seat_of d.from d.seen; alone = false; draws = 0; from = d.from + 1; before = d.seen; kin = [] }

  -- a seat as it is joined to another
  abbrev pub kin_of : View O E → Kin O E
  kin_of d = record { number = d.number; origin = d.origin; seen = d.seen; mine = d.mine }

  -- two seats made one
  abbrev pub joined_view : View O E → View O E → View O E
  joined_view d e =
      record d { seen = longer_of d.seen e.seen; before = d.seen; kin = kin_of e ∷ (e.kin ++ d.kin); alone = false; clash = d.alone || e.alone; from = d.to }

  -- the view that goes on to the k-th seat of a new turn, which keeps back the numbers of the later ones
  abbrev pub dealer_view : {S : Type 0} → (S → O) → (S → List E) → (E → ℕ) → S → ℕ → ℕ → View O E
  dealer_view origin list seat_of x seats k = record (first_view origin list seat_of x seats) { number = k; mine = by_seat seat_of k (list x); from = k + 1 }

  -- what a seat shows of its view
  abbrev pub seat_value : TableId → View O E → SeatValue O E
  seat_value turn d =
      record { turn = turn; number = d.number; origin = d.origin; seen = d.seen; mine = d.mine; alone = d.alone; numbers = d.numbers; draws = d.draws }

  -- what a seat shows of its views, of which it has one
  abbrev pub value_of_views : TableId → List (View O E) → SeatValue O E
  value_of_views turn [] = seat_value turn spent_view
  value_of_views turn (d ∷ _) = seat_value turn d

  -- a joined seat's origin is this seat's, and its list begins what this seat has seen, with just its
  -- own entries of its number
  abbrev pub IsKnownKin : (E → ℕ) → View O E → Kin O E → Type 0
  IsKnownKin seat_of d k = (k.origin ≡ d.origin) × IsPrefix k.seen d.seen × (by_seat seat_of k.number k.seen ≡ k.mine)

  -- a seat that lies with its holder
  abbrev pub IsAtRest : View O E → Type 0
  IsAtRest d = (d.living ≡ true) × (d.stage ≡ Away)

  -- the one view of a seat of this number that lies with its holder, and has seen so many entries
  abbrev pub Rests : ℕ → ℕ → List (View O E) → Type 0
  Rests number seen views = (d : View O E) × (views ≡ d ∷ []) × IsAtRest d × (d.number ≡ number) × (length d.seen ≡ seen)

-- what a seat of the base has: its view, and the slots that it has taken
abbrev BaseSeat : Type 0 → Type 0 → Type 0 → Type 0
BaseSeat S O E = Me (Option S) (View O E)

module _ {S O E : Type 0} where
  -- the turn was free, and is taken; or another has it. The seat has seen just its own entries of its number
  abbrev pub TakesTurn : (E → ℕ) → Step (Option S) → BaseSeat S O E → ℕ → BaseSeat S O E → Type 0
  TakesTurn seat_of s m n m' =
      (m' ≡ ((if n == 0 then view_at Holds m.0 else m.0), m.1)) × KnowsOwn seat_of (seat_value no_turn m.0)

  -- the value is lent, and its list was seen
  abbrev pub ReadsHistory : (S → O) → (S → List E) → (E → ℕ) → Step (Option S) → BaseSeat S O E → ℕ → BaseSeat S O E → Type 0
  ReadsHistory origin list seat_of s m n m' =
      (y : S) × Meets origin list seat_of (seat_value no_turn m.0) y × (m' ≡ (record m.0 { stage = Out; seen = list y }, (0, Some y) ∷ m.1))

  -- the list is now this one, in which the seat's number has the seat's own entries
  abbrev pub StoresHistory : List E → (E → ℕ) → Step (Option S) → BaseSeat S O E → ℕ → BaseSeat S O E → Type 0
  StoresHistory now seat_of s m n m' =
      m' ≡ (record m.0 { seen = now; mine = by_seat seat_of m.0.number now; before = now }, m.1)

  -- the turn and the slot taken last were given back
  abbrev pub GivesTurnBack : Step (Option S) → BaseSeat S O E → ℕ → BaseSeat S O E → Type 0
  GivesTurnBack s m n m' = m' ≡ (view_at Away m.0, rest m.1)

  -- the number n was drawn, which has no entry; or others drew, and n numbers are drawn
  abbrev pub DrawsNumber : (E → ℕ) → Step (Option S) → BaseSeat S O E → ℕ → BaseSeat S O E → Type 0
  DrawsNumber seat_of s m n m' =
      MatchBool (n == s.first)
      ((m' ≡ (record m.0 { alone = false; numbers = n + 1; draws = m.0.draws + 1; from = n; to = n + 1 }, m.1)) × (by_seat seat_of n m.0.seen ≡ [])
      × (m.0.numbers ≤ n))
      ((m' ≡ (record m.0 { alone = false; numbers = n }, m.1)) × (m.0.numbers ≤ n) × (n ≤ seat_limit))
      × KnowsOwn seat_of (seat_value no_turn m.0)

  -- what the seat had seen begins what it has seen, and each has just its own entries; so it is with
  -- each seat that was joined; none was alone
  abbrev pub ComparesSeats : (E → ℕ) → Step (Option S) → BaseSeat S O E → ℕ → BaseSeat S O E → Type 0
  ComparesSeats seat_of s m n m' =
      (m' ≡ m)
      × (m.0.clash ≡ false)
      × IsPrefix m.0.before m.0.seen
      × (by_seat seat_of m.0.number m.0.before ≡ m.0.mine)
      × KnowsOwn seat_of (seat_value no_turn m.0)
      × ((k : Kin O E) → IsKin m.0 k → IsKnownKin seat_of m.0 k)

module _ {S O E : Type 0} where
  -- a seat of this turn, which has three words and one place
  abbrev pub IsSeatOf : TableId → Seat (Option S) (View O E) → Type 0
  IsSeatOf z p = (p.table_id ≡ z) × (z.words ≡ 3) × (z.slots ≡ 1)

  -- it is the same seat after a step
  abbrev pub IsSameSeat : Seat (Option S) (View O E) → Seat (Option S) (View O E) → Type 0
  IsSameSeat p q = (q.table_id ≡ p.table_id) × (q.id ≡ p.id)

  -- as long as a seat has only tried to draw, its view is as it was, but for what it counts
  abbrev pub IsAfterTry : BaseSeat S O E → BaseSeat S O E → Type 0
  IsAfterTry m m' = (m' ≡ m) ⊎ ((n : ℕ) × (m' ≡ (record m.0 { alone = false; numbers = n }, m.1)) × (m.0.numbers ≤ n))

  -- the seat holds the turn, and the value lies in its place
  abbrev pub IsHolding : BaseSeat S O E → Type 0
  IsHolding m = (m.0.living ≡ true) × (m.0.stage ≡ Holds) × (m.1 ≡ [])

module _ {O E : Type 0} where
  -- the number, the origin and the own entries are as they were
  abbrev pub IsSameWork : View O E → View O E → Type 0
  IsSameWork d e = (e.number ≡ d.number) × (e.origin ≡ d.origin) × (e.mine ≡ d.mine)

  -- the seat as it is joined to another
  abbrev pub kin_of_seat : SeatValue O E → Kin O E
  kin_of_seat s = record { number = s.number; origin = s.origin; seen = s.seen; mine = s.mine }

  -- this seat is one of these, which were joined to another, and it was not alone
  abbrev pub IsJoined : List (Kin O E) → SeatValue O E → Type 0
  IsJoined kin s = (s.alone ≡ false) × ((i : ℕ) × (get_elem? kin i ≡ some (kin_of_seat s)))
