-- What the holder of a seat knows, and what it may do.
use Rattle.std.specs.Prelude.{◌≡◌, ℕ, ◌+◌, ◌==◌, List, ◌++◌, [], ◌∷◌, length, Bool, true, false, Option, Some, None, All, if◌then◌else◌}
use Rattle.std.proofs.Math.Dec.{ltb}
use Rattle.std.specs.List.{filter}
use mathlib.Core.List.{IsPrefix}
use denote.Ref.{MutBor}
use denote.Param.Members.{Once}
-- the name of a turn, and its code, passed on for the crates above
pub use Rattle.atomic_table.specs.Seated.{TableId, table_id_coded}

-- the entries of the seat number n, in their order
abbrev pub by_seat : {E : Type 0} → (E → ℕ) → ℕ → List E → List E
by_seat seat_of n entries = filter (λ e. seat_of e == n) entries

-- What a seat shows: its turn, its number and its origin, the entries that it has seen and those that it made, whether
-- it is the only seat, how many seat numbers it has seen drawn, and how many it drew itself
pub record SeatValue (O E : Type 0) : Type 0 where
  pub turn : TableId
  pub number : ℕ
  pub origin : Option O
  pub seen : List E
  pub mine : List E
  pub alone : Bool
  pub numbers : ℕ
  pub draws : ℕ

-- of the entries that the seat has seen, those of its number are just its own
abbrev pub KnowsOwn : {O E : Type 0} → (E → ℕ) → SeatValue O E → Type 0
KnowsOwn seat_of s = by_seat seat_of s.number s.seen ≡ s.mine

-- The value is one that the seat may find: it has the seat's origin, and its list begins with all that the seat has
-- seen. Of the seat's number that list has just the seat's own entries, and so has its beginning. Where the seat is
-- alone, the list is what it has seen
pub record Meets {S O E : Type 0} (origin : S → O) (list : S → List E) (seat_of : E → ℕ) (s : SeatValue O E) (x : S) : Type 0 where
  pub same_origin : s.origin ≡ Some (origin x)
  pub begins : IsPrefix s.seen (list x)
  pub own : by_seat seat_of s.number (list x) ≡ s.mine
  pub own_seen : KnowsOwn seat_of s
  pub current : s.alone ≡ true → list x ≡ s.seen

-- y is x with these entries added, all of the seat number n, and has the same origin
abbrev pub Adds : {S O E : Type 0} → (S → O) → (S → List E) → (E → ℕ) → ℕ → S → List E → S → Type 0
Adds origin list seat_of n x added y =
    (origin y ≡ origin x) × (list y ≡ list x ++ added) × All (λ e. seat_of e ≡ n) added

-- a change that only appends entries of the seat number n
abbrev pub OnlyAdds : {S O E : Type 0} → (S → O) → (S → List E) → (E → ℕ) → ℕ → S → S → Type 0
OnlyAdds {S} {O} {E} origin list seat_of n x y = (added : List E) × Adds origin list seat_of n x added y

-- the list with this entry behind it, where there is one
abbrev pub with_entry : {E : Type 0} → List E → Option E → List E
with_entry xs None = xs
with_entry xs (Some e) = xs ++ e ∷ []

-- f may be called at a `&mut` to x, and at the seat number n
abbrev pub TakesChange : {F S R : Type 0} → Once F (MutBor S × (ℕ × Unit {0})) (R × (MutBor S × Unit {0})) → F → S → ℕ → Type 0
TakesChange {F} {S} g f x n = (p : MutBor S) → p.now ≡ x → g.pre f (p, (n, tt))

-- called at a `&mut` to x, and at the seat number n, f may give r and leave y
pub record GivesChange {F S R : Type 0} (g : Once F (MutBor S × (ℕ × Unit {0})) (R × (MutBor S × Unit {0}))) (f : F) (x : S) (n : ℕ) (r : R)
    (y : S) : Type 0 where
  pub shown : MutBor S
  pub shows : shown.now ≡ x
  pub left : MutBor S
  pub met : g.post f (shown, (n, tt)) (r, (left, tt))
  pub leaves : left.now ≡ y

-- the k-th seat of a new turn over x, which has this many seats
abbrev pub new_seat : {S O E : Type 0} → (S → O) → (S → List E) → (E → ℕ) → TableId → S → ℕ → ℕ → SeatValue O E
new_seat origin list seat_of turn x seats k = record {
  turn = turn;
  number = k;
  origin = Some (origin x);
  seen = list x;
  mine = by_seat seat_of k (list x);
  alone = seats == 1;
  numbers = seats;
  draws = 0;
}

-- the seat once it has seen this list, in which its own entries are these
abbrev pub seat_after : {O E : Type 0} → SeatValue O E → List E → List E → SeatValue O E
seat_after s list mine = record s { seen = list; mine = mine }

-- the seat of this number, split off s: it has seen what s has, and made and drawn nothing
abbrev pub seat_beside : {O E : Type 0} → SeatValue O E → ℕ → SeatValue O E
seat_beside s number = record s { number = number; mine = []; alone = false; numbers = number + 1; draws = 0 }

-- the seat once it has drawn this number
abbrev pub seat_after_draw : {O E : Type 0} → SeatValue O E → ℕ → SeatValue O E
seat_after_draw s number = record s { alone = false; numbers = number + 1; draws = s.draws + 1 }

-- how many seat numbers there are
abbrev pub seat_limit : ℕ
seat_limit = 4294967295

-- the seat once it has found that all numbers were drawn: it has drawn nothing
abbrev pub seat_when_full : {O E : Type 0} → SeatValue O E → SeatValue O E
seat_when_full s = record s { alone = false; numbers = seat_limit }

-- the longer of two lists
abbrev pub longer_of : {E : Type 0} → List E → List E → List E
longer_of xs ys = if ltb (length xs) (length ys) then ys else xs
