-- What calls are placed by: the entries of a history, the states between them, and the course of each request.
use Rattle.std.specs.Prelude.{ℕ, Bool, List, Option}

-- who makes an entry: a seat, in its call of this number
pub record Caller : Type 0 where
  pub seat : ℕ
  pub call : ℕ

-- THE RULES, of which all that follows speaks. An instance gives them once.
--
-- A point is one step of a call's course: it reads, or it makes an operation. What a point fixes (a number that is given
-- out, a commit that a name leads to) is part of the point: a course has it as an argument.
pub record Rules (Entry State Operation Request Fixed Point Met Reply : Type 0) : Type 1 where
  -- who made an entry
  pub maker : Entry → Caller
  -- the entry of an operation that was accepted, and the note of one at which the store failed
  pub accepted : Caller → Operation → Entry
  pub faulted : Caller → Operation → Entry
  -- the state after an entry
  pub after : State → Entry → State
  -- whether a state takes no more changes: it has such a note, or no room for another entry
  pub is_shut : State → Bool
  -- the refusal of a request's form, which depends on the request alone
  pub form : Request → Option Reply
  -- THE COURSE of a request: its points in order, by what they fix
  pub course : Request → Fixed → List Point
  -- the operation that a point makes; a reading makes none
  pub makes : Point → Option Operation
  -- in this state nothing refuses the point, and what it fixes may be fixed
  pub passes : Caller → Request → Point → State → Type 0
  -- in this state the point may be refused with this reply
  pub refuses : Caller → Request → Point → State → Reply → Type 0
  -- the reply once the whole course went by, with the state before the last point's entry, and with what the call met: the
  -- bytes that a store held, how many it removed
  pub answers : Caller → Request → Met → (course : List Point) → State → Reply → Type 0
  -- An exception: a reply that isn't a state's refusal, with its cause. It comes while these points are left, and there are
  -- some. Its cause is what the call met (counts of a store, of tries), and what the history shows that was seen, from the
  -- opened state on. The first `from` entries of it were there before the
  -- call: a number of them that is less serves as well.
  pub excepts : Caller → Request → (left : List Point) → Met → State → (from : ℕ) → (seen : List Entry) → Reply → Type 0
  -- an exception whose cause comes behind the whole course, in what a call does after its last entry (removing objects)
  pub excepts_behind : Caller → Request → Met → State → (from : ℕ) → (seen : List Entry) → Reply → Type 0
  -- a reply that says that the store failed, with what the call met of it
  pub store_fails : Met → Reply → Type 0
  -- A reply that says that memory ran out. It may come anywhere: nothing is asked of what the call met.
  pub is_no_memory : Reply → Type 0
  -- what a call that stops behind these points has to give up again
  pub owed : Request → (passed : List Point) → Option Operation
  -- whether a reply is Ok
  pub is_done : Reply → Bool
