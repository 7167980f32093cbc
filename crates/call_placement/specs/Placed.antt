-- What it is that the calls of a session are placed in a history: by positions in the whole of it, and by the entries of
-- each call, sought behind what the seat had seen before the session.
use Rattle.std.specs.Prelude.{◌≡◌, ◌≢◌, ◌⊎◌, ◌+◌, ◌≤◌, ◌++◌, ℕ, true, false, List, [], ◌∷◌, length, take, drop, filter, Option, Some, None}
use Rattle.call_placement.specs.Rules.{Caller, Rules}
use Rattle.call_placement.specs.Points.{replay, is_own, made, entries_of}
use Rattle.call_placement.specs.Served.{IsOfFault}
use Rattle.call_placement.specs.Sessions.{Item, caller}

module _ {Entry State Operation Request Fixed Point Met Reply : Type 0} (rules : Rules Entry State Operation Request Fixed Point Met Reply) where
  -- the state at a position: after the first so many entries
  abbrev pub state_at : State → List Entry → ℕ → State
  state_at opened entries position = replay rules opened (take position entries)

  -- the entries of a call behind what the seat had seen before the session
  abbrev pub own_entries : Caller → (start entries : List Entry) → List Entry
  own_entries by start entries = filter (is_own rules by) (drop (length start) entries)

  -- behind the first so many entries stand these
  abbrev pub StandAt : List Entry → ℕ → List Entry → Type 0
  StandAt entries position these = (rest : List Entry) × (drop position entries ≡ these ++ rest)

  -- The points stand in the order of the course, from a position on: each holds in the state at its own position, behind
  -- which its entry stands, if it makes one. None lies before an earlier point, nor before the place of an entry that an
  -- earlier point made.
  abbrev pub StandInOrder : State → Caller → Request → List Entry → (from : ℕ) → List Point → (reached : ℕ) → Type 0
  StandInOrder opened by request entries from [] reached = reached ≡ from
  StandInOrder opened by request entries from (point ∷ points) reached =
      (at : ℕ) × (from ≤ at) × rules.passes by request point (state_at opened entries at)
      × StandAt entries at (made rules by (rules.makes point))
      × StandInOrder opened by request entries (at + length (made rules by (rules.makes point))) points reached

  -- What a stopped call owes was given up by its last entry, unless the seat had seen a state that takes no more changes
  -- as the session ended.
  abbrev pub IsSettled : State → Caller → List Entry → Option Operation → (added : List Entry) → Type 0
  IsSettled opened by entries owed added =
      ((owed ≡ None) × (added ≡ []))
      ⊎ ((operation : Operation) × (owed ≡ Some operation) × (added ≡ rules.accepted by operation ∷ []))
      ⊎ ((added ≡ []) × (rules.is_shut (replay rules opened entries) ≡ true))

  -- an operation that was tried when the store failed: the next point's, which nothing refused, or what was owed, while the
  -- state took changes
  abbrev pub IsTried : Caller → Request → (passed left : List Point) → State → Operation → Type 0
  IsTried by request passed left state operation =
      ((point : Point) × (later : List Point) × (left ≡ point ∷ later) × (rules.makes point ≡ Some operation) × rules.passes by request point state)
      ⊎ ((rules.owed request passed ≡ Some operation) × (rules.is_shut state ≡ false))

  -- How the reply and its position were decided, of a call of whose course these points passed, up to a position, and
  -- those are left, with these entries behind the course's.
  pub data IsDecided (opened : State) (by : Caller) (edge : ℕ) (entries : List Entry) (item : Item Request Met Reply) (passed left : List Point)
      (reached : ℕ) (added : List Entry) : Type 0 where
    -- The whole course passed. The reply is the one in the state before its last entry, and the position is that entry's
    -- place. If its last point reads, it is the state at the position.
    ByCourse : (front : List Point) (last : Point) (at : ℕ) → left ≡ [] → added ≡ [] → passed ≡ front ++ last ∷ []
        → reached ≡ at + length (made rules by (rules.makes last)) → item.position ≡ reached
        → rules.answers by item.request item.met passed (state_at opened entries at) item.reply
        → IsDecided opened by edge entries item passed left reached added
    -- The next point is refused in the state at the position.
    ByRefusal : (point : Point) (later : List Point) → left ≡ point ∷ later
        → rules.refuses by item.request point (state_at opened entries item.position) item.reply
        → IsSettled opened by entries (rules.owed item.request passed) added
        → IsDecided opened by edge entries item passed left reached added
    -- An exception, with its cause behind the edge and up to the position, while a point of the course is left.
    ByException : left ≢ []
        → rules.excepts by item.request left item.met opened edge (take item.position entries) item.reply
        → IsSettled opened by entries (rules.owed item.request passed) added
        → IsDecided opened by edge entries item passed left reached added
    -- one whose cause comes behind the whole course
    ByLateException : left ≡ []
        → rules.excepts_behind by item.request item.met opened edge (take item.position entries) item.reply
        → IsSettled opened by entries (rules.owed item.request passed) added
        → IsDecided opened by edge entries item passed left reached added
    -- Out of memory: what was owed may have been given up.
    ByMemory : rules.is_no_memory item.reply
        → (added ≡ []) ⊎ ((operation : Operation) × (rules.owed item.request passed ≡ Some operation) × (added ≡ rules.accepted by operation ∷ []))
        → IsDecided opened by edge entries item passed left reached added
    -- The store failed: a note stands in the place of an entry, and is the last. The position is its place. Where memory
    -- ran out on the way to say so, the reply is that.
    ByFault : (operation : Operation) (at : ℕ) → IsTried by item.request passed left (state_at opened entries at) operation
        → IsOfFault rules item.met item.reply → added ≡ rules.faulted by operation ∷ []
        → StandAt entries at added → item.position ≡ at + 1
        → IsDecided opened by edge entries item passed left reached added

  -- A CALL IS PLACED behind an edge, and this is the next.
  pub record IsPlaced (opened : State) (by : Caller) (edge next_edge : ℕ) (start entries : List Entry) (item : Item Request Met Reply) : Type 0 where
    -- its own entries stand behind the edge
    pub behind : own_entries by start (take edge entries) ≡ []
    -- its position lies at the edge or behind it, and not past the end
    pub begins : edge ≤ item.position
    pub ends : item.position ≤ length entries
    -- some front of its course stands from the edge on, in order, and up to the position
    pub fixed : Fixed
    pub passed : List Point
    pub left : List Point
    pub course : rules.course item.request fixed ≡ passed ++ left
    pub reached : ℕ
    pub points : StandInOrder opened by item.request entries edge passed reached
    pub in_order : reached ≤ item.position
    -- its own entries are those of that front, and at most one more
    pub added : List Entry
    pub own : own_entries by start entries ≡ entries_of rules by passed ++ added
    pub decided : IsDecided opened by edge entries item passed left reached added
    -- the next edge is the greatest of its position, the place of its last own entry, and the edge before
    pub after_position : item.position ≤ next_edge
    pub after_edge : edge ≤ next_edge
    pub after_own : filter (is_own rules by) (drop next_edge entries) ≡ []
    pub reaches : (next_edge ≡ item.position) ⊎
        ((at : ℕ) × (next_edge ≡ at + 1) × (entry : Entry) × (is_own rules by entry ≡ true) × StandAt entries at (entry ∷ []))

  -- A request whose form is refused has its refusal at the edge before it. Memory may run out instead.
  pub record IsFormPlaced (refusal : Reply) (by : Caller) (edge next_edge : ℕ) (start entries : List Entry) (item : Item Request Met Reply) : Type 0 where
    pub none : own_entries by start entries ≡ []
    pub reply : ((item.reply ≡ refusal) × (item.position ≡ edge)) ⊎ rules.is_no_memory item.reply
    pub begins : edge ≤ item.position
    pub ends : item.position ≤ length entries
    pub edge_is : next_edge ≡ item.position

  -- either, by whether the form of its request is refused
  abbrev pub IsItemPlaced : State → Caller → (edge next_edge : ℕ) → (start entries : List Entry) → Item Request Met Reply → Option Reply → Type 0
  IsItemPlaced opened by edge next_edge start entries item (Some refusal) = IsFormPlaced refusal by edge next_edge start entries item
  IsItemPlaced opened by edge next_edge start entries item None = IsPlaced opened by edge next_edge start entries item

  -- THE CALLS OF A SESSION ARE PLACED in a history, numbered from this one on, behind an edge: each behind the edge of
  -- the one before it.
  abbrev pub ArePlaced : State → (seat number edge : ℕ) → (start entries : List Entry) → List (Item Request Met Reply) → Type 0
  ArePlaced opened seat number edge start entries [] = Unit {0}
  ArePlaced opened seat number edge start entries (item ∷ items) =
      (next_edge : ℕ) × IsItemPlaced opened (caller seat number) edge next_edge start entries item (rules.form item.request)
      × ArePlaced opened seat (number + 1) next_edge start entries items

  -- What placement asks of the rules: an entry is of the call that made it; a state that takes no more changes stays so;
  -- and an exception's cause that lies behind so many entries lies behind fewer.
  pub record Lawful : Type 0 where
    pub of_accepted : (by : Caller) (operation : Operation) → rules.maker (rules.accepted by operation) ≡ by
    pub of_faulted : (by : Caller) (operation : Operation) → rules.maker (rules.faulted by operation) ≡ by
    pub stays_shut : (state : State) (entry : Entry) → rules.is_shut state ≡ true → rules.is_shut (rules.after state entry) ≡ true
    pub from_fewer : (by : Caller) (request : Request) (left : List Point) (met : Met) (opened : State) (fewer from : ℕ) (seen : List Entry) (reply : Reply)
        → fewer ≤ from → rules.excepts by request left met opened from seen reply → rules.excepts by request left met opened fewer seen reply
    pub from_fewer_behind : (by : Caller) (request : Request) (met : Met) (opened : State) (fewer from : ℕ) (seen : List Entry) (reply : Reply)
        → fewer ≤ from → rules.excepts_behind by request met opened from seen reply → rules.excepts_behind by request met opened fewer seen reply

  -- what stands behind the entries of a course's front: nothing, or what gives up what is owed, or the note of a fault
  abbrev pub IsOneMore : Caller → Request → (passed : List Point) → (added : List Entry) → Type 0
  IsOneMore by request passed added =
      (added ≡ [])
      ⊎ ((operation : Operation) × (rules.owed request passed ≡ Some operation) × (added ≡ rules.accepted by operation ∷ []))
      ⊎ ((operation : Operation) × (added ≡ rules.faulted by operation ∷ []))

  -- THE LAST ENTRY OF A COURSE ISN'T AMONG THESE ENTRIES: they are those of a front of it, and at most one more. A point of
  -- the course is left, and if it makes any entry, one is.
  pub record LacksLast (by : Caller) (request : Request) (course : List Point) (own : List Entry) : Type 0 where
    pub passed : List Point
    pub left : List Point
    pub parts : course ≡ passed ++ left
    pub some_left : left ≢ []
    pub added : List Entry
    pub own_is : own ≡ entries_of rules by passed ++ added
    pub one_more : IsOneMore by request passed added
    pub lacks : (entries_of rules by left ≢ []) ⊎ (entries_of rules by course ≡ [])

  -- What is_done asks of the rules: it tells the reply of a whole course from all others; a whole course owes nothing; and
  -- one that makes any entry makes one at its last point.
  pub record TellsDone : Type 0 where
    pub answered : (by : Caller) (request : Request) (met : Met) (course : List Point) (state : State) (reply : Reply)
        → rules.answers by request met course state reply → rules.is_done reply ≡ true
    pub refused : (by : Caller) (request : Request) (point : Point) (state : State) (reply : Reply)
        → rules.refuses by request point state reply → rules.is_done reply ≡ false
    pub excepted : (by : Caller) (request : Request) (left : List Point) (met : Met) (opened : State) (from : ℕ) (seen : List Entry) (reply : Reply)
        → rules.excepts by request left met opened from seen reply → rules.is_done reply ≡ false
    pub excepted_behind : (by : Caller) (request : Request) (met : Met) (opened : State) (from : ℕ) (seen : List Entry) (reply : Reply)
        → rules.excepts_behind by request met opened from seen reply → rules.is_done reply ≡ false
    pub failed : (met : Met) (reply : Reply) → rules.store_fails met reply → rules.is_done reply ≡ false
    pub starved : (reply : Reply) → rules.is_no_memory reply → rules.is_done reply ≡ false
    pub owes_nothing : (request : Request) (fixed : Fixed) → rules.owed request (rules.course request fixed) ≡ None
    pub last_makes : (request : Request) (fixed : Fixed) (front : List Point) (last : Point) → rules.course request fixed ≡ front ++ last ∷ []
        → (rules.makes last ≢ None) ⊎ ((by : Caller) → entries_of rules by (rules.course request fixed) ≡ [])

  -- What store_fails asks of the rules: a reply that says that the store failed, by what the call met, is no refusal of a
  -- state, has no cause of another exception, and isn't the one of want of memory. And no accepted entry is a note.
  pub record TellsFault : Type 0 where
    pub not_refused : (by : Caller) (request : Request) (point : Point) (state : State) (met : Met) (reply : Reply)
        → rules.store_fails met reply → rules.refuses by request point state reply → ⊥
    pub not_excepted : (by : Caller) (request : Request) (left : List Point) (met : Met) (opened : State) (from : ℕ) (seen : List Entry) (reply : Reply)
        → rules.store_fails met reply → rules.excepts by request left met opened from seen reply → ⊥
    pub not_excepted_behind : (by : Caller) (request : Request) (met : Met) (opened : State) (from : ℕ) (seen : List Entry) (reply : Reply)
        → rules.store_fails met reply → rules.excepts_behind by request met opened from seen reply → ⊥
    pub not_starved : (met : Met) (reply : Reply) → rules.store_fails met reply → rules.is_no_memory reply → ⊥
    pub no_note : (by : Caller) (one other : Operation) → rules.accepted by one ≢ rules.faulted by other
