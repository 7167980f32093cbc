-- What it is that a call was served.
use Rattle.std.specs.Prelude.{◌≡◌, ◌≢◌, ◌⊎◌, ◌++◌, ℕ, true, false, List, [], ◌∷◌, length, Option, Some, None}
use Rattle.call_placement.specs.Rules.{Caller, Rules}
use Rattle.call_placement.specs.Points.{replay, AreOfOtherCalls, Came, made, HavePassed}

module _ {Entry State Operation Request Fixed Point Met Reply : Type 0} (rules : Rules Entry State Operation Request Fixed Point Met Reply) where
  -- Why a call stops in the history that it found, with these points left, and the reply to that: the next point is
  -- refused there; or an exception has its cause, with so many entries seen when the call began, while a point is left
  -- or behind the whole course; or memory ran out, which may come anywhere.
  pub data Hinders (opened : State) (by : Caller) (request : Request) (met : Met) (from : ℕ) (left : List Point) (found : List Entry)
      (reply : Reply) : Type 0 where
    ByState : (point : Point) (later : List Point) → left ≡ point ∷ later
        → rules.refuses by request point (replay rules opened found) reply
        → Hinders opened by request met from left found reply
    ByCause : left ≢ [] → rules.excepts by request left met opened from found reply → Hinders opened by request met from left found reply
    ByLateCause : left ≡ [] → rules.excepts_behind by request met opened from found reply → Hinders opened by request met from left found reply
    ByMemory : rules.is_no_memory reply → Hinders opened by request met from left found reply

  -- the reply to a note of a fault: that the store failed, or, where memory ran out on the way to say so, that
  abbrev pub IsOfFault : Met → Reply → Type 0
  IsOfFault met reply = rules.store_fails met reply ⊎ rules.is_no_memory reply

  -- How a stopped call gives up what it owes, and the edge that this leaves: it owes nothing; or others' entries came
  -- and the entry of it stood; or others' entries came to a state that takes no more changes; or memory ran out, where
  -- it may keep what it owes.
  pub data GivesUp (opened : State) (by : Caller) (owed : Option Operation) (reply : Reply) (found next : List Entry) (next_edge : ℕ) : Type 0 where
    OwesNothing : owed ≡ None → next ≡ found → next_edge ≡ length found → GivesUp opened by owed reply found next next_edge
    GivenUp : (operation : Operation) (seen : List Entry) → owed ≡ Some operation → Came rules by found seen
        → rules.is_shut (replay rules opened seen) ≡ false
        → next ≡ seen ++ rules.accepted by operation ∷ [] → next_edge ≡ length next
        → GivesUp opened by owed reply found next next_edge
    Shut : Came rules by found next → rules.is_shut (replay rules opened next) ≡ true → next_edge ≡ length found
        → GivesUp opened by owed reply found next next_edge
    Keeps : rules.is_no_memory reply → next ≡ found → next_edge ≡ length found → GivesUp opened by owed reply found next next_edge

  -- How a call ends of whose course these points passed and those are left: its reply, the position of that, the edge,
  -- and the history that it leaves behind what was seen.
  pub data Ends (opened : State) (by : Caller) (request : Request) (met : Met) (from : ℕ) (course passed left : List Point) (seen : List Entry)
      (reply : Reply) (position next_edge : ℕ) (next : List Entry) : Type 0 where
    -- Done: the last point passes too. The reply is the one in the state before its entry, and the position that
    -- entry's place, or of a reading the state's.
    Done : (last : Point) (found : List Entry) → left ≡ last ∷ [] → Came rules by seen found
        → rules.passes by request last (replay rules opened found)
        → rules.answers by request met course (replay rules opened found) reply
        → next ≡ found ++ made rules by (rules.makes last) → position ≡ length next → next_edge ≡ length next
        → Ends opened by request met from course passed left seen reply position next_edge next
    -- Refused, or out of memory: something hinders it, and it gives up what it owes.
    Stopped : (found : List Entry) → Came rules by seen found → Hinders opened by request met from left found reply
        → position ≡ length found → GivesUp opened by (rules.owed request passed) reply found next next_edge
        → Ends opened by request met from course passed left seen reply position next_edge next
    -- Faulted: the store failed at the next point, which nothing refused.
    Faulted : (point : Point) (later : List Point) (operation : Operation) (found : List Entry)
        → left ≡ point ∷ later → rules.makes point ≡ Some operation → Came rules by seen found
        → rules.passes by request point (replay rules opened found) → IsOfFault met reply
        → next ≡ found ++ rules.faulted by operation ∷ [] → position ≡ length next → next_edge ≡ length next
        → Ends opened by request met from course passed left seen reply position next_edge next
    -- Broken while it gives up: something hindered it, and the store failed as it gave up what it owes. The reply
    -- says so, in place of what hindered it, which no reply tells: want of memory may always have been it.
    Broken : (refusal : Reply) (operation : Operation) (hindered found : List Entry) → Came rules by seen hindered
        → Hinders opened by request met from left hindered refusal → rules.owed request passed ≡ Some operation
        → Came rules by hindered found → rules.is_shut (replay rules opened found) ≡ false → IsOfFault met reply
        → next ≡ found ++ rules.faulted by operation ∷ [] → position ≡ length next → next_edge ≡ length next
        → Ends opened by request met from course passed left seen reply position next_edge next

  -- A CALL WAS SERVED, between what its seat had seen before and what it had seen after: this request, with what the
  -- call met, has this reply at this position, and this is the edge, the greater of the position and the place of the
  -- call's last own entry. Some front of its course passed, and then it ended. What came later isn't of this call.
  pub record IsServed (opened : State) (by : Caller) (before after : List Entry) (request : Request) (met : Met) (reply : Reply)
      (position next_edge : ℕ) : Type 0 where
    pub fixed : Fixed
    pub passed : List Point
    pub left : List Point
    pub course : rules.course request fixed ≡ passed ++ left
    pub seen : List Entry
    pub points : HavePassed rules opened by request passed before seen
    pub next : List Entry
    pub ended : Ends opened by request met (length before) (rules.course request fixed) passed left seen reply position next_edge next
    pub later : List Entry
    pub apart : AreOfOtherCalls rules by later
    pub whole : after ≡ next ++ later
