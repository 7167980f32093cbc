-- The points of a course in a history, by intervals: others' entries came, something held, and then an entry of the
-- call's own stood, or none.
use Rattle.std.specs.Prelude.{◌≡◌, ◌≢◌, ◌==◌, ◌&&◌, ◌++◌, ℕ, Bool, false, List, [], ◌∷◌, All, Option, Some, None}
use Rattle.call_placement.specs.Rules.{Caller, Rules}

module _ {Entry State Operation Request Fixed Point Met Reply : Type 0} (rules : Rules Entry State Operation Request Fixed Point Met Reply) where
  -- the state after entries, one after the other
  abbrev pub replay : State → List Entry → State
  replay state [] = state
  replay state (entry ∷ entries) = replay (rules.after state entry) entries

  -- entries of other seats
  abbrev pub AreOfOtherSeats : ℕ → List Entry → Type 0
  AreOfOtherSeats seat entries = All (λ entry. (rules.maker entry).seat ≢ seat) entries

  -- whether an entry is one of this call's
  abbrev pub is_own : Caller → Entry → Bool
  is_own by entry = ((rules.maker entry).seat == by.seat) && ((rules.maker entry).call == by.call)

  -- entries of other calls
  abbrev pub AreOfOtherCalls : Caller → List Entry → Type 0
  AreOfOtherCalls by entries = All (λ entry. is_own by entry ≡ false) entries

  -- behind what was seen only others' entries came
  abbrev pub Came : Caller → (seen found : List Entry) → Type 0
  Came by seen found = (others : List Entry) × AreOfOtherSeats by.seat others × (found ≡ seen ++ others)

  -- the entry of an operation that was accepted, if there is one
  abbrev pub made : Caller → Option Operation → List Entry
  made by None = []
  made by (Some operation) = rules.accepted by operation ∷ []

  -- the entries of points
  abbrev pub entries_of : Caller → List Point → List Entry
  entries_of by [] = []
  entries_of by (point ∷ points) = made by (rules.makes point) ++ entries_of by points

  -- A point passed: others' entries came, then nothing refused it, and then its entry stood, if it makes one.
  abbrev pub HasPassed : State → Caller → Request → Point → (seen next : List Entry) → Type 0
  HasPassed opened by request point seen next =
      (found : List Entry) × Came by seen found × rules.passes by request point (replay opened found)
      × (next ≡ found ++ made by (rules.makes point))

  -- so did these points, one after the other
  abbrev pub HavePassed : State → Caller → Request → List Point → (seen next : List Entry) → Type 0
  HavePassed opened by request [] seen next = next ≡ seen
  HavePassed opened by request (point ∷ points) seen next =
      (between : List Entry) × HasPassed opened by request point seen between
      × HavePassed opened by request points between next
