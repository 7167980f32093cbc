-- What a call does whose seat is alone: the course that one seat goes.
use Rattle.std.specs.Prelude.{◌≡◌, ◌≢◌, ◌++◌, Bool, true, List, [], ◌∷◌, length, All, Option, if◌then◌else◌}
use Rattle.call_placement.specs.Rules.{Caller, Rules}
use Rattle.call_placement.specs.Points.{replay, is_own, made, entries_of}

module _ {Entry State Operation Request Fixed Point Met Reply : Type 0} (rules : Rules Entry State Operation Request Fixed Point Met Reply) where
  -- points pass behind what was seen, each in the state that the one before it left
  abbrev pub Pass : State → Caller → Request → List Point → (seen : List Entry) → Type 0
  Pass opened by request [] seen = Unit {0}
  Pass opened by request (point ∷ points) seen =
      rules.passes by request point (replay rules opened seen)
      × Pass opened by request points (seen ++ made rules by (rules.makes point))

  -- the entry by which a stopped call gives up what it owes, where the state takes another
  abbrev pub given_up : Caller → Option Operation → (shut : Bool) → List Entry
  given_up by owed shut = if shut then [] else made rules by owed

  -- what ends it in a state: its last point passes too, or the next is refused
  pub data EndsAlone (by : Caller) (request : Request) (met : Met) (course passed left : List Point) (state : State) (reply : Reply)
      (added : List Entry) : Type 0 where
    DoneAlone : (last : Point) → left ≡ last ∷ [] → rules.passes by request last state → rules.answers by request met course state reply
        → added ≡ made rules by (rules.makes last) → EndsAlone by request met course passed left state reply added
    RefusedAlone : (point : Point) (later : List Point) → left ≡ point ∷ later → rules.refuses by request point state reply
        → added ≡ given_up by (rules.owed request passed) (rules.is_shut state)
        → EndsAlone by request met course passed left state reply added

  -- THE ONE-SEAT COURSE: behind what was seen, a request has this reply with what it met, and adds these entries.
  pub record GoesAlone (opened : State) (by : Caller) (seen : List Entry) (request : Request) (met : Met) (reply : Reply) (added : List Entry) : Type 0 where
    pub fixed : Fixed
    pub passed : List Point
    pub left : List Point
    pub course : rules.course request fixed ≡ passed ++ left
    pub points : Pass opened by request passed seen
    pub more : List Entry
    pub added_is : added ≡ entries_of rules by passed ++ more
    pub ended : EndsAlone by request met (rules.course request fixed) passed left (replay rules opened (seen ++ entries_of rules by passed)) reply more

  -- entries of this call alone
  abbrev pub AreOwn : Caller → List Entry → Type 0
  AreOwn by entries = All (λ entry. is_own rules by entry ≡ true) entries

  -- A reply that is none of the exceptions: no cause of it is met behind what was seen before the call and entries of this
  -- call alone.
  pub record IsPlain (opened : State) (by : Caller) (before : List Entry) (request : Request) (met : Met) (reply : Reply) : Type 0 where
    pub memory : rules.is_no_memory reply → ⊥
    pub store : rules.store_fails met reply → ⊥
    pub cause : (left : List Point) (added : List Entry) → left ≢ [] → AreOwn by added
        → rules.excepts by request left met opened (length before) (before ++ added) reply → ⊥
    pub late_cause : (added : List Entry) → AreOwn by added
        → rules.excepts_behind by request met opened (length before) (before ++ added) reply → ⊥

  -- What the one-seat course of a request asks of the rules to have one value. Of two of its courses that begin with the
  -- same points:
  pub record IsDetermined (request : Request) : Type 0 where
    -- two next points that pass in one state are one, and fix the same
    pub one_point : (by : Caller) (fixed other_fixed : Fixed) (passed : List Point) (point other : Point) (later rest : List Point) (state : State)
        → rules.course request fixed ≡ passed ++ point ∷ later → rules.course request other_fixed ≡ passed ++ other ∷ rest
        → rules.passes by request point state → rules.passes by request other state → point ≡ other
    -- where one passes, the other isn't refused
    pub not_both : (by : Caller) (fixed other_fixed : Fixed) (passed : List Point) (point other : Point) (later rest : List Point) (state : State)
        (reply : Reply)
        → rules.course request fixed ≡ passed ++ point ∷ later → rules.course request other_fixed ≡ passed ++ other ∷ rest
        → rules.passes by request point state → rules.refuses by request other state reply → ⊥
    -- their refusals in one state are one
    pub one_refusal : (by : Caller) (fixed other_fixed : Fixed) (passed : List Point) (point other : Point) (later rest : List Point) (state : State)
        (reply reply_of_other : Reply)
        → rules.course request fixed ≡ passed ++ point ∷ later → rules.course request other_fixed ≡ passed ++ other ∷ rest
        → rules.refuses by request point state reply → rules.refuses by request other state reply_of_other → reply ≡ reply_of_other
    -- neither course is a front of the other
    pub no_front : (fixed other_fixed : Fixed) (next : Point) (later : List Point)
        → rules.course request other_fixed ≡ rules.course request fixed ++ next ∷ later → ⊥
    -- and a course has one reply in a state, with what was met
    pub one_answer : (by : Caller) (met : Met) (course : List Point) (state : State) (reply other : Reply)
        → rules.answers by request met course state reply → rules.answers by request met course state other → reply ≡ other
