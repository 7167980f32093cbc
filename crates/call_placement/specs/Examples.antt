-- A toy lake, by whose rules the definitions are tried: uploads alone, which take a number and put a body under it.
use Rattle.std.specs.Prelude.{◌≡◌, ◌+◌, ◌<◌, ◌≤◌, ◌++◌, ℕ, zero, suc, Bool, true, false, List, [], ◌∷◌, take, Option, Some, None, if◌then◌else◌}
use Rattle.call_placement.specs.Rules.{Caller, Rules}
use Rattle.call_placement.specs.Points.{Came}
use Rattle.call_placement.specs.Sessions.{Item}

-- what an entry is about: a number is given out, a body is put under it, the number is given back, or the branch is sealed
pub data ToyOperation : Type 0 where
  TakesNumber PutsBody GivesBack : ℕ → ToyOperation
  Seals : ToyOperation

pub record ToyEntry : Type 0 where
  pub by : Caller
  pub operation : ToyOperation
  pub fault : Bool

-- the next number, the branch's version, and whether the store failed
pub record ToyState : Type 0 where
  pub next : ℕ
  pub version : ℕ
  pub stopped : Bool

abbrev pub toy_change : ToyOperation → ToyState → ToyState
toy_change (TakesNumber n) state = record state { next = state.next + 1 }
toy_change (PutsBody n) state = state
toy_change (GivesBack n) state = state
toy_change Seals state = record state { version = state.version + 1 }

abbrev pub toy_after : ToyState → ToyEntry → ToyState
toy_after state entry = if entry.fault then record state { stopped = true } else toy_change entry.operation state

-- an upload, or a request that can't be read
pub data ToyRequest : Type 0 where
  Upload Unreadable : ToyRequest

-- its points: it takes a number, reads the branch's version, and puts the body at that version
pub data ToyPoint : Type 0 where
  Takes : ℕ → ToyPoint
  Looks : ToyPoint
  Puts : ℕ → ToyPoint

pub data ToyReply : Type 0 where
  Stored : ℕ → ToyReply
  Stopped TooManyTries StoreFault NoMemory BadForm : ToyReply

abbrev pub toy_form : ToyRequest → Option ToyReply
toy_form Upload = None
toy_form Unreadable = Some BadForm

abbrev pub upload_course : ℕ → List ToyPoint
upload_course number = Takes number ∷ Looks ∷ Puts number ∷ []

abbrev pub toy_makes : ToyPoint → Option ToyOperation
toy_makes (Takes number) = Some (TakesNumber number)
toy_makes Looks = None
toy_makes (Puts number) = Some (PutsBody number)

abbrev pub toy_passes : ToyPoint → ToyState → Type 0
toy_passes (Takes number) state = (state.stopped ≡ false) × (number ≡ state.next)
toy_passes Looks state = Unit {0}
toy_passes (Puts number) state = state.stopped ≡ false

abbrev pub toy_refuses : ToyPoint → ToyState → ToyReply → Type 0
toy_refuses Looks state reply = ⊥
toy_refuses _ state reply = (state.stopped ≡ true) × (reply ≡ Stopped)

abbrev pub toy_replay : ToyState → List ToyEntry → ToyState
toy_replay state [] = state
toy_replay state (entry ∷ entries) = toy_replay (toy_after state entry) entries

abbrev pub version_of : ToyState → List ToyEntry → ℕ
version_of opened entries = (toy_replay opened entries).version

-- whether a body is still to be put, at a version that is read first
abbrev pub is_guarded : List ToyPoint → Bool
is_guarded (Looks ∷ later) = true
is_guarded (Puts number ∷ later) = true
is_guarded _ = false

-- Too many tries: the body isn't put yet, and since the call began the branch was given at least ten versions.
abbrev pub toy_excepts : (left : List ToyPoint) → ToyState → (from : ℕ) → (seen : List ToyEntry) → ToyReply → Type 0
toy_excepts left opened from seen reply =
    (is_guarded left ≡ true) × (reply ≡ TooManyTries) × (version_of opened (take from seen) + 10 ≤ version_of opened seen)

abbrev pub toy_owed : List ToyPoint → Option ToyOperation
toy_owed (Takes number ∷ []) = Some (GivesBack number)
toy_owed (Takes number ∷ Looks ∷ []) = Some (GivesBack number)
toy_owed _ = None

abbrev pub toy_done : ToyReply → Bool
toy_done (Stored number) = true
toy_done _ = false

-- THE TOY'S RULES. What a call met is by how much the store's count of faults rose.
abbrev pub toy_rules : Rules ToyEntry ToyState ToyOperation ToyRequest ℕ ToyPoint ℕ ToyReply
toy_rules = record {
  maker = λ entry. entry.by;
  accepted = λ by operation. record { by = by; operation = operation; fault = false };
  faulted = λ by operation. record { by = by; operation = operation; fault = true };
  after = toy_after;
  is_shut = λ state. state.stopped;
  form = toy_form;
  course = λ request number. upload_course number;
  makes = toy_makes;
  passes = λ by request point state. toy_passes point state;
  refuses = λ by request point state reply. toy_refuses point state reply;
  answers = λ by request met course state reply. (number : ℕ) × (course ≡ upload_course number) × (reply ≡ Stored number);
  excepts = λ by request left met opened from seen reply. toy_excepts left opened from seen reply;
  excepts_behind = λ by request met opened from seen reply. ⊥;
  store_fails = λ met reply. (0 < met) × (reply ≡ StoreFault);
  is_no_memory = λ reply. reply ≡ NoMemory;
  owed = λ request passed. toy_owed passed;
  is_done = toy_done;
}

-- ---- an upload, as what its steps tell

-- its first step took this number behind what was seen
abbrev pub TookNumber : ToyState → Caller → (seen next : List ToyEntry) → ℕ → Type 0
TookNumber opened by seen next number =
    (found : List ToyEntry) × Came toy_rules by seen found × toy_passes (Takes number) (toy_replay opened found)
    × (next ≡ found ++ toy_rules.accepted by (TakesNumber number) ∷ [])

-- So many tries added nothing: at each, others' entries came, and gave the branch a version.
abbrev pub Tried : ToyState → Caller → ℕ → (seen found : List ToyEntry) → Type 0
Tried opened by zero seen found = found ≡ seen
Tried opened by (suc tries) seen found =
    (between : List ToyEntry) × Came toy_rules by seen between × (version_of opened seen < version_of opened between)
    × Tried opened by tries between found

-- a further try put the body
abbrev pub PutBody : ToyState → Caller → (seen next : List ToyEntry) → ℕ → Type 0
PutBody opened by seen next number =
    (found : List ToyEntry) × Came toy_rules by seen found × toy_passes (Puts number) (toy_replay opened found)
    × (next ≡ found ++ toy_rules.accepted by (PutsBody number) ∷ [])

-- its number was given back
abbrev pub GaveBack : ToyState → Caller → (seen next : List ToyEntry) → ℕ → Type 0
GaveBack opened by seen next number =
    (found : List ToyEntry) × Came toy_rules by seen found × ((toy_replay opened found).stopped ≡ false)
    × (next ≡ found ++ toy_rules.accepted by (GivesBack number) ∷ [])

-- its seat saw that the store had failed
abbrev pub FoundStopped : ToyState → Caller → (seen found : List ToyEntry) → Type 0
FoundStopped opened by seen found = Came toy_rules by seen found × ((toy_replay opened found).stopped ≡ true)

-- the store failed at this operation, while it took changes
abbrev pub Failed : ToyState → Caller → ToyOperation → (seen next : List ToyEntry) → Type 0
Failed opened by operation seen next =
    (found : List ToyEntry) × Came toy_rules by seen found × ((toy_replay opened found).stopped ≡ false)
    × (next ≡ found ++ toy_rules.faulted by operation ∷ [])

-- what a session wrote of an upload and of a request that it couldn't read
abbrev pub upload_item : ToyReply → (position : ℕ) → Item ToyRequest ℕ ToyReply
upload_item reply position = record { request = Upload; met = 0; reply = reply; position = position }

abbrev pub unreadable_item : (position : ℕ) → Item ToyRequest ℕ ToyReply
unreadable_item position = record { request = Unreadable; met = 0; reply = BadForm; position = position }

-- A history: another seat takes a number, this one takes the next, the other seals the branch, and this one puts its body.
abbrev pub toy_opened : ToyState
toy_opened = record { next = 0; version = 0; stopped = false }

abbrev pub own_call : Caller
own_call = record { seat = 1; call = 1 }

abbrev pub other_call : Caller
other_call = record { seat = 2; call = 1 }

abbrev pub toy_entry : Caller → ToyOperation → ToyEntry
toy_entry by operation = record { by = by; operation = operation; fault = false }

abbrev pub shared_history : List ToyEntry
shared_history =
    toy_entry other_call (TakesNumber 0) ∷ toy_entry own_call (TakesNumber 1) ∷ toy_entry other_call Seals
    ∷ toy_entry own_call (PutsBody 1) ∷ []
