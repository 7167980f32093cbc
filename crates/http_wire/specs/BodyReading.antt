-- How a body is read of the bytes behind a head.
use Rattle.std.specs.Prelude.{◌≡◌, ◌<◌, ◌+◌, ℕ, List, [], ◌++◌, length, take, Option, Result, Ok, Err, ⊤, Vec}
use Rattle.std.specs.Global.{Global}
use Rattle.http_wire.specs.declared.fault.WireFault.{WireFault}
use Rattle.http_wire.specs.declared.fault.WireFault.TheVariants.{Ended, Truncated, HeadTooLong, BadHead, Chunked, BadLength, BodyTooLong, ReadFault, NoMemory}
use Rattle.http_wire.specs.Filling.{Gave}

-- A body of this size isn't all there: the source ended, and the message has this length; or the source failed.
unfoldable pub IsBodyFault : (given rest : List ℕ) → (head size : ℕ) → WireFault → Type 0
IsBodyFault given rest head size (Truncated n) = (length given < size) × (n ≡ head + length given) × (rest ≡ [])
IsBodyFault given rest head size ReadFault = length given < size
IsBodyFault given rest head size NoMemory = ⊤
IsBodyFault given rest head size Ended = ⊥
IsBodyFault given rest head size HeadTooLong = ⊥
IsBodyFault given rest head size BadHead = ⊥
IsBodyFault given rest head size Chunked = ⊥
IsBodyFault given rest head size BadLength = ⊥
IsBodyFault given rest head size (BodyTooLong n) = ⊥

-- a body of this size stands first in the bytes given, and the others are held
pub record IsBody (given body : List ℕ) (size : ℕ) (held : List ℕ) : Type 0 where
  pub whole : body ++ held ≡ given
  pub long : length body ≡ size

-- what is read of a body in bytes that were given, with the bytes held behind it
abbrev pub IsBodyRead : (given rest : List ℕ) → (head size : ℕ) → (held : List ℕ) → Result (Vec ℕ Global) WireFault → Type 0
IsBodyRead given rest head size held (Ok body) = IsBody given body.items size held
IsBodyRead given rest head size held (Err fault) = IsBodyFault given rest head size fault

-- what the reading of a body answers
abbrev pub IsBodyAnswer : (before had : List ℕ) → (head size : ℕ) → (held : List ℕ) → Option (List ℕ) → Result (Vec ℕ Global) WireFault → Type 0
IsBodyAnswer before had head size held left answer = Gave before had left (λ given rest. IsBodyRead given rest head size held answer)

-- what is read of its rest, which goes into the body
abbrev pub IsRestRead : (given rest : List ℕ) → (head size : ℕ) → (body : List ℕ) → Result (Unit {0}) WireFault → Type 0
IsRestRead given rest head size body (Ok _) = IsBody given body size []
IsRestRead given rest head size body (Err fault) = IsBodyFault given rest head size fault

-- what the reading of its rest answers
abbrev pub IsRestAnswer : (before had : List ℕ) → (head size : ℕ) → (body : List ℕ) → Option (List ℕ) → Result (Unit {0}) WireFault → Type 0
IsRestAnswer before had head size body left answer = Gave before had left (λ given rest. IsRestRead given rest head size body answer)

-- so many bytes came into the front of the room: all that were given
abbrev pub Came : (before had room : List ℕ) → (came : ℕ) → Option (List ℕ) → Type 0
Came before had room came left = Gave before had left (λ given rest. take came room ≡ given)
