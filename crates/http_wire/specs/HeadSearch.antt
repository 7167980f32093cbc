-- How the end of a head is searched for.
use Rattle.std.specs.Prelude.{◌≡◌, ◌≤◌, ◌<◌, ◌+◌, ◌*◌, ℕ, zero, suc, true, false, List, [], ◌∷◌, ◌++◌, length, take, drop, Option, Result, Ok, Err, ⊤}
use Rattle.http_wire.specs.declared.fault.WireFault.{WireFault}
use Rattle.http_wire.specs.declared.fault.WireFault.TheVariants.{Ended, Truncated, HeadTooLong, BadHead, Chunked, BadLength, BodyTooLong, ReadFault, NoMemory}
use Rattle.http_wire.specs.declared.heads.Look.{Look}
use Rattle.http_wire.specs.declared.heads.Look.TheVariants.{Head, Part, TooLong}
use Rattle.http_wire.specs.declared.heads.Search.{Search}
use Rattle.http_wire.specs.Messages.{end_fault}
use Rattle.http_wire.specs.Filling.{Gave}
use Rattle.http_wire.specs.MessageHeads.{ends_empty, headed, too_long, unended, opening}

-- none of the fronts of up to so many bytes ends with an empty line
abbrev pub HasNoEnd : List ℕ → ℕ → Type 0
HasNoEnd bytes n = (k : ℕ) → k ≤ n → ends_empty (take k bytes) ≡ false

-- the first empty line ends here
pub record IsHeadEnd (bytes : List ℕ) (n : ℕ) : Type 0 where
  pub within : n ≤ length bytes
  pub ends : ends_empty (take n bytes) ≡ true
  pub first : (k : ℕ) → k < n → ends_empty (take k bytes) ≡ false

-- so many pairs
abbrev pub pairs : ℕ → List ℕ
pairs zero = []
pairs (suc n) = 13 ∷ 10 ∷ pairs n

-- the search stands within the bytes that are held and within the limit, and passed no end
pub record IsSearch (search : Search) (held : List ℕ) : Type 0 where
  pub within : search.passed ≤ length held
  pub limit : search.skipped + search.passed ≤ 16384
  pub none : HasNoEnd held search.passed

-- these bytes were given: the pairs that were taken out, and those that are held
pub record IsGiven (given : List ℕ) (search : Search) (held : List ℕ) : Type 0 where
  pub count : ℕ
  pub skipped : search.skipped ≡ 2 * count
  pub whole : given ≡ pairs count ++ held

-- what a look at the bytes given shows of all that begin with them, or of these alone
abbrev pub Shows : List ℕ → Search → List ℕ → Look → Type 0
Shows given search held (Head n) =
    (n ≤ length held) × ((more : List ℕ) → opening (given ++ more) ≡ headed (take n held) (drop n held ++ more))
Shows given search held TooLong = (more : List ℕ) → opening (given ++ more) ≡ too_long
Shows given search held Part = IsGiven given search held × (opening given ≡ unended held)

-- after a part is held, it is within the limit, and all of it was passed
abbrev pub PassesPart : ℕ → Search → List ℕ → Look → Type 0
PassesPart total search held (Head n) = n ≤ length held
PassesPart total search held TooLong = ⊤
PassesPart total search held Part = IsSearch search held × (search.skipped + length held ≡ total) × (total < 16384)

-- all bytes are a part of a head, and this is the fault
abbrev pub EndsIn : List ℕ → WireFault → Type 0
EndsIn bytes fault = (part : List ℕ) × (opening bytes ≡ unended part) × (fault ≡ end_fault part)

-- a head of so many bytes stands at the front of what is held: so begin the bytes given, whatever follows
pub record HeadCame (given held : List ℕ) (n : ℕ) : Type 0 where
  pub within : n ≤ length held
  pub opens : (more : List ℕ) → opening (given ++ more) ≡ headed (take n held) (drop n held ++ more)

-- What is read of a head in bytes that were given, of which these are held: it stands at their front; or it is too long, or ended, where
-- nothing was left to give; or the source failed where no more than a part of one was given.
unfoldable pub IsHeadRead : (given held rest : List ℕ) → Result ℕ WireFault → Type 0
IsHeadRead given held rest (Ok n) = HeadCame given held n
IsHeadRead given held rest (Err HeadTooLong) = opening given ≡ too_long
IsHeadRead given held rest (Err Ended) = EndsIn given Ended × (rest ≡ [])
IsHeadRead given held rest (Err (Truncated n)) = EndsIn given (Truncated n) × (rest ≡ [])
IsHeadRead given held rest (Err ReadFault) = (part : List ℕ) × (opening given ≡ unended part)
IsHeadRead given held rest (Err NoMemory) = ⊤
IsHeadRead given held rest (Err BadHead) = ⊥
IsHeadRead given held rest (Err Chunked) = ⊥
IsHeadRead given held rest (Err BadLength) = ⊥
IsHeadRead given held rest (Err (BodyTooLong n)) = ⊥

-- what the reading of a head answers
abbrev pub IsHeadAnswer : (before had held : List ℕ) → Option (List ℕ) → Result ℕ WireFault → Type 0
IsHeadAnswer before had held left answer = Gave before had left (λ given rest. IsHeadRead given held rest answer)

-- the same while it goes on
abbrev pub Reaches : (before had : List ℕ) → Search → (held : List ℕ) → Option (List ℕ) → Type 0
Reaches before had search held left = Gave before had left (λ given rest. IsGiven given search held)

-- the bytes that were given are those that are held; or why none are
abbrev pub IsSomeRead : (given held rest : List ℕ) → Result (Unit {0}) WireFault → Type 0
IsSomeRead given held rest (Ok _) = given ≡ held
IsSomeRead given held rest (Err fault) = IsHeadRead given held rest (Err fault)

-- what a read answers where nothing is held
abbrev pub IsSomeAnswer : (before had held : List ℕ) → Option (List ℕ) → Result (Unit {0}) WireFault → Type 0
IsSomeAnswer before had held left answer = Gave before had left (λ given rest. IsSomeRead given held rest answer)

-- the length of a head that was read with what else is told of it
abbrev pub head_length : {T : Type 0} → Result (ℕ × T) WireFault → Result ℕ WireFault
head_length (Ok read) = Ok read.0
head_length (Err fault) = Err fault
