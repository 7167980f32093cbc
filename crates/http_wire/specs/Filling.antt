-- What a read behind the bytes that are held does, and the causes of faults.
use Rattle.std.specs.Prelude.{◌≡◌, ◌≤◌, ℕ, List, [], ◌++◌, length, take, drop, Option, Some, Result, Err}
use Rattle.lake_base.specs.Outside.{Rose}
use Rattle.http_wire.specs.declared.fault.WireFault.{WireFault}
use Rattle.http_wire.specs.declared.fault.WireFault.TheVariants.{Ended, Truncated, HeadTooLong, BadHead, Chunked, BadLength, BodyTooLong, ReadFault, NoMemory}

-- the first n of the bytes left are held behind those before; where there are none, nothing was left
pub record Filled (before after : List ℕ) (now : Option (List ℕ)) (n : ℕ) (left : List ℕ) : Type 0 where
  pub held : after ≡ before ++ take n left
  pub rest : now ≡ Some (drop n left)
  pub enough : n ≤ length left
  pub end : n ≡ 0 → left ≡ []

-- A SOURCE GAVE the first of the bytes that it had, behind those that were held before, and has the rest left; so the bytes given read,
-- behind which that rest stands.
pub record Gave (before had : List ℕ) (left : Option (List ℕ)) (Read : (given rest : List ℕ) → Type 0) : Type 0 where
  pub more : List ℕ
  pub rest : List ℕ
  pub gave : more ++ rest ≡ had
  pub left_is : left ≡ Some rest
  pub read : Read (before ++ more) rest

-- n bytes stand behind those before
pub record Grown (before after : List ℕ) (n : ℕ) : Type 0 where
  pub more : List ℕ
  pub behind : after ≡ before ++ more
  pub count : length more ≡ n

-- A read is refused where the source failed, or for memory, and takes nothing.
abbrev pub IsFillFault : Option (List ℕ) → Option (List ℕ) → WireFault → Type 0
IsFillFault before now ReadFault = now ≡ before
IsFillFault before now NoMemory = now ≡ before
IsFillFault before now Ended = ⊥
IsFillFault before now (Truncated n) = ⊥
IsFillFault before now HeadTooLong = ⊥
IsFillFault before now BadHead = ⊥
IsFillFault before now Chunked = ⊥
IsFillFault before now BadLength = ⊥
IsFillFault before now (BodyTooLong n) = ⊥

-- a source's count of faults doesn't fall, and it rose where a call answered ReadFault
pub record HasReadCause {T : Type 0} (before now : ℕ) (result : Result T WireFault) : Type 0 where
  pub later : before ≤ now
  pub failed : result ≡ Err ReadFault → Rose before now
