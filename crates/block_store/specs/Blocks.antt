-- What a store of objects holds, and what its calls do to that.
use Rattle.std.specs.Prelude.{◌≡◌, ◌≤◌, ◌⊎◌, ℕ, List, Result, IsErrOf}
use Rattle.std.specs.Ordering.{nat_cmp}
use Rattle.std.specs.FinMap as map
use Rattle.lake_base.specs.Outside.{Rose}
use Rattle.lake_base.specs.declared.outside.Trouble.{Trouble}
use Rattle.lake_base.specs.declared.outside.Trouble.TheVariants.{Failed}

-- the objects that a store holds: bytes under numbers
abbrev pub HeldObjects : Type 0
HeldObjects = map.FinMap nat_cmp (List ℕ)

-- a count of faults doesn't fall, and it rose where the object failed
pub record FailsByFault {T : Type 0} (before now : ℕ) (result : Result T Trouble) : Type 0 where
  pub later : before ≤ now
  pub failed : IsErrOf result Failed → Rose before now

-- a miss of a number was counted, and it is the number missed last
pub record Misses (number before now missed : ℕ) : Type 0 where
  pub counted : Rose before now
  pub last : missed ≡ number

-- no miss was counted, and the number missed last is as it was
pub record NoMiss (before now missed_before missed_now : ℕ) : Type 0 where
  pub count : now ≡ before
  pub last : missed_now ≡ missed_before

-- after a put that failed the number holds nothing or the bytes, and no other number changed
abbrev pub MayHavePut : ℕ → List ℕ → HeldObjects → HeldObjects → Type 0
MayHavePut number bytes before after = (after ≡ map.remove before number) ⊎ (after ≡ map.insert before number bytes)

-- after a removal that failed the number is held as before or not at all, and no other number changed
abbrev pub MayHaveRemoved : ℕ → HeldObjects → HeldObjects → Type 0
MayHaveRemoved number before after = (after ≡ before) ⊎ (after ≡ map.remove before number)
