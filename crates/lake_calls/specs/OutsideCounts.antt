-- What the stores count, and what the calls of a session met of it, one after the other.
use Rattle.std.specs.Prelude.{◌≤◌, ℕ, List, [], ◌∷◌}
use Rattle.lake_base.specs.Outside.{Quiet}
use Rattle.lake_calls.specs.CallExceptions.{CallMet, HasRisen}

-- the counts at a moment: the faults of the store of pairs, the faults of the store of objects, and its misses
pub record OutsideCounts : Type 0 where
  pub store_faults : ℕ
  pub block_faults : ℕ
  pub misses : ℕ

-- no count fell from one moment to another
pub record NoneFell (old new : OutsideCounts) : Type 0 where
  pub store_faults : old.store_faults ≤ new.store_faults
  pub block_faults : old.block_faults ≤ new.block_faults
  pub misses : old.misses ≤ new.misses

-- each count stands where it stood, and can still be told from a higher one
pub record AreStill (old new : OutsideCounts) : Type 0 where
  pub store_faults : Quiet old.store_faults new.store_faults
  pub block_faults : Quiet old.block_faults new.block_faults
  pub misses : Quiet old.misses new.misses

-- the counts before a call, and after it
abbrev pub counts_before : CallMet → OutsideCounts
counts_before met = record { store_faults = met.store_faults.before; block_faults = met.block_faults.before; misses = met.misses.before }

abbrev pub counts_now : CallMet → OutsideCounts
counts_now met = record { store_faults = met.store_faults.now; block_faults = met.block_faults.now; misses = met.misses.now }

-- What calls met, one after the other, is of the counts between two moments: no call begins before the one ahead of it
-- has ended, and none ends before it began. So the counts at the beginning and at the end of a session bound what its calls met.
abbrev pub AreMet : OutsideCounts → List CallMet → OutsideCounts → Type 0
AreMet old [] new = NoneFell old new
AreMet old (met ∷ mets) new =
    NoneFell old (counts_before met) × NoneFell (counts_before met) (counts_now met) × AreMet (counts_now met) mets new

-- no count rose in a call
pub record CountedNothing (met : CallMet) : Type 0 where
  pub store : HasRisen met.store_faults → ⊥
  pub blocks : HasRisen met.block_faults → ⊥
  pub misses : HasRisen met.misses → ⊥
