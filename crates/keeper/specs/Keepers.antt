-- What a keeper of pairs keeps, and what its calls do to that.
use Rattle.std.specs.Prelude.{◌≡◌, ◌≤◌, ◌⊎◌, ℕ, List, [], ◌∷◌, map as list_map, find, reverse, Option, Result, Ok, Err, IsErrOf}
use Rattle.std.specs.Option.{option_map_or}
use Rattle.std.specs.Str.{bytes_eq}
use Rattle.std.specs.FinMap as map
use Rattle.lake_base.specs.Maps.{ByteMap}
use Rattle.lake_base.specs.Outside.{Rose}
use Rattle.lake_base.specs.declared.outside.Trouble.{Trouble}
use Rattle.lake_base.specs.declared.outside.Trouble.TheVariants.{Failed, NoMemory}
use Rattle.pair_format.specs.declared.pair.Pair.{Pair}
use Rattle.keeper.specs.declared.put.Put.{Put}

-- the pairs that a keeper keeps: values under keys, in byte order
abbrev pub KeptPairs : Type 0
KeptPairs = ByteMap (List ℕ)

-- the keys and values of pairs
abbrev pub entries_of : List Pair → List (List ℕ × List ℕ)
entries_of pairs = list_map (λ pair. (pair.key, pair.value)) pairs

-- the pairs after one put: its value stands under its key, or nothing
abbrev pub pairs_with : Put → KeptPairs → KeptPairs
pairs_with put pairs = option_map_or (λ value. map.insert pairs put.key value) put.value (map.remove pairs put.key)

-- the pairs after puts, made one after the other
unfoldable pub pairs_after : List Put → KeptPairs → KeptPairs
pairs_after [] pairs = pairs
pairs_after (put ∷ puts) pairs = pairs_after puts (pairs_with put pairs)

-- the pairs after some that stand over those before, of these of one key the first
abbrev pub pairs_over : List (List ℕ × List ℕ) → KeptPairs → KeptPairs
pairs_over [] before = before
pairs_over (e ∷ es) before = map.insert (pairs_over es before) e.0 e.1

-- the last put of a key
abbrev pub last_put : List ℕ → List Put → Option Put
last_put key puts = find (λ put. bytes_eq key put.key) (reverse puts)

-- after a call that failed all of its puts were made, or none
abbrev pub MayHaveMade : List Put → KeptPairs → KeptPairs → Type 0
MayHaveMade puts before after = (after ≡ before) ⊎ (after ≡ pairs_after puts before)

-- a count is as it was, unless the object failed: out of memory is no failure
abbrev pub IsQuietUnlessFailed : {T : Type 0} → ℕ → ℕ → Result T Trouble → Type 0
IsQuietUnlessFailed before now (Ok x) = now ≡ before
IsQuietUnlessFailed before now (Err Failed) = Unit {0}
IsQuietUnlessFailed before now (Err NoMemory) = now ≡ before

-- a count of faults doesn't fall, it rose where the object failed, and it is as it was where it didn't
pub record FailsByFault {T : Type 0} (before now : ℕ) (result : Result T Trouble) : Type 0 where
  pub later : before ≤ now
  pub failed : IsErrOf result Failed → Rose before now
  pub quiet : IsQuietUnlessFailed before now result
