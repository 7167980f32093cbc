-- A keeper in memory that fails where it is told to.
use Rattle.std.specs.Prelude.{◌==◌, ℕ, Bool, false, List, [], ◌∷◌, Option, Some, None, Result, Ok, Err, if◌then◌else◌, refl}
use Rattle.std.specs.List.{list_any}
use Rattle.std.specs.Coded.{Coded, code_by, coded×, coded_ℕ, coded_list}
use Rattle.std.specs.FinMap as map
use Rattle.std.specs.Option.{option_or}
use Rattle.lake_base.specs.Memory.{next_count}
use Rattle.lake_base.specs.declared.outside.Trouble.{Trouble}
use Rattle.keeper.specs.declared.memory.KeeperFail.{KeeperFail}
use Rattle.keeper.specs.declared.memory.KeeperFail.TheVariants.{Load, Put}
use Rattle.keeper.specs.Keepers.{KeptPairs}
use Rattle.keeper.specs.contracts.memory.KeeperFail.{the_row}

-- the pairs that are kept, the calls that are to fail, and how many loads, puts, puts that came to Ok and faults there
-- were
pub record MemoryKeeperValue : Type 0 where
  pub pairs : KeptPairs
  pub fails : List KeeperFail
  pub loads : ℕ
  pub puts : ℕ
  pub successes : ℕ
  pub faults : ℕ

-- it is stored as its fields
abbrev pub memory_keeper_code : Coded MemoryKeeperValue
memory_keeper_code =
    code_by (KeptPairs × (List KeeperFail × (ℕ × (ℕ × (ℕ × ℕ)))))
    (coded× (map.code (coded_list coded_ℕ) (coded_list coded_ℕ))
    (coded× (coded_list the_row.coded) (coded× coded_ℕ (coded× coded_ℕ (coded× coded_ℕ coded_ℕ)))))
    (λ k. (k.pairs, (k.fails, (k.loads, (k.puts, (k.successes, k.faults))))))
    (λ p. record { pairs = p.0; fails = p.1.0; loads = p.1.1.0; puts = p.1.1.1.0; successes = p.1.1.1.1.0; faults = p.1.1.1.1.1 }) (λ _. refl)

-- whether a load of this number, counted from 1, is the one that is to fail
abbrev pub is_load : ℕ → KeeperFail → Bool
is_load number (Load call) = call == number
is_load number (Put call lands) = false

-- whether the load after so many is to fail
abbrev pub is_load_to_fail : List KeeperFail → ℕ → Bool
is_load_to_fail fails loads = list_any (is_load (next_count loads)) fails

-- whether the puts of this number are made, where this is their failure
abbrev pub landing : ℕ → KeeperFail → Option Bool
landing number (Load call) = None
landing number (Put call lands) = if call == number then Some lands else None

-- of the first failure that names these puts, whether they are made
abbrev pub first_landing : ℕ → List KeeperFail → Option Bool
first_landing number [] = None
first_landing number (fail ∷ fails) = option_or (landing number fail) (first_landing number fails)

-- where the puts after so many are to fail, whether they are made all the same
abbrev pub put_landing : List KeeperFail → ℕ → Option Bool
put_landing fails puts = first_landing (next_count puts) fails

-- a count of puts that came to Ok after a call with this answer
abbrev pub successes_after : {T : Type 0} → Result T Trouble → ℕ → ℕ
successes_after (Ok x) successes = next_count successes
successes_after (Err trouble) successes = successes
