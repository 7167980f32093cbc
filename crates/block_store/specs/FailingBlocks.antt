-- A store in memory that fails where it is told to.
use Rattle.std.specs.Prelude.{◌==◌, ℕ, Bool, false, List, [], ◌∷◌, Option, Some, None, Result, Ok, Err, if◌then◌else◌, refl}
use Rattle.std.specs.List.{list_any}
use Rattle.std.specs.Coded.{Coded, code_by, coded×, coded_ℕ, coded_list}
use Rattle.std.specs.FinMap as map
use Rattle.std.specs.Option.{option_or}
use Rattle.lake_base.specs.Memory.{next_count}
use Rattle.lake_base.specs.declared.outside.Trouble.{Trouble}
use Rattle.block_store.specs.declared.memory.BlockFail.{BlockFail}
use Rattle.block_store.specs.declared.memory.BlockFail.TheVariants.{Put, Get, Remove, List as ListCall}
use Rattle.block_store.specs.Blocks.{HeldObjects}
use Rattle.block_store.specs.contracts.memory.BlockFail.{the_row}

-- the objects held, the calls that are to fail, how many calls of each kind and how many faults there were, how often a
-- number was missed, and the number missed last
pub record MemoryBlocksValue : Type 0 where
  pub held : HeldObjects
  pub fails : List BlockFail
  pub puts : ℕ
  pub gets : ℕ
  pub removes : ℕ
  pub lists : ℕ
  pub faults : ℕ
  pub misses : ℕ
  pub missed : ℕ

-- it is stored as its fields
abbrev pub memory_blocks_code : Coded MemoryBlocksValue
memory_blocks_code =
    code_by (HeldObjects × (List BlockFail × (ℕ × (ℕ × (ℕ × (ℕ × (ℕ × (ℕ × ℕ))))))))
    (coded× (map.code coded_ℕ (coded_list coded_ℕ))
    (coded× (coded_list the_row.coded)
    (coded× coded_ℕ (coded× coded_ℕ (coded× coded_ℕ (coded× coded_ℕ (coded× coded_ℕ (coded× coded_ℕ coded_ℕ))))))))
    (λ s. (s.held, (s.fails, (s.puts, (s.gets, (s.removes, (s.lists, (s.faults, (s.misses, s.missed)))))))))
    (λ p. record {
      held = p.0;
      fails = p.1.0;
      puts = p.1.1.0;
      gets = p.1.1.1.0;
      removes = p.1.1.1.1.0;
      lists = p.1.1.1.1.1.0;
      faults = p.1.1.1.1.1.1.0;
      misses = p.1.1.1.1.1.1.1.0;
      missed = p.1.1.1.1.1.1.1.1;
    }) (λ _. refl)

-- whether a get of this number, counted from 1, is the one that is to fail
abbrev pub is_get : ℕ → BlockFail → Bool
is_get number (Put call lands) = false
is_get number (Get call) = call == number
is_get number (Remove call lands) = false
is_get number (ListCall call) = false

-- whether the get after so many is to fail
abbrev pub is_get_to_fail : List BlockFail → ℕ → Bool
is_get_to_fail fails gets = list_any (is_get (next_count gets)) fails

-- whether a list of this number, counted from 1, is the one that is to fail
abbrev pub is_list : ℕ → BlockFail → Bool
is_list number (Put call lands) = false
is_list number (Get call) = false
is_list number (Remove call lands) = false
is_list number (ListCall call) = call == number

-- whether the list after so many is to fail
abbrev pub is_list_to_fail : List BlockFail → ℕ → Bool
is_list_to_fail fails lists = list_any (is_list (next_count lists)) fails

-- whether the put of this number is made, where this is its failure
abbrev pub landing_put : ℕ → BlockFail → Option Bool
landing_put number (Put call lands) = if call == number then Some lands else None
landing_put number (Get call) = None
landing_put number (Remove call lands) = None
landing_put number (ListCall call) = None

-- whether the remove of this number is made, where this is its failure
abbrev pub landing_remove : ℕ → BlockFail → Option Bool
landing_remove number (Put call lands) = None
landing_remove number (Get call) = None
landing_remove number (Remove call lands) = if call == number then Some lands else None
landing_remove number (ListCall call) = None

-- of the first failure that names this put, whether it is made
abbrev pub first_landing_put : ℕ → List BlockFail → Option Bool
first_landing_put number [] = None
first_landing_put number (fail ∷ fails) = option_or (landing_put number fail) (first_landing_put number fails)

-- where the put after so many is to fail, whether it is made all the same
abbrev pub put_landing : List BlockFail → ℕ → Option Bool
put_landing fails puts = first_landing_put (next_count puts) fails

-- of the first failure that names this remove, whether it is made
abbrev pub first_landing_remove : ℕ → List BlockFail → Option Bool
first_landing_remove number [] = None
first_landing_remove number (fail ∷ fails) = option_or (landing_remove number fail) (first_landing_remove number fails)

-- where the remove after so many is to fail, whether it is made all the same
abbrev pub remove_landing : List BlockFail → ℕ → Option Bool
remove_landing fails removes = first_landing_remove (next_count removes) fails

-- a count of misses after a get with this answer: None counts one
abbrev pub misses_after : {T : Type 0} → Result (Option T) Trouble → ℕ → ℕ
misses_after (Ok None) misses = next_count misses
misses_after (Ok (Some x)) misses = misses
misses_after (Err trouble) misses = misses

-- the number missed last after a get of this number with this answer
abbrev pub missed_after : {T : Type 0} → ℕ → Result (Option T) Trouble → ℕ → ℕ
missed_after number (Ok None) missed = number
missed_after number (Ok (Some x)) missed = missed
missed_after number (Err trouble) missed = missed
