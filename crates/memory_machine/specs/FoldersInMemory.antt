-- Folders in memory.
use Rattle.std.specs.Prelude.{◌≡◌, ℕ, List, [], ◌∷◌, Option, Some, None, option_map, if◌then◌else◌, refl}
use Rattle.std.specs.Coded.{Coded, code_by, coded×, coded_list, coded_option, coded_ℕ}
use Rattle.std.specs.FinMap as map
use Rattle.std.specs.Str.{bytes_eq}
use Rattle.block_store.specs.Blocks.{HeldObjects}
use Rattle.block_store.specs.FailingBlocks.{MemoryBlocksValue, memory_blocks_code}
use Rattle.keeper.specs.FailingKeepers.{MemoryKeeperValue, memory_keeper_code}
use Rattle.keeper.specs.Keepers.{KeptPairs}
use Rattle.lake_folders.specs.Folders.{KeeperShow, StoreShow}

-- the name of the folder that is there; its keepers and its stores that are waiting; the keepers and the stores that were given back, in
-- order, where there was memory for them; how many calls are to fail yet, and how many have failed
pub record MemoryFoldersValue : Type 0 where
  pub folder : List ℕ
  pub keepers : List MemoryKeeperValue
  pub stores : List MemoryBlocksValue
  pub keepers_back : Option (List MemoryKeeperValue)
  pub stores_back : Option (List MemoryBlocksValue)
  pub refusals : ℕ
  pub faults : ℕ

-- they are stored as their fields
abbrev pub memory_folders_code : Coded MemoryFoldersValue
memory_folders_code =
    code_by
    (List ℕ × (List MemoryKeeperValue × (List MemoryBlocksValue
    × (Option (List MemoryKeeperValue) × (Option (List MemoryBlocksValue) × (ℕ × ℕ))))))
    (coded× (coded_list coded_ℕ) (coded× (coded_list memory_keeper_code) (coded× (coded_list memory_blocks_code)
    (coded× (coded_option (coded_list memory_keeper_code)) (coded× (coded_option (coded_list memory_blocks_code)) (coded× coded_ℕ coded_ℕ))))))
    (λ f. (f.folder, (f.keepers, (f.stores, (f.keepers_back, (f.stores_back, (f.refusals, f.faults)))))))
    (λ p. record {
      folder = p.0;
      keepers = p.1.0;
      stores = p.1.1.0;
      keepers_back = p.1.1.1.0;
      stores_back = p.1.1.1.1.0;
      refusals = p.1.1.1.1.1.0;
      faults = p.1.1.1.1.1.1;
    }) (λ _. refl)

-- the first of what is waiting
abbrev pub first_of : {T : Type 0} → List T → Option T
first_of [] = None
first_of (first ∷ others) = Some first

-- the pairs of the folder of a name: those of the keeper that has waited longest; another folder has none
abbrev pub pairs_in : MemoryFoldersValue → List ℕ → Option KeptPairs
pairs_in folders name =
    if bytes_eq name folders.folder then option_map (λ keeper. keeper.pairs) (first_of folders.keepers) else Some map.empty

-- the objects of the store that has waited longest, where one is waiting, else none
abbrev pub first_objects : List MemoryBlocksValue → HeldObjects
first_objects [] = map.empty
first_objects (store ∷ others) = store.held

-- the objects of the folder of a name: those of the store that has waited longest; another folder has none
abbrev pub objects_in : MemoryFoldersValue → List ℕ → Option HeldObjects
objects_in folders name = if bytes_eq name folders.folder then Some (first_objects folders.stores) else Some map.empty

-- a keeper in memory, as it shows
abbrev pub keeper_show : MemoryKeeperValue → KeeperShow
keeper_show keeper = record { kept = Some keeper.pairs; faults = keeper.faults }

-- a store in memory, as it shows
abbrev pub store_show : MemoryBlocksValue → StoreShow
store_show store = record { held = Some store.held; faults = store.faults; misses = store.misses; missed = store.missed }

-- a store that has counted nothing
pub record IsCalm (store : MemoryBlocksValue) : Type 0 where
  pub faults : store.faults ≡ 0
  pub misses : store.misses ≡ 0
