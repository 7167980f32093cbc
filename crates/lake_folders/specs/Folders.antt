-- What opens folders, as it shows at a moment.
use Rattle.std.specs.Prelude.{ℕ, List, Option}
use Rattle.block_store.specs.Blocks.{HeldObjects}
use Rattle.keeper.specs.Keepers.{KeptPairs}

-- a keeper that was given back: its pairs, where it tells them, and how often it has failed
pub record KeeperShow : Type 0 where
  pub kept : Option KeptPairs
  pub faults : ℕ

-- a store of objects that was given back: what it holds, where it tells that, its faults, its misses, and the number missed last
pub record StoreShow : Type 0 where
  pub held : Option HeldObjects
  pub faults : ℕ
  pub misses : ℕ
  pub missed : ℕ

-- what is told of folders: the pairs and the objects of each, by its name; the keepers and the stores that were given back, in order; and
-- how often opening one has failed
pub record FoldersView : Type 0 where
  pub pairs : List ℕ → Option KeptPairs
  pub objects : List ℕ → Option HeldObjects
  pub keepers_back : Option (List KeeperShow)
  pub stores_back : Option (List StoreShow)
  pub faults : ℕ
