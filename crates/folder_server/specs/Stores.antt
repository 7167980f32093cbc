-- The stores of a folder's objects are taken, and given back.
use Rattle.std.specs.Prelude.{◌≡◌, ◌≤◌, ◌++◌, ℕ, List, [], ◌∷◌, Some, IfSome, IsSome}
use Rattle.lake_base.specs.Outside.{Rose}
use Rattle.lake_base.specs.declared.outside.Trouble.{Trouble}
use Rattle.lake_base.specs.declared.outside.Trouble.TheVariants.{Failed}
use Rattle.lake_folders.specs.Folders.{FoldersView, StoreShow}
use Rattle.folder_lakes.specs.FolderLakes.{NothingBack}

-- a store was taken: it holds what the folder is told to hold, and has counted nothing; nothing was given back
pub record IsStoreOut (folder : List ℕ) (store : StoreShow) (before after : FoldersView) : Type 0 where
  pub held : IfSome (before.objects folder) (λ held. store.held ≡ Some held)
  pub calm : (store.faults ≡ 0) × (store.misses ≡ 0)
  pub back : NothingBack before after
  pub faults : before.faults ≤ after.faults

-- these were taken, one after the other
abbrev pub AreStoresOut : (folder : List ℕ) → List StoreShow → (before after : FoldersView) → Type 0
AreStoresOut folder [] before after = after ≡ before
AreStoresOut folder (store ∷ stores) before after =
    (next : FoldersView) × IsStoreOut folder store before next × AreStoresOut folder stores next after

-- these were given back, in order, where that is told, and no keeper was
pub record AreBack (stores : List StoreShow) (before after : FoldersView) : Type 0 where
  pub shown : IfSome after.stores_back (λ now. IfSome before.stores_back (λ old. now ≡ old ++ stores))
  pub told : IfSome after.stores_back (λ _. IsSome before.stores_back)
  pub keepers : after.keepers_back ≡ before.keepers_back
  pub faults : after.faults ≡ before.faults

-- one was refused, for memory or by a failure that was counted, and those that were taken before it were given back
pub record AreNoStores (folder : List ℕ) (trouble : Trouble) (before after : FoldersView) : Type 0 where
  pub taken : List StoreShow
  pub out : FoldersView
  pub are : AreStoresOut folder taken before out
  pub refused : FoldersView
  pub nothing : NothingBack out refused
  pub later : out.faults ≤ refused.faults
  pub failed : trouble ≡ Failed → Rose out.faults refused.faults
  pub back : AreBack taken refused after
