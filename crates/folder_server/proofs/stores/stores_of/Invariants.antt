use Rattle.std.proofs.Common.{◌≡◌, ◌≤◌, ◌-◌, map, vec_len, vec_capacity}
use Rattle.lake_folders.specs.Folders.{FoldersView, StoreShow}
use Rattle.folder_server.specs.Stores.{AreStoresOut}
use Rattle.folder_server.proofs.stores.stores_of.Given as goal

-- these stores were taken, in the room that was made
abbrev pub invariant-loop-folders : goal.invariant-loop-folders
invariant-loop-folders g l =
    let view : g.row.D.Denot → FoldersView = λ folders. record {
      pairs = g.D.Folders.pairs folders;
      objects = g.D.Folders.objects folders;
      keepers_back = g.D.Folders.keepers_back folders;
      stores_back = g.D.Folders.stores_back folders;
      faults = g.D.Folders.faults folders;
    } in
    let show : g.row.D-Objects.Denot → StoreShow = λ blocks. record {
      held = g.D.Objects.Blocks.held blocks;
      faults = g.D.Objects.Blocks.faults blocks;
      misses = g.D.Objects.Blocks.misses blocks;
      missed = g.D.Objects.Blocks.missed blocks;
    } in
    AreStoresOut l.fn.folder (map show l.stores.items) (view l.fn.folders) (view l.folders)
    × (vec_capacity l.stores ≡ l.fn.count) × (vec_len l.stores ≤ l.fn.count)

abbrev pub decreases-loop-folders : goal.decreases-loop-folders
decreases-loop-folders g l = l.fn.count - vec_len l.stores
