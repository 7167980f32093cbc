use Rattle.std.proofs.Common.{map}
use Rattle.lake_folders.specs.Folders.{FoldersView, StoreShow}
use Rattle.folder_server.proofs.StoreLemmas.{BackSoFar}
use Rattle.folder_server.proofs.stores.give_back.Given as goal

-- the first stores were given back
abbrev pub invariant-loop-blocks : goal.invariant-loop-blocks
invariant-loop-blocks g l =
    let view : g.row.D.Denot → FoldersView = λ folders. record {
      pairs = g.D.Folders.pairs folders;
      objects = g.D.Folders.objects folders;
      keepers_back = g.D.Folders.keepers_back folders;
      stores_back = g.D.Folders.stores_back folders;
      faults = g.D.Folders.faults folders;
    } in
    let show : g.row.D-Objects.Denot → StoreShow = λ blocks. record {
      held = g.D.Objects.Blocks.held blocks;
      faults = g.D.Objects.Blocks.faults blocks;
      misses = g.D.Objects.Blocks.misses blocks;
      missed = g.D.Objects.Blocks.missed blocks;
    } in
    BackSoFar (map show l.fn.stores.items) (map show l.blocks-iterator.rest.items) (view l.fn.folders) (view l.folders)
