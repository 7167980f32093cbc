use native.Mathlib.Omega.{arith}
use Rattle.std.proofs.Common.{◌≡◌, ◌++◌, [], ◌∷◌, List, map, sym, ◌∙◌, ap, subst}
use Rattle.std.proofs.lemmas.List.{map_push}
use Rattle.lake_folders.specs.Folders.{FoldersView, StoreShow}
use Rattle.folder_server.specs.Stores.{AreStoresOut}
use Rattle.folder_server.proofs.StoreLemmas.{no_room, one_more_out}
use Rattle.folder_server.proofs.stores.stores_of.Goals as goal

pub returns-in_default-clause-stores : goal.returns-in_default-clause-stores
returns-in_default-clause-stores g c = no_room c.args.folder.now _

pub loop-folders-preserved : goal.loop-folders-preserved
loop-folders-preserved g c =
    let view : g.row.D.Denot → FoldersView = λ folders. record {
      pairs = g.D.Folders.pairs folders;
      objects = g.D.Folders.objects folders;
      keepers_back = g.D.Folders.keepers_back folders;
      stores_back = g.D.Folders.stores_back folders;
      faults = g.D.Folders.faults folders;
    } in
    let show : g.row.D-Objects.Denot → StoreShow = λ blocks. record {
      held = g.D.Objects.Blocks.held blocks;
      faults = g.D.Objects.Blocks.faults blocks;
      misses = g.D.Objects.Blocks.misses blocks;
      missed = g.D.Objects.Blocks.missed blocks;
    } in
    let told = c.blocks-in-loop-folders.ensures in
    let pushed : map show c.push_reserved.new.self.items ≡ map show c.loop-folders.stores.items ++ show c.in-Ok-blocks.blocks ∷ [] =
    ap (map show) c.push_reserved.ensures.items ∙ map_push show c.loop-folders.stores.items c.in-Ok-blocks.blocks in (
      subst (λ (stores : List StoreShow). AreStoresOut c.args.folder.now stores (view c.args.folders.now) (view c.blocks-in-loop-folders.new.self))
          (sym pushed)
          (one_more_out c.args.folder.now (map show c.loop-folders.stores.items) (show c.in-Ok-blocks.blocks) (view c.args.folders.now)
          (view c.loop-folders.folders) (view c.blocks-in-loop-folders.new.self) c.loop-folders.invariant.0
          (record {
            held = c.in-Ok-blocks.ensures.held;
            calm = c.in-Ok-blocks.ensures.calm;
            back = record { keepers = told.keepers; stores = told.stores };
            faults = told.cause.later;
          })),
      c.push_reserved.ensures.capacity ∙ c.loop-folders.invariant.1,
      omega (arith, c.push_reserved.ensures.len, c.len.ensures, c.loop-folders-test.true),
    )
