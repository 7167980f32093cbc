use Rattle.std.proofs.Common.{[], map, sym, ◌∙◌, ap}
use Rattle.std.proofs.lemmas.List.{nil_from_length}
use Rattle.lake_folders.specs.Folders.{FoldersView, StoreShow}
use Rattle.folder_server.proofs.StoreLemmas.{all_back, none_back, one_more_back}
use Rattle.folder_server.proofs.stores.give_back.Goals as goal

pub loop-blocks-init : goal.loop-blocks-init
loop-blocks-init g c = record {
  done = [];
  split = ap (map _) c.into_iter-blocks-iterator.ensures.into_iter_gives.0;
  back = none_back _;
}

pub loop-blocks-preserved : goal.loop-blocks-preserved
loop-blocks-preserved g c =
    let view : g.row.D.Denot → FoldersView = λ folders. record {
      pairs = g.D.Folders.pairs folders;
      objects = g.D.Folders.objects folders;
      keepers_back = g.D.Folders.keepers_back folders;
      stores_back = g.D.Folders.stores_back folders;
      faults = g.D.Folders.faults folders;
    } in
    let show : g.row.D-Objects.Denot → StoreShow = λ blocks. record {
      held = g.D.Objects.Blocks.held blocks;
      faults = g.D.Objects.Blocks.faults blocks;
      misses = g.D.Objects.Blocks.misses blocks;
      missed = g.D.Objects.Blocks.missed blocks;
    } in
    one_more_back (map show c.args.stores.items) (map show c.loop-blocks.blocks-iterator.rest.items) (map show c.next.new.self.rest.items)
    (show c.in-Some.blocks) (view c.args.folders.now) (view c.loop-blocks.folders) (view c.back_blocks.new.self) c.loop-blocks.invariant
    (ap (map show) c.in-Some.ensures.steps.0) c.back_blocks.ensures.stores c.back_blocks.ensures.told c.back_blocks.ensures.keepers
    c.back_blocks.ensures.faults

pub returns : goal.returns
returns g c =
    let view : g.row.D.Denot → FoldersView = λ folders. record {
      pairs = g.D.Folders.pairs folders;
      objects = g.D.Folders.objects folders;
      keepers_back = g.D.Folders.keepers_back folders;
      stores_back = g.D.Folders.stores_back folders;
      faults = g.D.Folders.faults folders;
    } in
    let show : g.row.D-Objects.Denot → StoreShow = λ blocks. record {
      held = g.D.Objects.Blocks.held blocks;
      faults = g.D.Objects.Blocks.faults blocks;
      misses = g.D.Objects.Blocks.misses blocks;
      missed = g.D.Objects.Blocks.missed blocks;
    } in
    all_back (map show c.args.stores.items) (map show c.loop-blocks.blocks-iterator.rest.items) (view c.args.folders.now) (view c.loop-blocks.folders)
    c.loop-blocks.invariant
    (ap (map show)
    (nil_from_length c.loop-blocks.blocks-iterator.rest.items (sym c.loop-blocks.blocks-iterator.rest.ok.0 ∙ c.in-None.ensures.steps.0)))
