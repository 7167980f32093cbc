use Rattle.std.proofs.Common.{[], ◌∷◌, ◌++◌, ◌∙◌, sym, subst}
use Rattle.std.specs.Prelude.{◌≡◌, ◌≤◌, IfSome}
use Rattle.core_puts.specs.KeeperViews.{KeeperView}
use Rattle.lake_folders.specs.Folders.{FoldersView, KeeperShow}
use Rattle.folder_lakes.specs.FolderLakes.{IsFolderRefused}
use Rattle.folder_lakes.proofs.FolderLemmas.{no_lake}
use Rattle.folder_lakes.proofs.SeatLemmas.{lone_seats, new_seats}
use Rattle.folder_lakes.proofs.opening.open_folder.Goals as goal

pub returns-in-Err-clause-opens : goal.returns-in-Err-clause-opens
returns-in-Err-clause-opens g c =
    let view : KeeperView g.row.D-Pairs.Denot = record {
      kept = g.D.Pairs.Keeper.kept;
      faults = g.D.Pairs.Keeper.faults;
      calls = g.D.Pairs.Keeper.calls;
      successes = g.D.Pairs.Keeper.successes;
    } in
    let before : FoldersView = record {
      pairs = g.D.Folders.pairs c.args.folders.now;
      objects = g.D.Folders.objects c.args.folders.now;
      keepers_back = g.D.Folders.keepers_back c.args.folders.now;
      stores_back = g.D.Folders.stores_back c.args.folders.now;
      faults = g.D.Folders.faults c.args.folders.now;
    } in
    let after : FoldersView = record {
      pairs = g.D.Folders.pairs c.back.new.self;
      objects = g.D.Folders.objects c.back.new.self;
      keepers_back = g.D.Folders.keepers_back c.back.new.self;
      stores_back = g.D.Folders.stores_back c.back.new.self;
      faults = g.D.Folders.faults c.back.new.self;
    } in
    let given = c.in_ok-keeper.ensures in
    let show : KeeperShow = record { kept = g.D.Pairs.Keeper.kept c.in-Err.keeper; faults = g.D.Pairs.Keeper.faults c.in-Err.keeper } in
    subst (IsFolderRefused c.args.folder.now before after) (sym c.from.ensures)
    (no_lake view c.args.folder.now before after c.in_ok-keeper.keeper c.in-Err.keeper c.in-Err.fault c.in-Err.ensures given.held given.calm
    (record {
      keepers = subst (λ o. IfSome after.keepers_back (λ now. IfSome o (λ old. now ≡ old ++ show ∷ []))) given.keepers c.back.ensures.keepers;
      stores = c.back.ensures.stores ∙ given.stores;
    })
    (subst (λ n. before.faults ≤ n) (sym c.back.ensures.faults) given.cause.later))

pub returns-in-Ok-new-clause-opens : goal.returns-in-Ok-new-clause-opens
returns-in-Ok-new-clause-opens g c =
    let view : KeeperView g.row.D-Pairs.Denot = record {
      kept = g.D.Pairs.Keeper.kept;
      faults = g.D.Pairs.Keeper.faults;
      calls = g.D.Pairs.Keeper.calls;
      successes = g.D.Pairs.Keeper.successes;
    } in
    let given = c.in_ok-keeper.ensures in
    let lake = c.in-Ok.ensures in
    record {
      pairs = lake.pairs;
      are = record { kept = g.D.Pairs.Keeper.kept c.in_ok-keeper.keeper; held = given.held; loaded = lake.loaded };
      opened = c.in-Ok.lake.opened;
      lake = lake.opened;
      new = new_seats view _ c.in-Ok.lake _ c.in-Ok-new.shared.1.items c.in-Ok-new.ensures.count c.in-Ok-new.ensures.each lake.history;
      objects = given.objects;
      back = record { keepers = given.keepers; stores = given.stores };
      faults = given.cause.later;
    }

pub returns-in-Ok-new-clause-alone : goal.returns-in-Ok-new-clause-alone
returns-in-Ok-new-clause-alone g c =
    let view : KeeperView g.row.D-Pairs.Denot = record {
      kept = g.D.Pairs.Keeper.kept;
      faults = g.D.Pairs.Keeper.faults;
      calls = g.D.Pairs.Keeper.calls;
      successes = g.D.Pairs.Keeper.successes;
    } in
    lone_seats view _ c.in-Ok.lake _ c.in-Ok-new.shared.1.items c.in-Ok-new.ensures.count c.in-Ok-new.ensures.each
