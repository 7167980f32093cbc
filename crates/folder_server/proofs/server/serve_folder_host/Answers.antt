use native.Mathlib.Omega.{arith}
use Rattle.std.proofs.Common.{◌≡◌, ◌≤◌, map, refl}
use Rattle.core_puts.specs.KeeperViews.{KeeperView}
use Rattle.lake_folders.specs.Folders.{FoldersView, StoreShow}
use Rattle.lake_host.specs.Doors.{HostView}
use Rattle.folder_server.specs.FolderServers.{Refused, Storeless}
use Rattle.folder_server.proofs.ServingLemmas.{ended_so}
use Rattle.folder_server.proofs.StoreLemmas.{out_later, refused_later}
use Rattle.folder_server.proofs.server.serve_folder_host.Goals as goal

pub returns-in-Err-clause-serves : goal.returns-in-Err-clause-serves
returns-in-Err-clause-serves g c = Refused c.in-Err.fault c.in-Err.ensures.opens c.status_by.ensures refl

pub returns-in-Err-stores_of-clause-serves : goal.returns-in-Err-stores_of-clause-serves
returns-in-Err-stores_of-clause-serves g c =
    let view : g.row.D.Denot → FoldersView = λ folders. record {
      pairs = g.D.Folders.pairs folders;
      objects = g.D.Folders.objects folders;
      keepers_back = g.D.Folders.keepers_back folders;
      stores_back = g.D.Folders.stores_back folders;
      faults = g.D.Folders.faults folders;
    } in
    Storeless c.in-Err-stores_of.trouble c.in-Ok.opened.1.items (view c.open_folder.new.folders) (view c.stores_of.new.folders) c.in-Ok.ensures.opens
    c.in-Err-stores_of.ensures.stores c.close_folder.ensures c.status_of_trouble.ensures refl

pub returns-clause-serves : goal.returns-clause-serves
returns-clause-serves g c =
    let keeper : KeeperView g.row.D-Pairs.Denot = record {
      kept = g.D.Pairs.Keeper.kept;
      faults = g.D.Pairs.Keeper.faults;
      calls = g.D.Pairs.Keeper.calls;
      successes = g.D.Pairs.Keeper.successes;
    } in
    let show : g.row.D-Objects.Denot → StoreShow = λ blocks. record {
      held = g.D.Objects.Blocks.held blocks;
      faults = g.D.Objects.Blocks.faults blocks;
      misses = g.D.Objects.Blocks.misses blocks;
      missed = g.D.Objects.Blocks.missed blocks;
    } in
    let view : g.row.D.Denot → FoldersView = λ folders. record {
      pairs = g.D.Folders.pairs folders;
      objects = g.D.Folders.objects folders;
      keepers_back = g.D.Folders.keepers_back folders;
      stores_back = g.D.Folders.stores_back folders;
      faults = g.D.Folders.faults folders;
    } in
    let host : g.row.H.Denot → HostView = λ host. record {
      opened = g.H.Host.opened host;
      returned = g.H.Host.returned host;
      faults = g.H.Host.faults host;
    } in
    let end = c.serve_listeners-end in
    ended_so keeper show (record { at = c.args.at.now; folder = c.args.folder.now; service = c.args.service }) (host c.args.host.now) (host end.new.host)
    (view c.args.folders.now) (view c.open_folder.new.folders) (view c.stores_of.new.folders) (view c.back.new.self) (view c.give_back.new.folders)
    c.in-Ok.opened.1.items c.in-Ok-stores_of.stores.items end.result.2.items end.result.0 end.result.1 c.into_keeper.result c.status_of.result
    c.in-Ok.ensures.opens c.in-Ok.ensures.count c.in-Ok.ensures.alone c.in-Ok-stores_of.ensures.stores end.ensures.server end.ensures.origin
    end.ensures.stands c.into_keeper.ensures (record { keepers = c.back.ensures.keepers; stores = c.back.ensures.stores }) c.give_back.ensures
    c.status_of.ensures

pub returns-in-Err-stores_of-clause-folders : goal.returns-in-Err-stores_of-clause-folders
returns-in-Err-stores_of-clause-folders g c =
    let view : g.row.D.Denot → FoldersView = λ folders. record {
      pairs = g.D.Folders.pairs folders;
      objects = g.D.Folders.objects folders;
      keepers_back = g.D.Folders.keepers_back folders;
      stores_back = g.D.Folders.stores_back folders;
      faults = g.D.Folders.faults folders;
    } in
    let refused : g.D.Folders.faults c.open_folder.new.folders ≤ g.D.Folders.faults c.stores_of.new.folders =
    refused_later c.args.folder.now c.in-Err-stores_of.trouble (view c.open_folder.new.folders) (view c.stores_of.new.folders)
    c.in-Err-stores_of.ensures.stores in
    let closed : g.D.Folders.faults c.close_folder.new.folders ≡ g.D.Folders.faults c.stores_of.new.folders = c.close_folder.ensures.faults in
    omega (arith, c.open_folder.ensures.later, refused, closed)

pub returns-clause-folders : goal.returns-clause-folders
returns-clause-folders g c =
    let view : g.row.D.Denot → FoldersView = λ folders. record {
      pairs = g.D.Folders.pairs folders;
      objects = g.D.Folders.objects folders;
      keepers_back = g.D.Folders.keepers_back folders;
      stores_back = g.D.Folders.stores_back folders;
      faults = g.D.Folders.faults folders;
    } in
    let show : g.row.D-Objects.Denot → StoreShow = λ blocks. record {
      held = g.D.Objects.Blocks.held blocks;
      faults = g.D.Objects.Blocks.faults blocks;
      misses = g.D.Objects.Blocks.misses blocks;
      missed = g.D.Objects.Blocks.missed blocks;
    } in
    let taken : g.D.Folders.faults c.open_folder.new.folders ≤ g.D.Folders.faults c.stores_of.new.folders =
    out_later c.args.folder.now (map show c.in-Ok-stores_of.stores.items) (view c.open_folder.new.folders) (view c.stores_of.new.folders)
    c.in-Ok-stores_of.ensures.stores in
    let given : g.D.Folders.faults c.give_back.new.folders ≡ g.D.Folders.faults c.back.new.self = c.give_back.ensures.faults in
    omega (arith, c.open_folder.ensures.later, taken, c.back.ensures.faults, given)
