use Rattle.std.proofs.Common.{true, All, List, [], ◌∷◌, refl, subst, ap, arith}
use Rattle.std.specs.Prelude.{◌≡◌, Err}
use Rattle.shared_lake.specs.SeatSteps.{LakeSeat}
use Rattle.lake_folders.specs.Folders.{FoldersView}
use Rattle.folder_lakes.specs.FolderLakes.{IsFolderClosed, IsFolderOpened}
use Rattle.folder_batch.specs.OpenDesks.{Refused, Storeless}
use Rattle.folder_batch.proofs.OpeningLemmas.{only_one, popped_only}
use Rattle.folder_batch.proofs.opening.open_desk.Goals as goal

pub returns-in-Err-clause-opens : goal.returns-in-Err-clause-opens
returns-in-Err-clause-opens g c = Refused c.in-Err.fault c.in-Err.ensures.opens c.status_by.ensures

pub returns-in-Err-blocks-clause-opens : goal.returns-in-Err-blocks-clause-opens
returns-in-Err-blocks-clause-opens g c =
    let before : FoldersView = record {
      pairs = g.D.Folders.pairs c.args.folders.now;
      objects = g.D.Folders.objects c.args.folders.now;
      keepers_back = g.D.Folders.keepers_back c.args.folders.now;
      stores_back = g.D.Folders.stores_back c.args.folders.now;
      faults = g.D.Folders.faults c.args.folders.now;
    } in
    let opened : FoldersView = record {
      pairs = g.D.Folders.pairs c.open_folder.new.folders;
      objects = g.D.Folders.objects c.open_folder.new.folders;
      keepers_back = g.D.Folders.keepers_back c.open_folder.new.folders;
      stores_back = g.D.Folders.stores_back c.open_folder.new.folders;
      faults = g.D.Folders.faults c.open_folder.new.folders;
    } in
    let tried : FoldersView = record {
      pairs = g.D.Folders.pairs c.blocks-2.new.self;
      objects = g.D.Folders.objects c.blocks-2.new.self;
      keepers_back = g.D.Folders.keepers_back c.blocks-2.new.self;
      stores_back = g.D.Folders.stores_back c.blocks-2.new.self;
      faults = g.D.Folders.faults c.blocks-2.new.self;
    } in
    let after : FoldersView = record {
      pairs = g.D.Folders.pairs c.close_folder.new.folders;
      objects = g.D.Folders.objects c.close_folder.new.folders;
      keepers_back = g.D.Folders.keepers_back c.close_folder.new.folders;
      stores_back = g.D.Folders.stores_back c.close_folder.new.folders;
      faults = g.D.Folders.faults c.close_folder.new.folders;
    } in
    let seats : List LakeSeat = c.in-Ok.opened.1.items in
    let only = only_one seats c.in-Ok.ensures.count in
    let seat : LakeSeat = only.0 in
    let one : seats ≡ seat ∷ [] = only.1 in
    Storeless c.in-Err-blocks.trouble seat opened tried (subst (IsFolderOpened c.args.folder.now before opened) one c.in-Ok.ensures.opens)
    (record { keepers = c.in-Err-blocks.ensures.keepers; stores = c.in-Err-blocks.ensures.stores })
    (λ failed. c.in-Err-blocks.ensures.cause.failed (ap Err failed))
    (subst (λ (all : List LakeSeat). IsFolderClosed all tried after) one c.close_folder.ensures) c.status_of_trouble.ensures

pub returns-clause-opens : goal.returns-clause-opens
returns-clause-opens g c =
    let before : FoldersView = record {
      pairs = g.D.Folders.pairs c.args.folders.now;
      objects = g.D.Folders.objects c.args.folders.now;
      keepers_back = g.D.Folders.keepers_back c.args.folders.now;
      stores_back = g.D.Folders.stores_back c.args.folders.now;
      faults = g.D.Folders.faults c.args.folders.now;
    } in
    let opened : FoldersView = record {
      pairs = g.D.Folders.pairs c.open_folder.new.folders;
      objects = g.D.Folders.objects c.open_folder.new.folders;
      keepers_back = g.D.Folders.keepers_back c.open_folder.new.folders;
      stores_back = g.D.Folders.stores_back c.open_folder.new.folders;
      faults = g.D.Folders.faults c.open_folder.new.folders;
    } in
    let seats : List LakeSeat = c.in-Ok.opened.1.items in
    let seat : LakeSeat = c.in-Some.seat in
    let one : seats ≡ seat ∷ [] =
    popped_only seats c.pop.new.self.items seat c.pop.result c.in-Ok.ensures.count c.pop.ensures.items c.in-Some.is in
    let given = c.in-Ok-blocks.ensures in
    record {
      between = opened;
      opens = subst (IsFolderOpened c.args.folder.now before opened) one c.in-Ok.ensures.opens;
      alone = subst (λ (all : List LakeSeat). All (λ (s : LakeSeat). s.alone ≡ true) all) one (c.in-Ok.ensures.alone refl) 0 seat (omega arith);
      held = given.held;
      calm = given.calm;
      back = record { keepers = given.keepers; stores = given.stores };
    }
