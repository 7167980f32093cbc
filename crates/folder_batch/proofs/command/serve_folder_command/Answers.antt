use Rattle.std.proofs.Common.{◌∙◌, ap, refl, sym}
use Rattle.std.specs.Prelude.{Err}
use Rattle.lake_folders.specs.Folders.{FoldersView}
use Rattle.folder_batch.specs.Desks.{Desk}
use Rattle.folder_batch.specs.FolderCommands.{Served, Unopened, ended_as}
use Rattle.folder_batch.proofs.command.serve_folder_command.Goals as goal

pub returns-in-Err-clause-ends : goal.returns-in-Err-clause-ends
returns-in-Err-clause-ends g c = Unopened c.in-Err.status c.in-Err.ensures.opens refl refl

pub returns-in-Ok-ended-clause-ends : goal.returns-in-Ok-ended-clause-ends
returns-in-Ok-ended-clause-ends g c =
    let ended = c.command_at-ended in
    let desk : _ → Desk = λ d. record {
      store = record {
        held = g.D.Objects.Blocks.held d.blocks;
        faults = g.D.Objects.Blocks.faults d.blocks;
        misses = g.D.Objects.Blocks.misses d.blocks;
        missed = g.D.Objects.Blocks.missed d.blocks;
      };
      seat = d.seat;
    } in
    let opened : FoldersView = record {
      pairs = g.D.Folders.pairs c.open_desk.new.folders;
      objects = g.D.Folders.objects c.open_desk.new.folders;
      keepers_back = g.D.Folders.keepers_back c.open_desk.new.folders;
      stores_back = g.D.Folders.stores_back c.open_desk.new.folders;
      faults = g.D.Folders.faults c.open_desk.new.folders;
    } in
    Served ended.result.0 (desk c.in-Ok.desk) (desk ended.result.1) opened c.in-Ok.ensures.opens ended.ensures.ends
    (ap ended_as (sym c.in-Ok-ended.is)) c.close_desk.ensures.left

pub returns-in-Err-ended-clause-ends : goal.returns-in-Err-ended-clause-ends
returns-in-Err-ended-clause-ends g c =
    let ended = c.command_at-ended in
    let desk : _ → Desk = λ d. record {
      store = record {
        held = g.D.Objects.Blocks.held d.blocks;
        faults = g.D.Objects.Blocks.faults d.blocks;
        misses = g.D.Objects.Blocks.misses d.blocks;
        missed = g.D.Objects.Blocks.missed d.blocks;
      };
      seat = d.seat;
    } in
    let opened : FoldersView = record {
      pairs = g.D.Folders.pairs c.open_desk.new.folders;
      objects = g.D.Folders.objects c.open_desk.new.folders;
      keepers_back = g.D.Folders.keepers_back c.open_desk.new.folders;
      stores_back = g.D.Folders.stores_back c.open_desk.new.folders;
      faults = g.D.Folders.faults c.open_desk.new.folders;
    } in
    Served ended.result.0 (desk c.in-Ok.desk) (desk ended.result.1) opened c.in-Ok.ensures.opens ended.ensures.ends
    (ap Err c.status_of_trouble.ensures ∙ ap ended_as (sym c.in-Err-ended.is)) c.close_desk.ensures.left
