use Rattle.std.proofs.Common.{⊎_elim, inl, inr, refl}
use Rattle.lake_batch.specs.BatchViews.{BatchView}
use Rattle.lake_folders.specs.Folders.{FoldersView}
use Rattle.folder_batch.specs.Desks.{Desk}
use Rattle.folder_batch.specs.FolderBatches.{Served, Unopened}
use Rattle.folder_batch.proofs.batch.serve_folder.Goals as goal

pub returns-in-Err-clause-ends : goal.returns-in-Err-clause-ends
returns-in-Err-clause-ends g c = Unopened c.in-Err.ensures.opens refl

pub returns-clause-ends : goal.returns-clause-ends
returns-clause-ends g c =
    let status = c.serve_at-status in
    let view : _ → _ → _ → _ → BatchView = λ source sink clock files. record {
      left = g.S.Source.left source;
      written = g.O.Sink.written sink;
      sink_faults = g.O.Sink.faults sink;
      readings = g.C.Clock.readings clock;
      files = g.F.Files.files files;
    } in
    let desk : _ → Desk = λ d. record {
      store = record {
        held = g.D.Objects.Blocks.held d.blocks;
        faults = g.D.Objects.Blocks.faults d.blocks;
        misses = g.D.Objects.Blocks.misses d.blocks;
        missed = g.D.Objects.Blocks.missed d.blocks;
      };
      seat = d.seat;
    } in
    let opened : FoldersView = record {
      pairs = g.D.Folders.pairs c.open_desk.new.folders;
      objects = g.D.Folders.objects c.open_desk.new.folders;
      keepers_back = g.D.Folders.keepers_back c.open_desk.new.folders;
      stores_back = g.D.Folders.stores_back c.open_desk.new.folders;
      faults = g.D.Folders.faults c.open_desk.new.folders;
    } in
    Served (desk c.in-Ok.desk) (desk status.result.1) opened c.in-Ok.ensures.opens
    (⊎_elim (λ none. inl (none.0, (λ i. view (none.1 i) (none.2 i) (none.4 i) (none.5 i)), (λ i. desk (none.3 i)))) (λ some. inr some) status.ensures.outcome)
    c.close_desk.ensures.left
