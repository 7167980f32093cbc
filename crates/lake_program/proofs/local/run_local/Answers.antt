use Rattle.std.proofs.Common.{refl, sym}
use Rattle.core_puts.specs.KeeperViews.{KeeperView}
use Rattle.lake_program.specs.Run.{control_view}
use Rattle.lake_program.specs.Views.{RunView}
use Rattle.lake_program.proofs.LocalLemmas.{batch_ran, command_ran, server_ran, usage_shown}
use Rattle.lake_program.proofs.RunLemmas.{maps_none}
use Rattle.lake_program.proofs.local.run_local.Goals as goal

pub returns-in-Some-clause-run : goal.returns-in-Some-clause-run
returns-in-Some-clause-run g c = λ dial.
    let keeper : KeeperView g.row.D-Pairs.Denot = record {
      kept = g.D.Pairs.Keeper.kept;
      faults = g.D.Pairs.Keeper.faults;
      calls = g.D.Pairs.Keeper.calls;
      successes = g.D.Pairs.Keeper.successes;
    } in
    let view : _ → _ → _ → _ → _ → RunView = λ source sink clock files folders. record {
      batch = record {
        left = g.S.Source.left source;
        written = g.O.Sink.written sink;
        sink_faults = g.O.Sink.faults sink;
        readings = g.C.Clock.readings clock;
        files = g.F.Files.files files;
      };
      host = record { opened = g.H.Host.opened c.args.host.now; returned = g.H.Host.returned c.args.host.now; faults = g.H.Host.faults c.args.host.now };
      dial = dial;
      folders = record {
        pairs = g.D.Folders.pairs folders;
        objects = g.D.Folders.objects folders;
        keepers_back = g.D.Folders.keepers_back folders;
        stores_back = g.D.Folders.stores_back folders;
        faults = g.D.Folders.faults folders;
      };
      errors = g.E.Sink.written c.args.errors.now;
      source_faults = g.S.Source.faults source;
      errors_faults = g.E.Sink.faults c.args.errors.now;
      file_faults = g.F.Files.faults files;
    } in
    let served = c.serve_folder-status in
    batch_ran keeper c.args.words.now (view c.args.source.now c.args.sink.now c.args.clock c.args.files c.args.folders.now)
    (view served.new.source served.new.sink served.result.1 served.result.2 served.new.folders) c.number_of.result
    (record { timing = c.in-Some.timing; folder = c.in-Some.folder.now }) served.result.0 (sym c.in-Some.ensures) c.number_of.ensures
    served.ensures.statuses served.ensures.ends served.ensures.source served.ensures.sink served.ensures.files served.ensures.folders refl

pub returns-in-Some-local_service_words-clause-run : goal.returns-in-Some-local_service_words-clause-run
returns-in-Some-local_service_words-clause-run g c = λ dial.
    let keeper : KeeperView g.row.D-Pairs.Denot = record {
      kept = g.D.Pairs.Keeper.kept;
      faults = g.D.Pairs.Keeper.faults;
      calls = g.D.Pairs.Keeper.calls;
      successes = g.D.Pairs.Keeper.successes;
    } in
    let view : _ → _ → RunView = λ host folders. record {
      batch = record {
        left = g.S.Source.left c.args.source.now;
        written = g.O.Sink.written c.args.sink.now;
        sink_faults = g.O.Sink.faults c.args.sink.now;
        readings = g.C.Clock.readings c.args.clock;
        files = g.F.Files.files c.args.files;
      };
      host = record { opened = g.H.Host.opened host; returned = g.H.Host.returned host; faults = g.H.Host.faults host };
      dial = dial;
      folders = record {
        pairs = g.D.Folders.pairs folders;
        objects = g.D.Folders.objects folders;
        keepers_back = g.D.Folders.keepers_back folders;
        stores_back = g.D.Folders.stores_back folders;
        faults = g.D.Folders.faults folders;
      };
      errors = g.E.Sink.written c.args.errors.now;
      source_faults = g.S.Source.faults c.args.source.now;
      errors_faults = g.E.Sink.faults c.args.errors.now;
      file_faults = g.F.Files.faults c.args.files;
    } in
    let served = c.serve_folder_host-status in
    let found = c.in-Some-local_service_words in
    server_ran keeper c.args.words.now (view c.args.host.now c.args.folders.now) (view served.new.host served.new.folders)
    c.number_of-in-Some-local_service_words.result (record { at = found.at.now; folder = found.folder.now; service = found.service }) served.result
    (maps_none _ c.local_batch_words.result _ c.local_batch_words.ensures c.in_default.not-Some) (sym found.ensures.reads)
    c.number_of-in-Some-local_service_words.ensures served.ensures.serves served.ensures.host served.ensures.folders refl

pub returns-in-Some-local_command_words-clause-run : goal.returns-in-Some-local_command_words-clause-run
returns-in-Some-local_command_words-clause-run g c = λ dial.
    let keeper : KeeperView g.row.D-Pairs.Denot = record {
      kept = g.D.Pairs.Keeper.kept;
      faults = g.D.Pairs.Keeper.faults;
      calls = g.D.Pairs.Keeper.calls;
      successes = g.D.Pairs.Keeper.successes;
    } in
    let view : _ → _ → _ → _ → _ → RunView = λ sink errors clock files folders. record {
      batch = record {
        left = g.S.Source.left c.args.source.now;
        written = g.O.Sink.written sink;
        sink_faults = g.O.Sink.faults sink;
        readings = g.C.Clock.readings clock;
        files = g.F.Files.files files;
      };
      host = record { opened = g.H.Host.opened c.args.host.now; returned = g.H.Host.returned c.args.host.now; faults = g.H.Host.faults c.args.host.now };
      dial = dial;
      folders = record {
        pairs = g.D.Folders.pairs folders;
        objects = g.D.Folders.objects folders;
        keepers_back = g.D.Folders.keepers_back folders;
        stores_back = g.D.Folders.stores_back folders;
        faults = g.D.Folders.faults folders;
      };
      errors = g.E.Sink.written errors;
      source_faults = g.S.Source.faults c.args.source.now;
      errors_faults = g.E.Sink.faults errors;
      file_faults = g.F.Files.faults files;
    } in
    let served = c.serve_folder_command-ended in
    let found = c.in-Some-local_command_words in
    let printed = c.print_ended in
    let old : RunView = view c.args.sink.now c.args.errors.now c.args.clock c.args.files c.args.folders.now in
    let now : RunView = view printed.new.sink printed.new.errors served.result.1 served.result.2 served.new.folders in
    command_ran keeper c.args.words.now old now printed.result
    (record { timing = found.timing; folder = found.folder.now; words = found.called.now }) served.result.0
    (maps_none _ c.local_batch_words.result _ c.local_batch_words.ensures c.in_default.not-Some)
    (maps_none _ c.local_service_words.result _ c.local_service_words.ensures.reads c.in_default-local_service_words.not-Some)
    (sym found.ensures) served.ensures.ends (printed.ensures.printed (control_view old).client (control_view now).client)
    printed.ensures.sink printed.ensures.errors served.ensures.files served.ensures.folders (refl, refl, refl, refl)

pub returns-clause-run : goal.returns-clause-run
returns-clause-run g c = λ dial.
    let keeper : KeeperView g.row.D-Pairs.Denot = record {
      kept = g.D.Pairs.Keeper.kept;
      faults = g.D.Pairs.Keeper.faults;
      calls = g.D.Pairs.Keeper.calls;
      successes = g.D.Pairs.Keeper.successes;
    } in
    let view : _ → RunView = λ errors. record {
      batch = record {
        left = g.S.Source.left c.args.source.now;
        written = g.O.Sink.written c.args.sink.now;
        sink_faults = g.O.Sink.faults c.args.sink.now;
        readings = g.C.Clock.readings c.args.clock;
        files = g.F.Files.files c.args.files;
      };
      host = record { opened = g.H.Host.opened c.args.host.now; returned = g.H.Host.returned c.args.host.now; faults = g.H.Host.faults c.args.host.now };
      dial = dial;
      folders = record {
        pairs = g.D.Folders.pairs c.args.folders.now;
        objects = g.D.Folders.objects c.args.folders.now;
        keepers_back = g.D.Folders.keepers_back c.args.folders.now;
        stores_back = g.D.Folders.stores_back c.args.folders.now;
        faults = g.D.Folders.faults c.args.folders.now;
      };
      errors = g.E.Sink.written errors;
      source_faults = g.S.Source.faults c.args.source.now;
      errors_faults = g.E.Sink.faults errors;
      file_faults = g.F.Files.faults c.args.files;
    } in
    usage_shown keeper c.args.words.now (view c.args.errors.now) (view c.show_usage.new.errors) c.number_of-2.result c.show_usage.result
    (maps_none _ c.local_batch_words.result _ c.local_batch_words.ensures c.in_default.not-Some)
    (maps_none _ c.local_service_words.result _ c.local_service_words.ensures.reads c.in_default-local_service_words.not-Some)
    (maps_none _ c.local_command_words.result _ c.local_command_words.ensures c.in_default-local_command_words.not-Some)
    c.number_of-2.ensures c.show_usage.ensures.shows refl c.show_usage.ensures.later
