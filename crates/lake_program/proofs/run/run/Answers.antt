use Rattle.std.proofs.Common.{inl, inr, ⊎_elim, refl, sym, ◌∙◌}
use Rattle.folder_server.specs.HostWords.{HostView}
use Rattle.core_puts.specs.KeeperViews.{KeeperView}
use Rattle.lakectl_client.specs.Dialing.{DialView}
use Rattle.lake_program.specs.Views.{RunView}
use Rattle.lake_program.proofs.RunLemmas.{asked_local, is_none, maps_none, run_of_batch, run_of_control, run_of_generator, run_of_local, run_of_server}
use Rattle.lake_program.proofs.run.run.Goals as goal

pub returns-in-Some-clause-run : goal.returns-in-Some-clause-run
returns-in-Some-clause-run g c =
    let keeper : KeeperView g.row.D-Pairs.Denot = record {
      kept = g.D.Pairs.Keeper.kept;
      faults = g.D.Pairs.Keeper.faults;
      calls = g.D.Pairs.Keeper.calls;
      successes = g.D.Pairs.Keeper.successes;
    } in
    let host : HostView = record {
      opened = g.H.Host.opened c.args.host.now;
      returned = g.H.Host.returned c.args.host.now;
      faults = g.H.Host.faults c.args.host.now;
    } in
    let dial : DialView = record {
      dialed = g.N.Connect.dialed c.args.network.now;
      hung_up = g.N.Connect.hung_up c.args.network.now;
      faults = g.N.Connect.faults c.args.network.now;
    } in
    let view : _ → _ → _ → _ → RunView = λ source sink clock files. record {
      batch = record {
        left = g.S.Source.left source;
        written = g.O.Sink.written sink;
        sink_faults = g.O.Sink.faults sink;
        readings = g.C.Clock.readings clock;
        files = g.F.Files.files files;
      };
      host = host;
      dial = dial;
      folders = record {
        pairs = g.D.Folders.pairs c.args.folders.now;
        objects = g.D.Folders.objects c.args.folders.now;
        keepers_back = g.D.Folders.keepers_back c.args.folders.now;
        stores_back = g.D.Folders.stores_back c.args.folders.now;
        faults = g.D.Folders.faults c.args.folders.now;
      };
      errors = g.E.Sink.written c.args.errors.now;
      source_faults = g.S.Source.faults source;
      errors_faults = g.E.Sink.faults c.args.errors.now;
      file_faults = g.F.Files.faults files;
    } in
    run_of_batch keeper c.args.words.now (view c.args.source.now c.args.sink.now c.args.clock c.args.files)
    (view c.serve_batch-status.new.source c.serve_batch-status.new.sink c.serve_batch-status.result.1 c.serve_batch-status.result.2)
    c.in-Some.timing c.serve_batch-status.result.0 c.number_of.result (sym c.batch_timing.ensures ∙ c.in-Some.is) c.number_of.ensures
    c.serve_batch-status.ensures.statuses c.serve_batch-status.ensures.pairs
    (⊎_elim
    (λ none. inl (record { starved = none.0; same = λ i. view (none.1 i) (none.2 i) (none.3 i) (none.4 i) }))
    (λ some. inr some) c.serve_batch-status.ensures.outcome)
    c.serve_batch-status.ensures.source c.serve_batch-status.ensures.sink c.serve_batch-status.ensures.host refl

pub returns-in-Some-service_words-clause-run : goal.returns-in-Some-service_words-clause-run
returns-in-Some-service_words-clause-run g c =
    let keeper : KeeperView g.row.D-Pairs.Denot = record {
      kept = g.D.Pairs.Keeper.kept;
      faults = g.D.Pairs.Keeper.faults;
      calls = g.D.Pairs.Keeper.calls;
      successes = g.D.Pairs.Keeper.successes;
    } in
    let view : _ → RunView = λ host. record {
      batch = record {
        left = g.S.Source.left c.args.source.now;
        written = g.O.Sink.written c.args.sink.now;
        sink_faults = g.O.Sink.faults c.args.sink.now;
        readings = g.C.Clock.readings c.args.clock;
        files = g.F.Files.files c.args.files;
      };
      host = record { opened = g.H.Host.opened host; returned = g.H.Host.returned host; faults = g.H.Host.faults host };
      dial = record {
        dialed = g.N.Connect.dialed c.args.network.now;
        hung_up = g.N.Connect.hung_up c.args.network.now;
        faults = g.N.Connect.faults c.args.network.now;
      };
      folders = record {
        pairs = g.D.Folders.pairs c.args.folders.now;
        objects = g.D.Folders.objects c.args.folders.now;
        keepers_back = g.D.Folders.keepers_back c.args.folders.now;
        stores_back = g.D.Folders.stores_back c.args.folders.now;
        faults = g.D.Folders.faults c.args.folders.now;
      };
      errors = g.E.Sink.written c.args.errors.now;
      source_faults = g.S.Source.faults c.args.source.now;
      errors_faults = g.E.Sink.faults c.args.errors.now;
      file_faults = g.F.Files.faults c.args.files;
    } in
    run_of_server keeper c.args.words.now (view c.args.host.now) (view c.serve_host-status.new.host)
    (record { at = c.in-Some-service_words.at.now; service = c.in-Some-service_words.service }) c.serve_host-status.result
    c.number_of-in-Some-service_words.result (sym c.batch_timing.ensures ∙ is_none c.batch_timing.result c.in_default.not-Some)
    (sym c.in-Some-service_words.ensures.reads) c.number_of-in-Some-service_words.ensures refl
    c.serve_host-status.ensures.later c.serve_host-status.ensures.served

pub returns-in-Some-control_words-clause-run : goal.returns-in-Some-control_words-clause-run
returns-in-Some-control_words-clause-run g c =
    let keeper : KeeperView g.row.D-Pairs.Denot = record {
      kept = g.D.Pairs.Keeper.kept;
      faults = g.D.Pairs.Keeper.faults;
      calls = g.D.Pairs.Keeper.calls;
      successes = g.D.Pairs.Keeper.successes;
    } in
    let view : _ → _ → _ → _ → RunView = λ sink errors files network. record {
      batch = record {
        left = g.S.Source.left c.args.source.now;
        written = g.O.Sink.written sink;
        sink_faults = g.O.Sink.faults sink;
        readings = g.C.Clock.readings c.args.clock;
        files = g.F.Files.files files;
      };
      host = record {
        opened = g.H.Host.opened c.args.host.now;
        returned = g.H.Host.returned c.args.host.now;
        faults = g.H.Host.faults c.args.host.now;
      };
      dial = record { dialed = g.N.Connect.dialed network; hung_up = g.N.Connect.hung_up network; faults = g.N.Connect.faults network };
      folders = record {
        pairs = g.D.Folders.pairs c.args.folders.now;
        objects = g.D.Folders.objects c.args.folders.now;
        keepers_back = g.D.Folders.keepers_back c.args.folders.now;
        stores_back = g.D.Folders.stores_back c.args.folders.now;
        faults = g.D.Folders.faults c.args.folders.now;
      };
      errors = g.E.Sink.written errors;
      source_faults = g.S.Source.faults c.args.source.now;
      errors_faults = g.E.Sink.faults errors;
      file_faults = g.F.Files.faults files;
    } in
    let number = c.run_control-number in
    run_of_control keeper c.args.words.now (view c.args.sink.now c.args.errors.now c.args.files c.args.network.now)
    (view number.new.sink number.new.errors number.new.files number.new.network)
    (record { at = c.in-Some-control_words.at.now; words = c.in-Some-control_words.command.now }) number.result
    (sym c.batch_timing.ensures ∙ is_none c.batch_timing.result c.in_default.not-Some)
    (maps_none _ c.service_words.result _ c.service_words.ensures.reads c.in_default-service_words.not-Some) (sym c.in-Some-control_words.ensures)
    number.ensures.controls (refl, refl, refl, refl, refl)
    number.ensures.sink number.ensures.errors number.ensures.files number.ensures.network

pub returns-in-Some-generator_words-clause-run : goal.returns-in-Some-generator_words-clause-run
returns-in-Some-generator_words-clause-run g c =
    let keeper : KeeperView g.row.D-Pairs.Denot = record {
      kept = g.D.Pairs.Keeper.kept;
      faults = g.D.Pairs.Keeper.faults;
      calls = g.D.Pairs.Keeper.calls;
      successes = g.D.Pairs.Keeper.successes;
    } in
    let view : _ → RunView = λ sink. record {
      batch = record {
        left = g.S.Source.left c.args.source.now;
        written = g.O.Sink.written sink;
        sink_faults = g.O.Sink.faults sink;
        readings = g.C.Clock.readings c.args.clock;
        files = g.F.Files.files c.args.files;
      };
      host = record {
        opened = g.H.Host.opened c.args.host.now;
        returned = g.H.Host.returned c.args.host.now;
        faults = g.H.Host.faults c.args.host.now;
      };
      dial = record {
        dialed = g.N.Connect.dialed c.args.network.now;
        hung_up = g.N.Connect.hung_up c.args.network.now;
        faults = g.N.Connect.faults c.args.network.now;
      };
      folders = record {
        pairs = g.D.Folders.pairs c.args.folders.now;
        objects = g.D.Folders.objects c.args.folders.now;
        keepers_back = g.D.Folders.keepers_back c.args.folders.now;
        stores_back = g.D.Folders.stores_back c.args.folders.now;
        faults = g.D.Folders.faults c.args.folders.now;
      };
      errors = g.E.Sink.written c.args.errors.now;
      source_faults = g.S.Source.faults c.args.source.now;
      errors_faults = g.E.Sink.faults c.args.errors.now;
      file_faults = g.F.Files.faults c.args.files;
    } in
    run_of_generator keeper c.args.words.now (view c.args.sink.now) (view c.generate-status.new.sink) c.in-Some-generator_words.asked
    c.generate-status.result c.number_of-in-Some-generator_words.result
    (sym c.batch_timing.ensures ∙ is_none c.batch_timing.result c.in_default.not-Some)
    (maps_none _ c.service_words.result _ c.service_words.ensures.reads c.in_default-service_words.not-Some)
    (maps_none _ c.control_words.result _ c.control_words.ensures c.in_default-control_words.not-Some)
    (sym c.generator_words.ensures ∙ c.in-Some-generator_words.is) c.number_of-in-Some-generator_words.ensures
    c.generate-status.ensures.generates refl c.generate-status.ensures.sink

pub returns-clause-run : goal.returns-clause-run
returns-clause-run g c =
    let keeper : KeeperView g.row.D-Pairs.Denot = record {
      kept = g.D.Pairs.Keeper.kept;
      faults = g.D.Pairs.Keeper.faults;
      calls = g.D.Pairs.Keeper.calls;
      successes = g.D.Pairs.Keeper.successes;
    } in
    run_of_local keeper c.args.words.now _ _ c.run_local.result.0
    (asked_local c.args.words.now (sym c.batch_timing.ensures ∙ is_none c.batch_timing.result c.in_default.not-Some)
    (maps_none _ c.service_words.result _ c.service_words.ensures.reads c.in_default-service_words.not-Some)
    (maps_none _ c.control_words.result _ c.control_words.ensures c.in_default-control_words.not-Some)
    (sym c.generator_words.ensures ∙ is_none c.generator_words.result c.in_default-generator_words.not-Some))
    (c.run_local.ensures.run (record {
      dialed = g.N.Connect.dialed c.args.network.now;
      hung_up = g.N.Connect.hung_up c.args.network.now;
      faults = g.N.Connect.faults c.args.network.now;
    }))

pub returns-clause-local : goal.returns-clause-local
returns-clause-local g c =
    let same = asked_local c.args.words.now (sym c.batch_timing.ensures ∙ is_none c.batch_timing.result c.in_default.not-Some)
    (maps_none _ c.service_words.result _ c.service_words.ensures.reads c.in_default-service_words.not-Some)
    (maps_none _ c.control_words.result _ c.control_words.ensures c.in_default-control_words.not-Some)
    (sym c.generator_words.ensures ∙ is_none c.generator_words.result c.in_default-generator_words.not-Some) in (
      λ local is. let told = c.run_local.ensures.batch local (sym same ∙ is) in (told.0, told.1, refl),
      λ local is. let told = c.run_local.ensures.server local (sym same ∙ is) in (told.0, told.1, told.2, told.3, told.4, refl),
      λ local is. let told = c.run_local.ensures.command local (sym same ∙ is) in (told.0, told.1, refl),
    )

pub returns-clause-usage : goal.returns-clause-usage
returns-clause-usage g c =
    let same = asked_local c.args.words.now (sym c.batch_timing.ensures ∙ is_none c.batch_timing.result c.in_default.not-Some)
    (maps_none _ c.service_words.result _ c.service_words.ensures.reads c.in_default-service_words.not-Some)
    (maps_none _ c.control_words.result _ c.control_words.ensures c.in_default-control_words.not-Some)
    (sym c.generator_words.ensures ∙ is_none c.generator_words.result c.in_default-generator_words.not-Some) in
    λ is. let told = c.run_local.ensures.usage (sym same ∙ is) in (told.0, told.1, told.2, told.3, told.4, refl, told.5)
