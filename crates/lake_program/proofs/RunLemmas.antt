-- What a run promises, from what its parts do.
use Rattle.std.proofs.Common.{◌≡◌, ◌≢◌, ◌<◌, ◌≤◌, ◌++◌, ◌⊎◌, inl, inr, ⊎_elim, ℕ, List, Option, Some, None, IfSome, option_map, refl, sym, ◌∙◌, ap}
use Rattle.std.proofs.Common.{subst, arith}
use Rattle.std.proofs.lemmas.List.{append-nil}
use Rattle.lake_base.specs.Outside.{Rose, Quiet}
use Rattle.folder_batch.specs.BatchWords.{LineEnds}
use Rattle.batch_lines.specs.Lines.{batch_lines}
use Rattle.batch_lines.specs.Outcome.{IsWhole}
use Rattle.batch_lines.specs.ServedLines.{AreServed}
use Rattle.batch_lines.specs.Status.{status_number}
use Rattle.batch_lines.specs.declared.status.ExitStatus.{ExitStatus}
use Rattle.batch_lines.specs.declared.status.ExitStatus.TheVariants as exit
use Rattle.core_puts.specs.KeeperViews.{KeeperView}
use Rattle.folder_server.specs.HostWords.{HostView}
use Rattle.lake_folders.specs.Folders.{FoldersView}
use Rattle.batch_laws.proofs.OneRunLemmas.{only_run}
use Rattle.folder_batch.proofs.BatchLemmas.{told_then}
use Rattle.folder_batch.specs.BatchWords.{BatchView}
use Rattle.folder_batch.specs.BatchWords.{IsServedBatch}
use Rattle.program_words.specs.declared.batch.Timing.{Timing}
use Rattle.program_words.specs.declared.generator.Generator.{Generator}
use Rattle.program_words.specs.ProgramWords.{Asked, Batch, Control, Generate, Send, Serve, Serving}
use Rattle.program_words.specs.ProgramWords.{asked_of, control_of, first_asked, generator_of, local_asked_of, service_of, timing_of}
use Rattle.lake_generator.specs.Generated.{Generates}
use Rattle.lake_program.proofs.OneGenerationLemmas.{one_generation}
use Rattle.lake_program.specs.Controls.{Controls}
use Rattle.lake_program.specs.Run.{CountsStay, IsBatchRun, IsUnbegun, Runs, RunsAs, control_view, sink_view}
use Rattle.lake_program.specs.Servers.{IsServed, IsUnserved}
use Rattle.lake_program.specs.Views.{RunView}

quiet_rose : (a b : ℕ) → Quiet a b → Rose a b → ⊥
quiet_rose a b quiet rose = let risen : a < b = rose quiet.counting in omega (arith, quiet.same, risen)

-- what is told whatever an option holds
told_all : (found : Option (List ℕ)) (P : List ℕ → Type 0) → ((value : List ℕ) → P value) → IfSome found P
told_all None P all = tt
told_all (Some value) P all = all value

module _ (timing : Timing) (input : List ℕ) (before after : BatchView) (status : ExitStatus)
    (o : IsServedBatch timing 1073741824 65536 before after input status) where
  -- a batch of which all lines were served
  whole_run : IsWhole 1073741824 65536 input after.left o.outcome.extent status → IfSome before.written
      (λ written. IsBatchRun timing input written before after status)
  whole_run whole =
      let all : o.outcome.extent.served ≡ batch_lines 1073741824 input =
      sym (append-nil o.outcome.extent.served) ∙ ap (λ (l : List (List ℕ)). o.outcome.extent.served ++ l) (sym whole.all) ∙ o.outcome.lines in
      let served : AreServed LineEnds (batch_lines 1073741824 input) o.begin o.outcome.extent.effects o.end =
      subst (λ (l : List (List ℕ)). AreServed LineEnds l o.begin o.outcome.extent.effects o.end) all o.outcome.each in
      told_then before.written (λ written. after.written ≡ Some (written ++ o.outcome.extent.out)) _ (λ written is wrote. record {
        begin = o.begin;
        end = o.end;
        fresh = o.fresh;
        effects = o.outcome.extent.effects;
        each = served;
        sound = whole.sound;
        files = o.files;
        timed = o.timed;
        text = wrote ∙ ap (λ (t : List ℕ). Some (written ++ t)) whole.text;
        read = whole.read;
        tells = whole.tells;
        goes = o.goes;
        bodies = o.bodies;
        calm = o.calm;
        pairs = o.pairs;
        only = only_run timing (batch_lines 1073741824 input) before after o.begin o.outcome.extent.effects o.end served o.fresh o.timed;
      }) o.outcome.wrote

-- what a run came to in which nothing failed
quiet_run : (timing : Timing) (input : List ℕ) (before after : BatchView) (status : ExitStatus) → (status ≡ exit.SourceFailed → ⊥)
    → (status ≡ exit.SinkFailed → ⊥) → (status ≡ exit.HostFailed → ⊥)
    → IsServedBatch timing 1073741824 65536 before after input status → IfSome before.written (λ written. IsBatchRun timing input written before after status)
quiet_run timing input before after exit.Done source sink host o = whole_run timing input before after exit.Done o o.outcome.ended
quiet_run timing input before after exit.Refused source sink host o = whole_run timing input before after exit.Refused o o.outcome.ended
quiet_run timing input before after exit.Usage source sink host o = absurd o.outcome.ended
quiet_run timing input before after exit.SourceFailed source sink host o = absurd (source refl)
quiet_run timing input before after exit.SinkFailed source sink host o = absurd (sink refl)
quiet_run timing input before after exit.HostFailed source sink host o = absurd (host refl)
quiet_run timing input before after exit.PairsRefused source sink host o = absurd o.outcome.ended
quiet_run timing input before after exit.OutOfMemory source sink host o = whole_run timing input before after exit.OutOfMemory o o.outcome.ended

-- an option that is nothing
pub is_none : {T : Type 0} (found : Option T) → ((value : T) → found ≡ Some value → ⊥) → found ≡ None
is_none None none = refl
is_none (Some value) none = absurd (none value refl)

pub maps_none : {A B : Type 0} (f : A → B) (found : Option A) (told : Option B) → option_map f found ≡ told
    → ((value : A) → found ≡ Some value → ⊥) → told ≡ None
maps_none f found told is none = sym is ∙ ap (option_map f) (is_none found none)

-- what came of a run, of words that ask for this
as_asked : {K : Type 0} (view : KeeperView K) (words : List (List ℕ)) (asked : Asked) (before after : RunView) (number : ℕ) → asked_of words ≡ asked
    → RunsAs view asked before after number → CountsStay before after → Runs view words before after number
as_asked view words asked before after number is came counts =
    record { came = subst (λ (a : Asked). RunsAs view a before after number) (sym is) came; counts = counts }

-- ---- a batch was served

pub run_of_batch : {K : Type 0} (view : KeeperView K) (words : List (List ℕ)) (before after : RunView) (timing : Timing) (status : ExitStatus) (number : ℕ)
    → timing_of words ≡ Some timing
    → number ≡ status_number status → status ≢ exit.Usage → status ≢ exit.PairsRefused
    → IsUnbegun before after status ⊎ IfSome before.batch.left (λ input. IsServedBatch timing 1073741824 65536 before.batch after.batch input status)
    → (before.source_faults ≤ after.source_faults) × (status ≡ exit.SourceFailed → Rose before.source_faults after.source_faults)
    → (before.batch.sink_faults ≤ after.batch.sink_faults) × (status ≡ exit.SinkFailed → Rose before.batch.sink_faults after.batch.sink_faults)
    → (before.file_faults ≤ after.file_faults) × (status ≡ exit.HostFailed → Rose before.file_faults after.file_faults)
    → after ≡ record before { batch = after.batch; source_faults = after.source_faults; file_faults = after.file_faults }
    → Runs view words before after number
run_of_batch view words before after timing status number is tells no_usage no_pairs outcome source sink files same =
    as_asked view words (Batch timing) before after number (ap (λ (t : Option Timing). first_asked t (service_of words) (control_of words) (generator_of words)
    (local_asked_of words)) is)
    (record {
      status = status;
      tells = tells;
      possible = no_usage;
      no_pairs = no_pairs;
      quiet = λ quiet. ⊎_elim
          (λ unbegun. told_all before.batch.left _ (λ input. told_all before.batch.written _ (λ written. inr unbegun)))
          (λ some. told_then before.batch.left _ _ (λ input told o. told_then before.batch.written _ _ (λ written written_is r. inl r)
          (quiet_run timing input before.batch after.batch status
          (λ failed. quiet_rose before.source_faults after.source_faults quiet.source (source.1 failed))
          (λ failed. quiet_rose before.batch.sink_faults after.batch.sink_faults quiet.sink (sink.1 failed))
          (λ failed. quiet_rose before.file_faults after.file_faults quiet.files (files.1 failed)) o)) some)
          outcome;
      prefix = outcome;
      alone = same;
      source_failed = source.1;
      sink_failed = sink.1;
      file_failed = files.1;
    })
    (record {
      source = source.0;
      sink = sink.0;
      errors = let count = ap (λ (v : RunView). v.errors_faults) same in omega (arith, count);
      files = files.0;
      host = let count = ap (λ (v : RunView). v.host.faults) same in omega (arith, count);
      dial = let count = ap (λ (v : RunView). v.dial.faults) same in omega (arith, count);
      folders = let count = ap (λ (v : RunView). v.folders.faults) same in omega (arith, count);
    })

-- ---- a server was run

pub run_of_server : {K : Type 0} (view : KeeperView K) (words : List (List ℕ)) (before after : RunView) (serving : Serving) (status : ExitStatus) (number : ℕ)
    → timing_of words ≡ None → service_of words ≡ Some serving → number ≡ status_number status → after ≡ record before { host = after.host }
    → before.host.faults ≤ after.host.faults
    → IsServed serving before.host after.host status ⊎ IsUnserved before.host after.host status → Runs view words before after number
run_of_server view words before after serving status number no_batch is tells same later outcome =
    as_asked view words (Serve serving) before after number
    (λ i. first_asked (no_batch i) (is i) (control_of words) (generator_of words) (local_asked_of words))
    (record { status = status; tells = tells; serves = outcome; alone = same })
    (record {
      source = let count = ap (λ (v : RunView). v.source_faults) same in omega (arith, count);
      sink = let count = ap (λ (v : RunView). v.batch.sink_faults) same in omega (arith, count);
      errors = let count = ap (λ (v : RunView). v.errors_faults) same in omega (arith, count);
      files = let count = ap (λ (v : RunView). v.file_faults) same in omega (arith, count);
      host = later;
      dial = let count = ap (λ (v : RunView). v.dial.faults) same in omega (arith, count);
      folders = let count = ap (λ (v : RunView). v.folders.faults) same in omega (arith, count);
    })

-- ---- a command went to a server

pub run_of_control : {K : Type 0} (view : KeeperView K) (words : List (List ℕ)) (before after : RunView) (control : Control) (number : ℕ)
    → timing_of words ≡ None → service_of words ≡ None → control_of words ≡ Some control → Controls (control_view before) (control_view after) control number
    → (after.batch.left ≡ before.batch.left) × (after.source_faults ≡ before.source_faults) × (after.batch.readings ≡ before.batch.readings)
    × (after.host ≡ before.host) × (after.folders ≡ before.folders)
    → before.batch.sink_faults ≤ after.batch.sink_faults → before.errors_faults ≤ after.errors_faults → before.file_faults ≤ after.file_faults
    → before.dial.faults ≤ after.dial.faults → Runs view words before after number
run_of_control view words before after control number no_batch no_server is controls same sink errors files dial =
    as_asked view words (Send control) before after number (λ i. first_asked (no_batch i) (no_server i) (is i) (generator_of words) (local_asked_of words))
    (record { controls = controls; left = same.0; source_faults = same.1; readings = same.2; host = same.3; folders = same.4 })
    (record {
      source = let count = same.1 in omega (arith, count);
      sink = sink;
      errors = errors;
      files = files;
      host = let count = ap (λ (h : HostView). h.faults) same.3 in omega (arith, count);
      dial = dial;
      folders = let count = ap (λ (f : FoldersView). f.faults) same.4 in omega (arith, count);
    })

-- ---- the generator was run

pub run_of_generator : {K : Type 0} (view : KeeperView K) (words : List (List ℕ)) (before after : RunView) (generator : Generator)
    (status : ExitStatus) (number : ℕ)
    → timing_of words ≡ None → service_of words ≡ None → control_of words ≡ None → generator_of words ≡ Some generator
    → number ≡ status_number status → Generates generator (sink_view before) (sink_view after) status
    → after ≡ record before { batch = record before.batch { written = after.batch.written; sink_faults = after.batch.sink_faults } }
    → before.batch.sink_faults ≤ after.batch.sink_faults → Runs view words before after number
run_of_generator view words before after generator status number no_batch no_server no_control is tells generates same sink =
    as_asked view words (Generate generator) before after number (λ i. first_asked (no_batch i) (no_server i) (no_control i) (is i) (local_asked_of words))
    (record { status = status; tells = tells; generates = generates; only = one_generation generator; alone = same })
    (record {
      source = let count = ap (λ (v : RunView). v.source_faults) same in omega (arith, count);
      sink = sink;
      errors = let count = ap (λ (v : RunView). v.errors_faults) same in omega (arith, count);
      files = let count = ap (λ (v : RunView). v.file_faults) same in omega (arith, count);
      host = let count = ap (λ (v : RunView). v.host.faults) same in omega (arith, count);
      dial = let count = ap (λ (v : RunView). v.dial.faults) same in omega (arith, count);
      folders = let count = ap (λ (v : RunView). v.folders.faults) same in omega (arith, count);
    })

-- ---- what was done on the lake of a folder, or a usage fault was shown

pub run_of_local : {K : Type 0} (view : KeeperView K) (words : List (List ℕ)) (before after : RunView) (number : ℕ) → asked_of words ≡ local_asked_of words
    → RunsAs view (local_asked_of words) before after number × CountsStay before after → Runs view words before after number
run_of_local view words before after number is ran = as_asked view words (local_asked_of words) before after number is ran.0 ran.1

-- the words ask for none of the four
pub asked_local : (words : List (List ℕ)) → timing_of words ≡ None → service_of words ≡ None → control_of words ≡ None → generator_of words ≡ None
    → asked_of words ≡ local_asked_of words
asked_local words no_batch no_server no_control no_generator =
    (λ i. first_asked (no_batch i) (no_server i) (no_control i) (no_generator i) (local_asked_of words))
