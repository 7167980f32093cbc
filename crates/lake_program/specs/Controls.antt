-- A command that goes to a server, and what is printed of it.
use Rattle.std.specs.Prelude.{◌≡◌, ℕ, List, Option}
use Rattle.lake_base.specs.Outside.{Rose}
use Rattle.lake_base.specs.declared.outside.Trouble.{Trouble}
use Rattle.lake_base.specs.declared.outside.Trouble.TheVariants.{Failed, NoMemory}
use Rattle.http_wire.specs.SinkFronts.{Wrote, WroteFront}
use Rattle.lakectl_shown.specs.declared.showing.Shown.{Shown}
use Rattle.lakectl_client.specs.ClientCommands.{ClientShows, ClientStops, ClientView}
use Rattle.program_words.specs.ProgramWords.{Control}

-- what a command works on that goes to a server: files and connections; and what both sinks got, and how often each has failed
pub record ControlView : Type 0 where
  pub client : ClientView
  pub written : Option (List ℕ)
  pub sink_faults : ℕ
  pub errors : Option (List ℕ)
  pub errors_faults : ℕ

-- the number of a run that stopped: a file, the network or a connection failed, or memory ran out
abbrev pub stop_number : Trouble → ℕ
stop_number Failed = 5
stop_number NoMemory = 7

module _ (old now : ControlView) where
  -- WHAT WAS PRINTED of what a command shows: its output on the sink, and behind that its errors on `errors`. The run has the number that it
  -- shows; or 4, where a sink failed and counted that.
  pub data Prints (shown : Shown) (number : ℕ) : Type 0 where
    Whole : Wrote old.written now.written shown.out → Wrote old.errors now.errors shown.err → number ≡ shown.status → Prints shown number
    OutputFailed : WroteFront old.written now.written shown.out → Rose old.sink_faults now.sink_faults → now.errors ≡ old.errors
        → now.errors_faults ≡ old.errors_faults → number ≡ 4 → Prints shown number
    ErrorsFailed : Wrote old.written now.written shown.out → WroteFront old.errors now.errors shown.err
        → Rose old.errors_faults now.errors_faults → number ≡ 4 → Prints shown number

  -- neither sink was touched
  pub record AreUntouched : Type 0 where
    pub written : now.written ≡ old.written
    pub sink_faults : now.sink_faults ≡ old.sink_faults
    pub errors : now.errors ≡ old.errors
    pub errors_faults : now.errors_faults ≡ old.errors_faults

  -- WHAT CAME OF A COMMAND that goes to a server: it showed something, which was printed; or it stopped, and nothing was
  pub data Controls (control : Control) (number : ℕ) : Type 0 where
    Showed : (shown : Shown) → ClientShows control.at control.words old.client now.client shown → Prints shown number → Controls control number
    Stopped : (trouble : Trouble) → ClientStops control.at control.words old.client now.client trouble → AreUntouched
        → number ≡ stop_number trouble → Controls control number
