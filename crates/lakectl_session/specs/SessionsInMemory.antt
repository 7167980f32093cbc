-- A session over bytes in memory, and what is read of what it wrote.
use Rattle.std.specs.Prelude.{◌≡◌, ◌≢◌, ℕ, true, List, [], Option, Some, None, Result, Ok, Err}
use Rattle.lake_base.specs.declared.outside.NoMemory.{NoMemory}
use Rattle.lake_base.specs.Memory.{MemorySinkValue}
use Rattle.http_wire.specs.Messages.{ReadsRequestAt}
use Rattle.http_wire.specs.declared.message.Reply.{Reply}
use Rattle.http_wire.specs.declared.message.Request.{Request}
use Rattle.lakectl_requests.specs.SentReadings.{read_back}
use Rattle.lakectl_words.specs.WireRequests.{request_text}
use Rattle.lake_session.specs.SessionViews.{SessionView}
use Rattle.lake_session.specs.WholeSessions.{IsSession}
use Rattle.lake_session.specs.declared.report.End.TheVariants as end
use Rattle.lake_session.specs.declared.report.SessionReport.{SessionReport}
use Rattle.lakectl_session.specs.Exchanges.{Exchanges, LakeView}
use Rattle.lakectl_commands.specs.SentCommands.{IsReplyRead}

-- what a session over memory works on, with these bytes to read and these written
abbrev pub in_memory : LakeView → (unread : Option (List ℕ)) → (written : List ℕ) → (faults : ℕ) → SessionView
in_memory lake unread written faults = record {
  unread = unread;
  read_faults = 0;
  written = Some written;
  write_faults = faults;
  readings = lake.readings;
  store = lake.store;
  seat = lake.seat;
}

-- a session over these bytes, and what it wrote, unless no memory was left for that
pub record IsSessionOf (text : List ℕ) (old now : LakeView) (written : Option (List ℕ)) : Type 0 where
  pub left : Option (List ℕ)
  pub out : List ℕ
  pub faults : ℕ
  pub report : SessionReport
  pub is : IsSession (in_memory old (Some text) [] 0) (in_memory now left out faults) report
  pub wrote : written ≡ Some out → report.end ≢ end.WriteFault
  pub whole : (bytes : List ℕ) → written ≡ Some bytes → bytes ≡ out
  pub failed : written ≡ None → report.end ≡ end.WriteFault

-- the bytes of a request behind which the connection closes
pub record IsClosingText (request : Request) (text : List ℕ) : Type 0 where
  pub close : request.close ≡ true
  pub is : text ≡ request_text request
  pub reads : ReadsRequestAt text (read_back request [])

-- WHAT CAME OF IT, and what was read of what was written
abbrev pub IsExchanged : Request → (old now : LakeView) → Result (Option Reply) NoMemory → Type 0
IsExchanged request old now (Ok reply) = (written : List ℕ) × Exchanges request old now (Some written) × IsReplyRead written reply
IsExchanged request old now (Err starved) = (written : Option (List ℕ)) × Exchanges request old now written

-- what was written, unless no memory was left for that
abbrev pub written_by : Result MemorySinkValue NoMemory → Option (List ℕ)
written_by (Ok sink) = Some sink.written
written_by (Err starved) = None
