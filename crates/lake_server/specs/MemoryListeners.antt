-- A listener in memory.
use Rattle.std.specs.Prelude.{ℕ, List, [], Some}
use Rattle.http_wire.specs.Streams.{Streams}
use Rattle.lake_server.specs.Connections.{Returned}
use Rattle.lake_server.specs.declared.memory.ServedConnection.{ServedConnection}

-- a listener in memory: the connections that it handed out, the bytes of those that are waiting, the connections that it was given
-- back, and how often none was waiting
pub record MemoryListenerValue : Type 0 where
  pub accepted : List Streams
  pub waiting : List (List ℕ)
  pub returned : List Returned
  pub faults : ℕ

-- a connection as it is handed out: its source has these bytes left, and its sink got none
abbrev pub fresh_streams : List ℕ → Streams
fresh_streams bytes = record { unread = Some bytes; read_faults = 0; written = Some []; write_faults = 0 }

-- a connection as it was given back
abbrev pub returned_in_memory : ServedConnection → Returned
returned_in_memory connection = record {
  streams = record {
    unread = Some connection.input.left;
    read_faults = connection.input.faults;
    written = Some connection.output.written;
    write_faults = connection.output.faults;
  };
  report = connection.report;
}
