-- A network in memory.
use Rattle.std.specs.Prelude.{ℕ, List, Some}
use Rattle.lake_base.specs.Memory.{MemorySourceValue, MemorySinkValue}
use Rattle.http_wire.specs.Streams.{Streams}
use Rattle.lakectl_client.specs.Dialing.{Dialed}
use Rattle.memory_machine.specs.declared.network.MemoryConnection.{MemoryConnection}

-- the connections that it has given, in order, each with its address; those that are waiting; the connections that were hung up, in order;
-- and how often none was left
pub record MemoryNetworkValue : Type 0 where
  pub dialed : List Dialed
  pub waiting : List Streams
  pub hung_up : List Streams
  pub faults : ℕ

-- the streams of a source and a sink, as they show
abbrev pub streams_between : MemorySourceValue → MemorySinkValue → Streams
streams_between input output = record {
  unread = Some input.left;
  read_faults = input.faults;
  written = Some output.written;
  write_faults = output.faults;
}

-- the streams of a connection, as they show
abbrev pub connection_streams : MemoryConnection → Streams
connection_streams connection = streams_between connection.input connection.output
