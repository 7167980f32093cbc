-- A folder's keeper may go from thread to thread: it is a keeper over SQLite alone, whose database stands in files of the
-- operating system.
use denote.RattleType.{RattleType}
use denote.Param.Send.{IsSend, struct_send, recorded_send, sendable}
use denote.Struct.Declared.{shape}
use Rattle.std.proofs.Crossing.{crosses}
use Rattle.kv_sqlite.below.sqlite_disk.proofs.modelled.Modelled.TheSendSync as modelled
use Rattle.kv_sqlite.below.sqlite_disk.specs.contracts.modelled.Modelled as disk
use Rattle.kv_sqlite.below.sqlite_disk.specs.contracts.start.Unknown as unknown
use Rattle.kv_sqlite.below.sqlite_disk.specs.contracts.start.UnknownStart.TheImpl as start
use Rattle.kv_sqlite.below.sqlite_std_file.specs.contracts.host.Host as host
use Rattle.kv_sqlite.below.sqlite_std_file.specs.contracts.host.HostCalls.TheImpl as calls
use Rattle.kv_sqlite.below.sqlite_store.proofs.store.FileStore.TheSendSync as store
use Rattle.kv_sqlite.below.sqlite_store.specs.contracts.store.FileStoreStore.TheImpl as kept
use Rattle.kv_sqlite.proofs.folder.KvSqlite.TheSendSync as pairs
use Rattle.disk_folders.specs.contracts.pairs.FolderPairs as keeper

-- a file of the operating system, of which nothing is known
abbrev file : RattleType
file = disk.the_row host.the_row unknown.the_row calls.ghosts start.ghosts

host_send : IsSend host.the_row
host_send = search (crosses, sendable) depth 30

file_send : IsSend file
file_send = modelled.the_send host.the_row unknown.the_row calls.ghosts start.ghosts host_send

pub pairs_send : IsSend keeper.the_row
pairs_send = recorded_send keeper.the_field.row _ _ keeper.the_type.to_one
    (struct_send (shape keeper.the_type) (pairs.the_field_send _ (kept.ghosts file _ kept.no_dict) (store.the_send file _ file_send), tt))
