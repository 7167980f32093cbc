-- What a run works on, as far as that tells what it holds.
use Rattle.std.specs.Prelude.{ℕ, List, Option}
use Rattle.folder_batch.specs.BatchWords.{BatchView}
use Rattle.folder_server.specs.HostWords.{HostView}
use Rattle.lakectl_client.specs.Dialing.{DialView}
use Rattle.lake_folders.specs.Folders.{FoldersView}

-- all that is told of a run at one moment: what a batch works on, what a server does, the connections to servers, folders, what was written
-- to `errors`, and how often the source, `errors` and a file have failed
pub record RunView : Type 0 where
  pub batch : BatchView
  pub host : HostView
  pub dial : DialView
  pub folders : FoldersView
  pub errors : Option (List ℕ)
  pub source_faults : ℕ
  pub errors_faults : ℕ
  pub file_faults : ℕ
