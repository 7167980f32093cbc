-- One command on the lake of a folder.
use Rattle.std.specs.Prelude.{◌≡◌, ℕ, List, Result, Ok, Err}
use Rattle.lake_base.specs.declared.outside.Trouble.{Trouble}
use Rattle.batch_lines.specs.declared.status.ExitStatus.{ExitStatus}
use Rattle.lakectl_shown.specs.declared.showing.Shown.{Shown}
use Rattle.program_words.specs.declared.batch.Timing.{Timing}
use Rattle.lake_folders.specs.Folders.{FoldersView}
use Rattle.folder_batch.specs.Desks.{CommandAround, Desk, IsCommandAt}
use Rattle.folder_batch.specs.OpenDesks.{IsDeskOpened, IsDeskRefused, IsLeft}
use Rattle.folder_lakes.specs.FolderStatus.{status_of_trouble}

-- what is answered to a command that stopped is the status of its trouble
abbrev pub ended_as : Result Shown Trouble → Result Shown ExitStatus
ended_as (Ok shown) = Ok shown
ended_as (Err trouble) = Err (status_of_trouble trouble)

-- WHAT BECAME OF A COMMAND on the lake of a folder
pub data FolderCommandEnds (folder : List ℕ) (timing : Timing) (words : List (List ℕ)) (f_before f_after : FoldersView) (before after : CommandAround)
    (result : Result Shown ExitStatus) : Type 0 where
  -- the folder wasn't opened, and nothing else was touched
  Unopened : (status : ExitStatus) → IsDeskRefused folder f_before f_after status → result ≡ Err status → after ≡ before
      → FolderCommandEnds folder timing words f_before f_after before after result
  -- the command was served at its desk, and all was given back
  Served : (ended : Result Shown Trouble) (old new : Desk) (opened : FoldersView) → IsDeskOpened folder f_before opened old
      → IsCommandAt timing words before after old new ended → result ≡ ended_as ended → IsLeft new opened f_after
      → FolderCommandEnds folder timing words f_before f_after before after result
