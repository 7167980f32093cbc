-- A batch of commands on the lake of a folder.
use Rattle.std.specs.Prelude.{◌≡◌, ◌⊎◌, ℕ, List, IfSome}
use Rattle.batch_lines.specs.declared.status.ExitStatus.{ExitStatus}
use Rattle.batch_lines.specs.declared.status.ExitStatus.TheVariants.{OutOfMemory}
use Rattle.program_words.specs.declared.batch.Timing.{Timing}
use Rattle.lake_batch.specs.BatchViews.{BatchView}
use Rattle.lake_folders.specs.Folders.{FoldersView}
use Rattle.folder_batch.specs.Desks.{Desk, IsServedAt}
use Rattle.folder_batch.specs.OpenDesks.{IsDeskOpened, IsDeskRefused, IsLeft}

-- WHAT BECAME OF A BATCH on the lake of a folder
pub data FolderEnds (folder : List ℕ) (timing : Timing) (limit most : ℕ) (f_before f_after : FoldersView) (before after : BatchView) (status : ExitStatus)
    : Type 0 where
  -- the folder wasn't opened, and nothing else was touched
  Unopened : IsDeskRefused folder f_before f_after status → after ≡ before → FolderEnds folder timing limit most f_before f_after before after status
  -- the lines were served at its desk, or memory ran out before the first; and all was given back
  Served : (old new : Desk) (opened : FoldersView) → IsDeskOpened folder f_before opened old
      → ((status ≡ OutOfMemory) × (after ≡ before) × (new ≡ old))
      ⊎ IfSome before.left (λ input. IsServedAt timing limit most before after old new input status)
      → IsLeft new opened f_after → FolderEnds folder timing limit most f_before f_after before after status
