-- How a run ends whose folder isn't opened.
use Rattle.lake_base.specs.declared.outside.Trouble.{Trouble}
use Rattle.lake_base.specs.declared.outside.Trouble.TheVariants as trouble
use Rattle.batch_lines.specs.declared.status.ExitStatus.{ExitStatus}
use Rattle.batch_lines.specs.declared.status.ExitStatus.TheVariants.{HostFailed, OutOfMemory, PairsRefused}
use Rattle.folder_lakes.specs.declared.fault.FolderFault.{FolderFault}
use Rattle.folder_lakes.specs.declared.fault.FolderFault.TheVariants as folder

-- by why it isn't
abbrev pub status_by : FolderFault → ExitStatus
status_by folder.Failed = HostFailed
status_by folder.Refused = PairsRefused
status_by folder.NoMemory = OutOfMemory

-- by the trouble of a store of objects, or of a file
abbrev pub status_of_trouble : Trouble → ExitStatus
status_of_trouble trouble.Failed = HostFailed
status_of_trouble trouble.NoMemory = OutOfMemory
