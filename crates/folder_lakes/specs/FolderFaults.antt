-- The fault of a folder that isn't opened, by what it comes of.
use Rattle.lake_base.specs.declared.outside.Trouble.{Trouble}
use Rattle.lake_base.specs.declared.outside.Trouble.TheVariants as trouble
use Rattle.lake_opening.specs.declared.fault.OpenFault.{OpenFault}
use Rattle.lake_opening.specs.declared.fault.OpenFault.TheVariants as opening
use Rattle.folder_lakes.specs.declared.fault.FolderFault.{FolderFault}
use Rattle.folder_lakes.specs.declared.fault.FolderFault.TheVariants.{Failed, NoMemory, Refused}

-- of a call of what opens folders
abbrev pub of_trouble : Trouble → FolderFault
of_trouble trouble.Failed = Failed
of_trouble trouble.NoMemory = NoMemory

-- of the opening of its lake: broken pairs, and trees that aren't read, are those of no lake
abbrev pub of_opening : OpenFault → FolderFault
of_opening opening.StoreFault = Failed
of_opening (opening.BadPair number) = Refused
of_opening (opening.Tree commit fault) = Refused
of_opening opening.NoMemory = NoMemory
