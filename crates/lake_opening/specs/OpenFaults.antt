-- The fault of an opening, by what it comes of.
use Rattle.lake_base.specs.declared.outside.Trouble.{Trouble}
use Rattle.lake_base.specs.declared.outside.Trouble.TheVariants as trouble
use Rattle.lake_core.specs.declared.open_fault.OpenFault.{OpenFault as FoundingFault}
use Rattle.lake_core.specs.declared.open_fault.OpenFault.TheVariants as founding
use Rattle.core_opening.specs.declared.fault.OpeningFault.{OpeningFault}
use Rattle.core_opening.specs.declared.fault.OpeningFault.TheVariants as reading
use Rattle.lake_opening.specs.declared.fault.OpenFault.{OpenFault}
use Rattle.lake_opening.specs.declared.fault.OpenFault.TheVariants.{BadPair, NoMemory, StoreFault, Tree}

-- of a keeper's trouble
abbrev pub of_trouble : Trouble → OpenFault
of_trouble trouble.Failed = StoreFault
of_trouble trouble.NoMemory = NoMemory

-- of reading pairs
abbrev pub of_reading : OpeningFault → OpenFault
of_reading (reading.BadPair number) = BadPair number
of_reading (reading.Tree commit fault) = Tree commit fault
of_reading reading.NoMemory = NoMemory

-- of founding a lake
abbrev pub of_founding : FoundingFault → OpenFault
of_founding founding.StoreFault = StoreFault
of_founding founding.NoMemory = NoMemory
