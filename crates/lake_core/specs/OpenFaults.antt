-- The fault of an opening that comes of a keeper's trouble.
use Rattle.lake_base.specs.declared.outside.Trouble.{Trouble}
use Rattle.lake_base.specs.declared.outside.Trouble.TheVariants as trouble
use Rattle.lake_core.specs.declared.open_fault.OpenFault.{OpenFault}
use Rattle.lake_core.specs.declared.open_fault.OpenFault.TheVariants.{NoMemory, StoreFault}

-- a failure is a fault of the store
abbrev pub open_fault_of : Trouble → OpenFault
open_fault_of trouble.Failed = StoreFault
open_fault_of trouble.NoMemory = NoMemory
