-- How many versions a try found.
use Rattle.std.proofs.Common.{◌≤◌, arith}
use Rattle.std.specs.Prelude.{Option, Err}
use Rattle.lake_values.specs.Entry.{EntryValue}
use Rattle.lake_model.specs.declared.fault.StepFault.{StepFault}
use Rattle.lake_model.specs.declared.fault.StepFault.TheVariants.{Changed}
use Rattle.write_flow.specs.WriteTries.{version_found}

-- a try finds another version at most once
pub version_few : (fault : StepFault) → version_found {X = Option EntryValue} (Err fault) ≤ 1
version_few (Changed version settings) = omega arith
version_few fault = omega arith
