-- What is put of a branch, in the hands of the code.
use Rattle.core_state.specs.BranchStates.{BranchStateValue}
use Rattle.core_puts.specs.declared.parts.BranchParts.{BranchParts}

-- what is put of a branch, but for its names
abbrev pub parts_of : BranchStateValue → BranchParts
parts_of b = record { version = b.version; head = b.head; staging = b.staging; sealed = b.sealed }
