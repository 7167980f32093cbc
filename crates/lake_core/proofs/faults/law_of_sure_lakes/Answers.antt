use Rattle.std.proofs.Common.{refl, arith}
use Rattle.lake_core.proofs.FaultLemmas.{fault_quiet}
use Rattle.lake_core.proofs.faults.law_of_sure_lakes.Goals as goal

pub returns : goal.returns
returns c lake holds = fault_quiet _ lake holds (record { same = refl; counting = omega arith })
