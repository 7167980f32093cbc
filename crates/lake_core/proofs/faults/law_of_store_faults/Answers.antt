use Rattle.lake_core.proofs.FaultLemmas.{fault_quiet}
use Rattle.lake_core.proofs.faults.law_of_store_faults.Goals as goal

pub returns : goal.returns
returns g c = record {
  rose = λ view lake holds. holds.keeper.counted;
  quiet = fault_quiet;
  same = λ view lake holds. holds.keeper.quiet;
}
