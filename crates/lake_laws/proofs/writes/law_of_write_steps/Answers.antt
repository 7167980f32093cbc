use Rattle.lake_laws.proofs.AllowanceLemmas.{copy_allowed, reset_allowed, seal_allowed, stage_allowed}
use Rattle.lake_laws.proofs.writes.law_of_write_steps.Goals as goal

pub returns : goal.returns
returns c = record { stage = stage_allowed; copy = copy_allowed; reset = reset_allowed; seal = seal_allowed }
