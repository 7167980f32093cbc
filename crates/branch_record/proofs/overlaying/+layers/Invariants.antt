use Rattle.std.proofs.Common.{length}
use Rattle.branch_record.proofs.overlaying.+layers.Given as goal

abbrev pub decreases-layers : goal.decreases-layers
decreases-layers l = length l.named.now
