use Rattle.std.proofs.Common.{length, arith}
use Rattle.range_file.proofs.ReadingLemmas.{are_rows}
use Rattle.range_file.proofs.decoding.read_range.Goals as goal

pub from_vec-requires : goal.from_vec-requires
from_vec-requires c =
    are_rows (length c.args.bytes.now) c.in_ok-count.count c.args.bytes.now c.in_ok-count.rest.now c.in_ok-rows.rows.items c.in_ok-rows.rest.now
    (λ i. omega (arith, c.type_inv.bytes i)) c.in_ok-count.ensures c.in_ok-rows.ensures
