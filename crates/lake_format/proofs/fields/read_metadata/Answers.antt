use Rattle.lake_format.proofs.MetadataLemmas.{are_pairs}
use Rattle.lake_format.proofs.fields.read_metadata.Goals as goal

pub from_vec-requires : goal.from_vec-requires
from_vec-requires c =
    are_pairs c.in_ok-count.count c.in_ok-count.rest.now c.in_ok-pairs.pairs.items c.in_ok-pairs.rest.now c.if-count-gt64.false c.in_ok-pairs.ensures
