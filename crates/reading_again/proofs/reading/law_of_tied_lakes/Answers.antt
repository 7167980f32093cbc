use Rattle.core_pairs.specs.LakePairs.{at_rest}
use Rattle.reading_again.proofs.TiedLakeLemmas.{can_again, rest_is_read}
use Rattle.reading_again.proofs.reading.law_of_tied_lakes.Goals as goal

pub returns : goal.returns
returns c cut pairs l ascend stand order tied cut_is parts =
    can_again cut pairs l ascend stand order cut_is parts tied
    (c.laws_of_reading.ensures.ties cut pairs (at_rest l) tied ascend (rest_is_read cut pairs l ascend stand order cut_is parts))
