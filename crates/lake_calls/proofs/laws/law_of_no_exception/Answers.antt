use Rattle.lake_calls.proofs.NothingMetLemmas.{never_missed, never_tried, none_met}
use Rattle.lake_calls.proofs.laws.law_of_no_exception.Goals as goal

pub returns-clause-few : goal.returns-clause-few
returns-clause-few c seat uploads left met opened from seen told nothing few is =
    none_met seat uploads met opened from seen told left nothing few is

pub returns-clause-alone : goal.returns-clause-alone
returns-clause-alone c = never_tried

pub returns-clause-read_alone : goal.returns-clause-read_alone
returns-clause-read_alone c = never_missed
