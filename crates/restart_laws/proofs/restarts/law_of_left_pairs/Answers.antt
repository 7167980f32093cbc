use Rattle.restart_laws.proofs.RestartLemmas.{same_again, tried_again}
use Rattle.restart_laws.proofs.restarts.law_of_left_pairs.Goals as goal

pub returns-clause-same : goal.returns-clause-same
returns-clause-same c opened history files present cut again is parts none =
    same_again c.law_of_order.ensures c.law_of_tied_lakes.ensures opened history files present cut again is parts none

pub returns-clause-tried : goal.returns-clause-tried
returns-clause-tried c opened history files present cut again is parts tried_parts =
    tried_again c.law_of_order.ensures c.law_of_tied_lakes.ensures opened history files present cut again is parts tried_parts
