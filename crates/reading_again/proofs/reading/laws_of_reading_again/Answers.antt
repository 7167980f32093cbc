use Rattle.reading_again.proofs.ReadAgainLemmas.{all_read, are_tied, none_broken}
use Rattle.reading_again.proofs.reading.laws_of_reading_again.Goals as goal

pub returns-clause-tied : goal.returns-clause-tied
returns-clause-tied c cut pairs l ascend stand order can = are_tied cut pairs l ascend stand order can

pub returns-clause-unbroken : goal.returns-clause-unbroken
returns-clause-unbroken c cut pairs l n ascend stand order can = none_broken cut pairs l ascend stand order can n

pub returns-clause-trees : goal.returns-clause-trees
returns-clause-trees c cut pairs l ascend stand order can = all_read cut pairs l ascend stand order can
