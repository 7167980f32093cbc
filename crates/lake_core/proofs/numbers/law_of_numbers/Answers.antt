use Rattle.lake_core.proofs.NumberLemmas.{number_below, number_from, numbers_sorted}
use Rattle.lake_core.proofs.numbers.law_of_numbers.Goals as goal

pub returns-clause-ascend : goal.returns-clause-ascend
returns-clause-ascend c = numbers_sorted

pub returns-clause-start : goal.returns-clause-start
returns-clause-start c = number_from

pub returns-clause-end : goal.returns-clause-end
returns-clause-end c = number_below
