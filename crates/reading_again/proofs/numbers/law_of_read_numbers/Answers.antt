use Rattle.reading_again.proofs.ReadNumberLemmas.{read_given}
use Rattle.reading_again.proofs.numbers.law_of_read_numbers.Goals as goal

pub returns : goal.returns
returns c cut pairs l tied ascend read = read_given cut pairs l ascend tied read
