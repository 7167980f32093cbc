use Rattle.lake_laws.proofs.HeadRefusalLemmas.{passes_reading, reading_passed}
use Rattle.lake_laws.proofs.HeadStepLemmas.{may_be_made, neither_refuses}
use Rattle.lake_laws.proofs.head_refusals.law_of_head_refusals.Goals as goal

pub returns : goal.returns
returns c = record {
  unrefused = λ state repo branch swap about r b at on have.
      (reading_passed state repo branch swap about r b at on have, passes_reading state repo branch swap about r b at on);
  possible = λ state by repo branch. may_be_made state repo branch by;
  allowed = λ state by repo branch. neither_refuses state repo branch by;
}
