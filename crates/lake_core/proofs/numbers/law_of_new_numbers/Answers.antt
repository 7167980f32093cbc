use Rattle.lake_core.proofs.NewNumberLemmas.{never_given, never_gone, never_named}
use Rattle.lake_core.proofs.numbers.law_of_new_numbers.Goals as goal

pub returns : goal.returns
returns g c = record {
  given = never_given;
  named = λ lake repo branch place number stands reply.
      never_named lake repo branch place number stands reply
      (c.law_of_soundness.ensures.replay _ lake.history stands.sound stands.legal);
  gone = λ lake repo branch place number stands reply.
      never_gone lake repo branch place number stands reply
      (c.law_of_soundness.ensures.replay _ lake.history stands.sound stands.legal);
}
