use Rattle.std.proofs.Common.{⊎_elim, inl, inr, refl, ap}
use Rattle.lake_program.specs.Controls.{Whole}
use Rattle.lake_program.proofs.ControlLemmas.{printing_failed}
use Rattle.lake_program.proofs.control.print_shown.Goals as goal

pub returns-in-Ok-clause-prints : goal.returns-in-Ok-clause-prints
returns-in-Ok-clause-prints g c = λ before after. Whole c.in-Ok.ensures.whole.0 c.in-Ok.ensures.whole.1 refl

pub returns-in-Err-clause-prints : goal.returns-in-Err-clause-prints
returns-in-Err-clause-prints g c = λ before after. printing_failed _ _ c.args.shown.now c.number_of.result
    (⊎_elim (λ out. inl (out.0, out.2, ap g.E.Sink.written out.1, ap g.E.Sink.faults out.1)) (λ err. inr err) c.in-Err.ensures.failed)
    c.number_of.ensures
