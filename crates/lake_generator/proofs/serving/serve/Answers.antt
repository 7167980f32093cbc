use Rattle.std.proofs.Common.{◌≡◌, IfOk, Err, refl, subst, ◌∙◌}
use Rattle.lake_base.specs.declared.outside.Trouble.TheVariants.{NoMemory}
use Rattle.batch_lines.specs.ServedLines.{effect_of}
use Rattle.lake_generator.proofs.serving.serve.Goals as goal

pub returns-in-Ok-clause-serves : goal.returns-in-Ok-clause-serves
returns-in-Ok-clause-serves g c =
    λ text made.
    let is : c.in-Ok.line.items ≡ text = subst (λ r. IfOk r (λ m. m.items ≡ text)) c.in-Ok.is made in
    record {
      effect = effect_of c.serve.result;
      served = record {
        reply = c.serve.result;
        gives = subst (λ line. g.L.LineServer.serves line c.args.lines.now c.serve.new.self c.serve.result)
            (c.as_slice.ensures.value ∙ is) c.serve.ensures.serves;
        comes = refl;
      };
      tells = c.told.ensures;
    }

pub returns-in-Err-clause-serves : goal.returns-in-Err-clause-serves
returns-in-Err-clause-serves g c =
    λ text made.
    record {
      effect = effect_of (Err NoMemory);
      served = record { reply = Err NoMemory; gives = c.requires.starves text c.args.lines.now; comes = refl };
      tells = (refl, refl);
    }
