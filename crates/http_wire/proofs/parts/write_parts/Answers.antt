use Rattle.std.proofs.Common.{[], rules}
use Rattle.std.proofs.lemmas.Result.{on_err_weaker}
use Rattle.http_wire.proofs.FrontLemmas.{front_as}
use Rattle.http_wire.proofs.PartsLemmas.{on_err_given, part_shown, part_cut, last_cut}
use Rattle.http_wire.proofs.parts.write_parts.Goals as goal

pub returns-in_err-show-clause-front : goal.returns-in_err-show-clause-front
returns-in_err-show-clause-front g c =
    on_err_given c.from_residual.result
    (part_cut c.args.parts.now c.loop-part.part-index (record { ref_ptr = (0, 0); now = [] }) c.loop-part-test.true _ _ _ c.loop-part.pending.items
    c.loop-part.invariant.shown c.in_err-show.ensures.front)

pub loop-part-preserved : goal.loop-part-preserved
loop-part-preserved g c = record {
  shown = part_shown c.args.parts.now c.loop-part.part-index (record { ref_ptr = (0, 0); now = [] }) c.loop-part-test.true _ _ _ c.loop-part.pending.items
      c.loop-part.invariant.shown c.show.new.pending.items c.in_ok-show.ensures.shown;
  later = search rules;
}

pub returns-clause-front : goal.returns-clause-front
returns-clause-front g c =
    on_err_weaker c.write_all.result (λ part. last_cut c.args.parts.now c.loop-part.part-index _ _ _ c.loop-part.pending.items
    c.loop-part.invariant.shown (front_as _ _ _ _ c.as_slice.ensures.value part)) c.write_all.ensures.front
