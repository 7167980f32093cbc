use Rattle.std.proofs.Common.{ap, ◌∙◌}
use Rattle.std.specs.Prelude.{Err}
use Rattle.lake_core.proofs.OpeningLemmas.{kept_after, put_failed, quiet_out_of_memory}
use Rattle.lake_core.proofs.filling.fill.Goals as goal

pub returns-clause-filled : goal.returns-clause-filled
returns-clause-filled g c = (
  c.in_ok-lake.ensures.lake,
  record {
    kept = kept_after _ _ _ _ (c.as_slice.ensures.value ∙ c.in_ok-puts.ensures) c.in_ok-put_all.ensures.kept;
    once = c.in_ok-put_all.ensures.called;
    succeeded = c.in_ok-put_all.ensures.succeeded;
    quiet = c.in_ok-put_all.ensures.cause.quiet;
    keeper = record { told = c.in_ok-put_all.ensures.told; later = c.in_ok-put_all.ensures.cause.later };
  },
)

pub returns-in_err-put_all-clause-filled : goal.returns-in_err-put_all-clause-filled
returns-in_err-put_all-clause-filled g c =
    put_failed (record { kept = g.K.Keeper.kept; faults = g.K.Keeper.faults; calls = g.K.Keeper.calls; successes = g.K.Keeper.successes }) c.args.cut
    c.args.keeper.now c.put_all.new.self c.as_slice.result.now (c.as_slice.ensures.value ∙ c.in_ok-puts.ensures)
    c.in_err-put_all.ensures.called _ _ _ c.from_residual-in_err-put_all.ensures.1
    (λ is. c.in_err-put_all.ensures.failed (ap Err is)) (λ is. c.in_err-put_all.ensures.no_memory (ap Err is))
    (λ is. c.in_err-put_all.ensures.cause.failed (ap Err is)) (quiet_out_of_memory _ _ _ c.in_err-put_all.ensures.cause.quiet)
    c.in_err-put_all.ensures.not_succeeded
    (record { told = c.in_err-put_all.ensures.told; later = c.in_err-put_all.ensures.cause.later })
