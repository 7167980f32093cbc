use Rattle.std.proofs.Common.{Ok, ap, ◌∙◌}
use Rattle.std.proofs.lemmas.Result.{err_from_is_err_and}
use Rattle.lake_model.specs.Readings.{is_gone, seen_in}
use Rattle.core_state.specs.LakeStates.{lake_value, state_of}
use Rattle.core_readings.proofs.PlacesLemmas.{has_targets}
use Rattle.core_readings.proofs.ReplyLemmas.{gives_same, in_none, map_err, map_ok}
use Rattle.core_readings.proofs.objects.look.Goals as goal

pub returns-in_default : goal.returns-in_default
returns-in_default c = in_none (lake_value c.args.lake.now) c.args.repo.now _ c.in_default.ensures

pub target-requires : goal.target-requires
target-requires c = has_targets (lake_value c.args.lake.now) c.requires c.args.repo.now c.in-Some.repository.now c.in-Some.ensures

pub returns-in_err-commit : goal.returns-in_err-commit
returns-in_err-commit c =
    let l = lake_value c.args.lake.now in
    let p = err_from_is_err_and c.from_residual.result c.from_residual.ensures.1 in
    rw (p.1, p.2)
    (gives_same _ _
    (map_err l c.args.repo.now c.args.e.now c.in-Some.repository.now c.in-Some.ensures (λ r map. Ok (seen_in (state_of l) map c.args.path.now))
    _ c.in_err-commit.ensures.target))

pub returns : goal.returns
unfolding lake_value
returns c =
    let l = lake_value c.args.lake.now in
    (λ i. Ok (record {
      at = l.entries;
      found = (c.in_ok-found.ensures ∙ c.entry_at-found.ensures) i;
      gone = (c.is_gone-gone.ensures ∙ ap (is_gone (state_of l)) c.entry_at-found.ensures) i;
    }))
    ∙ map_ok l c.args.repo.now c.args.e.now c.in-Some.repository.now c.in-Some.ensures (λ r map. Ok (seen_in (state_of l) map c.args.path.now))
    c.in_ok-commit.commit c.in_ok-commit.ensures.target
