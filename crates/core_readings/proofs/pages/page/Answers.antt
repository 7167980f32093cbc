use Rattle.std.proofs.Common.{Ok, ◌∙◌}
use Rattle.std.proofs.lemmas.Result.{err_from_is_err_and}
use Rattle.lake_pages.specs.Listing.{has_more, page_items}
use Rattle.core_state.specs.LakeStates.{lake_value}
use Rattle.core_readings.proofs.PlacesLemmas.{has_targets}
use Rattle.core_readings.proofs.ReplyLemmas.{gives_same, in_none, map_err, map_ok}
use Rattle.core_readings.proofs.pages.page.Goals as goal

pub returns-in_default : goal.returns-in_default
returns-in_default c = in_none (lake_value c.args.lake.now) c.args.repo.now _ c.in_default.ensures

pub target-requires : goal.target-requires
target-requires c = has_targets (lake_value c.args.lake.now) c.requires c.args.repo.now c.in-Some.repository.now c.in-Some.ensures

pub returns-in_err-commit : goal.returns-in_err-commit
returns-in_err-commit c =
    let l = lake_value c.args.lake.now in
    let p = err_from_is_err_and c.from_residual.result c.from_residual.ensures.1 in
    rw (p.1, p.2)
    (gives_same _ _
    (map_err l c.args.repo.now c.args.e.now c.in-Some.repository.now c.in-Some.ensures
    (λ r map. Ok (record { at = l.entries; items = page_items c.args.query.now map; more = has_more c.args.query.now map }))
    _ c.in_err-commit.ensures.target))

pub returns : goal.returns
unfolding lake_value
returns c =
    let l = lake_value c.args.lake.now in
    (λ i. Ok (record { at = l.entries; items = c.in_ok-page.ensures.items i; more = c.in_ok-page.ensures.more i }))
    ∙ map_ok l c.args.repo.now c.args.e.now c.in-Some.repository.now c.in-Some.ensures
    (λ r map. Ok (record { at = l.entries; items = page_items c.args.query.now map; more = has_more c.args.query.now map }))
    c.in_ok-commit.commit c.in_ok-commit.ensures.target
