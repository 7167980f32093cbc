use Rattle.std.proofs.Common.{Ok, ◌∙◌}
use Rattle.lake_model.specs.Readings.{first_values, names_above}
use Rattle.core_state.specs.LakeStates.{lake_value, state_of}
use Rattle.core_readings.proofs.ReplyLemmas.{in_none, in_some}
use Rattle.core_readings.proofs.naming.names.Goals as goal

pub returns-in_default : goal.returns-in_default
returns-in_default c = in_none (lake_value c.args.lake.now) c.args.repo.now _ c.in_default.ensures

pub returns : goal.returns
unfolding lake_value
returns c =
    let l = lake_value c.args.lake.now in
    (λ i. Ok (record { at = l.entries; values = c.in_ok-found.ensures.names i; more = c.in_ok-found.ensures.more i }))
    ∙ in_some l c.args.repo.now (λ r. Ok (first_values (state_of l) c.args.amount (names_above r c.args.tags c.args.after.now))) c.in-Some.repository.now
    c.in-Some.ensures
