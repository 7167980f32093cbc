use Rattle.std.proofs.Common.{Ok, ◌∙◌, ap}
use Rattle.lake_model.specs.Readings.{first_values}
use Rattle.core_state.specs.LakeStates.{lake_value, state_of}
use Rattle.core_readings.proofs.RowsLemmas.{infos_told}
use Rattle.core_readings.proofs.naming.repositories.Goals as goal

pub returns : goal.returns
unfolding lake_value
returns c =
    let l = lake_value c.args.lake.now in
    (λ i. Ok (record { at = l.entries; values = c.in_ok-found.ensures.rows i; more = c.in_ok-found.ensures.more i }))
    ∙ ap (λ infos. Ok (first_values (state_of l) c.args.amount infos)) (infos_told c.args.lake.now c.args.after.now)
