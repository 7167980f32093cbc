use Rattle.std.proofs.Common.{false, sym, ap, ◌∙◌}
use Rattle.std.specs.Option.{option_copied, option_map_or}
use Rattle.std.specs.FinMap.{contains_key}
use Rattle.lake_values.specs.declared.entry.Place.{Place}
use Rattle.lake_values.specs.Entry.{EntryValue}
use Rattle.lake_model.specs.Readings.{is_gone}
use Rattle.lake_model.specs.Uncommitted.{own_number}
use Rattle.core_state.specs.LakeStates.{lake_value, state_of}
use Rattle.core_readings.proofs.PointLemmas.{contains_rows}
use Rattle.core_readings.proofs.objects.is_gone.Goals as goal

pub returns-in-Own : goal.returns-in-Own
unfolding lake_value
returns-in-Own c =
    let state = state_of (lake_value c.args.lake.now) in
    c.contains_key.ensures ∙ contains_rows c.args.lake.now.gone.entries c.in-Own.number
    ∙ ap (λ (place : Place). option_map_or (contains_key state.gone) (own_number place) false)
    (sym c.in-Own.is ∙ ap (λ (entry : EntryValue). entry.place) c.entry.view_is)
    ∙ ap (λ o. is_gone state (option_copied o)) (sym c.in-Some.is)
