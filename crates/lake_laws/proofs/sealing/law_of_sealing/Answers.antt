use Rattle.std.proofs.Common.{[], refl, ap}
use Rattle.std.specs.Prelude.{Ok, Err}
use Rattle.std.specs.Option.{option_map_or}
use Rattle.lake_values.specs.Log.{log_page}
use Rattle.lake_pages.specs.Listing.{page_items, has_more}
use Rattle.lake_model.specs.declared.fault.StepFault.TheVariants.{NoRef, NoNote}
use Rattle.lake_model.specs.declared.fault.Reference.TheVariants.{Named}
use Rattle.lake_model.specs.NoteChanges.{note_at}
use Rattle.lake_model.specs.Resolving.{expression_target}
use Rattle.lake_model.specs.Readings.{◌then◌, expression_map, first_values, known_commit, log_page_reply, name_in, names_above, point_of, seen_in}
use Rattle.lake_model.specs.Versions.{settings_version}
use Rattle.lake_laws.proofs.SealingLemmas.{sealed_map_of, sealed_name, sealed_names, sealed_point, sealed_reply, sealed_repositories, sealed_target}
use Rattle.lake_laws.proofs.sealing.law_of_sealing.Goals as goal

pub returns-clause-resolve : goal.returns-clause-resolve
returns-clause-resolve c state seal repo e =
    sealed_reply state seal repo (λ r. expression_target r e then λ id. Ok (point_of state r e id)) (λ r. sealed_point seal.branch r state e)

pub returns-clause-look : goal.returns-clause-look
returns-clause-look c state seal repo e path =
    sealed_reply state seal repo (λ r. expression_map r e then λ map. Ok (seen_in state map path))
    (λ r. ap (λ found. found then λ map. Ok (seen_in state map path)) (sealed_map_of seal.branch r e))

pub returns-clause-page : goal.returns-clause-page
returns-clause-page c state seal repo e query =
    sealed_reply state seal repo
    (λ r. expression_map r e then λ map. Ok (record { at = state.entries; items = page_items query map; more = has_more query map }))
    (λ r. ap (λ found. found then λ map. Ok (record { at = state.entries; items = page_items query map; more = has_more query map }))
    (sealed_map_of seal.branch r e))

pub returns-clause-log : goal.returns-clause-log
returns-clause-log c state seal repo e after since amount =
    sealed_reply state seal repo
    (λ r. expression_target r (record e { moves = [] }) then λ name. known_commit r after then λ other. expression_target r e then λ id.
    Ok (log_page_reply state r (log_page r.commits id other since amount)))
    (λ r i. sealed_target seal.branch r (record e { moves = [] }) i then λ name. known_commit r after then λ other. sealed_target seal.branch r e i then λ id.
    Ok (log_page_reply state r (log_page r.commits id other since amount)))

pub returns-clause-repositories : goal.returns-clause-repositories
returns-clause-repositories c state seal after amount = ap (λ values. Ok (first_values state amount values)) (sealed_repositories state seal after)

pub returns-clause-names : goal.returns-clause-names
returns-clause-names c state seal repo tags after amount =
    sealed_reply state seal repo (λ r. Ok (first_values state amount (names_above r tags after)))
    (λ r. ap (λ values. Ok (first_values state amount values)) (sealed_names seal.branch r tags after))

pub returns-clause-find : goal.returns-clause-find
returns-clause-find c state seal repo tags name =
    sealed_reply state seal repo (λ r. option_map_or (λ id. Ok (state.entries, id)) (name_in r tags name) (Err (NoRef Named)))
    (λ r. ap (λ found. option_map_or (λ id. Ok (state.entries, id)) found (Err (NoRef Named))) (sealed_name seal.branch r tags name))

pub returns-clause-note : goal.returns-clause-note
returns-clause-note c state given seal repo name =
    sealed_reply state seal repo
    (λ r. option_map_or (λ note. Ok (record { at = state.entries; settings = settings_version given repo; note = note })) (note_at name r.notes) (Err NoNote))
    (λ r. refl)
