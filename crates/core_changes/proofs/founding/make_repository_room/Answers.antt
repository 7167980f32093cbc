use Rattle.core_state.specs.FilePlaces.{FilePlaceValue}
use Rattle.core_state.specs.RepositoryStates.{repository_value}
use Rattle.core_state.specs.LakeStates.{lake_value}
use Rattle.core_changes.proofs.PlacesLemmas.{same_values}
use Rattle.core_changes.proofs.founding.make_repository_room.Goals as goal

pub returns-in_err-make_place-clause-same : goal.returns-in_err-make_place-clause-same
unfolding lake_value
returns-in_err-make_place-clause-same c =
    let l = lake_value c.args.lake.now in
    let repositories = same_values repository_value c.args.lake.now.repositories c.make_place.new.places c.make_place.ensures.same in
    λ i. record l { repositories = repositories i }

pub returns-in_err-make_place-2-clause-same : goal.returns-in_err-make_place-2-clause-same
unfolding lake_value
returns-in_err-make_place-2-clause-same c =
    let l = lake_value c.args.lake.now in
    let repositories = same_values repository_value c.args.lake.now.repositories c.make_place.new.places c.make_place.ensures.same in
    λ i. record l { repositories = repositories i; names = record l.names { homes = c.make_place-2.ensures.same i } }

pub returns-clause-same : goal.returns-clause-same
unfolding lake_value
returns-clause-same c =
    let l = lake_value c.args.lake.now in
    let repositories = same_values repository_value c.args.lake.now.repositories c.make_place.new.places c.make_place.ensures.same in
    let places = same_values {X = FilePlaceValue} (λ p. p.bytes) c.args.lake.now.names.files c.make_place-3.new.places c.make_place-3.ensures.same in
    λ i. record l {
      repositories = repositories i;
      names = record { homes = c.make_place-2.ensures.same i; files = places i };
    }
