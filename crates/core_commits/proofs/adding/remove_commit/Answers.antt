use Rattle.std.proofs.Common.{ap}
use Rattle.std.specs.FinMap.{remove}
use Rattle.lake_base.specs.Maps.{ByteMap}
use Rattle.commit_graph.specs.Graphs.{IsSound}
use Rattle.core_state.specs.LakeStates.{lake_value}
use Rattle.core_state.specs.RepositoryStates.{RepositoryStateValue, repository_value}
use Rattle.core_changes.proofs.PlacesLemmas.{asked_there, changed_nowhere, changed_place}
use Rattle.core_commits.specs.HeadOperations.{without_commit}
use Rattle.core_commits.proofs.adding.remove_commit.Goals as goal

pub remove_here-requires : goal.remove_here-requires
unfolding lake_value
remove_here-requires c =
    asked_there repository_value c.args.lake.now.repositories c.args.repo.now
    (λ r. IsSound (remove r.commits c.args.id.now.0)) c.requires c.in-Some.place.now c.in-Some.ensures.value

pub returns-in-Some-clause-removed : goal.returns-in-Some-clause-removed
unfolding lake_value
returns-in-Some-clause-removed c =
    let l = lake_value c.args.lake.now in
    ap (λ (m : ByteMap RepositoryStateValue). record l { repositories = m })
    (changed_place repository_value c.args.lake.now.repositories c.args.repo.now (without_commit c.args.id.now)
    c.in-Some.place.now c.remove_here.new.place c.in-Some.ensures.value c.remove_here.ensures)

pub returns-in_default-clause-removed : goal.returns-in_default-clause-removed
unfolding lake_value
returns-in_default-clause-removed c =
    let l = lake_value c.args.lake.now in
    ap (λ (m : ByteMap RepositoryStateValue). record l { repositories = m })
    (changed_nowhere repository_value c.args.lake.now.repositories c.args.repo.now (without_commit c.args.id.now) c.in_default.ensures.value)
