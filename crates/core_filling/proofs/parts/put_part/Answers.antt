use Rattle.std.proofs.Common.{ap}
use Rattle.std.proofs.lemmas.Result.{on_ok_weaker}
use Rattle.lake_base.specs.Maps.{ByteMap}
use Rattle.core_state.specs.LakeStates.{lake_value}
use Rattle.core_state.specs.RepositoryStates.{RepositoryStateValue, repository_value}
use Rattle.core_changes.proofs.PlacesLemmas.{changed_nowhere, changed_place}
use Rattle.core_filling.specs.Parts.{with_part}
use Rattle.core_filling.proofs.parts.put_part.Goals as goal

pub returns-in-Some-clause-lake : goal.returns-in-Some-clause-lake
unfolding lake_value
returns-in-Some-clause-lake c =
    let l = lake_value c.args.lake.now in
    on_ok_weaker c.put_here.result (λ changed.
    ap (λ (m : ByteMap RepositoryStateValue). record l { repositories = m })
    (changed_place repository_value c.args.lake.now.repositories c.args.repo.now (with_part c.args.part)
    c.in-Some.place.now c.put_here.new.place c.in-Some.ensures.value changed))
    c.put_here.ensures

pub returns-in-None-clause-lake : goal.returns-in-None-clause-lake
unfolding lake_value
returns-in-None-clause-lake c =
    let l = lake_value c.args.lake.now in
    ap (λ (m : ByteMap RepositoryStateValue). record l { repositories = m })
    (changed_nowhere repository_value c.args.lake.now.repositories c.args.repo.now (with_part c.args.part) c.in-None.ensures.value)
