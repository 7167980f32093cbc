use Rattle.std.proofs.Common.{◌≡◌, None, ap}
use Rattle.std.proofs.lemmas.Result.{on_err_weaker, on_ok_weaker}
use Rattle.lake_base.specs.Maps.{ByteMap}
use Rattle.lake_values.specs.Ancestry.{commit_of}
use Rattle.lake_format.specs.Spelling.{commit_id}
use Rattle.core_state.specs.LakeStates.{lake_value}
use Rattle.core_state.specs.NewCommits.{with_commit}
use Rattle.core_state.specs.RepositoryStates.{RepositoryStateValue, repository_value}
use Rattle.core_changes.proofs.PlacesLemmas.{asked_there, changed_nowhere, changed_place, same_place}
use Rattle.core_commits.proofs.adding.add_commit.Goals as goal

pub add_here-requires : goal.add_here-requires
unfolding lake_value
add_here-requires c = record {
  absent = asked_there repository_value c.args.lake.now.repositories c.args.repo.now
      (λ r. commit_of r.commits (commit_id c.args.commit) ≡ None) c.requires.absent c.in-Some.place.now c.in-Some.ensures.value;
}

pub returns-in-Some-clause-added : goal.returns-in-Some-clause-added
unfolding lake_value
returns-in-Some-clause-added c =
    let l = lake_value c.args.lake.now in
    on_ok_weaker c.add_here.result (λ changed.
    ap (λ (m : ByteMap RepositoryStateValue). record l { repositories = m })
    (changed_place repository_value c.args.lake.now.repositories c.args.repo.now
    (with_commit (record { id = commit_id c.args.commit; content = c.args.commit; tree = c.args.tree.value }))
    c.in-Some.place.now c.add_here.new.place c.in-Some.ensures.value changed))
    c.add_here.ensures.added

pub returns-in-Some-clause-same : goal.returns-in-Some-clause-same
unfolding lake_value
returns-in-Some-clause-same c =
    let l = lake_value c.args.lake.now in
    on_err_weaker c.add_here.result (λ same.
    ap (λ (m : ByteMap RepositoryStateValue). record l { repositories = m })
    (same_place repository_value c.args.lake.now.repositories c.args.repo.now
    c.in-Some.place.now c.add_here.new.place c.in-Some.ensures.value same))
    c.add_here.ensures.same

pub returns-in-None-clause-added : goal.returns-in-None-clause-added
unfolding lake_value
returns-in-None-clause-added c =
    let l = lake_value c.args.lake.now in
    ap (λ (m : ByteMap RepositoryStateValue). record l { repositories = m })
    (changed_nowhere repository_value c.args.lake.now.repositories c.args.repo.now
    (with_commit (record { id = commit_id c.args.commit; content = c.args.commit; tree = c.args.tree.value })) c.in-None.ensures.value)
