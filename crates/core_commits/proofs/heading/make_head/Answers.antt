use Rattle.std.proofs.Common.{subst, sym, ◌∙◌}
use Rattle.std.specs.FinMap.{insert}
use Rattle.core_state.specs.LakeStates.{lake_value}
use Rattle.core_state.specs.NameIndexes.{index_value}
use Rattle.core_state.specs.NewCommits.{with_files}
use Rattle.core_state.specs.declared.names.NameIndex.{NameIndex}
use Rattle.core_changes.specs.LakeChanges.{after_head}
use Rattle.core_changes.specs.NewPlaces.{HasNewPlaces}
use Rattle.core_commits.proofs.HeadingLemmas.{head_of_commit, still_few}
use Rattle.core_commits.proofs.heading.make_head.Goals as goal

pub set_head-requires : goal.set_head-requires
unfolding lake_value
set_head-requires c = still_few (lake_value c.args.lake.now) (index_value c.put_names.new.index) c.requires.few

pub returns-clause-made : goal.returns-clause-made
unfolding lake_value
returns-clause-made c l new is id are =
    let repo = c.args.repo.now in
    let branch = c.args.branch.now in
    let names =
    c.put_names.ensures.names repo new.tree.files are
    ∙ (λ i. record { homes = insert (is i).names.homes (sym id i).0 repo; files = with_files new.tree.files (is i).names.files }) in
    c.set_head.ensures.made ∙ (λ i. after_head repo branch (sym id i) (record (is i) { names = names i }))
    ∙ head_of_commit l repo branch new

pub returns-clause-places : goal.returns-clause-places
returns-clause-places c tree are named =
    subst (λ (i : NameIndex). HasNewPlaces c.args.lake.now.names.files i.files tree) (sym c.set_head.ensures.names)
    (c.put_names.ensures.places tree are named)
