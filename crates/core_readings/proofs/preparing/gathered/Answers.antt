use Rattle.std.proofs.Common.{ap, refl, sym, ◌∙◌}
use Rattle.lake_model.specs.State.{map_of}
use Rattle.core_state.specs.LakeStates.{lake_value}
use Rattle.core_state.specs.RepositoryStates.{repository_value}
use Rattle.core_readings.proofs.PlacesLemmas.{repository_at}
use Rattle.core_readings.proofs.TreesLemmas.{tree_of_map}
use Rattle.core_readings.proofs.preparing.gathered.Goals as goal

pub trio_of-requires-clause-ranges : goal.trio_of-requires-clause-ranges
trio_of-requires-clause-ranges c =
    (tree_of_map (repository_value c.args.repository.now) c.head-head.result c.in_ok-tree.tree.value c.in_ok-tree.ensures).ranges

pub returns-clause-value : goal.returns-clause-value
unfolding lake_value
returns-clause-value c given repo name version settings =
    let map = (tree_of_map (repository_value c.args.repository.now) c.head-head.result c.in_ok-tree.tree.value c.in_ok-tree.ensures).map
    ∙ ap (map_of (repository_at c.args.repository.now)) c.head-head.ensures in
    λ i. record {
      at = c.args.lake.now.entries;
      version = (c.version.ensures ∙ sym version) i;
      settings = sym settings i;
      head = c.head-head.ensures i;
      sealed = c.in_ok-sealed.ensures i;
      objects = map i;
      rules = c.in_ok-rules.ensures i;
      sides = c.in_ok-trio.ensures.maps i;
      cut = c.args.lake.now.cut;
    }

pub returns-clause-tree : goal.returns-clause-tree
unfolding lake_value
returns-clause-tree c = c.requires.cut c.head-head.result c.in_ok-tree.tree.value c.in_ok-tree.ensures

pub returns-clause-sides : goal.returns-clause-sides
unfolding lake_value
returns-clause-sides c = c.in_ok-trio.ensures.cut c.args.lake.now.cut c.requires.cut

pub returns-clause-cut : goal.returns-clause-cut
unfolding lake_value
returns-clause-cut c = refl
