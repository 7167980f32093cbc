use Rattle.std.proofs.Common.{option_map, sym, ap, subst, ◌∙◌}
use Rattle.std.proofs.lemmas.Result.{IfOk-weaker}
use Rattle.lake_values.specs.KeyMap.{KeyMapValue}
use Rattle.lake_values.specs.Merging.{base_map}
use Rattle.lake_model.specs.State.{map_of}
use Rattle.core_state.specs.RepositoryStates.{repository_of, repository_value}
use Rattle.core_readings.specs.Trees.{IsTreeOf}
use Rattle.core_readings.proofs.TreesLemmas.{tree_of_map}
use Rattle.core_readings.proofs.sides.base_tree.Goals as goal

pub returns-in-Some-clause-map : goal.returns-in-Some-clause-map
returns-in-Some-clause-map c =
    let r = repository_value c.args.repository.now in
    let is = ap (λ o. base_map (option_map (map_of (repository_of r)) o)) (sym c.in-Some.is ∙ c.in_ok-id.ensures.found) in
    IfOk-weaker c.tree_of.result _ _
    (λ tree there. subst (λ (map : KeyMapValue). IsTreeOf r map tree.value) is (tree_of_map r c.in-Some.id tree.value there)) c.tree_of.ensures

pub returns-in-Some-clause-cut : goal.returns-in-Some-clause-cut
returns-in-Some-clause-cut c cut by = IfOk-weaker c.tree_of.result _ _ (λ tree there. by c.in-Some.id tree.value there) c.tree_of.ensures

pub returns-in-None-clause-cut : goal.returns-in-None-clause-cut
returns-in-None-clause-cut c cut by = IfOk-weaker c.empty_tree.result _ _ (λ tree all. all cut) c.empty_tree.ensures.cut
