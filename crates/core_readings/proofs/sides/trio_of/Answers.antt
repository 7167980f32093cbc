use Rattle.std.proofs.Common.{sym, subst}
use Rattle.meta_range.specs.Ranges.{TreeValue}
use Rattle.core_state.specs.RepositoryStates.{repository_value}
use Rattle.meta_range.specs.Trio.{TrioValue}
use Rattle.core_readings.specs.Preparations.{HasCutSides}
use Rattle.core_readings.specs.Trees.{HasRanges}
use Rattle.core_readings.proofs.TreesLemmas.{agree}
use Rattle.core_readings.proofs.sides.trio_of.Goals as goal

pub new-requires : goal.new-requires
new-requires c =
    let r = repository_value c.args.repository.now in
    agree r c.requires.trees c.in_ok-base.base.value c.in_ok-base.source.value c.in_ok-clone.field-0.value
    c.in_ok-base.ensures.maps.base.ranges c.in_ok-base.ensures.maps.source.ranges
    (subst (λ (tree : TreeValue). HasRanges r tree) (sym c.in_ok-clone.ensures.cases) c.requires.ranges)

pub returns-clause-cut : goal.returns-clause-cut
returns-clause-cut c cut by = subst (λ (trio : TrioValue). HasCutSides cut trio) (sym c.new.ensures) (c.in_ok-base.ensures.cut cut by)
