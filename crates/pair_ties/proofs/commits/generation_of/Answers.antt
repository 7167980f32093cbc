use Rattle.std.proofs.Common.{Some, option_map, ap, sym, ◌∙◌}
use Rattle.lake_values.specs.Commit.{CommitRecordValue}
use Rattle.pair_ties.proofs.DueLemmas.{graph_absent, graph_found}
use Rattle.pair_trees.proofs.FoundLemmas.{at_none, at_some}
use Rattle.pair_ties.proofs.commits.generation_of.Goals as goal

pub returns-in-Some : goal.returns-in-Some
returns-in-Some c =
    ap (λ (v : CommitRecordValue). Some v.generation) c.commit.view_is
    ∙ sym (ap (option_map (λ (v : CommitRecordValue). v.generation))
    (graph_found c.args.pairs.now c.args.repo.now c.args.id.now c.in-Some.field-0-0 c.in-Some.commit.now
    (at_some _ _ c.in_ok-commit.field-0 (c.in-Some.field-0-0, c.in-Some.commit) c.in_ok-commit.ensures c.in-Some.is)))

pub returns-in-None : goal.returns-in-None
returns-in-None c =
    sym (ap (option_map (λ (v : CommitRecordValue). v.generation)) (graph_absent c.args.pairs.now c.args.repo.now c.args.id.now
    (at_none _ _ c.in_ok-commit.field-0 c.in_ok-commit.ensures c.in-None.is)))
