use Rattle.std.proofs.Common.{rules, tests}
use Rattle.std.proofs.lemmas.Iterator.{cases_from_all, YieldsList-from_slice}
use Rattle.lake_values.specs.Ancestry.{graph_of, IsDue}
use Rattle.plain_reference.proofs.AncestryReachLemmas.{graph_tested}
use Rattle.plain_reference.proofs.ancestry.is_graph.Goals as goal

pub returns : goal.returns
returns c =
    let commits = c.args.commits.now in
    graph_tested commits _
    (cases_from_all _ _ _ (λ x. IsDue (graph_of commits) x.0) (λ x. IsDue (graph_of commits) x.0 → ⊥) c.all.ensures.ran (YieldsList-from_slice commits cc)
    (λ x q k. search (rules, tests)) (λ x q k. search (rules, tests)))
