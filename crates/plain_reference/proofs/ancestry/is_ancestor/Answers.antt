use Rattle.std.proofs.Common.{sym, ◌∙◌}
use Rattle.std.specs.Option.{IsSome}
use Rattle.lake_values.specs.Ancestry.{graph_of, commit_of}
use Rattle.lake_values.proofs.AncestryLemmas.{ancestor_tested}
use Rattle.lake_values.proofs.AncestryWalkLemmas.{there_where_found}
use Rattle.plain_reference.proofs.ancestry.is_ancestor.Goals as goal

pub returns-then-is_some : goal.returns-then-is_some
returns-then-is_some c =
    let there : IsSome (commit_of (graph_of c.args.commits.now) c.args.old.now) = there_where_found c.commit_of.result
    (commit_of (graph_of c.args.commits.now) c.args.old.now) c.commit_of.ensures (sym c.is_some.ensures ∙ c.if-is_some.true) in
    ancestor_tested (graph_of c.args.commits.now) c.requires c.args.old.now c.args.id.now c.generation.result c.is_reached.result there c.generation.ensures
    c.is_reached.ensures
