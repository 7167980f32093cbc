use Rattle.std.proofs.Common.{sym, ap, subst, ◌∙◌}
use Rattle.std.specs.FinMap.{remove}
use Rattle.commit_graph.specs.Graphs.{IsSound}
use Rattle.commit_graph.proofs.GraphLemmas.{remove_from}
use Rattle.commit_graph.proofs.graph.Graph.remove.Goals as goal

pub returns : goal.returns
returns c =
    remove_from c.self.inside.commits.entries c.remove-commit.new.self.entries c.args.id.now c.remove-commit.ensures.updates.0
    ∙ ap (λ g. remove g c.args.id.now.0) c.self.view_is

pub invariant_of-self : goal.invariant_of-self
invariant_of-self c =
    let gone =
    remove_from c.self.inside.commits.entries c.remove-commit.new.self.entries c.args.id.now c.remove-commit.ensures.updates.0
    ∙ ap (λ g. remove g c.args.id.now.0) c.self.view_is in
    subst IsSound (sym gone) c.requires
