use Rattle.commit_graph.proofs.GraphLemmas.{copied_more}
use Rattle.commit_graph.proofs.graph.copied_commits.Goals as goal

pub loop-id-preserved : goal.loop-id-preserved
loop-id-preserved c =
    copied_more c.args.commits.now.entries c.loop-id.copy.entries c.loop-id.id-iterator c.next.new.self c.insert.new.self.entries
    (c.in-Some.id.now, c.in-Some.commit.now) c.in_ok-copy.field-0
    c.iter-id-items.ensures.ordered c.loop-id.invariant c.in-Some.ensures.steps c.in_ok-insert.ensures.entries c.in_ok-copy.ensures.equal

pub loop-id-preserved-in_ok-insert : goal.loop-id-preserved-in_ok-insert
loop-id-preserved-in_ok-insert c =
    copied_more c.args.commits.now.entries c.loop-id.copy.entries c.loop-id.id-iterator c.next.new.self c.insert.new.self.entries
    (c.in-Some.id.now, c.in-Some.commit.now) c.in_ok-copy.field-0
    c.iter-id-items.ensures.ordered c.loop-id.invariant c.in-Some.ensures.steps c.in_ok-insert.ensures.entries c.in_ok-copy.ensures.equal
