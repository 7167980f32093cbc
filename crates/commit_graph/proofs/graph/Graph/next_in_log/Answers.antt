use Rattle.std.proofs.Common.{sym, ◌∙◌}
use Rattle.std.specs.Option.{option_copied}
use Rattle.lake_values.specs.Log.{is_in_log}
use Rattle.commit_graph.proofs.LogLemmas.{none_pass}
use Rattle.commit_graph.proofs.graph.Graph.next_in_log.Goals as goal

pub returns : goal.returns
returns c = sym c.loop-id.invariant ∙ none_pass (is_in_log c.args.self.now (option_copied c.args.after) c.args.since) c.loop-id.left c.in_default.ensures
