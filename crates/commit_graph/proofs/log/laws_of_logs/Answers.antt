use Rattle.lake_values.proofs.LogLemmas.{in_log_from, in_log_to, log_after_ascends, all_log_pages, more_of_some}
use Rattle.commit_graph.proofs.log.laws_of_logs.Goals as goal

pub returns : goal.returns
returns c = record {
  all = λ graph from after since id due. (in_log_from graph due from after since id, in_log_to graph due from after since id);
  order = log_after_ascends;
  pages = λ n graph from after since amount some le. all_log_pages graph from since amount some n after le;
  more = λ graph from after since amount some more. more_of_some graph from since after amount some more;
}
