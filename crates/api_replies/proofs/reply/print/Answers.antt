use Rattle.api_replies.proofs.VisibleLemmas.{printed_visible}
use Rattle.api_replies.proofs.reply.print.Goals as goal

pub returns-clause-visible : goal.returns-clause-visible
returns-clause-visible c = rw c.in_ok-sent.ensures (printed_visible c.args.reply)
