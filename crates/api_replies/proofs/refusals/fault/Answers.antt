use Rattle.std.proofs.Common.{◌≡◌, IfOk, subst}
use Rattle.api_replies.specs.PrintedReplies.{json_reply as json_sent}
use Rattle.api_replies.proofs.refusals.fault.Goals as goal

pub json_reply-requires : goal.json_reply-requires
json_reply-requires c = rw c.in_ok-value.ensures

pub returns : goal.returns
returns c =
    subst (λ form. IfOk c.json_reply.result (λ reply. reply ≡ json_sent c.args.status form)) c.in_ok-value.ensures c.json_reply.ensures
