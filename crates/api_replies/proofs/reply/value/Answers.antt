use Rattle.api_replies.proofs.reply.value.Goals as goal

pub json_reply-requires : goal.json_reply-requires
json_reply-requires g c = rw c.in_ok-value.ensures (g.met.T.ToJson.no_float c.args.told.now)
