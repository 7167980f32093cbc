use Rattle.std.proofs.Common.{◌≡◌, ◌≢◌, ℕ, List, Option, None, Result, Ok, Err, IfOk, sym, subst}
use Rattle.lake_base.specs.declared.outside.Trouble.{Trouble}
use Rattle.http_wire.specs.Messages.{IsReplyAnswer}
use Rattle.http_wire.specs.declared.fault.WireFault.{WireFault}
use Rattle.http_wire.specs.declared.fault.WireFault.TheVariants as wire
use Rattle.http_wire.specs.declared.message.Reply.{Reply}
use Rattle.lakectl_commands.specs.SentCommands.{ReadsReplyOf}
use Rattle.lakectl_commands.proofs.ReplyLemmas.{no_reply_given, reply_given, where_told}
use Rattle.lakectl_commands.proofs.replies.next_reply.Goals as goal

pub returns-in-Ok-clause-read : goal.returns-in-Ok-clause-read
returns-in-Ok-clause-read g c =
    let left : Option (List ℕ) = g.S.Source.left c.read_reply.new.source in
    where_told (g.S.Source.left c.args.source.now) _ _
    (λ had answer. reply_given had c.read_reply.new.buffer left c.in-Ok.reply
    (subst (λ (before : List ℕ). IsReplyAnswer before had (Ok c.in-Ok.reply) c.read_reply.new.buffer left) c.new-buffer.ensures answer))
    c.in-Ok.ensures.read

none_read : (result : Result (Option Reply) Trouble) (fault : WireFault) (had left : Option (List ℕ))
    → IfOk result (λ reply. (reply ≡ None) × (fault ≢ wire.NoMemory) × (fault ≢ wire.ReadFault))
    → (fault ≢ wire.NoMemory → fault ≢ wire.ReadFault → ReadsReplyOf had left None) → IfOk result (ReadsReplyOf had left)
none_read (Err trouble) fault had left is none = tt
none_read (Ok reply) fault had left is none = subst (ReadsReplyOf had left) (sym is.0) (none is.1 is.2)

pub returns-clause-read : goal.returns-clause-read
returns-clause-read g c =
    let left : Option (List ℕ) = g.S.Source.left c.read_reply.new.source in
    none_read c.no_reply.result c.in-Err.fault (g.S.Source.left c.args.source.now) left c.no_reply.ensures.none
    (λ memory failed. where_told (g.S.Source.left c.args.source.now) _ _
    (λ had answer. no_reply_given had c.read_reply.new.buffer left c.in-Err.fault memory failed
    (subst (λ (before : List ℕ). IsReplyAnswer before had (Err c.in-Err.fault) c.read_reply.new.buffer left) c.new-buffer.ensures answer))
    c.in-Err.ensures.read)
