use Rattle.std.proofs.Common.{◌≡◌, sym, subst, ◌∙◌}
use Rattle.lake_base.specs.declared.digest.Digest.{Digest}
use Rattle.lake_values.specs.Commit.{CommitRecordValue}
use Rattle.lake_model.specs.declared.history.SealFor.TheVariants as seal
use Rattle.lake_model.specs.declared.reply.SwapKind.TheVariants as kind
use Rattle.lake_calls.specs.CallReadings.{known_commit}
use Rattle.lake_calls.specs.declared.call.Call.{Call}
use Rattle.lake_calls.specs.declared.call.Call.TheVariants.{Heads}
use Rattle.lake_calls.specs.declared.heads.HeadCall.TheVariants as head
use Rattle.lake_calls.specs.declared.reply.Done.{Done as DoneReply}
use Rattle.lake_calls.specs.declared.reply.Done.TheVariants as done
use Rattle.flow_steps.specs.FlowAnswers.{still}
use Rattle.head_steps.specs.NewHeads.{NewHead}
use Rattle.commit_flow.specs.CommitFlows.{HasMadeHead, IsAnswered, said_at}
use Rattle.commit_flow.proofs.FlowLemmas.{answered, commit_so, committing}
use Rattle.commit_flow.proofs.flows.commit.Goals as goal

pub returns-clause-served : goal.returns-clause-served
returns-clause-served g c one repo branch about =
    let client = c.args.client.now in
    let old = c.args.seat.now in
    let new = c.new_head-made.new.seat in
    let result = c.new_head-made.result in
    let versions = c.new_head-made.ensures.0 in
    let paused = g.P.Pause.calls client.pause.now in
    let pauses = g.P.Pause.calls c.new_head-made.new.pause in
    let blocks = still (g.B.Blocks.faults client.blocks.now) (g.B.Blocks.misses client.blocks.now) (g.B.Blocks.missed client.blocks.now) in
    let call : Call = Heads (head.Commit one) in
    let telling : Digest × CommitRecordValue → DoneReply = λ made. done.Committed (known_commit made) in
    let same : committing client.now one
    ≡ record { repo = c.args.repo.now; branch = c.args.branch.now; kind = kind.Commit; about = said_at client.now c.args.about } =
    λ i. record { repo = repo i; branch = branch i; kind = kind.Commit; about = about i } in
    let made : record { repo = c.args.repo.now; branch = c.args.branch.now; kind = kind.Commit; about = c.dated-about.result } ≡ committing client.now one =
    λ i. record { repo = sym repo i; branch = sym branch i; kind = kind.Commit; about = (c.dated-about.ensures ∙ sym about) i } in
    let went = subst (λ (h : NewHead). HasMadeHead h seal.Commit client.call old new paused pauses versions result) made
    c.new_head-made.ensures.1 in
    subst (λ (h : NewHead). IsAnswered (HasMadeHead h seal.Commit client.call old new paused pauses) telling old new client.call call client.now blocks
    c.answer_of.result) same
    (answered (HasMadeHead (committing client.now one) seal.Commit client.call old new paused pauses) telling old new client.call call client.now blocks
    versions result c.answer_of.result c.answer_of.ensures went
    (commit_so client.call client.now blocks old new paused pauses versions result one went))
