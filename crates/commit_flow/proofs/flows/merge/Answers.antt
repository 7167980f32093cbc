use Rattle.std.proofs.Common.{◌≡◌, sym, subst, ◌∙◌}
use Rattle.lake_base.specs.declared.digest.Digest.{Digest}
use Rattle.lake_values.specs.Commit.{CommitRecordValue}
use Rattle.lake_model.specs.declared.reply.SwapKind.TheVariants as kind
use Rattle.lake_calls.specs.declared.call.Call.{Call}
use Rattle.lake_calls.specs.declared.call.Call.TheVariants.{Heads}
use Rattle.lake_calls.specs.declared.heads.HeadCall.TheVariants as head
use Rattle.lake_calls.specs.declared.reply.Done.{Done as DoneReply}
use Rattle.lake_calls.specs.declared.reply.Done.TheVariants as done
use Rattle.flow_steps.specs.FlowAnswers.{still}
use Rattle.head_steps.specs.NewHeads.{NewHead}
use Rattle.commit_flow.specs.CommitFlows.{HasMerged, IsAnswered, said_at}
use Rattle.commit_flow.proofs.FlowLemmas.{answered, merge_so, merging}
use Rattle.commit_flow.proofs.flows.merge.Goals as goal

pub returns-clause-served : goal.returns-clause-served
returns-clause-served g c one repo branch source strategy about =
    let client = c.args.client.now in
    let old = c.args.seat.now in
    let new = c.merged-made.new.seat in
    let result = c.merged-made.result in
    let versions = c.merged-made.ensures.0 in
    let paused = g.P.Pause.calls client.pause.now in
    let pauses = g.P.Pause.calls c.merged-made.new.pause in
    let blocks = still (g.B.Blocks.faults client.blocks.now) (g.B.Blocks.misses client.blocks.now) (g.B.Blocks.missed client.blocks.now) in
    let call : Call = Heads (head.Merge one) in
    let telling : Digest × CommitRecordValue → DoneReply = λ made. done.Merged made.0 in
    let given : Digest → NewHead = λ commit. record {
      repo = c.args.repo.now;
      branch = c.args.dest.now;
      kind = kind.Merge commit c.args.strategy;
      about = said_at client.now c.args.about;
    } in
    let same : merging client.now one ≡ given =
    λ i commit. record { repo = repo i; branch = branch i; kind = kind.Merge commit (strategy i); about = about i } in
    let drafted : Digest → NewHead = λ commit. record {
      repo = c.args.repo.now;
      branch = c.args.dest.now;
      kind = kind.Merge commit c.args.strategy;
      about = c.dated-about.result;
    } in
    let made : drafted ≡ merging client.now one = λ i commit. record {
      repo = sym repo i;
      branch = sym branch i;
      kind = kind.Merge commit (sym strategy i);
      about = (c.dated-about.ensures ∙ sym about) i;
    } in
    let went = subst (λ (X : Type 0). X)
    (λ i. HasMerged (sym repo i) (sym source i) (made i) client.call old new paused pauses versions result) c.merged-made.ensures.1 in
    subst (λ (X : Type 0). X)
    (λ i. IsAnswered (HasMerged (repo i) (source i) (same i) client.call old new paused pauses) telling old new client.call call client.now blocks
    c.answer_of.result)
    (answered (HasMerged one.repo one.source.e (merging client.now one) client.call old new paused pauses) telling old new client.call call client.now blocks
    versions result c.answer_of.result c.answer_of.ensures went
    (merge_so client.call client.now blocks old new paused pauses versions result one went))
