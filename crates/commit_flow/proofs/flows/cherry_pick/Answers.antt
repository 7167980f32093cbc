use Rattle.std.proofs.Common.{◌≡◌, [], sym, ap, subst, ◌∙◌}
use Rattle.lake_base.specs.declared.digest.Digest.{Digest}
use Rattle.lake_values.specs.Commit.{CommitRecordValue}
use Rattle.lake_model.specs.declared.reply.SwapKind.TheVariants as kind
use Rattle.lake_calls.specs.CallReadings.{known_commit}
use Rattle.lake_calls.specs.declared.call.Call.{Call}
use Rattle.lake_calls.specs.declared.call.Call.TheVariants.{Heads}
use Rattle.lake_calls.specs.declared.heads.HeadCall.TheVariants as head
use Rattle.lake_calls.specs.declared.reply.Done.{Done as DoneReply}
use Rattle.lake_calls.specs.declared.reply.Done.TheVariants as done
use Rattle.flow_steps.specs.FlowAnswers.{still}
use Rattle.lake_values.specs.declared.commit.Strategy.TheVariants.{Refuse}
use Rattle.lake_model.specs.declared.reply.Point.{Point}
use Rattle.lake_calls.specs.Courses.{pick_about}
use Rattle.head_steps.specs.NewHeads.{NewHead}
use Rattle.commit_flow.specs.declared.picks.Picking.TheVariants.{Take}
use Rattle.commit_flow.specs.CommitFlows.{HasPicked, IsAnswered, said_at}
use Rattle.commit_flow.specs.PickedHeads.{picking_head, picking_message}
use Rattle.commit_flow.proofs.FlowLemmas.{answered, take_so, taking}
use Rattle.commit_flow.proofs.flows.cherry_pick.Goals as goal

pub returns-clause-served : goal.returns-clause-served
returns-clause-served g c one repo branch e number committer =
    let client = c.args.client.now in
    let old = c.args.seat.now in
    let new = c.picked-made.new.seat in
    let result = c.picked-made.result in
    let versions = c.picked-made.ensures.0 in
    let paused = g.P.Pause.calls client.pause.now in
    let pauses = g.P.Pause.calls c.picked-made.new.pause in
    let blocks = still (g.B.Blocks.faults client.blocks.now) (g.B.Blocks.misses client.blocks.now) (g.B.Blocks.missed client.blocks.now) in
    let call : Call = Heads (head.CherryPick one) in
    let telling : Digest × CommitRecordValue → DoneReply = λ made. done.CherryPicked (known_commit made) in
    let given : Point → Digest → NewHead = λ point parent. record {
      repo = c.args.repo.now;
      branch = c.args.branch.now;
      kind = kind.Pick parent point.commit Refuse;
      about = pick_about one client.now point.message;
    } in
    let same : taking client.now one ≡ given =
    λ i point parent. record {
      repo = repo i;
      branch = branch i;
      kind = kind.Pick parent point.commit Refuse;
      about = pick_about one client.now point.message;
    } in
    let dated : picking_head Take c.args.repo.now c.args.branch.now (said_at client.now c.args.about) ≡ given =
    λ i point parent. record {
      repo = c.args.repo.now;
      branch = c.args.branch.now;
      kind = kind.Pick parent point.commit Refuse;
      about = record { committer = sym committer i; message = picking_message Take point; metadata = []; date = client.now };
    } in
    let picked : picking_head Take c.args.repo.now c.args.branch.now c.dated-about.result ≡ given =
    ap (picking_head Take c.args.repo.now c.args.branch.now) c.dated-about.ensures ∙ dated in
    let went = subst (λ (X : Type 0). X)
    (λ i. HasPicked (sym repo i) (sym e i) (sym number i) (sym same i) client.call old new paused pauses versions result)
    (subst (λ (heads : Point → Digest → NewHead). HasPicked c.args.repo.now c.args.e.now c.args.number heads client.call old new paused pauses versions result)
    picked c.picked-made.ensures.1) in
    subst (λ (X : Type 0). X)
    (λ i. IsAnswered (HasPicked (repo i) (e i) (number i) (same i) client.call old new paused pauses) telling old new client.call call client.now blocks
    c.answer_of.result)
    (answered (HasPicked one.repo one.at.e one.parent (taking client.now one) client.call old new paused pauses) telling old new client.call call client.now
    blocks versions result c.answer_of.result c.answer_of.ensures went
    (take_so client.call client.now blocks old new paused pauses versions result one went))
