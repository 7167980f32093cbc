use Rattle.std.proofs.Common.{◌≤◌, ◌++◌, List, length, true, false, ap, ◌∙◌, arith}
use Rattle.std.specs.List.{filter}
use Rattle.std.specs.Option.{option_copied}
use Rattle.lake_base.specs.declared.digest.Digest.{Digest}
use Rattle.lake_values.specs.Log.{is_in_log, log_after}
use Rattle.commit_graph.proofs.LogLemmas.{log_starts, page_full, page_ends, page_is}
use Rattle.commit_graph.proofs.graph.Graph.log.Goals as goal

pub loop-ids-init : goal.loop-ids-init
loop-ids-init c =
    let g = c.args.self.now in
    let after = option_copied c.args.after in
    record {
      whole = ap (λ (l : List Digest). l ++ filter (is_in_log g after c.args.since) c.in_ok-left.left) c.new-ids.ensures.items
          ∙ log_starts g c.args.from.now after c.args.since c.in_ok-left.left c.in_ok-left.ensures.left;
      room = omega (arith, ap length c.new-ids.ensures.items);
    }

pub returns-then-len-amount : goal.returns-then-len-amount
returns-then-len-amount c =
    let g = c.args.self.now in
    let after = option_copied c.args.after in
    let ids : List Digest = c.loop-ids.ids.items in
    let full : c.args.amount ≤ length ids = omega (arith, c.if-len-amount.true, c.len.ensures) in
    let page = page_full ids (filter (is_in_log g after c.args.since) c.loop-ids.left)
    (log_after g c.args.from.now after c.args.since) c.args.amount c.loop-ids.invariant.whole c.loop-ids.invariant.room
    c.in-Some.id (filter (is_in_log g after c.args.since) c.next_in_log.new.left) (rw c.in-Some.is at c.in_ok-id.ensures) full in
    page_is g c.args.from.now after c.args.since c.args.amount c.of-then-len-amount.result true (c.of-then-len-amount.ensures ∙ page.0, page.1)

pub returns : goal.returns
returns c =
    let g = c.args.self.now in
    let after = option_copied c.args.after in
    let page = page_ends c.loop-ids.ids.items (filter (is_in_log g after c.args.since) c.loop-ids.left)
    (log_after g c.args.from.now after c.args.since) c.args.amount c.loop-ids.invariant.whole c.loop-ids.invariant.room
    (rw c.in_default.is at c.in_ok-id.ensures) in
    page_is g c.args.from.now after c.args.since c.args.amount c.of-2.result false (c.of-2.ensures ∙ page.0, page.1)
