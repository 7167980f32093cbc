use Rattle.std.proofs.Common.{◌+◌, ap, subst, sym, ◌∙◌}
use Rattle.std.specs.Option.{option_copied}
use Rattle.lake_values.specs.Ancestry.{graph_of, id_order}
use Rattle.lake_values.specs.Retention.{IsKept, kept_ids}
use Rattle.lake_values.proofs.AncestryOrderLemmas.{ids_total, ids_same}
use Rattle.lake_values.proofs.AncestryLemmas.{differ}
use Rattle.plain_reference.proofs.OrderPlaceLemmas.{HasThose, those_start, those_more, those_same, those_all}
use Rattle.plain_reference.proofs.RetentionKeptLemmas.{kept_from, kept_to, kept_ascends}
use Rattle.plain_reference.proofs.retention.kept.Goals as goal
use Rattle.plain_reference.proofs.retention.kept.Goals.{then-is_kept+in_ok-put_in_order, else-is_kept}

pub loop-id-init : goal.loop-id-init
loop-id-init c =
    those_start ids_total ids_same (IsKept (graph_of c.args.commits.now) c.args.heads.now c.args.tags.now (option_copied c.args.rules) c.args.now)
    c.args.commits.now
    c.new-kept.result.items c.new-kept.ensures.items

pub loop-id-preserved : goal.loop-id-preserved
loop-id-preserved c =
    let fact = IsKept (graph_of c.args.commits.now) c.args.heads.now c.args.tags.now (option_copied c.args.rules) c.args.now in
    let commits = c.args.commits.now in
    let i = c.loop-id.id-index in
    let list = c.loop-id.kept.items in
    elim c.if-is_kept.branch [
      | then-is_kept+in_ok-put_in_order w ↦
          those_more ids_total ids_same fact commits i list c.loop-id.invariant c.loop-id-item.result c.loop-id-test.true c.loop-id-item.is
          (c.is_kept.ensures.0 w.if-is_kept.true) c.if-is_kept.kept.items
          (ap (λ v. v.items) w.kept-is ∙ w.in_ok-put_in_order.ensures.put)
      | else-is_kept w ↦
          subst (HasThose id_order fact commits (i + 1)) (sym (ap (λ v. v.items) w.kept-is))
          (those_same ids_total ids_same fact commits i list c.loop-id.invariant c.loop-id-item.result c.loop-id-test.true c.loop-id-item.is
          (λ k. differ (sym (c.is_kept.ensures.1 k) ∙ w.if-is_kept.false)))
    ]

pub returns : goal.returns
returns c =
    let g = graph_of c.args.commits.now in
    let heads = c.args.heads.now in
    let tags = c.args.tags.now in
    let rules = option_copied c.args.rules in
    let now = c.args.now in
    c.of.ensures
    ∙ those_all ids_total ids_same (IsKept g heads tags rules now) c.args.commits.now (λ id k. k.0) c.loop-id.id-index c.loop-id.kept.items
    c.loop-id-test.false c.loop-id.invariant (kept_ids g heads tags rules now) (kept_ascends g heads tags rules now)
    (kept_from g c.requires heads tags rules now) (kept_to g c.requires heads tags rules now)
