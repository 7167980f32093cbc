use Rattle.std.proofs.Common.{◌+◌, ap, subst, sym, ◌∙◌}
use Rattle.lake_values.specs.Ancestry.{graph_of, IsAncestor, log_order, ancestors_in_order}
use Rattle.lake_values.proofs.AncestryOrderLemmas.{ancestors_from, ancestors_to, ancestors_ascend, log_total, log_same}
use Rattle.lake_values.proofs.AncestryLemmas.{differ}
use Rattle.plain_reference.proofs.OrderPlaceLemmas.{HasThose, those_start, those_more, those_same, those_all}
use Rattle.plain_reference.proofs.ancestry.ancestors.Goals as goal
use Rattle.plain_reference.proofs.ancestry.ancestors.Goals.{then-is_ancestor+in_ok-put_in_log, else-is_ancestor}

pub loop-old-init : goal.loop-old-init
loop-old-init c =
    let g = graph_of c.args.commits.now in
    those_start (log_total g) (log_same g) (λ old. IsAncestor g old c.args.id.now) c.args.commits.now c.new-ancestors.result.items c.new-ancestors.ensures.items

pub loop-old-preserved : goal.loop-old-preserved
loop-old-preserved c =
    let g = graph_of c.args.commits.now in
    let id = c.args.id.now in
    let commits = c.args.commits.now in
    let i = c.loop-old.old-index in
    let list = c.loop-old.ancestors.items in
    elim c.if-is_ancestor.branch [
      | then-is_ancestor+in_ok-put_in_log w ↦
          those_more (log_total g) (log_same g)
          (λ old. IsAncestor g old id) commits i list c.loop-old.invariant c.loop-old-item.result c.loop-old-test.true c.loop-old-item.is
          (c.is_ancestor.ensures.0 w.if-is_ancestor.true) c.if-is_ancestor.ancestors.items
          (ap (λ v. v.items) w.ancestors-is ∙ w.in_ok-put_in_log.ensures.put)
      | else-is_ancestor w ↦
          subst (HasThose (log_order g) (λ old. IsAncestor g old id) commits (i + 1)) (sym (ap (λ v. v.items) w.ancestors-is))
          (those_same (log_total g) (log_same g)
          (λ old. IsAncestor g old id) commits i list c.loop-old.invariant c.loop-old-item.result c.loop-old-test.true c.loop-old-item.is
          (λ a. differ (sym (c.is_ancestor.ensures.1 a) ∙ w.if-is_ancestor.false)))
    ]

pub returns : goal.returns
returns c =
    let g = graph_of c.args.commits.now in
    let id = c.args.id.now in
    c.of.ensures
    ∙ those_all (log_total g) (log_same g) (λ old. IsAncestor g old id) c.args.commits.now (λ old a. a.0) c.loop-old.old-index c.loop-old.ancestors.items
    c.loop-old-test.false c.loop-old.invariant (ancestors_in_order g id) (ancestors_ascend g id) (ancestors_from g c.requires id) (ancestors_to g c.requires id)
