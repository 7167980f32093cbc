use Rattle.std.proofs.Common.{◌+◌, sym, subst, ◌∙◌, ap, Some}
use Rattle.lake_values.specs.Ancestry.{graph_of}
use Rattle.plain_reference.proofs.AncestryBaseLemmas.{BestOf, best_stays, best_more, best_of_all}
use Rattle.lake_values.proofs.AncestryOrderLemmas.{base_answered}
use Rattle.plain_reference.proofs.ancestry.base.Goals as goal
use Rattle.plain_reference.proofs.ancestry.base.Goals.{then-is_common, else-is_common}
use Rattle.lake_values.proofs.AncestryLemmas.{differ}

pub loop-id-preserved : goal.loop-id-preserved
loop-id-preserved c =
    let g = graph_of c.args.commits.now in
    let a = c.args.a.now in
    let b = c.args.b.now in
    let commits = c.args.commits.now in
    let i = c.loop-id.id-index in
    let x = c.loop-id-item.result in
    elim c.if-is_common.branch [
      | then-is_common w ↦
          subst (BestOf g a b commits (i + 1)) (sym (w.best-is ∙ ap Some w.first_of.ensures))
          (best_more g a b commits i x c.loop-id-test.true c.loop-id-item.is c.loop-id.best c.loop-id.invariant (c.is_common.ensures.0 w.if-is_common.true))
      | else-is_common w ↦
          subst (BestOf g a b commits (i + 1)) (sym w.best-is)
          (best_stays g a b commits i x c.loop-id-test.true c.loop-id-item.is c.loop-id.best c.loop-id.invariant
          (λ both. differ (sym (c.is_common.ensures.1 both) ∙ w.if-is_common.false)))
    ]

pub returns : goal.returns
returns c =
    base_answered (graph_of c.args.commits.now) c.requires c.args.a.now c.args.b.now c.loop-id.best
    (best_of_all c.args.commits.now c.args.a.now c.args.b.now c.loop-id.id-index c.loop-id-test.false c.loop-id.best c.loop-id.invariant)
