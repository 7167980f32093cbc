use Rattle.std.proofs.Common.{◌≡◌, ◌∷◌, ◌++◌, [], take, ap, sym, subst, ◌∙◌, ◌+◌}
use Rattle.std.proofs.lemmas.List.{take_more}
use Rattle.branch_record.specs.Joined.{earlier_change}
use Rattle.branch_record.proofs.JoinedLemmas.{IsFirstOf, first_more}
use Rattle.branch_record.proofs.joined.first_of.Goals as goal

pub loop-layer-preserved : goal.loop-layer-preserved
loop-layer-preserved c =
    let layers = c.args.layers.now in
    let i = c.loop-layer.layer-index in
    let layer = c.layer-item.result in
    let front : take (i + 1) layers ≡ take i layers ++ (layer ∷ []) =
    take_more layers i layer c.loop-layer-test.true ∙ ap (λ l. take i layers ++ (l ∷ [])) (sym c.layer-item.is) in
    let more : IsFirstOf (take i layers ++ (layer ∷ [])) (earlier_change c.loop-layer.first c.first.result) =
    first_more (take i layers) layer c.first.ensures.ascend c.loop-layer.first c.first.result c.loop-layer.invariant c.first.ensures.first in
    subst (λ l. IsFirstOf l c.earlier-first.result) (sym front)
    (subst (λ first. IsFirstOf (take i layers ++ (layer ∷ [])) first) (sym c.earlier-first.ensures) more)
