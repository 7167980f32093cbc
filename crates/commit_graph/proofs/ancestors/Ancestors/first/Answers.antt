use Rattle.std.proofs.Common.{List, sym, ap, ◌∙◌}
use Rattle.std.specs.List.{slice_get}
use Rattle.lake_base.specs.declared.digest.Digest.{Digest}
use Rattle.commit_graph.proofs.AncestorsLemmas.{at_first, nothing_first, first_left, left_none}
use Rattle.commit_graph.proofs.ancestors.Ancestors.first.Goals as goal

pub returns-in-Some : goal.returns-in-Some
returns-in-Some c =
    let g = c.self.inside.graph.now in
    let front = c.self.inside.front.keys in
    let place = c.in-Some.place.now in
    sym (ap (λ (l : List Digest). slice_get l 0) (sym c.self.view_is)
    ∙ first_left g front place c.self.invariant (at_first front place c.in-Some.ensures.first) c.in-Some.ensures.all_from)

pub returns-in-None : goal.returns-in-None
returns-in-None c =
    let g = c.self.inside.graph.now in
    let front = c.self.inside.front.keys in
    sym (ap (λ (l : List Digest). slice_get l 0) (sym c.self.view_is ∙ left_none g front (nothing_first front c.in-None.ensures.variant.1)))
