use Rattle.std.proofs.Common.{drop, sym, ap, subst, ◌∙◌}
use Rattle.std.proofs.lemmas.Result.{on_ok_weaker}
use Rattle.std.specs.List.{All}
use Rattle.std.specs.Option.{IsSome}
use Rattle.lake_values.specs.Ancestry.{commit_of}
use Rattle.commit_graph.specs.Fronts.{Place, IsFront, PutsIn, ancestors_left}
use Rattle.commit_graph.proofs.AncestorsLemmas.{nothing_first, left_none, passed}
use Rattle.commit_graph.proofs.FrontsLemmas.{front_rest, parents_there}
use Rattle.commit_graph.proofs.ancestors.Ancestors.pass.Goals as goal

pub put_in-requires : goal.put_in-requires
put_in-requires c =
    let g = c.self.inside.graph.now in
    let place : Place = (c.in-Some.field-0-0, c.in-Some.id) in
    let rest = c.pop_first.new.self.keys in
    subst (All (λ id. IsSome (commit_of g id))) (sym c.parents.ensures)
    (parents_there g place rest (subst (IsFront g) c.in-Some.ensures.removal c.self.invariant))

pub invariant_of-self : goal.invariant_of-self
invariant_of-self c =
    let g = c.self.inside.graph.now in
    let place : Place = (c.in-Some.field-0-0, c.in-Some.id) in
    let rest = c.pop_first.new.self.keys in
    c.put_in.ensures.front (front_rest g place rest (subst (IsFront g) c.in-Some.ensures.removal c.self.invariant))

pub returns-in-Some : goal.returns-in-Some
returns-in-Some c =
    let g = c.self.inside.graph.now in
    let place : Place = (c.in-Some.field-0-0, c.in-Some.id) in
    let rest = c.pop_first.new.self.keys in
    let new = c.put_in.new.front.keys in
    let is = c.in-Some.ensures.removal in
    let h = subst (IsFront g) is c.self.invariant in
    on_ok_weaker c.put_in.result (λ puts. sym (ap (drop 1) (sym c.self.view_is ∙ ap (ancestors_left g) is
    ∙ passed g place rest new h c.in-Some.ensures.all_above (subst (λ l. PutsIn g l rest new) c.parents.ensures puts))))
    c.put_in.ensures.put

pub returns-in-None : goal.returns-in-None
returns-in-None c =
    let g = c.self.inside.graph.now in
    let front = c.self.inside.front.keys in
    let none = nothing_first front c.in-None.ensures.variant.1 in
    left_none g c.pop_first.new.self.keys (c.in-None.ensures.unchanged ∙ none) ∙ sym (ap (drop 1) (sym c.self.view_is ∙ left_none g front none))
