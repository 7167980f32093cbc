use Rattle.std.proofs.Common.{◌≡◌, [], ◌∷◌, ap, ◌∙◌}
use Rattle.std.specs.BTreeSet.{insert_key}
use Rattle.commit_graph.specs.Fronts.{Place, place_of}
use Rattle.commit_graph.proofs.AncestorsLemmas.{by_place, left_all}
use Rattle.commit_graph.proofs.ancestors.Ancestors.of.Goals as goal

pub returns-clause-left : goal.returns-clause-left
returns-clause-left c =
    let g = c.args.graph.now in
    let id = c.args.id.now in
    let one : c.insert.new.self.keys ≡ place_of g id ∷ [] =
    c.in_ok-insert.ensures.keys ∙ ap (λ ks. insert_key by_place ks c.place_of.result) c.new-front.ensures.empty
    ∙ ap (λ (p : Place). p ∷ []) c.place_of.ensures.place in
    left_all g id c.insert.new.self.keys one
