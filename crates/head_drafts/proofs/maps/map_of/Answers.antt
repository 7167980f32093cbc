use Rattle.std.proofs.Common.{◌++◌, ap, sym, ◌∙◌, append-nil}
use Rattle.std.specs.FinMap.{from_sorted}
use Rattle.lake_base.proofs.MapsLemmas.{same_again}
use Rattle.head_drafts.proofs.maps.map_of.Goals as goal

pub returns : goal.returns
returns c =
    let rows = c.loop-path.rows.items in
    let all = sym (append-nil rows) ∙ ap (λ left. rows ++ left) (sym c.in_default.ensures.entry.0) ∙ c.loop-path.invariant in
    c.from_vec.ensures ∙ ap from_sorted all ∙ same_again c.args.tree.now.map
