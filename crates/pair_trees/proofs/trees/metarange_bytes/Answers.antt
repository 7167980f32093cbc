use Rattle.std.proofs.Common.{List, ℕ, Some, ap, sym, ◌∙◌}
use Rattle.pair_trees.proofs.FoundLemmas.{at_none, at_some}
use Rattle.pair_trees.proofs.TreesLemmas.{metarange_named, no_metarange}
use Rattle.pair_trees.proofs.trees.metarange_bytes.Goals as goal

pub returns-in-Some : goal.returns-in-Some
returns-in-Some c =
    ap (λ (bytes : List ℕ). Some bytes) c.as_slice.ensures
    ∙ sym (metarange_named c.args.pairs.now c.args.name.now c.in-Some.bytes.now
    (at_some _ _ c.in_ok-bytes.field-0 c.in-Some.bytes c.in_ok-bytes.ensures c.in-Some.is))

pub returns-in-None : goal.returns-in-None
returns-in-None c = sym (no_metarange c.args.pairs.now c.args.name.now (at_none _ _ c.in_ok-bytes.field-0 c.in_ok-bytes.ensures c.in-None.is))
