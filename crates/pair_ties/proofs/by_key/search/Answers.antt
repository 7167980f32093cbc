use Rattle.std.proofs.Common.{rules}
use Rattle.std.proofs.lemmas.Fn.{always_returns_same}
use Rattle.lake_base.specs.Maps.{byte_order}
use Rattle.pair_trees.proofs.SpelledLemmas.{searched_pairs}
use Rattle.pair_ties.proofs.by_key.search.Goals as goal

pub returns : goal.returns
returns c =
    let found = c.binary_search_by.ensures in
    let by_key = found.position (λ pair. byte_order pair.key c.args.key.now) (always_returns_same _ _ _ (λ a r f k. search rules)) in
    searched_pairs c.args.raw.now c.args.key.now c.binary_search_by.result c.requires found.bound by_key
