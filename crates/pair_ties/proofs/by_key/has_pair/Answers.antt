use Rattle.std.proofs.Common.{IsTrue, ◌↔◌, ◌∙◌, subst, sym}
use Rattle.pair_format.specs.Keys.{key_value}
use Rattle.pair_ties.specs.BrokenPairs.{HasPair}
use Rattle.pair_ties.proofs.KeyLemmas.{told_pair}
use Rattle.pair_ties.proofs.by_key.has_pair.Goals as goal

pub returns : goal.returns
returns c =
    let key = key_value c.args.key.now in
    subst (λ b. IsTrue b ↔ HasPair c.args.raw.now key) (sym c.is_ok.ensures.value)
    (told_pair c.args.raw.now key _ (c.as_slice.ensures ∙ c.in_ok-bytes.ensures.spelled) c.search.result c.search.ensures)
