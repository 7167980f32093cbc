use Rattle.pair_format.specs.Keys.{key_value}
use Rattle.pair_trees.proofs.SpelledLemmas.{answered, none_there}
use Rattle.std.proofs.Common.{subst, ◌∙◌}
use Rattle.pair_trees.specs.Spelled.{HasNoKey, IsKeyAt}
use Rattle.pair_trees.proofs.spelled.SpelledPairs.find.Goals as goal

pub returns-in-Some : goal.returns-in-Some
returns-in-Some c =
    let pairs = c.self.inside.pairs.now in
    let key = key_value c.args.key.now in
    let at = subst (λ bytes. IsKeyAt pairs bytes c.in-Some.at) (c.as_slice.ensures ∙ c.in_ok-bytes.ensures.spelled) c.in-Some.ensures in
    rw (← c.self.view_is) (answered pairs c.self.inside.things.items c.self.invariant key c.in_ok-bytes.ensures.limits c.in-Some.at at c.index.result.now
    c.index.ensures
    c.as_ref.result c.as_ref.ensures.value)

pub returns : goal.returns
returns c =
    let pairs = c.self.inside.pairs.now in
    let absent = subst (HasNoKey pairs) (c.as_slice.ensures ∙ c.in_ok-bytes.ensures.spelled) c.in-None.ensures in
    rw (← c.self.view_is) (none_there pairs c.self.inside.things.items c.self.invariant (key_value c.args.key.now) c.in_ok-bytes.ensures.limits absent)
