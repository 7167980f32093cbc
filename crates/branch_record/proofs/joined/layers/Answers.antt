use Rattle.std.proofs.Common.{◌∷◌, take, ap, ◌∙◌}
use Rattle.std.proofs.lemmas.List.{take_all}
use Rattle.branch_record.specs.Joined.{layers_under}
use Rattle.branch_record.proofs.JoinedLemmas.{layers_more}
use Rattle.branch_record.proofs.joined.layers.Goals as goal

pub loop-token-preserved : goal.loop-token-preserved
loop-token-preserved c =
    c.in_ok-push-2.ensures.items
    ∙ layers_more c.args.tokens.now.changes c.args.newest c.args.older.now c.loop-token.token-index c.loop-token.layers.items
    c.changes_of-in-loop-token.result c.loop-token-test.true c.loop-token.invariant c.changes_of-in-loop-token.ensures

pub returns : goal.returns
returns c =
    c.loop-token.invariant
    ∙ ap (λ l. layers_under c.args.tokens.now.changes (c.args.newest ∷ l)) (take_all c.loop-token.token-index c.args.older.now c.loop-token-test.false)
