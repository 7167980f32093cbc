use Rattle.std.proofs.Common.{◌≡◌, ◌+◌, drop, get_or, None, ap, sym, ◌∙◌}
use Rattle.std.specs.Option.{option_or, option_copied}
use Rattle.std.specs.FinMap.{get}
use Rattle.branch_record.specs.Tokens.{changes_under}
use Rattle.branch_record.specs.Looking.{first_change}
use Rattle.branch_record.proofs.LayersLemmas.{said_from, said_past}
use Rattle.branch_record.proofs.looking.said_by.Goals as goal

pub returns-in-Some : goal.returns-in-Some
returns-in-Some c =
    let t = c.args.tokens.now.changes in
    let i = c.loop-token.token-index in
    let path = c.args.path.now in
    ap (λ o. option_or o (first_change t (drop (i + 1) c.args.named.now) path)) c.in-Some.ensures
    ∙ sym (said_from t c.args.named.now i path c.loop-token-test.true) ∙ c.loop-token.invariant

pub loop-token-preserved : goal.loop-token-preserved
loop-token-preserved c =
    let t = c.args.tokens.now.changes in
    let i = c.loop-token.token-index in
    let path = c.args.path.now in
    let none : None ≡ get (changes_under t (get_or c.args.named.now i 0)) path = sym (ap option_copied c.in_default.is) ∙ c.get.ensures in
    ap (λ o. option_or o (first_change t (drop (i + 1) c.args.named.now) path)) none
    ∙ sym (said_from t c.args.named.now i path c.loop-token-test.true) ∙ c.loop-token.invariant

pub returns : goal.returns
returns c = sym (said_past c.args.tokens.now.changes c.args.named.now c.loop-token.token-index c.args.path.now c.loop-token-test.false) ∙ c.loop-token.invariant
