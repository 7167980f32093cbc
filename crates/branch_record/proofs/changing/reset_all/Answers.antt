use Rattle.std.proofs.Common.{get_or, take, ap, sym, ◌∙◌}
use Rattle.std.proofs.lemmas.List.{take_more}
use Rattle.lake_values.specs.Reset.{changes_after_reset}
use Rattle.branch_record.specs.Tokens.{changes_under, with_changes, with_each}
use Rattle.branch_record.proofs.TokensLemmas.{changed_none, changed_last, place_apart}
use Rattle.branch_record.proofs.changing.reset_all.Goals as goal

pub loop-token-init : goal.loop-token-init
loop-token-init c = sym (changed_none (changes_after_reset c.args.what.now) c.args.tokens.now.changes)

pub loop-token-preserved : goal.loop-token-preserved
loop-token-preserved c =
    let f = changes_after_reset c.args.what.now in
    let old = c.args.tokens.now.changes in
    let named = c.args.named.now in
    let i = c.loop-token.token-index in
    let token = get_or named i 0 in
    c.reset.ensures ∙ ap (λ m. with_changes m token (f (changes_under m token))) c.loop-token.invariant
    ∙ changed_last f old (take i named) token (place_apart named i c.requires c.loop-token-test.true)
    ∙ ap (λ l. with_each l f old) (sym (take_more named i 0 c.loop-token-test.true))
