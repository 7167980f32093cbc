use Rattle.std.proofs.Common.{ap, sym, ◌∙◌}
use Rattle.std.specs.Option.{option_or}
use Rattle.std.specs.FinMap.{get}
use Rattle.branch_record.specs.Tokens.{changes_under}
use Rattle.branch_record.specs.Looking.{first_change}
use Rattle.branch_record.proofs.LayersLemmas.{said_next}
use Rattle.branch_record.proofs.looking.change_said.Goals as goal

pub returns-in-Some : goal.returns-in-Some
returns-in-Some c =
    let t = c.args.tokens.now.changes in
    let r = c.args.branch.now in
    let path = c.args.path.now in
    ap (λ o. option_or o (first_change t r.sealed path)) (c.in-Some.ensures ∙ ap (λ n. get (changes_under t n) path) c.staging.ensures.token)
    ∙ sym (said_next t r.staging r.sealed path)

pub returns-in-None : goal.returns-in-None
returns-in-None c =
    let t = c.args.tokens.now.changes in
    let r = c.args.branch.now in
    let path = c.args.path.now in
    c.said_by.ensures ∙ ap (λ l. first_change t l path) c.sealed.ensures.tokens
    ∙ ap (λ o. option_or o (first_change t r.sealed path)) (c.in-None.ensures ∙ ap (λ n. get (changes_under t n) path) c.staging.ensures.token)
    ∙ sym (said_next t r.staging r.sealed path)
