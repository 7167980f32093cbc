use Rattle.std.proofs.Common.{Some, None, ap, sym, refl, ◌∙◌}
use Rattle.std.specs.FinMap.{get, get-empty}
use Rattle.lake_base.specs.Maps.{byte_order}
use Rattle.branch_record.specs.Tokens.{TokensValue, changes_under}
use Rattle.branch_record.proofs.TokensLemmas.{value}
use Rattle.branch_record.proofs.RowsLemmas.{get_found}
use Rattle.branch_record.proofs.tokens.Tokens.get.Goals as goal

pub returns-in-Some : goal.returns-in-Some
returns-in-Some c =
    let rows = c.self.inside.changes.entries in
    get_found rows c.self.inside.waiting c.args.token c.args.path.now (Some c.in-Some.change.now) _ c.in-Some.ensures refl
    ∙ ap (λ (x : TokensValue). get (changes_under x.changes c.args.token) c.args.path.now) c.self.view_is

pub returns-in-Some-get : goal.returns-in-Some-get
returns-in-Some-get c =
    let rows = c.self.inside.changes.entries in
    get_found rows c.self.inside.waiting c.args.token c.args.path.now None _ c.in-None.ensures
    (c.get-in-Some-get.ensures ∙ ap (λ o. get (value o) c.args.path.now) c.in-Some-get.ensures.value)
    ∙ ap (λ (x : TokensValue). get (changes_under x.changes c.args.token) c.args.path.now) c.self.view_is

pub returns-in-None-get : goal.returns-in-None-get
returns-in-None-get c =
    let rows = c.self.inside.changes.entries in
    get_found rows c.self.inside.waiting c.args.token c.args.path.now None None c.in-None.ensures
    (sym (get-empty byte_order c.args.path.now) ∙ ap (λ o. get (value o) c.args.path.now) c.in-None-get.ensures.value)
    ∙ ap (λ (x : TokensValue). get (changes_under x.changes c.args.token) c.args.path.now) c.self.view_is
