use Rattle.std.proofs.Common.{◌≡◌, ap, ◌∙◌}
use Rattle.lake_values.specs.Reset.{changes_after_reset}
use Rattle.branch_record.specs.Tokens.{TokensValue, changes_under, with_changes}
use Rattle.branch_record.specs.TokenRows.{tokens_of, with_waiting}
use Rattle.branch_record.proofs.RowsLemmas.{reset_waiting}
use Rattle.branch_record.proofs.tokens.Tokens.reset.Goals as goal

pub returns : goal.returns
returns c =
    let token = c.args.token in
    let what = c.args.what.now in
    let t = tokens_of c.self.inside.changes.entries in
    let old : with_waiting c.self.inside.waiting t ≡ c.args.self.now.changes = ap (λ (x : TokensValue). x.changes) c.self.view_is in
    let put = c.drop_if_empty.ensures ∙ c.reset_in_place.ensures in
    (λ i. with_waiting (c.reset_waiting.ensures i) (put i)) ∙ reset_waiting t c.self.inside.waiting token what
    ∙ ap (λ m. with_changes m token (changes_after_reset what (changes_under m token))) old
