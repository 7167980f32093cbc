use Rattle.std.proofs.Common.{ap, ◌∙◌}
use Rattle.std.specs.FinMap.{entries}
use Rattle.branch_record.specs.Tokens.{TokensValue, changes_under}
use Rattle.branch_record.proofs.RowsLemmas.{entries_found}
use Rattle.branch_record.proofs.tokens.Tokens.changes_of.Goals as goal

pub returns : goal.returns
returns c =
    c.new.ensures ∙ entries_found c.self.inside.changes.entries c.self.inside.waiting c.args.token _ _ c.get-under.ensures.value c.waiting_of.ensures
    ∙ ap (λ (x : TokensValue). entries (changes_under x.changes c.args.token)) c.self.view_is
