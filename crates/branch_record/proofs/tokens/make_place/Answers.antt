use Rattle.std.proofs.Common.{Some, ap, sym, ◌∙◌}
use Rattle.branch_record.proofs.TokensLemmas.{kept, kept_empty}
use Rattle.branch_record.proofs.RowsLemmas.{rows_same, absent_kept}
use Rattle.branch_record.proofs.tokens.make_place.Goals as goal

pub returns-clause-same : goal.returns-clause-same
returns-clause-same c =
    rows_same c.args.changes.now.entries c.insert.new.self.entries c.args.token (Some c.new.result) c.in_ok-insert.ensures.updates.0
    (ap kept c.new.ensures ∙ kept_empty)
    (absent_kept _ (sym c.contains_key.ensures ∙ c.if-contains_key.false))
