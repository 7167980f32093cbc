use Rattle.std.proofs.Common.{None, refl, sym, ◌∙◌}
use Rattle.branch_record.proofs.RowsLemmas.{rows_same, none_kept}
use Rattle.branch_record.proofs.tokens.drop_if_empty.Goals as goal

pub returns-then-not-has_in_place : goal.returns-then-not-has_in_place
returns-then-not-has_in_place c =
    rows_same c.args.changes.now.entries c.remove-under.new.self.entries c.args.token None c.remove-under.ensures.updates.0 refl
    (none_kept _ (sym c.has_in_place.ensures ∙ c.if-not-has_in_place.true))
