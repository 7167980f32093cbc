use Rattle.std.proofs.Common.{ap, sym, ◌∙◌}
use Rattle.std.specs.Option.{is_some}
use Rattle.lake_values.specs.Reset.{changes_after_reset}
use Rattle.branch_record.specs.Tokens.{with_changes}
use Rattle.branch_record.specs.TokenRows.{tokens_of}
use Rattle.branch_record.proofs.RowsLemmas.{rows_written, reset_absent}
use Rattle.branch_record.proofs.tokens.reset_in_place.Goals as goal

pub returns-in_default : goal.returns-in_default
returns-in_default c =
    ap (λ m. tokens_of m.entries) c.get_mut.follows.holds-at-none
    ∙ reset_absent c.args.changes.now.entries c.args.token c.args.what.now c.in_default.ensures.value

pub returns : goal.returns
returns c =
    let rows = c.args.changes.now.entries in
    let written = (c.get_mut.follows.holds c.reset.new.self).3 (sym (ap is_some c.in-Some.ensures.value)) in
    let both =
    rows_written rows (c.get_mut.follows.lender c.reset.new.self).entries c.args.token c.in-Some.under.now c.reset.new.self c.in-Some.ensures.value written.0 in
    both.1 ∙ ap (with_changes (tokens_of rows) c.args.token) (c.reset.ensures ∙ ap (changes_after_reset c.args.what.now) both.0)
