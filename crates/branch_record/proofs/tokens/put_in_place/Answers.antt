use Rattle.std.proofs.Common.{ap, sym, ◌∙◌}
use Rattle.std.specs.Option.{is_some}
use Rattle.std.specs.FinMap.{insert}
use Rattle.std.proofs.lemmas.Result.{on_ok_weaker, on_err_weaker}
use Rattle.branch_record.specs.Tokens.{with_changes, with_change}
use Rattle.branch_record.specs.TokenRows.{tokens_of}
use Rattle.branch_record.proofs.RowsLemmas.{rows_written, with_same, with_change_is}
use Rattle.branch_record.proofs.tokens.put_in_place.Goals as goal

pub returns-clause-put : goal.returns-clause-put
returns-clause-put c =
    let rows = c.make_place.new.changes.entries in
    let written = (c.get_mut.follows.holds c.set.new.self).3 (sym (ap is_some c.in-Some.ensures.value)) in
    let both =
    rows_written rows (c.get_mut.follows.lender c.set.new.self).entries c.args.token c.in-Some.under.now c.set.new.self c.in-Some.ensures.value written.0 in
    on_ok_weaker c.set.result (λ e.
    both.1
    ∙ ap (with_changes (tokens_of rows) c.args.token) (e ∙ ap (λ m. insert m c.args.path c.args.change) both.0)
    ∙ sym (with_change_is (tokens_of rows) c.args.token c.args.path c.args.change)
    ∙ ap (λ m. with_change m c.args.token c.args.path c.args.change) c.make_place.ensures.same) c.set.ensures.set

pub returns-clause-unchanged : goal.returns-clause-unchanged
returns-clause-unchanged c =
    let rows = c.make_place.new.changes.entries in
    let written = (c.get_mut.follows.holds c.set.new.self).3 (sym (ap is_some c.in-Some.ensures.value)) in
    let both =
    rows_written rows (c.get_mut.follows.lender c.set.new.self).entries c.args.token c.in-Some.under.now c.set.new.self c.in-Some.ensures.value written.0 in
    on_err_weaker c.set.result (λ e.
    both.1 ∙ ap (with_changes (tokens_of rows) c.args.token) (e ∙ both.0) ∙ with_same rows c.args.token ∙ c.make_place.ensures.same) c.set.ensures.unchanged
