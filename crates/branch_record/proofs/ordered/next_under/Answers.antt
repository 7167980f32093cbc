use Rattle.std.proofs.Common.{◌≡◌, true, false, sym, subst}
use Rattle.std.specs.Prelude.{nat_eq}
use Rattle.std.specs.List.{starts_with}
use Rattle.branch_record.specs.TokenRows.{IsUnder}
use Rattle.branch_record.proofs.PrefixLemmas.{none_found, one_found, other_found}
use Rattle.branch_record.proofs.ordered.next_under.Goals as goal

pub returns-in_ok-copy-in-Some : goal.returns-in_ok-copy-in-Some
returns-in_ok-copy-in-Some c =
    let m = c.args.rows.now in
    let prefix = c.args.prefix.now in
    let begins : starts_with nat_eq c.in-Some.path.now prefix ≡ true = cc in
    subst (IsUnder prefix m.entries) (sym c.in_ok-copy-in-Some.ensures.equal)
    (one_found m prefix c.range.result (c.range.ensures.in_range tt)
    (c.in-Some.path.now, c.in-Some.field-0-1.now) c.next.new.self c.in-Some.ensures.steps begins)

pub returns-else-starts_with : goal.returns-else-starts_with
returns-else-starts_with c =
    let m = c.args.rows.now in
    let prefix = c.args.prefix.now in
    let begins : starts_with nat_eq c.in-Some.path.now prefix ≡ false = cc in
    other_found m prefix c.range.result (c.range.ensures.in_range tt)
    (c.in-Some.path.now, c.in-Some.field-0-1.now) c.next.new.self c.in-Some.ensures.steps begins

pub returns-in-None : goal.returns-in-None
returns-in-None c = none_found c.args.rows.now c.args.prefix.now c.range.result (c.range.ensures.in_range tt) c.in-None.ensures.steps.0
