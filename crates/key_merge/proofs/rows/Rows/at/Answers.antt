use Rattle.std.proofs.Common.{◌≡◌, [], ◌∷◌, true, false, ap, sym, ◌∙◌}
use Rattle.std.specs.Option.{option_copied}
use Rattle.std.specs.Str.{bytes_eq}
use Rattle.range_file.specs.Rows.{RowValue}
use Rattle.key_merge.specs.MergeWalk.{rows_ahead}
use Rattle.key_merge.proofs.RowsLemmas.{at_end, at_other, at_it, ahead_of, is_not, is_so}
use Rattle.key_merge.proofs.rows.Rows.at.Goals as goal

pub returns-in_err-first-clause-found : goal.returns-in_err-first-clause-found
returns-in_err-first-clause-found c =
    let none : c.pass_below.new.self ≡ [] = sym c.self.view_is ∙ ap (λ first. rows_ahead first c.self.inside.after) (c.in_err-first.was {u = tt}) in
    ap option_copied c.from_residual.ensures
    ∙ (at_end c.args.path.now c.args.self.now c.pass_below.new.self c.pass_below.ensures.ascend c.pass_below.ensures.from none).found_is

pub returns-in_err-first-clause-left : goal.returns-in_err-first-clause-left
returns-in_err-first-clause-left c =
    let none : c.pass_below.new.self ≡ [] = sym c.self.view_is ∙ ap (λ first. rows_ahead first c.self.inside.after) (c.in_err-first.was {u = tt}) in
    (at_end c.args.path.now c.args.self.now c.pass_below.new.self c.pass_below.ensures.ascend c.pass_below.ensures.from none).left_is

pub returns-then-ne-clause-found : goal.returns-then-ne-clause-found
returns-then-ne-clause-found c =
    let path = c.args.path.now in
    let after = c.self.inside.after in
    let row : RowValue = (c.in_ok-first.first.now, c.in_ok-first.entry.now) in
    let whole : c.pass_below.new.self ≡ row ∷ after = sym c.self.view_is ∙ ap (λ first. rows_ahead first after) (c.in_ok-first.was {u = tt}) in
    let other : bytes_eq row.0 path ≡ false = is_not _ (sym c.ne.ensures ∙ c.if-ne.true) in
    (at_other path c.args.self.now c.pass_below.new.self c.pass_below.ensures.ascend c.pass_below.ensures.from row after whole other).found_is

pub returns-then-ne-clause-left : goal.returns-then-ne-clause-left
returns-then-ne-clause-left c =
    let path = c.args.path.now in
    let after = c.self.inside.after in
    let row : RowValue = (c.in_ok-first.first.now, c.in_ok-first.entry.now) in
    let whole : c.pass_below.new.self ≡ row ∷ after = sym c.self.view_is ∙ ap (λ first. rows_ahead first after) (c.in_ok-first.was {u = tt}) in
    let other : bytes_eq row.0 path ≡ false = is_not _ (sym c.ne.ensures ∙ c.if-ne.true) in
    (at_other path c.args.self.now c.pass_below.new.self c.pass_below.ensures.ascend c.pass_below.ensures.from row after whole other).left_is

pub returns-clause-found : goal.returns-clause-found
returns-clause-found c =
    let path = c.args.path.now in
    let after = c.self.inside.after in
    let row : RowValue = (c.in_ok-first.first.now, c.in_ok-first.entry.now) in
    let whole : c.pass_below.new.self ≡ row ∷ after = sym c.self.view_is ∙ ap (λ first. rows_ahead first after) (c.in_ok-first.was {u = tt}) in
    let same : bytes_eq row.0 path ≡ true = is_so _ (sym c.ne.ensures ∙ c.if-ne.false) in
    (at_it path c.args.self.now c.pass_below.new.self c.pass_below.ensures.ascend c.pass_below.ensures.from row after whole same).found_is

pub returns-clause-left : goal.returns-clause-left
returns-clause-left c =
    let path = c.args.path.now in
    let after = c.self.inside.after in
    let row : RowValue = (c.in_ok-first.first.now, c.in_ok-first.entry.now) in
    let whole : c.pass_below.new.self ≡ row ∷ after = sym c.self.view_is ∙ ap (λ first. rows_ahead first after) (c.in_ok-first.was {u = tt}) in
    let same : bytes_eq row.0 path ≡ true = is_so _ (sym c.ne.ensures ∙ c.if-ne.false) in
    ahead_of c.next-self-inside.result after c.next-self-inside.new.self c.next-self-inside.ensures.entry
    ∙ (at_it path c.args.self.now c.pass_below.new.self c.pass_below.ensures.ascend c.pass_below.ensures.from row after whole same).left_is
