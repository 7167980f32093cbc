use Rattle.std.proofs.Common.{◌≡◌, List, length, nat_lt, take, subst}
use Rattle.std.specs.Prelude.{IfOk}
use Rattle.core_readings.proofs.RowsLemmas.{all_above}
use Rattle.core_readings.proofs.rows.first_told.Goals as goal

pub returns-clause-rows : goal.returns-clause-rows
returns-clause-rows g c =
    subst (λ (rows : List g.row.T-Row.Denot). IfOk c.told_of.result (λ found. found.0 ≡ take c.args.amount rows))
    (all_above g.T.Tell.told c.args.after.now g.K.ByteKey.bytes c.args.map.now c.in_ok-start.start _ _ c.as_slice-after.ensures c.rows_from.ensures
    c.in_ok-start.ensures)
    c.told_of.ensures.rows

pub returns-clause-more : goal.returns-clause-more
returns-clause-more g c =
    subst (λ (rows : List g.row.T-Row.Denot). IfOk c.told_of.result (λ found. found.1 ≡ nat_lt c.args.amount (length rows)))
    (all_above g.T.Tell.told c.args.after.now g.K.ByteKey.bytes c.args.map.now c.in_ok-start.start _ _ c.as_slice-after.ensures c.rows_from.ensures
    c.in_ok-start.ensures)
    c.told_of.ensures.more
