use Rattle.std.proofs.Common.{List, Some, ap, sym, ◌∙◌}
use Rattle.range_file.specs.Rows.{RowValue}
use Rattle.pair_ties.proofs.FilesLemmas.{iff_ok, surely, told_tied, unread_range, untold_range}
use Rattle.pair_ties.proofs.files.is_tied_range.Goals as goal

pub returns-then-not-contains_key : goal.returns-then-not-contains_key
returns-then-not-contains_key c =
    surely _ (untold_range c.args.tables.now.cut c.args.pairs.now c.as_slice.ensures.limits c.as_slice.ensures.apart c.args.at c.args.name.now c.args.bytes.now
    c.requires.here (sym (c.contains_key.ensures ∙ c.requires.tables.ranges c.args.name.now) ∙ c.if-not-contains_key.true))

pub returns-in-Some : goal.returns-in-Some
returns-in-Some c =
    iff_ok _ _ (told_tied c.args.tables.now.cut c.args.pairs.now c.as_slice.ensures.limits c.as_slice.ensures.apart c.args.at c.args.name.now c.args.bytes.now
    c.requires.here c.contains_key-live.result c.rows.result.now
    (sym c.in_ok-range.ensures ∙ c.in-Some.is ∙ ap (λ (rows : List RowValue). Some rows) (sym c.rows.ensures.rows))
    (sym (c.contains_key.ensures ∙ c.requires.tables.ranges c.args.name.now) ∙ c.if-not-contains_key.false)
    (c.contains_key-live.ensures ∙ c.requires.tables.live_ranges c.args.name.now)) c.are_given.result c.are_given.ensures

pub returns-in-None : goal.returns-in-None
returns-in-None c =
    surely _ (unread_range c.args.tables.now.cut c.args.pairs.now c.as_slice.ensures.limits c.as_slice.ensures.apart c.args.at c.args.name.now c.args.bytes.now
    c.requires.here (sym c.in_ok-range.ensures ∙ c.in-None.is))
