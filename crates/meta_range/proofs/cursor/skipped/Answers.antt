use Rattle.std.proofs.Common.{◌<◌, ◌++◌, length, ap, sym, subst, ◌∙◌}
use Rattle.lake_format.proofs.CutLemmas.{some_left, none_left}
use Rattle.meta_range.specs.Ranges.{rows_of}
use Rattle.meta_range.proofs.RangesLemmas.{ascend_front, ascend_back}
use Rattle.meta_range.proofs.CursorLemmas.{rows_stay, rows_gone, left_from}
use Rattle.meta_range.proofs.cursor.skipped.Goals as goal

pub rows_from-rows-requires : goal.rows_from-rows-requires
rows_from-rows-requires c = ascend_front c.args.rows.now (rows_of c.args.ranges.now) c.requires.ascend

pub ranges_from-requires-clause-ascend : goal.ranges_from-requires-clause-ascend
ranges_from-requires-clause-ascend c = ascend_back c.args.rows.now (rows_of c.args.ranges.now) c.requires.ascend

pub returns-then-not-is_empty-clause-from : goal.returns-then-not-is_empty-clause-from
returns-then-not-is_empty-clause-from c =
    let least = c.args.least.now in
    let rows = c.args.rows.now in
    let more = rows_of c.args.ranges.now in
    let some = some_left c.rows_from-rows.result.now c.is_empty.result c.is_empty.ensures c.if-not-is_empty.true in
    ap (λ l. l ++ more) c.rows_from-rows.ensures ∙ rows_stay least rows more c.requires.ascend (subst (λ l. 0 < length l) c.rows_from-rows.ensures some)

pub returns-then-not-is_empty-clause-left : goal.returns-then-not-is_empty-clause-left
returns-then-not-is_empty-clause-left c =
    let least = c.args.least.now in
    let rows = c.args.rows.now in
    let more = rows_of c.args.ranges.now in
    let some = some_left c.rows_from-rows.result.now c.is_empty.result c.is_empty.ensures c.if-not-is_empty.true in
    let from =
    ap (λ l. l ++ more) c.rows_from-rows.ensures ∙ rows_stay least rows more c.requires.ascend (subst (λ l. 0 < length l) c.rows_from-rows.ensures some) in
    left_from least (rows ++ more) c.rows_from-rows.result.now c.args.ranges.now c.requires.ascend from c.requires.each

pub returns-clause-from : goal.returns-clause-from
returns-clause-from c =
    let gone = none_left c.rows_from-rows.result.now c.is_empty.result c.is_empty.ensures c.if-not-is_empty.false in
    c.ranges_from.ensures.from ∙ rows_gone c.args.least.now c.args.rows.now (rows_of c.args.ranges.now) (sym c.rows_from-rows.ensures ∙ gone)

pub returns-clause-left : goal.returns-clause-left
returns-clause-left c =
    let least = c.args.least.now in
    let rows = c.args.rows.now in
    let more = rows_of c.args.ranges.now in
    let gone = none_left c.rows_from-rows.result.now c.is_empty.result c.is_empty.ensures c.if-not-is_empty.false in
    let from = c.ranges_from.ensures.from ∙ rows_gone least rows more (sym c.rows_from-rows.ensures ∙ gone) in
    left_from least (rows ++ more) c.ranges_from.result.0.now c.ranges_from.result.1.now c.requires.ascend from c.ranges_from.ensures.each
