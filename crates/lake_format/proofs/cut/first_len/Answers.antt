use Rattle.std.proofs.Common.{sym, ◌∙◌, arith}
use Rattle.lake_format.proofs.CutLemmas.{IsNextRow, scanned_none, scanned_more, scanned_full, scanned_break, scanned_all}
use Rattle.lake_format.proofs.cut.first_len.Goals as goal

pub loop-at-init : goal.loop-at-init
loop-at-init c = scanned_none c.args.cut.now c.args.rows.now

pub returns-then-len-room : goal.returns-then-len-room
returns-then-len-room c =
    let next : IsNextRow c.args.cut.now c.args.rows.now c.loop-at.at c.row_len-len.result c.index-rows-at.result =
    record { within = c.loop-at-test.true; is = c.index-rows-at.is; len_is = c.row_len-len.ensures.bytes } in
    scanned_full c.args.cut.now c.args.rows.now c.loop-at.at c.loop-at.room c.row_len-len.result c.index-rows-at.result c.loop-at.invariant next (omega arith)
    (omega arith)

pub returns-then-is_break : goal.returns-then-is_break
returns-then-is_break c =
    let next : IsNextRow c.args.cut.now c.args.rows.now c.loop-at.at c.row_len-len.result c.index-rows-at.result =
    record { within = c.loop-at-test.true; is = c.index-rows-at.is; len_is = c.row_len-len.ensures.bytes } in
    scanned_break c.args.cut.now c.args.rows.now c.loop-at.at c.loop-at.room c.row_len-len.result c.index-rows-at.result c.loop-at.invariant next
    (λ some. omega (arith, c.else-at-gt0.either)) (sym c.is_break.ensures ∙ c.if-is_break.true)

pub loop-at-preserved : goal.loop-at-preserved
loop-at-preserved c =
    let next : IsNextRow c.args.cut.now c.args.rows.now c.loop-at.at c.row_len-len.result c.index-rows-at.result =
    record { within = c.loop-at-test.true; is = c.index-rows-at.is; len_is = c.row_len-len.ensures.bytes } in
    rw c.saturating_sub-room.ensures (scanned_more c.args.cut.now c.args.rows.now c.loop-at.at c.loop-at.room c.row_len-len.result c.index-rows-at.result
    c.loop-at.invariant next (λ some. omega (arith, c.else-at-gt0.either)) (sym c.is_break.ensures ∙ c.if-is_break.false))

pub returns : goal.returns
returns c = scanned_all c.args.cut.now c.args.rows.now c.loop-at.at c.loop-at.room c.loop-at.invariant (omega arith)
