use Rattle.std.proofs.Common.{◌≡◌, true, false, ◌+◌, ◌++◌, length, refl, ap, sym, ◌∙◌, arith}
use Rattle.std.specs.Option.{option_copied}
use Rattle.std.proofs.lemmas.Bool.{eqb-true, eq-eqb, ltb-true, lt-ltb}
use Rattle.lake_format.specs.Spelling.{row_spelling}
use Rattle.lake_format.proofs.CutLemmas.{scanned_none}
use Rattle.lake_format.specs.Cutting.{is_break}
use Rattle.range_file.specs.Rows.{RowValue}
use Rattle.meta_range.proofs.FirstLemmas.{first_full, first_break, first_more, first_ends, first_goes_on, first_alone}
use Rattle.meta_range.proofs.reading.is_first.Goals as goal

pub returns-then-len-room : goal.returns-then-len-room
returns-then-len-room c = λ more begins.
    let row = c.index-rows-at.result in
    let long = c.row_len-len.ensures.bytes ∙ ap (λ (r : RowValue). length (row_spelling r)) c.row.view_is in (
      λ no. absurd cc,
      λ whole. absurd (first_full c.args.cut.now c.args.rows.now more c.loop-at.at c.loop-at.room c.row_len-len.result row
          (c.loop-at.invariant more) c.loop-at-test.true c.index-rows-at.is long (omega arith) (omega arith) whole),
    )

pub returns-then-is_break : goal.returns-then-is_break
returns-then-is_break c = λ more begins.
    let row = c.index-rows-at.result in
    let long = c.row_len-len.ensures.bytes ∙ ap (λ (r : RowValue). length (row_spelling r)) c.row.view_is in
    let break : is_break c.args.cut.now row.0 ≡ true =
    ap (λ (r : RowValue). is_break c.args.cut.now r.0) (sym c.row.view_is) ∙ sym c.is_break.ensures ∙ c.if-is_break.true in
    let ends = first_break c.args.cut.now c.args.rows.now more c.loop-at.at c.loop-at.room c.row_len-len.result row (c.loop-at.invariant more)
    c.loop-at-test.true c.index-rows-at.is long (λ some. omega (arith, c.else-at-gt0.either)) break in (
      λ same. sym (eqb-true (c.loop-at.at + 1) (length c.args.rows.now) same) ∙ ends,
      λ whole. eq-eqb (c.loop-at.at + 1) (length c.args.rows.now) (ends ∙ sym whole),
    )

pub loop-at-preserved : goal.loop-at-preserved
loop-at-preserved c = λ more.
    let row = c.index-rows-at.result in
    let long = c.row_len-len.ensures.bytes ∙ ap (λ (r : RowValue). length (row_spelling r)) c.row.view_is in
    let whole : is_break c.args.cut.now row.0 ≡ false =
    ap (λ (r : RowValue). is_break c.args.cut.now r.0) (sym c.row.view_is) ∙ sym c.is_break.ensures ∙ c.if-is_break.false in
    rw c.saturating_sub-room.ensures
    (first_more c.args.cut.now c.args.rows.now more c.loop-at.at c.loop-at.room c.row_len-len.result row (c.loop-at.invariant more) c.loop-at-test.true
    c.index-rows-at.is long (λ some. omega (arith, c.else-at-gt0.either)) whole)

pub loop-at-init : goal.loop-at-init
loop-at-init c = λ more. scanned_none c.args.cut.now (c.args.rows.now ++ more)

pub returns-in-None : goal.returns-in-None
returns-in-None c = λ more begins.
    let is = first_alone c.args.cut.now c.args.rows.now more c.loop-at.at c.loop-at.room (c.loop-at.invariant more) c.loop-at-test.false
    (begins ∙ ap option_copied c.in-None.is) in
    (λ yes. is, λ whole. refl)

pub returns-in-Some : goal.returns-in-Some
returns-in-Some c = λ more begins.
    let row = c.in-Some.row.now in
    let first = begins ∙ ap option_copied c.in-Some.is in
    let long = c.row_len.ensures.bytes ∙ ap (λ (r : RowValue). length (row_spelling r)) c.row-in-Some.view_is in
    let end : c.loop-at.at ≡ length c.args.rows.now = omega (arith, c.loop-at-test.false, c.loop-at.auto.at-end) in (
      λ over. first_ends c.args.cut.now c.args.rows.now more c.loop-at.at c.loop-at.room c.row_len.result row (c.loop-at.invariant more) end c.requires.some
          first long (ltb-true c.loop-at.room c.row_len.result over),
      λ whole. lt-ltb c.loop-at.room c.row_len.result
          (first_goes_on c.args.cut.now c.args.rows.now more c.loop-at.at c.loop-at.room c.row_len.result row (c.loop-at.invariant more) end first long whole),
    )
