use Rattle.std.proofs.Common.{◌≡◌, ◌+◌, ◌++◌, List, length, drop, refl, sym, subst, ◌∙◌}
use Rattle.lake_format.specs.Cutting.{first_len}
use Rattle.range_file.specs.Rows.{RowValue}
use Rattle.meta_range.specs.Ranges.{rows_of}
use Rattle.meta_range.specs.TreeReading.{not_cut}
use Rattle.meta_range.proofs.FirstLemmas.{stray_here, stray_later, stray_none}
use Rattle.meta_range.proofs.reading.not_cut.Goals as goal

pub loop-at-init : goal.loop-at-init
unfolding not_cut
loop-at-init c = refl

pub loop-at-preserved : goal.loop-at-preserved
loop-at-preserved c =
    let cut = c.args.cut.now in
    let read = c.args.ranges.now in
    let range = c.index-ranges-at.result in
    let more = rows_of (drop (c.loop-at.at + 1) read) in
    let same = (c.is_first.ensures more (sym c.first_row_from.ensures)).0 c.if-not-is_first.false in
    stray_later cut read c.loop-at.at range (not_cut cut read) c.loop-at-test.true c.index-ranges-at.is c.rows.ensures.valid.some c.loop-at.invariant
    (subst (λ (rows : List RowValue). length rows ≡ first_len cut (rows ++ more)) c.rows.ensures.rows same)

pub returns-then-not-is_first : goal.returns-then-not-is_first
returns-then-not-is_first c =
    let cut = c.args.cut.now in
    let read = c.args.ranges.now in
    let range = c.index-ranges-at.result in
    let more = rows_of (drop (c.loop-at.at + 1) read) in
    let tells = (c.is_first.ensures more (sym c.first_row_from.ensures)).1 in
    stray_here cut read c.loop-at.at range (not_cut cut read) c.loop-at-test.true c.index-ranges-at.is c.rows.ensures.valid.some c.loop-at.invariant
    (λ same. absurd
    (cc (sym c.if-not-is_first.true ∙ tells (subst (λ (rows : List RowValue). length rows ≡ first_len cut (rows ++ more)) (sym c.rows.ensures.rows) same))))

pub returns : goal.returns
returns c = stray_none c.args.cut.now c.args.ranges.now c.loop-at.at (not_cut c.args.cut.now c.args.ranges.now) c.loop-at-test.false c.loop-at.invariant
