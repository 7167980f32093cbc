use Rattle.std.proofs.Common.{◌∷◌, ◌++◌, length, ap, subst, ◌∙◌, arith}
use Rattle.std.proofs.lemmas.List.{take_all}
use Rattle.std.specs.Int.{w32, to_be_bytes}
use Rattle.std.specs.List.{flat_map}
use Rattle.lake_base.proofs.ListLemmas.{flat_more, all_more}
use Rattle.lake_format.specs.Spelling.{row_spelling, range_spelling, IsRow}
use Rattle.range_file.specs.Rows.{RowValue}
use Rattle.range_file.proofs.encoding.encode.Goals as goal

pub loop-row-preserved : goal.loop-row-preserved
loop-row-preserved c =
    let rows = c.args.rows.now in
    let row = c.row-item.result in
    let at = c.loop-row.row-index in
    let here = c.in_ok-put_row.ensures.spelled ∙ ap (λ (r : RowValue). c.loop-row.out.items ++ row_spelling r) c.row.view_is in
    record {
      written = flat_more row_spelling (1 ∷ to_be_bytes w32 (length rows)) c.loop-row.out.items c.put_row.new.out.items rows at row c.loop-row-test.true
          c.row-item.is c.loop-row.invariant.written here;
      limits =
          all_more IsRow rows at row c.loop-row-test.true c.row-item.is c.loop-row.invariant.limits (subst IsRow c.row.view_is c.in_ok-put_row.ensures.limits);
    }

pub returns-clause-spelled : goal.returns-clause-spelled
unfolding range_spelling
returns-clause-spelled c =
    let rows = c.args.rows.now in
    c.loop-row.invariant.written
    ∙ ap (λ all. (1 ∷ to_be_bytes w32 (length rows)) ++ flat_map row_spelling all) (take_all c.loop-row.row-index rows (omega arith))
