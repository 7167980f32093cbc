use Rattle.std.proofs.Common.{arith}
use Rattle.lake_format.specs.Spelling.{row_spelling, IsRow}
use Rattle.lake_base.proofs.ListLemmas.{flat_more, all_more}
use Rattle.plain_reference.proofs.files.put_rows.Goals as goal

pub loop-path-preserved : goal.loop-path-preserved
loop-path-preserved c = record {
  written =
      flat_more row_spelling c.args.out.now.items c.loop-path.out.items c.put_row.new.out.items c.args.rows.now c.loop-path.path-index c.loop-path-item.result
      (omega arith) c.loop-path-item.is c.loop-path.invariant.written c.in_ok-put_row.ensures.spelled;
  limits = all_more IsRow c.args.rows.now c.loop-path.path-index c.loop-path-item.result (omega arith) c.loop-path-item.is c.loop-path.invariant.limits
      c.in_ok-put_row.ensures.limits;
}
