use Rattle.std.proofs.Common.{arith}
use Rattle.lake_format.specs.Spelling.{line_spelling, IsSpan, IsLine}
use Rattle.lake_base.proofs.ListLemmas.{flat_more, all_more}
use Rattle.plain_reference.proofs.FilesLineLemmas.{all_at}
use Rattle.plain_reference.proofs.files.put_range_lines.Goals as goal

pub put_range_line-requires : goal.put_range_line-requires
put_range_line-requires c = all_at IsSpan c.args.lines.now c.loop-line.line-index c.line-item.result (omega arith) c.line-item.is c.requires

pub loop-line-preserved : goal.loop-line-preserved
loop-line-preserved c = record {
  written =
      flat_more line_spelling c.args.out.now.items c.loop-line.out.items c.put_range_line.new.out.items c.args.lines.now c.loop-line.line-index
      c.line-item.result
      (omega arith) c.line-item.is c.loop-line.invariant.written c.in_ok-put_range_line.ensures.spelled;
  limits = all_more IsLine c.args.lines.now c.loop-line.line-index c.line-item.result (omega arith) c.line-item.is c.loop-line.invariant.limits
      c.in_ok-put_range_line.ensures.limits;
}
