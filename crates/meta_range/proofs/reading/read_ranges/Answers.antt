use Rattle.std.proofs.Common.{[], length, ap, sym, subst, ◌∙◌, take, drop, ◌+◌}
use Rattle.std.proofs.lemmas.List.{take_all}
use Rattle.std.proofs.lemmas.Result.{err_from_is_err_and}
use Rattle.meta_range.specs.TreeReading.{Fails, read_range, read_ranges, AreRead}
use Rattle.meta_range.proofs.ReadingLemmas.{goes_on, ends, is_done, read_more}
use Rattle.meta_range.proofs.reading.read_ranges.Goals as goal

pub returns-in_err-read_range-clause-reads : goal.returns-in_err-read_range-clause-reads
returns-in_err-read_range-clause-reads c =
    let p = err_from_is_err_and c.from_residual.result c.from_residual.ensures.1 in
    let fault = c.in_err-read_range.field-0.0 in
    let line = c.line-item.result in
    let failed =
    subst (λ before. Fails fault (read_range c.args.given.now (length before) line)) c.as_slice-at.ensures.value c.in_err-read_range.ensures.reads in
    rw (p.1, p.2) (ends fault c.args.given.now c.loop-line.ranges.items c.args.lines.now c.loop-line.line-index line
    (read_ranges c.args.given.now [] c.args.lines.now) c.loop-line-test.true c.line-item.is failed c.loop-line.invariant.reads)

pub loop-line-preserved : goal.loop-line-preserved
loop-line-preserved c =
    let line = c.line-item.result in
    let range = c.in_ok-read_range.field-0 in
    let here = ap (λ before. read_range c.args.given.now (length before) line) (sym c.as_slice-at.ensures.value) ∙ c.in_ok-read_range.ensures.reads in
    record {
      reads = ap (λ before. read_ranges c.args.given.now before (drop (c.loop-line.line-index + 1) c.args.lines.now)) c.in_ok-push.ensures.items
          ∙ goes_on c.args.given.now c.loop-line.ranges.items c.args.lines.now c.loop-line.line-index line range
          (read_ranges c.args.given.now [] c.args.lines.now) c.loop-line-test.true c.line-item.is here c.loop-line.invariant.reads;
      found = subst (AreRead c.args.given.now (take (c.loop-line.line-index + 1) c.args.lines.now)) (sym c.in_ok-push.ensures.items)
          (read_more c.args.given.now c.args.lines.now c.loop-line.line-index line c.loop-line.ranges.items range c.loop-line-test.true c.line-item.is
          c.loop-line.invariant.found c.in_ok-read_range.ensures.found);
      shelf = c.in_ok-read_range.ensures.shelf;
    }

pub returns-clause-reads : goal.returns-clause-reads
returns-clause-reads c = is_done c.args.given.now c.loop-line.ranges.items c.args.lines.now c.loop-line.line-index
    (read_ranges c.args.given.now [] c.args.lines.now) c.loop-line-test.false c.loop-line.invariant.reads

pub returns-clause-found : goal.returns-clause-found
returns-clause-found c = subst (λ lines. AreRead c.args.given.now lines c.loop-line.ranges.items)
    (take_all c.loop-line.line-index c.args.lines.now c.loop-line-test.false) c.loop-line.invariant.found
