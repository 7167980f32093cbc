use Rattle.meta_range.proofs.TrioLemmas.{agree_exactly}
use Rattle.meta_range.proofs.trio.Trio.agrees.Goals as goal

pub returns : goal.returns
returns c =
    let base = c.named_ranges in
    let source = c.named_ranges-2 in
    let dest = c.named_ranges-3 in
    rw (c.match_all.ensures, base.ensures.ranges, source.ensures.ranges, dest.ensures.ranges)
    (agree_exactly base.result.now source.result.now dest.result.now base.ensures.valid.each source.ensures.valid.each dest.ensures.valid.each)
