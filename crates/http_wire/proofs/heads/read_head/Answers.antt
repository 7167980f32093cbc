use Rattle.std.proofs.Common.{◌<◌, arith}
use Rattle.http_wire.proofs.ReadingLemmas.{told, reached_start, head_answer, long_answer, part_more, part_end, part_fault, end_answer}
use Rattle.http_wire.proofs.ReadingLemmas.{search_more, grown_length}
use Rattle.http_wire.proofs.SearchLemmas.{none_at_start}
use Rattle.http_wire.proofs.heads.read_head.Goals as goal

pub reading-init : goal.reading-init
reading-init g c = record {
  search = record { within = omega arith; limit = omega arith; none = none_at_start c.args.buffer.now };
  told = reached_start c.args.buffer.now _;
  later = omega arith;
}

pub reading-preserved : goal.reading-preserved
reading-preserved g c = record {
  search = search_more c.search_on.new.search c.search_on.new.buffer c.fill.new.self c.in-Ok.field-0 c.in-Part.ensures.passes.0 c.in-Ok.ensures.grown;
  told = told _ _ _ (λ left reached. part_more c.args.buffer.now left c.reading.search c.search_on.new.search c.reading.buffer c.search_on.new.buffer _
      reached c.in-Part.ensures.shows c.fill.new.self _ _ c.in-Ok.ensures.reads) c.reading.invariant.told;
  later = omega (arith, c.reading.invariant.later, c.fill.ensures.cause.later);
}

pub returns-in-Head-clause-read : goal.returns-in-Head-clause-read
returns-in-Head-clause-read g c =
    told _ _ _ (λ left reached. head_answer c.args.buffer.now left c.reading.search c.search_on.new.search c.reading.buffer c.search_on.new.buffer _ reached
    c.in-Head.end c.in-Head.ensures.shows) c.reading.invariant.told

pub returns-in-TooLong-clause-read : goal.returns-in-TooLong-clause-read
returns-in-TooLong-clause-read g c =
    told _ _ _ (λ left reached. long_answer c.args.buffer.now left c.reading.search c.search_on.new.search c.reading.buffer c.search_on.new.buffer _ reached
    c.in-TooLong.ensures.shows) c.reading.invariant.told

pub returns-in-Ok-eq0-clause-read : goal.returns-in-Ok-eq0-clause-read
returns-in-Ok-eq0-clause-read g c =
    told _ _ _ (λ left reached. end_answer c.args.buffer.now left c.fill.new.self c.fill.new.self _ _ c.end_fault.ensures
    (part_end c.args.buffer.now left c.reading.search c.search_on.new.search c.reading.buffer c.search_on.new.buffer _ reached
    c.in-Part.ensures.shows c.fill.new.self _ _ c.in-Ok-eq0.ensures.reads c.in-Ok-eq0.field-0-test)) c.reading.invariant.told

pub returns-in-Err-clause-read : goal.returns-in-Err-clause-read
returns-in-Err-clause-read g c =
    told _ _ _ (λ left reached. part_fault c.args.buffer.now left c.reading.search c.search_on.new.search c.reading.buffer c.search_on.new.buffer _ reached
    c.in-Part.ensures.shows c.fill.new.self (g.S.Source.left c.fill.new.source) c.in-Err.fault c.in-Err.ensures.fault) c.reading.invariant.told

pub reading-smaller : goal.reading-smaller
reading-smaller g c =
    let some : 0 < c.in-Ok.field-0 = omega (arith, c.in-Ok.field-0-test.1) in
    omega (
      arith,
      some,
      c.in-Part.ensures.passes.1,
      c.in-Part.ensures.passes.2,
      grown_length c.search_on.new.buffer c.fill.new.self c.in-Ok.field-0
          c.in-Ok.ensures.grown,
    )
