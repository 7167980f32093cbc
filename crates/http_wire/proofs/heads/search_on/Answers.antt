use Rattle.std.proofs.Common.{◌≡◌, ◌<◌, ◌+◌, ◌-◌, length, arith, ap}
use Rattle.http_wire.proofs.SearchLemmas.{shows_head, shows_too_long, shows_part, passes_all, part_search}
use Rattle.http_wire.proofs.heads.search_on.Goals as goal

pub returns-in-Some-clause-shows : goal.returns-in-Some-clause-shows
returns-in-Some-clause-shows c given was =
    shows_head c.skip_pairs.new.buffer c.held-held.result.now c.split_at.result.0.now c.min.result c.held-held.ensures.same c.split_at.ensures.front
    (omega (arith, c.min.ensures)) given c.skip_pairs.new.search c.in-Some.end
    (omega (arith, c.min.ensures, c.skip_pairs.ensures.search.limit)) c.in-Some.ensures c.skip_pairs.ensures.none (c.skip_pairs.ensures.given given was)

pub returns-in-None-clause-shows : goal.returns-in-None-clause-shows
returns-in-None-clause-shows c given was =
    shows_too_long c.skip_pairs.new.buffer c.held-held.result.now c.split_at.result.0.now c.min.result c.held-held.ensures.same c.split_at.ensures.front
    (omega (arith, c.min.ensures)) given c.skip_pairs.new.search
    (omega (arith, c.min.ensures, c.skip_pairs.ensures.search.limit, c.if-front-search.true, c.split_at.ensures.front_len))
    c.in-None.ensures c.skip_pairs.ensures.none (c.skip_pairs.ensures.given given was)

pub returns-in-None-2-clause-shows : goal.returns-in-None-2-clause-shows
returns-in-None-2-clause-shows c given was =
    let short : c.min.result < 16384 - c.skip_pairs.new.search.skipped = omega
    (arith, c.min.ensures, c.if-front-search.false, c.split_at.ensures.front_len) in
    let all : c.min.result ≡ length c.held-held.result.now = omega (arith, c.min.ensures, short) in
    shows_part given c.skip_pairs.new.buffer c.skip_pairs.new.search _
    (omega (arith, short, all, ap length c.held-held.ensures.same))
    (passes_all c.skip_pairs.new.buffer c.held-held.result.now c.split_at.result.0.now c.min.result c.held-held.ensures.same c.split_at.ensures.front
    (omega (arith, all)) all c.in-None-2.ensures)
    c.skip_pairs.ensures.none (c.skip_pairs.ensures.given given was)

pub returns-in-None-2-clause-passes : goal.returns-in-None-2-clause-passes
returns-in-None-2-clause-passes c =
    let short : c.min.result < 16384 - c.skip_pairs.new.search.skipped = omega
    (arith, c.min.ensures, c.if-front-search.false, c.split_at.ensures.front_len) in
    let all : c.min.result ≡ length c.held-held.result.now = omega (arith, c.min.ensures, short) in
    let limit : c.skip_pairs.new.search.skipped + length c.skip_pairs.new.buffer < 16384 = omega (arith, short, all, ap length c.held-held.ensures.same) in (
      part_search c.skip_pairs.new.buffer c.skip_pairs.new.search.skipped _
          (omega (arith, c.split_at.ensures.front_len, all, ap length c.held-held.ensures.same)) limit
          (passes_all c.skip_pairs.new.buffer c.held-held.result.now c.split_at.result.0.now c.min.result c.held-held.ensures.same c.split_at.ensures.front
          (omega (arith, all)) all c.in-None-2.ensures),
      c.skip_pairs.ensures.total,
      omega (arith, limit, c.skip_pairs.ensures.total),
    )
