use Rattle.std.proofs.Common.{◌≡◌, ◌+◌, [], ◌∷◌, true, length, take, drop, ap, sym, ◌∙◌, add-one, arith}
use Rattle.std.proofs.lemmas.List.{take_all, drop_all}
use Rattle.lake_format.specs.Cutting.{segments, is_break}
use Rattle.plain_reference.proofs.SegmentRunLemmas.{unbroken, segment_at, segment_whole}
use Rattle.plain_reference.proofs.segments.first_segment.Goals as goal

pub returns-then-is_break : goal.returns-then-is_break
returns-then-is_break c =
    let cut = c.args.cut.now in
    let rows = c.args.rows.now in
    segment_at cut rows c.loop-at.at c.index-rows-at.result (omega arith) c.loop-at.invariant
    (ap (λ r. is_break cut r.0) (sym c.index-rows-at.is) ∙ sym c.is_break.ensures ∙ c.if-is_break.true)
    ∙ ap (λ n. take n rows ∷ segments cut (drop n rows)) (sym (add-one c.loop-at.at))
    ∙ ap (λ r. r ∷ segments cut (drop (c.loop-at.at + 1) rows)) (sym c.split_at.ensures.front)
    ∙ ap (λ r. c.split_at.result.0.now ∷ segments cut r) (sym c.split_at.ensures.back)

pub returns : goal.returns
returns c =
    let cut = c.args.cut.now in
    let rows = c.args.rows.now in
    let front = c.split_at-2.ensures.front ∙ take_all (length rows) rows (omega arith) in
    let back = c.split_at-2.ensures.back ∙ drop_all (length rows) rows (omega arith) in
    let whole : unbroken cut rows ≡ true = sym (ap (unbroken cut) (take_all c.loop-at.at rows c.loop-at-test.false)) ∙ c.loop-at.invariant in
    segment_whole cut rows c.requires.some whole
    ∙ ap (λ r. r ∷ []) (sym front)
    ∙ ap (λ r. c.split_at-2.result.0.now ∷ segments cut r) (sym back)
