use Rattle.std.proofs.Common.{List, ◌∷◌, ◌++◌, length, map, ap, sym, ◌∙◌}
use Rattle.std.proofs.lemmas.List.{take_all}
use Rattle.std.specs.Int.{w32, to_be_bytes}
use Rattle.std.specs.List.{flat_map}
use Rattle.lake_base.proofs.ListLemmas.{flat_more}
use Rattle.lake_format.specs.Spelling.{line_spelling, line_of, metarange_spelling}
use Rattle.range_file.specs.Rows.{RowValue}
use Rattle.meta_range.proofs.RangesLemmas.{flat_of_map, length_map}
use Rattle.meta_range.proofs.metarange.metarange_bytes.Goals as goal

pub loop-range-preserved : goal.loop-range-preserved
loop-range-preserved c =
    let ranges = c.args.ranges.now in
    flat_more (λ (range : List RowValue). line_spelling (line_of range))
    (1 ∷ to_be_bytes w32 (length ranges)) c.loop-range.out.items c.put_line.new.out.items ranges c.loop-range.range-index c.range-item.result
    c.loop-range-test.true c.range-item.is c.loop-range.invariant c.in_ok-put_line.ensures

pub returns : goal.returns
unfolding metarange_spelling
returns c =
    let ranges = c.args.ranges.now in
    let front = 1 ∷ to_be_bytes w32 (length ranges) in
    c.loop-range.invariant
    ∙ ap (λ all. front ++ flat_map (λ (range : List RowValue). line_spelling (line_of range)) all)
    (take_all c.loop-range.range-index ranges c.loop-range-test.false)
    ∙ ap (λ l. front ++ l) (flat_of_map line_spelling line_of ranges)
    ∙ ap (λ n. 1 ∷ (to_be_bytes w32 n ++ flat_map line_spelling (map line_of ranges))) (sym (length_map line_of ranges))
