use Rattle.std.proofs.Common.{rules, ◌++◌, length, ap, sym, ◌∙◌}
use Rattle.std.proofs.lemmas.List.Sorted.{IsPartitionPoint-from_clause}
use Rattle.lake_values.specs.Cursor.{entries_from}
use Rattle.meta_range.specs.Ranges.{rows_of}
use Rattle.meta_range.proofs.CursorLemmas.{ends_low, ranges_parted, ranges_sought, none_sought}
use Rattle.meta_range.proofs.cursor.ranges_from.Goals as goal

pub returns-in-None-clause-from : goal.returns-in-None-clause-from
returns-in-None-clause-from c =
    let least = c.args.least.now in
    let ranges = c.args.ranges.now in
    let at = c.partition_point-at.result in
    let point = IsPartitionPoint-from_clause (ends_low least) ranges at c.partition_point-at.ensures.partitioned
    (ranges_parted least ranges c.requires.each c.requires.ascend) (λ a r f k. search rules) in
    ap rows_of c.split_at.ensures.back
    ∙ none_sought least ranges at c.partition_point-at.ensures.bound c.requires.each point.0 (ap length (sym c.split_at.ensures.back) ∙ c.in-None.ensures.cases)

pub returns-in-Some-clause-from : goal.returns-in-Some-clause-from
returns-in-Some-clause-from c =
    let least = c.args.least.now in
    let ranges = c.args.ranges.now in
    let at = c.partition_point-at.result in
    let point = IsPartitionPoint-from_clause (ends_low least) ranges at c.partition_point-at.ensures.partitioned
    (ranges_parted least ranges c.requires.each c.requires.ascend) (λ a r f k. search rules) in
    let found = c.rows_from.ensures ∙ ap (entries_from least) c.rows.ensures.rows in
    ap (λ rows. rows ++ rows_of c.in-Some.after.now) found
    ∙ ranges_sought least ranges at c.in-Some.range.now c.in-Some.after.now c.partition_point-at.ensures.bound c.requires.each c.requires.ascend point.0 point.1
    (sym c.split_at.ensures.back ∙ c.in-Some.ensures.cases.0)
