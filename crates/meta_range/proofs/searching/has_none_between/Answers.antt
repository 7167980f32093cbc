use Rattle.std.proofs.Common.{◌≡◌, drop, ap, rules, sym, ◌∙◌}
use Rattle.std.specs.Ordering.{is_lt}
use Rattle.std.specs.FinMap.{find, get-entries}
use Rattle.std.proofs.lemmas.List.Sorted.{IsPartitionPoint-from_clause}
use Rattle.lake_base.specs.Maps.{byte_order}
use Rattle.lake_values.specs.Cursor.{entries_from}
use Rattle.lake_values.proofs.CursorLemmas.{below_down, partitioned, seek_from}
use Rattle.meta_range.proofs.SearchLemmas.{no_rows, none_in, none_left, none_until}
use Rattle.meta_range.proofs.searching.has_none_between.Goals as goal

pub returns-in-Some : goal.returns-in-Some
returns-in-Some c =
    let first = c.args.first.now in
    let rows = c.as_slice-rows.result.now in
    let parted = partitioned (λ k. is_lt (byte_order k first)) (λ a b lt low. below_down first a b lt low) rows c.as_slice-rows.ensures.ascend in
    let point = IsPartitionPoint-from_clause (λ e. is_lt (byte_order e.0 first)) rows c.partition_point-at.result c.partition_point-at.ensures.partitioned
    parted (λ a r f k. search rules) in
    let from : drop c.partition_point-at.result rows ≡ entries_from first rows =
    seek_from first rows c.partition_point-at.result c.partition_point-at.ensures.bound point.0 point.1 in
    none_in c.args.changes.now first c.args.last.now rows c.as_slice-rows.ensures.changes c.is_below.result
    (none_until first c.args.last.now c.in-Some.next.now c.in-Some.field-0-1.now rows c.as_slice-rows.ensures.ascend
    (sym c.in-Some.ensures.cases.0 ∙ c.split_at.ensures.back ∙ from) c.is_below.result
    (c.is_below.ensures ∙ ap (λ a. is_lt (byte_order a c.as_slice-in-Some.result.now)) c.as_slice.ensures.bytes
    ∙ ap (λ b. is_lt (byte_order c.args.last.now b)) c.as_slice-in-Some.ensures.bytes))

pub returns-in-None : goal.returns-in-None
returns-in-None c path within =
    let first = c.args.first.now in
    let rows = c.as_slice-rows.result.now in
    let parted = partitioned (λ k. is_lt (byte_order k first)) (λ a b lt low. below_down first a b lt low) rows c.as_slice-rows.ensures.ascend in
    let point = IsPartitionPoint-from_clause (λ e. is_lt (byte_order e.0 first)) rows c.partition_point-at.result c.partition_point-at.ensures.partitioned
    parted (λ a r f k. search rules) in
    let from : drop c.partition_point-at.result rows ≡ entries_from first rows =
    seek_from first rows c.partition_point-at.result c.partition_point-at.ensures.bound point.0 point.1 in
    get-entries c.args.changes.now path ∙ ap (find byte_order path) (sym c.as_slice-rows.ensures.changes)
    ∙ none_left first c.args.last.now rows c.as_slice-rows.ensures.ascend
    (sym (no_rows c.split_at.result.1.now c.in-None.ensures.cases) ∙ c.split_at.ensures.back ∙ from) path within
