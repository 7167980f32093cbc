use Rattle.std.proofs.Common.{rules, ◌∙◌}
use Rattle.std.specs.Ordering.{is_lt}
use Rattle.std.proofs.lemmas.List.Sorted.{IsPartitionPoint-from_clause}
use Rattle.lake_base.specs.Maps.{byte_order}
use Rattle.lake_values.proofs.CursorLemmas.{below_down, partitioned, seek_from}
use Rattle.branch_record.proofs.changes.changes_from.Goals as goal

pub returns : goal.returns
returns c =
    let least = c.args.least.now in
    let changes = c.args.changes.now in
    let parted = partitioned (λ k. is_lt (byte_order k least)) (λ a b lt low. below_down least a b lt low) changes c.requires in
    let point = IsPartitionPoint-from_clause (λ e. is_lt (byte_order e.0 least)) changes c.partition_point-at.result c.partition_point-at.ensures.partitioned
    parted (λ a r f k. search rules) in
    c.split_at.ensures.back ∙ seek_from least changes c.partition_point-at.result c.partition_point-at.ensures.bound point.0 point.1
