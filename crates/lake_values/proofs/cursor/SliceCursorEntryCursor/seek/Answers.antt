use Rattle.std.proofs.Common.{rules, ◌∙◌}
use Rattle.std.specs.Ordering.{is_lt}
use Rattle.std.proofs.lemmas.List.Sorted.{IsPartitionPoint-from_clause}
use Rattle.lake_base.specs.Maps.{byte_order}
use Rattle.lake_values.proofs.CursorLemmas.{below_down, partitioned, seek_from}
use Rattle.lake_base.proofs.MapsLemmas.{ascends_drop}
use Rattle.lake_values.proofs.cursor.SliceCursorEntryCursor.seek.Goals as goal

pub invariant_of-self : goal.invariant_of-self
invariant_of-self c = rw c.split_at.ensures.back (record { ascend = ascends_drop c.partition_point-at.result c.args.self.now.rest.now c.args.self.now.ascend })

pub returns-clause-from : goal.returns-clause-from
returns-clause-from c =
    let least = c.args.least.now in
    let rest = c.args.self.now.rest.now in
    let parted = partitioned (λ k. is_lt (byte_order k least)) (λ a b lt low. below_down least a b lt low) rest c.args.self.now.ascend in
    let point = IsPartitionPoint-from_clause (λ e. is_lt (byte_order e.0 least)) rest c.partition_point-at.result c.partition_point-at.ensures.partitioned
    parted (λ a r f k. search rules) in
    c.split_at.ensures.back ∙ seek_from least rest c.partition_point-at.result c.partition_point-at.ensures.bound point.0 point.1
