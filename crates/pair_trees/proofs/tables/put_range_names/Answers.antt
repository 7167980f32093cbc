use Rattle.std.proofs.Common.{◌+◌, ◌<◌, ◌||◌, is_some, length, drop, ap, ◌∙◌, arith}
use Rattle.std.specs.BTreeMap.{get}
use Rattle.lake_values.specs.Ancestry.{id_order, same_id}
use Rattle.meta_range.specs.Files.{file_at}
use Rattle.pair_trees.proofs.TablesLemmas.{adds_more, is_named, range_at, rest_len}
use Rattle.pair_trees.proofs.tables.put_range_names.Goals as goal

pub loop-place-preserved : goal.loop-place-preserved
loop-place-preserved c =
    let files = c.args.tree.now.files in
    let place = c.loop-place.place in
    let table = c.loop-place.table in
    let lt : place < length (drop 1 files) = omega (
      arith,
      rest_len files c.range_count-place-end.result c.range_count-place-end.ensures,
      c.loop-place-test.true,
    ) in
    adds_more is_named c.args.table.now table c.put_name.new.table (drop 1 files) place (file_at files (place + 1)) lt (range_at files place lt)
    c.loop-place.invariant (λ name. c.in_ok-put_name.ensures name ∙ ap (λ id. is_some (get id_order table name) || same_id id name) c.file_name.ensures)
