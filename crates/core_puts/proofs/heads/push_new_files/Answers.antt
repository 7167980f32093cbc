use Rattle.std.proofs.Common.{◌<◌, length, arith}
use Rattle.std.proofs.lemmas.Result.{on_ok_weaker}
use Rattle.core_puts.proofs.NewFilesLemmas.{new_files_pushed}
use Rattle.core_puts.proofs.heads.push_new_files.Goals as goal

pub returns : goal.returns
returns c =
    let files = c.args.tree.now.files in
    let some : 0 < length files = omega (arith, c.range_count-count.ensures) in
    on_ok_weaker c.push_new_ranges.result
    (new_files_pushed c.args.kept.now c.args.puts.now.items c.push_new_metarange.new.puts.items
    c.push_new_ranges.new.puts.items files some c.in_ok-push_new_metarange.ensures)
    c.push_new_ranges.ensures
