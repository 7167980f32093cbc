use Rattle.std.proofs.Common.{sym, ◌∙◌}
use Rattle.std.proofs.lemmas.Result.{on_ok_weaker}
use Rattle.core_puts.proofs.FilesLemmas.{files_pushed}
use Rattle.core_puts.proofs.files.push_files.Goals as goal

pub returns : goal.returns
returns c =
    let first = c.in-Some.metarange.now in
    let rest = c.in-Some.ranges.now in
    let files = sym c.in_ok-files.ensures ∙ sym c.as_slice.ensures.value ∙ c.in-Some.ensures.cases.0 in
    on_ok_weaker c.push_ranges.result
    (files_pushed c.args.puts.now.items c.push_metarange.new.puts.items c.push_ranges.new.puts.items c.args.tree.now.files first rest files
    c.in_ok-push_metarange.ensures)
    c.push_ranges.ensures
