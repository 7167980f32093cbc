use Rattle.std.proofs.Common.{◌≡◌, ◌<◌, ◌+◌, length, drop, ap, sym, subst, ◌∙◌, arith}
use Rattle.meta_range.specs.Ranges.{TreeValue}
use Rattle.byte_map.specs.Values.{some_values}
use Rattle.core_state.specs.NameIndexes.{bytes_in}
use Rattle.core_state.specs.NewCommits.{with_files}
use Rattle.core_filling.proofs.NamesLemmas.{adds_more, adds_none, files_from, none_behind}
use Rattle.core_filling.proofs.names.put_files.Goals as goal

pub loop-left-init : goal.loop-left-init
loop-left-init c =
    let files = c.args.tree.now.value.files in
    let count : length files ≡ c.range_count-left.result + 1 =
    ap (λ (t : TreeValue). length t.files) (sym c.deref.ensures) ∙ c.range_count-left.ensures in
    record {
      within = omega (arith, count);
      names = none_behind files (c.range_count-left.result + 1) (some_values bytes_in c.args.files.now) (omega (arith, count));
      places = adds_none c.args.tree.now.value c.args.files.now;
    }

pub loop-left-preserved : goal.loop-left-preserved
loop-left-preserved c =
    let tree = c.args.tree.now.value in
    let files = tree.files in
    let kept = some_values bytes_in c.args.files.now in
    let put = files_from files c.loop-left.left kept (some_values bytes_in c.loop-left.files) (some_values bytes_in c.put_file.new.files)
    c.loop-left.invariant.within c.loop-left.invariant.names c.in_ok-put_file.ensures.names in
    record {
      within = omega (arith, c.loop-left.invariant.within);
      names = put ∙ ap (λ n. with_files (drop n files) kept) (omega (arith, c.loop-left-test.true));
      places = adds_more tree c.args.files.now c.loop-left.files c.put_file.new.files c.loop-left.invariant.places c.in_ok-put_file.ensures.places;
    }
