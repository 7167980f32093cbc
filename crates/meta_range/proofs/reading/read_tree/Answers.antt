use Rattle.std.proofs.Common.{List, [], Ok, option_copied, length, ap, sym, subst, ◌∙◌, arith}
use Rattle.std.proofs.lemmas.Result.{err_from_is_err_and}
use Rattle.range_file.specs.Rows.{RowValue}
use Rattle.meta_range.specs.Ranges.{TreeValue, rows_of}
use Rattle.meta_range.specs.TreeReading.{Fails, read_ranges, not_cut, AreRead, IsTreeWith}
use Rattle.meta_range.proofs.ReadingLemmas.{HasRead, name_is, are_ranges, is_tree, fails_file, fails_metarange, fails_ranges, reads_stray, reads_tree}
use Rattle.meta_range.proofs.reading.read_tree.Goals as goal

pub returns-in_err-bytes-clause-reads : goal.returns-in_err-bytes-clause-reads
returns-in_err-bytes-clause-reads c =
    let p = err_from_is_err_and c.from_residual.result c.from_residual.ensures.1 in
    let fault = c.in_err-bytes.field-0.0 in
    rw (p.1, p.2) (fails_file c.args.name.now (option_copied c.args.metarange) c.args.given.now c.args.cut.now fault c.in_err-bytes.ensures)

pub returns-in-Err-clause-reads : goal.returns-in-Err-clause-reads
returns-in-Err-clause-reads c =
    rw c.of_metarange.ensures
    (fails_metarange c.args.name.now (option_copied c.args.metarange) c.args.given.now c.args.cut.now c.in_ok-bytes.bytes.now c.in_ok-bytes.ensures c.in-Err.fault c.in-Err.ensures.exact)

pub returns-in_err-ranges-clause-reads : goal.returns-in_err-ranges-clause-reads
returns-in_err-ranges-clause-reads c =
    let p = err_from_is_err_and c.from_residual-in_err-ranges.result c.from_residual-in_err-ranges.ensures.1 in
    let fault = c.in_err-ranges.field-0.0 in
    let failed = subst (λ lines. Fails fault (read_ranges c.args.given.now [] lines)) c.as_slice.ensures.value c.in_err-ranges.ensures.reads in
    rw (p.1, p.2) (fails_ranges c.args.name.now (option_copied c.args.metarange) c.args.given.now c.args.cut.now c.in_ok-bytes.bytes.now c.in_ok-bytes.ensures c.in-Ok.lines.items
    c.in-Ok.ensures.exact fault failed)

pub returns-in-Some-clause-reads : goal.returns-in-Some-clause-reads
returns-in-Some-clause-reads c =
    let reads = ap (read_ranges c.args.given.now []) (sym c.as_slice.ensures.value) ∙ c.in_ok-ranges.ensures.reads in
    let stray = ap (not_cut c.args.cut.now) (sym c.as_slice-3.ensures.value) ∙ sym c.not_cut.ensures ∙ c.in-Some.is in
    reads_stray c.args.name.now (option_copied c.args.metarange) c.args.given.now c.args.cut.now c.in_ok-bytes.bytes.now c.in_ok-bytes.ensures c.in-Ok.lines.items c.in-Ok.ensures.exact
    c.in_ok-ranges.ranges.items reads c.in-Some.at stray

pub returns-clause-reads : goal.returns-clause-reads
returns-clause-reads c =
    let reads = ap (read_ranges c.args.given.now []) (sym c.as_slice.ensures.value) ∙ c.in_ok-ranges.ensures.reads in
    let none = ap (not_cut c.args.cut.now) (sym c.as_slice-3.ensures.value) ∙ sym c.not_cut.ensures ∙ c.in_default.is in
    reads_tree c.args.name.now (option_copied c.args.metarange) c.args.given.now c.args.cut.now c.in_ok-bytes.bytes.now c.in_ok-bytes.ensures c.in-Ok.lines.items c.in-Ok.ensures.exact
    c.in_ok-ranges.ranges.items reads none
    ∙ ap (λ (tree : TreeValue). Ok tree) (sym c.in_ok-named.ensures)

pub named-requires-clause-valid : goal.named-requires-clause-valid
named-requires-clause-valid c =
    let few = ap (λ (rs : List (List RowValue)). length (rows_of rs)) c.as_slice-2.ensures.value in
    let read = subst (λ lines. AreRead c.args.given.now lines c.in_ok-ranges.ranges.items) c.as_slice.ensures.value c.in_ok-ranges.ensures.found in
    let h : HasRead c.args.name.now (option_copied c.args.metarange) c.args.given.now c.in_ok-bytes.bytes.now c.in-Ok.lines.items c.in_ok-ranges.ranges.items =
    record { file = c.in_ok-bytes.ensures; valid = c.in-Ok.ensures.found; read = read; few = omega (arith, few, c.count_rows.ensures) } in
    are_ranges c.args.name.now (option_copied c.args.metarange) c.args.given.now c.args.cut.now c.in_ok-bytes.bytes.now c.in-Ok.lines.items c.in_ok-ranges.ranges.items h

pub named-requires-clause-named : goal.named-requires-clause-named
named-requires-clause-named c =
    let few = ap (λ (rs : List (List RowValue)). length (rows_of rs)) c.as_slice-2.ensures.value in
    let read = subst (λ lines. AreRead c.args.given.now lines c.in_ok-ranges.ranges.items) c.as_slice.ensures.value c.in_ok-ranges.ensures.found in
    let h : HasRead c.args.name.now (option_copied c.args.metarange) c.args.given.now c.in_ok-bytes.bytes.now c.in-Ok.lines.items c.in_ok-ranges.ranges.items =
    record { file = c.in_ok-bytes.ensures; valid = c.in-Ok.ensures.found; read = read; few = omega (arith, few, c.count_rows.ensures) } in
    name_is c.args.name.now (option_copied c.args.metarange) c.args.given.now c.args.cut.now c.in_ok-bytes.bytes.now c.in-Ok.lines.items c.in_ok-ranges.ranges.items h

pub returns-clause-found : goal.returns-clause-found
returns-clause-found c =
    let few = ap (λ (rs : List (List RowValue)). length (rows_of rs)) c.as_slice-2.ensures.value in
    let read = subst (λ lines. AreRead c.args.given.now lines c.in_ok-ranges.ranges.items) c.as_slice.ensures.value c.in_ok-ranges.ensures.found in
    let h : HasRead c.args.name.now (option_copied c.args.metarange) c.args.given.now c.in_ok-bytes.bytes.now c.in-Ok.lines.items c.in_ok-ranges.ranges.items =
    record { file = c.in_ok-bytes.ensures; valid = c.in-Ok.ensures.found; read = read; few = omega (arith, few, c.count_rows.ensures) } in
    let none = ap (not_cut c.args.cut.now) (sym c.as_slice-3.ensures.value) ∙ sym c.not_cut.ensures ∙ c.in_default.is in
    subst (IsTreeWith c.args.name.now (option_copied c.args.metarange) c.args.given.now c.args.cut.now) (sym c.in_ok-named.ensures)
    (is_tree c.args.name.now (option_copied c.args.metarange) c.args.given.now c.args.cut.now c.in_ok-bytes.bytes.now c.in-Ok.lines.items c.in_ok-ranges.ranges.items h none)
