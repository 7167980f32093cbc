use Rattle.std.proofs.Common.{◌∷◌, ◌++◌, length, map, ap, sym, subst, ◌∙◌, arith}
use Rattle.std.proofs.lemmas.List.{length_push}
use Rattle.std.specs.FinMap.{len-entries, entries_sorted}
use Rattle.std.specs.List.{AllByRecursion}
use Rattle.lake_format.specs.Cutting.{files, ranges, first_len}
use Rattle.lake_base.specs.Maps.{HasAscendingKeys}
use Rattle.lake_format.specs.Spelling.{range_spelling, line_of, metarange_spelling, AreInOrder, IsRange, IsMetarange}
use Rattle.lake_base.proofs.MapsLemmas.{ascends_drop}
use Rattle.lake_format.proofs.CutLemmas.{IsFirst, first_of, ranges_none, ranges_few, some_left, none_left}
use Rattle.plain_reference.proofs.FilesLineLemmas.{lines_in_order}
use Rattle.plain_reference.proofs.FilesLemmas.{one_more, all_done, tree_is, ascends_take}
use Rattle.plain_reference.proofs.files.files.Goals as goal

pub range_bytes-requires-clause-some : goal.range_bytes-requires-clause-some
range_bytes-requires-clause-some c =
    (first_of c.args.cut.now c.loop-rest.rest.now c.first_range.result.0.now c.first_range.result.1.now
    (some_left c.loop-rest.rest.now c.is_empty.result c.is_empty.ensures c.loop-rest-test.true)
    c.first_range.ensures.front c.first_range.ensures.rest).some

pub range_bytes-requires-clause-ascend : goal.range_bytes-requires-clause-ascend
range_bytes-requires-clause-ascend c =
    subst HasAscendingKeys (sym c.first_range.ensures.front)
    (ascends_take (first_len c.args.cut.now c.loop-rest.rest.now) c.loop-rest.rest.now c.loop-rest.invariant.ascend)

pub line_of-requires-clause-some : goal.line_of-requires-clause-some
line_of-requires-clause-some c =
    (first_of c.args.cut.now c.loop-rest.rest.now c.first_range.result.0.now c.first_range.result.1.now
    (some_left c.loop-rest.rest.now c.is_empty.result c.is_empty.ensures c.loop-rest-test.true)
    c.first_range.ensures.front c.first_range.ensures.rest).some

pub loop-rest-smaller : goal.loop-rest-smaller
loop-rest-smaller c =
    (first_of c.args.cut.now c.loop-rest.rest.now c.first_range.result.0.now c.first_range.result.1.now
    (some_left c.loop-rest.rest.now c.is_empty.result c.is_empty.ensures c.loop-rest-test.true)
    c.first_range.ensures.front c.first_range.ensures.rest).shorter

pub loop-rest-init : goal.loop-rest-init
loop-rest-init c =
    let cut = c.args.cut.now in
    let rows = c.as_slice-rest.result.now in
    let none = ap length c.new-lines.ensures.items in
    record {
      few = omega arith;
      ascend = subst HasAscendingKeys (sym c.as_slice-rest.ensures.entries) (entries_sorted c.args.objects.now);
      counted = omega arith;
      each = λ all. all;
      made = ap (λ done. done ++ map range_spelling (ranges cut rows)) c.new-ranges.ensures.items;
      said = ap (λ lines. lines ++ map line_of (ranges cut rows)) c.new-lines.ensures.items;
    }

pub loop-rest-preserved : goal.loop-rest-preserved
loop-rest-preserved c =
    let cut = c.args.cut.now in
    let rest = c.loop-rest.rest.now in
    let front = c.first_range.result.0.now in
    let left = c.first_range.result.1.now in
    let first : IsFirst cut rest front left = first_of cut rest front left (some_left rest c.is_empty.result c.is_empty.ensures c.loop-rest-test.true)
    c.first_range.ensures.front c.first_range.ensures.rest in
    let cons = ap length first.cons in
    let pushed = ap length c.in_ok-push.ensures.items in
    let one = length_push c.loop-rest.lines.items c.in_ok-line_of.field-0 in
    record {
      few = omega arith;
      ascend = subst HasAscendingKeys (sym c.first_range.ensures.rest) (ascends_drop (first_len cut rest) rest c.loop-rest.invariant.ascend);
      counted = omega arith;
      each = λ after. c.loop-rest.invariant.each (subst (AllByRecursion IsRange) (sym first.cons) (c.in_ok-bytes.ensures.limits, after));
      made = ap (λ done. done ++ map range_spelling (ranges cut left)) c.in_ok-push-2.ensures.items
          ∙ one_more range_spelling c.loop-rest.ranges.items c.of-in-loop-rest.result front (ranges cut rest) (ranges cut left)
          (map range_spelling (ranges cut c.as_slice-rest.result.now))
          c.loop-rest.invariant.made first.cons (c.of-in-loop-rest.ensures ∙ c.in_ok-bytes.ensures.spelled);
      said = ap (λ lines. lines ++ map line_of (ranges cut left)) c.in_ok-push.ensures.items
          ∙ one_more line_of c.loop-rest.lines.items c.in_ok-line_of.field-0 front (ranges cut rest) (ranges cut left)
          (map line_of (ranges cut c.as_slice-rest.result.now))
          c.loop-rest.invariant.said first.cons c.in_ok-line_of.ensures;
    }

pub metarange_bytes-requires-clause-order : goal.metarange_bytes-requires-clause-order
metarange_bytes-requires-clause-order c =
    subst AreInOrder (sym c.as_slice-2.ensures.value)
    (lines_in_order c.args.cut.now c.as_slice-rest.result.now c.loop-rest.rest.now c.loop-rest.lines.items
    (subst HasAscendingKeys (sym c.as_slice-rest.ensures.entries) (entries_sorted c.args.objects.now))
    (none_left c.loop-rest.rest.now c.is_empty.result c.is_empty.ensures c.loop-rest-test.false)
    c.loop-rest.invariant.said)

pub metarange_bytes-requires-clause-few : goal.metarange_bytes-requires-clause-few
metarange_bytes-requires-clause-few c =
    let few = ranges_few c.args.cut.now c.as_slice-rest.result.now in
    let all = ap length c.as_slice-2.ensures.value in
    omega arith

pub returns-clause-few : goal.returns-clause-few
returns-clause-few c =
    let all = ap length c.as_slice-rest.ensures.entries in
    omega (arith, len-entries c.args.objects.now)

pub returns-clause-each : goal.returns-clause-each
returns-clause-each c =
    let cut = c.args.cut.now in
    let none = none_left c.loop-rest.rest.now c.is_empty.result c.is_empty.ensures c.loop-rest-test.false in
    subst (λ rows. AllByRecursion IsRange (ranges cut rows)) c.as_slice-rest.ensures.entries
    (c.loop-rest.invariant.each (subst (AllByRecursion IsRange) (sym (ap (ranges cut) none ∙ ranges_none cut)) tt))

pub returns-clause-limits : goal.returns-clause-limits
returns-clause-limits c =
    let cut = c.args.cut.now in
    let rows = c.as_slice-rest.result.now in
    let none = none_left c.loop-rest.rest.now c.is_empty.result c.is_empty.ensures c.loop-rest-test.false in
    subst (λ rows. IsMetarange (map line_of (ranges cut rows))) c.as_slice-rest.ensures.entries
    (subst IsMetarange (c.as_slice-2.ensures.value ∙ all_done line_of cut rows c.loop-rest.rest.now c.loop-rest.lines.items none c.loop-rest.invariant.said)
    c.in_ok-metarange.ensures.limits)

pub returns-clause-spelled : goal.returns-clause-spelled
unfolding files
returns-clause-spelled c =
    let cut = c.args.cut.now in
    let rows = c.as_slice-rest.result.now in
    c.in_ok-insert.ensures.items
    ∙ tree_is cut rows c.loop-rest.rest.now c.loop-rest.ranges.items c.of-2.result c.loop-rest.lines.items
    (none_left c.loop-rest.rest.now c.is_empty.result c.is_empty.ensures c.loop-rest-test.false)
    c.loop-rest.invariant.made c.loop-rest.invariant.said
    (c.of-2.ensures ∙ c.in_ok-metarange.ensures.spelled ∙ ap metarange_spelling c.as_slice-2.ensures.value)
    ∙ ap (λ r. metarange_spelling (map line_of (ranges cut r)) ∷ map range_spelling (ranges cut r)) c.as_slice-rest.ensures.entries
