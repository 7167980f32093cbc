use Rattle.std.proofs.Common.{◌∷◌, [], ap, sym, subst, ◌∙◌, arith}
use Rattle.std.specs.List.{AllByRecursion}
use Rattle.lake_base.specs.Maps.{HasAscendingKeys}
use Rattle.lake_base.proofs.MapsLemmas.{ascends_drop}
use Rattle.lake_format.specs.Spelling.{IsRange}
use Rattle.lake_format.specs.Cutting.{first_len, ranges}
use Rattle.lake_format.proofs.CutLemmas.{first_of, some_left, none_left}
use Rattle.meta_range.specs.Ranges.{TreeValue}
use Rattle.meta_range.proofs.RangesLemmas.{all_append, ascend_take}
use Rattle.meta_range.proofs.BuildLemmas.{one_more, all_made, is_made}
use Rattle.meta_range.proofs.tree.Tree.build.Goals as goal

pub copy_of-requires-clause-some : goal.copy_of-requires-clause-some
copy_of-requires-clause-some c =
    (first_of c.args.cut.now c.loop-rest.rest.now c.first_range.result.0.now c.first_range.result.1.now
    (some_left c.loop-rest.rest.now c.is_empty.result c.is_empty.ensures c.loop-rest-test.true)
    c.first_range.ensures.front c.first_range.ensures.rest).some

pub copy_of-requires-clause-ascend : goal.copy_of-requires-clause-ascend
copy_of-requires-clause-ascend c =
    subst HasAscendingKeys (sym c.first_range.ensures.front)
    (ascend_take (first_len c.args.cut.now c.loop-rest.rest.now) c.loop-rest.rest.now c.loop-rest.invariant.ascend)

pub loop-rest-preserved : goal.loop-rest-preserved
loop-rest-preserved c =
    let cut = c.args.cut.now in
    let rest = c.loop-rest.rest.now in
    let front = c.first_range.result.0.now in
    let left = c.first_range.result.1.now in
    let first = first_of cut rest front left (some_left rest c.is_empty.result c.is_empty.ensures c.loop-rest-test.true) c.first_range.ensures.front
    c.first_range.ensures.rest in
    let old = c.loop-rest.ranges.items in
    let copy = c.in_ok-copy_of.field-0 in
    record {
      few = omega (arith, first.shorter, c.loop-rest.invariant.few);
      ascend = subst HasAscendingKeys (sym c.first_range.ensures.rest) (ascends_drop (first_len cut rest) rest c.loop-rest.invariant.ascend);
      made = one_more old (ranges cut rest) (ranges cut c.as_slice-rest.result.now) c.push.new.self.items copy front (ranges cut left)
          c.loop-rest.invariant.made first.cons c.in_ok-push.ensures.items c.in_ok-copy_of.ensures.rows;
      each = subst (AllByRecursion IsRange) (sym c.in_ok-push.ensures.items)
          (all_append IsRange old (copy ∷ []) c.loop-rest.invariant.each (subst IsRange (sym c.in_ok-copy_of.ensures.rows) c.in_ok-copy_of.ensures.limits, tt));
    }

pub of-requires : goal.of-requires
of-requires c =
    let cut = c.args.cut.now in
    let rows = c.as_slice-rest.result.now in
    let all = all_made cut rows c.loop-rest.rest.now c.loop-rest.ranges.items
    (none_left c.loop-rest.rest.now c.is_empty.result c.is_empty.ensures c.loop-rest-test.false) c.loop-rest.invariant.made in
    (is_made cut c.args.map.now rows c.loop-rest.ranges.items c.as_slice-rest.ensures.entries (omega arith) all c.loop-rest.invariant.each).are

pub returns-clause-map : goal.returns-clause-map
returns-clause-map c =
    let cut = c.args.cut.now in
    let rows = c.as_slice-rest.result.now in
    let all = all_made cut rows c.loop-rest.rest.now c.loop-rest.ranges.items
    (none_left c.loop-rest.rest.now c.is_empty.result c.is_empty.ensures c.loop-rest-test.false) c.loop-rest.invariant.made in
    ap (λ (tree : TreeValue). tree.map) c.in_ok-tree.ensures
    ∙ (is_made cut c.args.map.now rows c.loop-rest.ranges.items c.as_slice-rest.ensures.entries (omega arith) all c.loop-rest.invariant.each).map

pub returns-clause-files : goal.returns-clause-files
returns-clause-files c =
    let cut = c.args.cut.now in
    let rows = c.as_slice-rest.result.now in
    let all = all_made cut rows c.loop-rest.rest.now c.loop-rest.ranges.items
    (none_left c.loop-rest.rest.now c.is_empty.result c.is_empty.ensures c.loop-rest-test.false) c.loop-rest.invariant.made in
    ap (λ (tree : TreeValue). tree.files) c.in_ok-tree.ensures
    ∙ (is_made cut c.args.map.now rows c.loop-rest.ranges.items c.as_slice-rest.ensures.entries (omega arith) all c.loop-rest.invariant.each).files_are

pub returns-clause-limits : goal.returns-clause-limits
returns-clause-limits c =
    let cut = c.args.cut.now in
    let rows = c.as_slice-rest.result.now in
    let all = all_made cut rows c.loop-rest.rest.now c.loop-rest.ranges.items
    (none_left c.loop-rest.rest.now c.is_empty.result c.is_empty.ensures c.loop-rest-test.false) c.loop-rest.invariant.made in
    (is_made cut c.args.map.now rows c.loop-rest.ranges.items c.as_slice-rest.ensures.entries (omega arith) all c.loop-rest.invariant.each).limits
