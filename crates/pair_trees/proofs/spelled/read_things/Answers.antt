use Rattle.std.proofs.Common.{refl, sym, subst, ◌∙◌, arith}
use Rattle.std.proofs.lemmas.Option.{slice_get_read}
use Rattle.pair_trees.specs.Spelled.{AreSpellings}
use Rattle.pair_trees.proofs.SpelledLemmas.{each_more, same_more}
use Rattle.pair_trees.proofs.spelled.read_things.Goals as goal

pub loop-pair-preserved : goal.loop-pair-preserved
loop-pair-preserved c =
    let pairs = c.args.pairs.now in
    let things = c.loop-pair.things.items in
    let i = c.loop-pair.pair-index in
    let pair = c.pair-item.result in
    let x = c.in_ok-read_thing.field-0 in
    record {
      same = c.in_ok-push.ensures.items ∙ same_more pairs things i pair x c.loop-pair-test.true c.pair-item.is c.loop-pair.invariant.same
          c.in_ok-read_thing.ensures.same;
      long = grind (arith, c.in_ok-push.ensures.items, c.loop-pair.invariant.long);
      each = subst (AreSpellings pairs) (sym c.in_ok-push.ensures.items)
          (each_more pairs things i pair x (slice_get_read pairs _ i pair refl c.loop-pair-test.true c.pair-item.is) c.loop-pair.invariant.long
          c.in_ok-read_thing.ensures.spelled c.loop-pair.invariant.each);
    }
