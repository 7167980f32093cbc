use Rattle.std.proofs.Common.{◌≡◌, ◌++◌, List, Option, Some, None, map, ap, subst, sym, ◌∙◌}
use Rattle.std.specs.BTreeMap.{get as tree_get}
use Rattle.std.specs.List.{AllByRecursion}
use Rattle.std.specs.Option.{option_to_list}
use Rattle.std.specs.Ordering.{nat_cmp}
use Rattle.lake_values.proofs.OrderLemmas.{each_holds}
use Rattle.pair_format.specs.declared.stored.Stored.{Stored}
use Rattle.pair_trees.specs.PairTrees.{tree_in}
use Rattle.core_state.specs.LakeStates.{lake_value}
use Rattle.core_filling.specs.Filling.{CommitRead, commit_read}
use Rattle.opening_parts.specs.Filled.{CanJoin}
use Rattle.opening_parts.specs.Fillings.{from_last, with_read_of, with_rest}
use Rattle.opening_parts.specs.Gathered.{read_from}
use Rattle.opening_parts.proofs.FoldLemmas.{last_first}
use Rattle.opening_parts.proofs.GatherLemmas.{front_and_last, popped, popped_none, read_so}
use Rattle.opening_parts.proofs.others.put_others.Goals as goal

pub put_other-requires-clause-join : goal.put_other-requires-clause-join
put_other-requires-clause-join c =
    (front_and_last CanJoin c.pop.new.self.items c.in-Some.thing
    (subst (AllByRecursion CanJoin) c.in-Some.ensures.items c.loop-thing.invariant.join)).1

pub loop-thing-preserved : goal.loop-thing-preserved
loop-thing-preserved c =
    let all = c.args.things.items in
    let things = c.loop-thing.things.items in
    let rest = c.pop.new.self.items in
    let thing = c.in-Some.thing in
    let items = c.in-Some.ensures.items in
    let F = with_rest (tree_get nat_cmp c.args.holders.now) in
    let G = with_read_of c.args.cut.now all in
    let l = lake_value c.loop-thing.lake in
    let reads = map commit_read c.loop-thing.commits.items in
    let tree = popped (tree_in c.args.cut.now all) things rest thing c.loop-thing.trees.items c.pop-tree.new.self.items c.pop-tree.result items
    c.loop-thing.invariant.trees c.pop-tree.ensures.items (popped_none c.loop-thing.trees.items c.pop-tree.result c.loop-thing.trees.len c.loop-thing.trees.ok.0 c.pop-tree.ensures.value) in
    record {
      trees = tree.0;
      join = (front_and_last CanJoin rest thing (subst (AllByRecursion CanJoin) items c.loop-thing.invariant.join)).0;
      lake =
          ap (from_last F rest) c.in_ok-put_other.ensures.lake ∙ sym (last_first F rest thing l)
          ∙ ap (λ (ts : List (Option Stored)). from_last F ts l) (sym items) ∙ c.loop-thing.invariant.lake;
      reads =
          ap (from_last G rest) (c.in_ok-put_other.ensures.reads
          ∙ ap (λ t. reads ++ option_to_list (read_from thing t)) tree.1
          ∙ ap (λ (r : Option CommitRead). reads ++ option_to_list r) (read_so c.args.cut.now all thing))
          ∙ sym (last_first G rest thing reads)
          ∙ ap (λ (ts : List (Option Stored)). from_last G ts reads) (sym items) ∙ c.loop-thing.invariant.reads;
      named = c.in_ok-put_other.ensures.named;
    }
