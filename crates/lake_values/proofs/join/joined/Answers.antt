use Rattle.std.proofs.Common.{◌≡◌, subst, None}
use Rattle.lake_base.specs.Maps.{HasAscendingKeys}
use Rattle.lake_base.specs.Names.{path_fault}
use Rattle.lake_values.proofs.JoinLemmas.{join_turn, whole_join, all_append, rest_ascends}
use Rattle.lake_values.proofs.join.joined.Goals as goal

pub loop-front-preserved : goal.loop-front-preserved
loop-front-preserved g c =
    let front = c.in-Some.ensures in
    record {
      left = rest_ascends c.in-Some.front.path.now _ c.in-Some.front.left_rest.now (subst HasAscendingKeys front.left_is c.loop-front.invariant.left);
      right = rest_ascends c.in-Some.front.path.now _ c.in-Some.front.right_rest.now (subst HasAscendingKeys front.right_is c.loop-front.invariant.right);
      paths = rw c.in_ok-push.ensures.pushed
          (all_append (λ row. path_fault row.0 ≡ None) c.loop-front.items.items _ c.loop-front.invariant.paths c.in_ok-push.ensures.paths);
      whole = join_turn g.J.Join.value g.met.J.Join.nothing c.args.left.now c.loop-front.left_rest.now _ c.args.right.now c.loop-front.right_rest.now _
          c.in-Some.front.path.now _ _ c.in_ok-value.value c.loop-front.items.items _
          front c.in_ok-value.ensures c.in_ok-push.ensures.pushed c.loop-front.invariant.whole;
    }

pub returns-clause-ascend : goal.returns-clause-ascend
returns-clause-ascend g c =
    (whole_join g.J.Join.value g.met.J.Join.nothing c.args.left.now _ c.args.right.now _ c.loop-front.items.items c.in_default.ensures.0 c.in_default.ensures.1
    c.loop-front.invariant.whole).ascends

pub returns-clause-values : goal.returns-clause-values
returns-clause-values g c =
    (whole_join g.J.Join.value g.met.J.Join.nothing c.args.left.now _ c.args.right.now _ c.loop-front.items.items c.in_default.ensures.0 c.in_default.ensures.1
    c.loop-front.invariant.whole).values
