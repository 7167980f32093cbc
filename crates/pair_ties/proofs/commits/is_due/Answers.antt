use Rattle.std.proofs.Common.{◌≡◌, [], max, get_or, refl, subst, sym, ◌+◌, ◌∙◌, arith}
use Rattle.lake_base.specs.declared.digest.Digest.{Digest}
use Rattle.pair_trees.specs.Things.{commits_in}
use Rattle.pair_ties.proofs.DueLemmas.{IsDueSoFar, due_first, due_last, due_more, not_whole, told_due}
use Rattle.pair_ties.proofs.TokensLemmas.{own_item}
use Rattle.pair_ties.proofs.commits.is_due.Goals as goal

abbrev nothing : Digest
nothing = record { 0 = [] }

pub loop-parent-init : goal.loop-parent-init
loop-parent-init c = due_first (commits_in c.args.repo.now c.args.pairs.now) c.args.parents.now

pub loop-parent-preserved : goal.loop-parent-preserved
loop-parent-preserved c =
    let all = c.args.parents.now in
    let i = c.loop-parent.parent-index in
    let lt = c.loop-parent-test.true in
    let graph = commits_in c.args.repo.now c.args.pairs.now in
    let most = c.loop-parent.most in
    let own = c.in-Some.own in
    let next : max (most + 1) (own + 1) ≡ c.max-most.result + 1 = omega (arith, c.max-most.ensures) in
    subst (IsDueSoFar graph all (i + 1)) next
    (due_more graph all i (most + 1) (get_or all i nothing) lt (own_item all i nothing lt) c.loop-parent.invariant own (sym c.in_ok-own.ensures ∙ c.in-Some.is))

pub returns-in_default : goal.returns-in_default
returns-in_default c =
    let all = c.args.parents.now in
    let i = c.loop-parent.parent-index in
    let lt = c.loop-parent-test.true in (
      λ e whole. absurd (not_whole (commits_in c.args.repo.now c.args.pairs.now) all i (c.loop-parent.most + 1) (get_or all i nothing) lt
          (own_item all i nothing lt) c.loop-parent.invariant (sym c.in_ok-own.ensures ∙ c.in_default.is) whole),
      λ due. refl,
    )

pub returns : goal.returns
returns c =
    let all = c.args.parents.now in
    let due = due_last (commits_in c.args.repo.now c.args.pairs.now) all c.loop-parent.parent-index (c.loop-parent.most + 1)
    (omega (arith, c.loop-parent-test.false)) c.loop-parent.invariant in
    told_due c.args.repo.now c.args.pairs.now all c.loop-parent.most c.args.generation due.1 due.0 c.is_next.result c.is_next.ensures
