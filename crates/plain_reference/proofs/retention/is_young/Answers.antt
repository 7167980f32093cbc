use Rattle.std.proofs.Common.{◌≡◌, ◌≤◌, ℕ, List, true, subst, ap, ◌∙◌, arith}
use Rattle.std.proofs.lemmas.Bool.{leb-true, le-leb}
use Rattle.lake_values.specs.Ancestry.{graph_of, IsOnWalk, date}
use Rattle.lake_values.specs.Retention.{cutoff, IsYoung}
use Rattle.lake_values.specs.Settings.{RulesValue}
use Rattle.lake_base.specs.declared.digest.Digest.{Digest}
use Rattle.plain_reference.proofs.RetentionLemmas.{stands_in, none_more, none_stands, refuted}
use Rattle.plain_reference.proofs.retention.is_young.Goals as goal

pub returns-then-is_on_walk : goal.returns-then-is_on_walk
returns-then-is_on_walk c =
    let stands = stands_in c.args.heads.now c.loop-head.head-index c.loop-head-item.result c.loop-head-test.true c.loop-head-item.is in
    refuted (λ (young : IsYoung (graph_of c.args.commits.now) c.args.heads.now c.args.rules.now c.args.now c.args.id.now).
    young.apart c.loop-head-item.result stands (c.is_on_walk.ensures.0 c.if-is_on_walk.true))

pub loop-head-preserved : goal.loop-head-preserved
loop-head-preserved c =
    none_more (λ (head : List ℕ × Digest). IsOnWalk (graph_of c.args.commits.now) head.1 c.args.id.now) c.args.heads.now c.loop-head.head-index
    c.loop-head-item.result
    c.loop-head-test.true c.loop-head-item.is c.loop-head.invariant
    (λ on. let holds : c.is_on_walk.result ≡ true = c.is_on_walk.ensures.1 on in let fails = c.if-is_on_walk.false in cc)

pub returns : goal.returns
returns c =
    let apart = none_stands (λ (head : List ℕ × Digest). IsOnWalk (graph_of c.args.commits.now) head.1 c.args.id.now) c.args.heads.now c.loop-head.head-index
    c.loop-head-test.false c.loop-head.invariant in
    let limit : c.cutoff.result ≡ cutoff c.args.now c.args.rules.now.default_days =
    c.cutoff.ensures ∙ ap (λ (rules : RulesValue). cutoff c.args.now rules.default_days) c.rules.view_is in
    let day = c.date.ensures in (
      λ holds. let dated : c.cutoff.result ≤ c.date.result = leb-true c.cutoff.result c.date.result holds in
          record {
            apart = apart;
            dated = subst (λ (n : ℕ). n ≤ date (graph_of c.args.commits.now) c.args.id.now) limit (subst (λ (n : ℕ). c.cutoff.result ≤ n) day dated);
          },
      λ young. let dated : c.cutoff.result ≤ c.date.result = omega (arith, limit, day, young.dated) in le-leb c.cutoff.result c.date.result dated,
    )
