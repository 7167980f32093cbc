use Rattle.std.proofs.Common.{◌≡◌, ◌<◌, true, ℕ, ap, sym, subst, List, arith, ◌∙◌}
use Rattle.std.specs.Str.{bytes_eq}
use Rattle.lake_values.specs.Retention.{days_of, days_in}
use Rattle.lake_values.specs.Settings.{RulesValue}
use Rattle.lake_values.proofs.retention.days_of.Goals as goal
use Rattle.lake_values.proofs.RetentionLemmas.{days_found, days_otherwise}

pub returns-then-eq : goal.returns-then-eq
returns-then-eq c =
    let same : bytes_eq c.rule-item.result.branch c.args.branch.now ≡ true =
    subst (λ (xs : List ℕ). bytes_eq xs c.args.branch.now ≡ true) c.as_slice.ensures.bytes
    (subst (λ (ys : List ℕ). bytes_eq c.as_slice.result.now ys ≡ true) c.as_slice-in-loop-rule.ensures.bytes (sym c.eq.ensures ∙ c.if-eq.true)) in
    let found = days_found c.rules.inside.default_days c.as_slice-rule-items.result.now c.args.branch.now c.loop-rule.rule-index c.rule-item.result
    c.loop-rule-test.true c.rule-item.is c.loop-rule.invariant same in
    subst (λ (rules : RulesValue). c.rule-item.result.days ≡ days_of rules c.args.branch.now) c.rules.view_is
    (found ∙ ap (λ rules. days_in c.rules.inside.default_days rules c.args.branch.now) c.as_slice-rule-items.ensures)

pub returns : goal.returns
returns c =
    let none = days_otherwise c.rules.inside.default_days c.as_slice-rule-items.result.now c.args.branch.now
    (λ k d low below. let before : k < c.loop-rule.rule-index = omega arith in c.loop-rule.invariant k d low before) in
    subst (λ (rules : RulesValue). c.rules.inside.default_days ≡ days_of rules c.args.branch.now) c.rules.view_is
    (none ∙ ap (λ rules. days_in c.rules.inside.default_days rules c.args.branch.now) c.as_slice-rule-items.ensures)
