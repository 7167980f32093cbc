use Rattle.std.proofs.Common.{◌≡◌, [], cond, ap, sym, ◌∙◌}
use Rattle.std.proofs.lemmas.Bool.{eqb-true}
use Rattle.std.proofs.lemmas.List.{nil_from_length}
use Rattle.lake_values.specs.KeyMap.{over}
use Rattle.branch_record.specs.Tokens.{changes_under}
use Rattle.branch_record.specs.Overlay.{layers_of, staged_changes, sealed_changes}
use Rattle.branch_record.proofs.LayersLemmas.{layers_none, over_none}
use Rattle.branch_record.proofs.record.BranchRecord.overlay.Goals as goal

pub returns-then-is_empty : goal.returns-then-is_empty
returns-then-is_empty c =
    let r = c.args.self.now in
    let t = c.args.tokens.now.changes in
    let none : r.sealed ≡ [] =
    sym c.sealed-sealed.ensures.tokens ∙ nil_from_length c.sealed-sealed.result.now (eqb-true _ _ (sym c.is_empty.ensures ∙ c.if-is_empty.true)) in
    c.in_ok-staged.ensures ∙ ap (changes_under t) c.staging.ensures.token
    ∙ sym (over_none (staged_changes r t)) ∙ ap (over (staged_changes r t)) (sym (ap (layers_of t) none ∙ layers_none t))
    ∙ ap (λ b. cond b (sealed_changes r t) (over (staged_changes r t) (sealed_changes r t))) (sym c.if-sealed_only.false)
