use Rattle.std.proofs.Common.{◌≡◌, [], get_or, ap, sym, ◌∙◌, arith, take-append-drop, ◌++◌}
use Rattle.std.proofs.lemmas.List.{nil_from_length}
use Rattle.std.proofs.lemmas.Result.{IfOk-weaker}
use Rattle.lake_values.specs.KeyMap.{over}
use Rattle.branch_record.specs.Tokens.{changes_under}
use Rattle.branch_record.specs.Overlay.{layers_of}
use Rattle.branch_record.proofs.LayersLemmas.{layers_none, layers_single, layers_joined}
use Rattle.branch_record.proofs.overlaying.+layers.Goals as goal

pub returns-in-empty : goal.returns-in-empty
returns-in-empty t c =
    let none : c.args.named.now ≡ [] = nil_from_length c.args.named.now (omega arith) in
    c.new.ensures ∙ sym (ap (layers_of c.args.tokens.now.changes) none ∙ layers_none c.args.tokens.now.changes)

pub returns-in-len1 : goal.returns-in-len1
returns-in-len1 t c =
    let tokens = c.args.tokens.now.changes in
    let named = c.args.named.now in
    IfOk-weaker c.copy_of.result (λ x. x ≡ changes_under tokens (get_or named 0 0)) (λ x. x ≡ layers_of tokens named)
    (λ x e. e ∙ sym (layers_single tokens named (omega arith))) c.copy_of.ensures

pub returns-in_ok-older-in_default : goal.returns-in_ok-older-in_default
returns-in_ok-older-in_default t c =
    let tokens = c.args.tokens.now.changes in
    let named = c.args.named.now in
    let front = c.split_at.result.0.now in
    let back = c.split_at.result.1.now in
    let parts : front ++ back ≡ named = (λ i. c.split_at.ensures.front i ++ c.split_at.ensures.back i) ∙ take-append-drop _ named in
    IfOk-weaker c.over.result (λ x. x ≡ over c.in_ok-newer-in_default.newer c.in_ok-older-in_default.older) (λ x. x ≡ layers_of tokens named)
    (λ x e. e ∙ (λ i. over (c.in_ok-newer-in_default.ensures i) (c.in_ok-older-in_default.ensures i)) ∙ sym (layers_joined tokens front back)
    ∙ ap (layers_of tokens) parts) c.over.ensures
