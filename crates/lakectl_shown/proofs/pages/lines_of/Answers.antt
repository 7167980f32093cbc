use Rattle.std.proofs.Common.{ℕ, List, ◌++◌, Option, Vec, Global, ◌∙◌, ap, sym}
use Rattle.std.specs.Option.{option_map}
use Rattle.serde_json.specs.View.{view}
use Rattle.serde_json.specs.declared.value.Value.{Value}
use Rattle.lakectl_shown.specs.ShownReplies.{line_of}
use Rattle.lakectl_shown.proofs.FormLemmas.{line_step, line_missing, lines_done}
use Rattle.lakectl_shown.proofs.pages.lines_of.Goals as goal

pub loop-item-preserved : goal.loop-item-preserved
loop-item-preserved c =
    let seen : Option (Vec ℕ Global) → Option (List ℕ) = option_map (λ (bytes : Vec ℕ Global). bytes.items) in
    line_step c.args.lines c.args.items.now c.loop-item.item-index c.item-item.result c.loop-item.out.items _ c.in-Some.line.items _ c.loop-item-test.true
    (sym (ap seen c.in-Some.is) ∙ c.in_ok-line.ensures ∙ ap (λ (v : Value). line_of c.args.lines (view v)) c.item-item.is)
    (c.in_ok-extend_from_slice.ensures.items ∙ ap (λ (l : List ℕ). c.loop-item.out.items ++ l) c.as_slice.ensures.value)
    c.loop-item.invariant

pub returns : goal.returns
returns c = lines_done c.args.lines c.args.items.now c.loop-item.item-index c.loop-item.out.items _ c.loop-item-test.false c.loop-item.invariant
