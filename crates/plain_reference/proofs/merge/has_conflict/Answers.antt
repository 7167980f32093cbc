use Rattle.std.proofs.Common.{◌≡◌, ◌∙◌, ap, sym}
use Rattle.std.proofs.lemmas.Bool.{false≢true}
use Rattle.lake_values.specs.Merging.{is_conflict, is_neither}
use Rattle.lake_values.proofs.MergingLemmas.{told_neither, neither, some_conflict}
use Rattle.plain_reference.proofs.MergeLemmas.{conflicting_next, no_conflict}
use Rattle.plain_reference.proofs.merge.has_conflict.Goals as goal

pub loop-path-preserved : goal.loop-path-preserved
loop-path-preserved c =
    let item = c.loop-path-item.result in
    let answer : c.eq.result ≡ is_conflict c.args.base.now c.args.source.now c.args.dest.now item.0 =
    c.eq.ensures ∙ told_neither c.side_at.result ∙ ap is_neither c.side_at.ensures in
    conflicting_next c.args.base.now c.args.source.now c.args.dest.now c.as_slice-path-items.result.now c.loop-path.path-index item c.loop-path-test.true
    c.loop-path-item.is
    _
    (λ conflict. absurd (false≢true (sym c.if-eq.false ∙ answer ∙ conflict)))
    (λ calm. c.loop-path.invariant)

pub returns-then-eq : goal.returns-then-eq
returns-then-eq c =
    let side = neither c.side_at.result (sym (told_neither c.side_at.result) ∙ sym c.eq.ensures ∙ c.if-eq.true) in
    some_conflict c.args.base.now c.args.source.now c.args.dest.now c.loop-path-item.result.0 (sym c.side_at.ensures ∙ side)

pub returns : goal.returns
returns c =
    no_conflict c.args.base.now c.args.source.now c.args.dest.now c.args.paths.now c.as_slice-path-items.result.now c.loop-path.path-index
    c.loop-path-test.false c.as_slice-path-items.ensures.changes c.requires c.loop-path.invariant
