use Rattle.std.proofs.Common.{◌≡◌, ◌∙◌, ◌++◌, ◌∷◌, [], List, ℕ, take, sym, ap}
use Rattle.std.proofs.lemmas.Bool.{false≢true}
use Rattle.plain_reference.proofs.merge.conflicts.Goals.{then-eq+in_ok-copy+in_ok-push, else-eq}
use Rattle.lake_values.specs.Merging.{is_conflict, is_neither}
use Rattle.lake_values.proofs.MergingLemmas.{told_neither}
use Rattle.plain_reference.proofs.MergeLemmas.{conflicting, conflicting_next, conflicts_all}
use Rattle.plain_reference.proofs.merge.conflicts.Goals as goal

pub loop-path-init : goal.loop-path-init
loop-path-init c = c.new-paths.ensures.items

pub loop-path-preserved : goal.loop-path-preserved
loop-path-preserved c =
    let item = c.loop-path-item.result in
    let so_far : List (List ℕ) = conflicting c.args.base.now c.args.source.now c.args.dest.now (take c.loop-path.path-index c.as_slice-path-items.result.now) in
    let answer : c.eq.result ≡ is_conflict c.args.base.now c.args.source.now c.args.dest.now item.0 =
    c.eq.ensures ∙ told_neither c.side_at.result ∙ ap is_neither c.side_at.ensures in
    conflicting_next c.args.base.now c.args.source.now c.args.dest.now c.as_slice-path-items.result.now c.loop-path.path-index item c.loop-path-test.true
    c.loop-path-item.is
    c.if-eq.paths.items
    (λ conflict. elim c.if-eq.branch [
      | then-eq+in_ok-copy+in_ok-push w ↦
          ap (λ v. v.items) w.paths-is ∙ w.in_ok-push.ensures.items ∙ ap (λ found. found ++ w.in_ok-copy.field-0 ∷ []) c.loop-path.invariant
          ∙ ap (λ p. so_far ++ p ∷ []) w.in_ok-copy.ensures.equal
      | else-eq w ↦ absurd (false≢true (sym w.if-eq.false ∙ answer ∙ conflict))
    ])
    (λ calm. elim c.if-eq.branch [
      | then-eq+in_ok-copy+in_ok-push w ↦ absurd (false≢true (sym calm ∙ sym answer ∙ w.if-eq.true))
      | else-eq w ↦ ap (λ v. v.items) w.paths-is ∙ c.loop-path.invariant
    ])

pub returns : goal.returns
returns c =
    conflicts_all c.args.base.now c.args.source.now c.args.dest.now c.in_ok-paths_of.field-0 c.as_slice-path-items.result.now c.loop-path.path-index
    c.loop-path-test.false c.as_slice-path-items.ensures.changes c.in_ok-paths_of.ensures c.of.result (c.of.ensures ∙ c.loop-path.invariant)
