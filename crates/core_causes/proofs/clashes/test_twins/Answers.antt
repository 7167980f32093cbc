use Rattle.std.proofs.Common.{[], ◌+◌, ◌<◌, ◌≤◌, arith, ap, length, subst, sym, ◌∙◌}
use Rattle.lake_base.specs.declared.digest.Digest.{Digest}
use Rattle.meta_range.specs.RangeNames.{PutsFirst, place_in}
use Rattle.lake_model.specs.Refusals.{clash_fault}
use Rattle.core_causes.specs.Clashing.{first_twins}
use Rattle.core_causes.proofs.FaultLemmas.{fault_told}
use Rattle.core_causes.proofs.PlaceLemmas.{no_twins, tells_on, twin_new, twin_on, twin_told}
use Rattle.core_causes.proofs.clashes.test_twins.Goals.{else-loop-place-test, then-loop-place-test+in_ok-first+else-place-place-end, in-Some+in_ok-test_twin}
use Rattle.core_causes.proofs.clashes.test_twins.Goals.{in_default}
use Rattle.core_causes.proofs.clashes.test_twins.Goals as goal

pub returns-in_err-test_twin : goal.returns-in_err-test_twin
returns-in_err-test_twin c =
    let files = c.args.tree.now.files in
    let place = c.loop-place.place in
    let old = c.loop-place.firsts.entries in
    let within : place < length files = omega arith in
    let fault = c.in_err-test_twin.field-0.0 in
    fault_told (clash_fault (first_twins [] files)) c.from_residual-in_err-test_twin.result fault c.from_residual-in_err-test_twin.ensures.1
    (twin_told files place within old c.loop-place.invariant.0 c.loop-place.invariant.1 c.in-Some.first
    (sym c.in-Some.is ∙ c.in_ok-first.ensures.0 ∙ ap (place_in old) c.file_name.ensures) fault c.in_err-test_twin.ensures)

pub loop-place-preserved : goal.loop-place-preserved
loop-place-preserved c =
    let files = c.args.tree.now.files in
    let place = c.loop-place.place in
    let old = c.loop-place.firsts.entries in
    let new = c.earlier_place.new.firsts.entries in
    let within : place < length files = omega arith in
    let told = c.in_ok-first.ensures.0 ∙ ap (place_in old) c.file_name.ensures in (
      tells_on files place within old c.loop-place.invariant.0 new
          (subst (λ (name : Digest). PutsFirst old new name place) c.file_name.ensures c.in_ok-first.ensures.1),
      elim c.match-branch-2.branch [
        | in-Some+in_ok-test_twin w ↦
            twin_on files place within old c.loop-place.invariant.0 c.loop-place.invariant.1 w.in-Some.first (sym w.in-Some.is ∙ told) w.in_ok-test_twin.ensures
        | in_default w ↦ twin_new files place within old c.loop-place.invariant.0 c.loop-place.invariant.1 (sym w.in_default.is ∙ told)
      ],
    )

pub returns : goal.returns
returns c =
    let files = c.args.tree.now.files in
    let place = c.loop-place.place in
    let old = c.loop-place.firsts.entries in
    elim c.loop-place-test.branch [
      | else-loop-place-test w ↦
          let past : length files ≤ place = omega arith in
          no_twins files place past c.loop-place.invariant.1
      | then-loop-place-test+in_ok-first+else-place-place-end w ↦
          let within : place < length files = omega arith in
          let past : length files ≤ place + 1 = omega arith in
          let told = w.in_ok-first.ensures.0 ∙ ap (place_in old) w.file_name.ensures in
          no_twins files (place + 1) past (elim w.match-branch-2.branch [
            | in-Some+in_ok-test_twin v ↦
                twin_on files place within old c.loop-place.invariant.0 c.loop-place.invariant.1 v.in-Some.first (sym v.in-Some.is ∙ told)
                v.in_ok-test_twin.ensures
            | in_default v ↦ twin_new files place within old c.loop-place.invariant.0 c.loop-place.invariant.1 (sym v.in_default.is ∙ told)
          ])
    ]
