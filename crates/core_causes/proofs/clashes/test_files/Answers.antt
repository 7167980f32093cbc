use Rattle.std.proofs.Common.{◌+◌, ◌<◌, ◌≤◌, arith, length}
use Rattle.lake_model.specs.Refusals.{clash_fault}
use Rattle.core_state.specs.LakeStates.{lake_value}
use Rattle.core_causes.specs.Clashing.{first_clash}
use Rattle.core_causes.proofs.FaultLemmas.{fault_told}
use Rattle.core_causes.proofs.PlaceLemmas.{clash_on, clash_told, no_clash}
use Rattle.core_causes.proofs.clashes.test_files.Goals.{else-loop-place-test, then-loop-place-test+in_ok-test_file+else-place-place-end}
use Rattle.core_causes.proofs.clashes.test_files.Goals as goal

pub returns-in_err-test_file : goal.returns-in_err-test_file
returns-in_err-test_file c =
    let l = lake_value c.args.lake.now in
    let within : c.loop-place.place < length c.args.tree.now.files = omega arith in
    fault_told (clash_fault (first_clash l c.args.tree.now.files)) c.from_residual.result c.in_err-test_file.field-0.0 c.from_residual.ensures.1
    (clash_told c.args.tree.now.files c.loop-place.place within l c.loop-place.invariant c.in_err-test_file.field-0.0 c.in_err-test_file.ensures)

pub loop-place-preserved : goal.loop-place-preserved
loop-place-preserved c =
    let within : c.loop-place.place < length c.args.tree.now.files = omega arith in
    clash_on c.args.tree.now.files c.loop-place.place within (lake_value c.args.lake.now) c.loop-place.invariant c.in_ok-test_file.ensures

pub returns : goal.returns
returns c =
    let l = lake_value c.args.lake.now in
    elim c.loop-place-test.branch [
      | else-loop-place-test w ↦
          let past : length c.args.tree.now.files ≤ c.loop-place.place = omega arith in
          no_clash c.args.tree.now.files c.loop-place.place past l c.loop-place.invariant
      | then-loop-place-test+in_ok-test_file+else-place-place-end w ↦
          let within : c.loop-place.place < length c.args.tree.now.files = omega arith in
          let past : length c.args.tree.now.files ≤ c.loop-place.place + 1 = omega arith in
          no_clash c.args.tree.now.files (c.loop-place.place + 1) past l
          (clash_on c.args.tree.now.files c.loop-place.place within l c.loop-place.invariant w.in_ok-test_file.ensures)
    ]
