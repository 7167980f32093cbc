use Rattle.std.proofs.Common.{ap}
use Rattle.core_state.specs.LakeStates.{lake_value}
use Rattle.core_causes.proofs.ClashLemmas.{content_told, files_told, new_answer, twins_told}
use Rattle.core_causes.proofs.FaultLemmas.{fault_told}
use Rattle.core_causes.proofs.clashes.test_new_commit.Goals as goal

pub returns-in_err-test_clash : goal.returns-in_err-test_clash
returns-in_err-test_clash c r draft are =
    let l = lake_value c.args.lake.now in
    new_answer l c.requires.sound c.requires.index c.args.content.now.bytes c.args.tree.now.files r draft are c.from_residual.result
    (fault_told _ c.from_residual.result _ c.from_residual.ensures.1
    (content_told l c.requires.sound c.requires.index c.args.content.now.bytes c.args.tree.now.files _
    (c.in_err-test_clash.ensures (ap (λ file. file.name) c.requires.named))))

pub returns-in_err-test_files : goal.returns-in_err-test_files
returns-in_err-test_files c r draft are =
    let l = lake_value c.args.lake.now in
    new_answer l c.requires.sound c.requires.index c.args.content.now.bytes c.args.tree.now.files r draft are c.from_residual-in_err-test_files.result
    (fault_told _ c.from_residual-in_err-test_files.result _ c.from_residual-in_err-test_files.ensures.1
    (files_told l c.requires.sound c.requires.index c.args.content.now.bytes c.args.tree.now.files
    (c.in_ok-test_clash.ensures (ap (λ file. file.name) c.requires.named)) _ c.in_err-test_files.ensures))

pub returns : goal.returns
returns c r draft are =
    let l = lake_value c.args.lake.now in
    new_answer l c.requires.sound c.requires.index c.args.content.now.bytes c.args.tree.now.files r draft are c.test_twins.result
    (twins_told l c.requires.sound c.requires.index c.args.content.now.bytes c.args.tree.now.files
    (c.in_ok-test_clash.ensures (ap (λ file. file.name) c.requires.named)) c.test_twins.result c.in_ok-test_files.ensures c.test_twins.ensures)
