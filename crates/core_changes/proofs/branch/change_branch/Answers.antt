use Rattle.std.proofs.Common.{◌∙◌, ap, sym, subst}
use Rattle.branch_record.specs.Record.{BranchRecordValue}
use Rattle.core_state.specs.BranchStates.{branch_value}
use Rattle.core_changes.specs.declared.branch.BranchChange.{BranchChange}
use Rattle.core_changes.specs.BranchChanges.{HasRoomTo, branch_after}
use Rattle.core_changes.proofs.SealLemmas.{sealed_branch, where_ok}
use Rattle.core_changes.proofs.branch.change_branch.Goals as goal

pub returns-in-Seal : goal.returns-in-Seal
returns-in-Seal c =
    let b = c.args.branch.now in
    let version = c.in-Seal.version in
    let room = subst (λ change. HasRoomTo change b) c.in-Seal.is c.requires.room in
    let sealed = where_ok c.seal.result (c.seal.ensures.room room.sealed) c.seal.ensures.branch in
    ap (λ (r : BranchRecordValue). branch_value (record { «record» = r; tokens = b.tokens }))
    (c.set_version-in-Seal.ensures ∙ ap (λ (r : BranchRecordValue). record r { version = version }) sealed)
    ∙ sealed_branch b c.in-Seal.fresh version c.seal.new.self.spare
    ∙ ap (λ (change : BranchChange). branch_after change (branch_value b)) (sym c.in-Seal.is)
