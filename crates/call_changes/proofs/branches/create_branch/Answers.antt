use Rattle.std.proofs.Common.{refl, subst, ◌∙◌}
use Rattle.core_puts.specs.KeeperViews.{KeeperView}
use Rattle.lake_calls.specs.Calls.{NewNameCall}
use Rattle.lake_calls.specs.CallRefusals.{names_of}
use Rattle.lake_calls.specs.declared.call.Call.TheVariants.{Names}
use Rattle.lake_calls.specs.declared.names.NamingCall.TheVariants as naming
use Rattle.call_changes.specs.AnsweredChanges.{IsChangeAnswered}
use Rattle.call_changes.proofs.CreationLemmas.{create_branch_answered}
use Rattle.call_changes.proofs.StarvedLemmas.{starved_change}
use Rattle.call_changes.proofs.branches.create_branch.Goals as goal

pub returns-in-Err : goal.returns-in-Err
returns-in-Err g c moment =
    let call : NewNameCall = c.args.call.now in
    starved_change c.args.seat.now c.out_of_memory.new.seat c.args.number (Names (naming.CreateBranch call)) moment c.out_of_memory.result
    (c.out_of_memory.ensures.served (Names (naming.CreateBranch call))) c.out_of_memory.ensures.reply

pub returns : goal.returns
returns g c moment =
    let view : KeeperView _ = record { kept = g.K.Keeper.kept; faults = g.K.Keeper.faults; calls = g.K.Keeper.calls; successes = g.K.Keeper.successes } in
    let call : NewNameCall = record { repo = c.call.inside.repo; name = c.call.inside.name; source = c.call.inside.source } in
    let new = c.create_branch-made.new.seat in
    subst (λ n. IsChangeAnswered c.args.seat.now new c.args.number (Names (naming.CreateBranch n)) moment c.answer.result) c.call.view_is
    (create_branch_answered view c.args.seat.now new c.args.number moment call c.in-Ok.name c.expr.result.now c.in-Ok.ensures.equal c.expr.ensures
    c.create_branch-made.result c.create_branch-made.ensures c.branch_made-outcome.result c.branch_made-outcome.ensures c.answer.result
    (c.answer.ensures.reply (names_of (Names (naming.CreateBranch call)))
    (record { repo = refl; named = c.as_str.ensures.bytes; expression = c.as_str-2.ensures.bytes ∙ c.text.ensures; path = tt; after = refl }))
    c.answer.ensures.position c.answer.ensures.edge)
