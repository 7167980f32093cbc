use Rattle.std.proofs.Common.{ap}
use Rattle.lake_calls.specs.declared.call.Call.TheVariants as any
use Rattle.call_heads.proofs.AnswerLemmas.{of_reading}
use Rattle.lake_api.proofs.ChangeLemmas.{of_change, same_call}
use Rattle.lake_api.proofs.OtherCalls.{of_names, names_none}
use Rattle.lake_api.proofs.calls.answer_naming.Goals as goal

pub returns-in-ListRepositories-clause-served : goal.returns-in-ListRepositories-clause-served
returns-in-ListRepositories-clause-served g c =
    let client = c.args.client.now in
    let blocks = client.blocks.now in
    same_call c.args.seat.now c.list_repositories.new.seat client.call client.now (g.B.Blocks.faults blocks) (g.B.Blocks.misses blocks)
    (g.B.Blocks.missed blocks) (g.B.Blocks.held blocks) c.list_repositories.result _ _ (ap any.Names c.in-ListRepositories.is)
    (of_reading c.args.seat.now c.list_repositories.new.seat client.call _ client.now _ _ _ _ c.list_repositories.result
    c.list_repositories.ensures (of_names _))

pub returns-in-CreateRepository-clause-served : goal.returns-in-CreateRepository-clause-served
returns-in-CreateRepository-clause-served g c =
    let client = c.args.client.now in
    let blocks = client.blocks.now in
    same_call c.args.seat.now c.create_repository.new.seat client.call client.now (g.B.Blocks.faults blocks) (g.B.Blocks.misses blocks)
    (g.B.Blocks.missed blocks) (g.B.Blocks.held blocks) c.create_repository.result _ _ (ap any.Names c.in-CreateRepository.is)
    (of_change c.args.seat.now c.create_repository.new.seat client.call _ client.now _ _ _ _ c.create_repository.result
    c.create_repository.ensures (of_names _) (names_none _))

pub returns-in-ListBranches-clause-served : goal.returns-in-ListBranches-clause-served
returns-in-ListBranches-clause-served g c =
    let client = c.args.client.now in
    let blocks = client.blocks.now in
    same_call c.args.seat.now c.list_branches.new.seat client.call client.now (g.B.Blocks.faults blocks) (g.B.Blocks.misses blocks)
    (g.B.Blocks.missed blocks) (g.B.Blocks.held blocks) c.list_branches.result _ _ (ap any.Names c.in-ListBranches.is)
    (of_reading c.args.seat.now c.list_branches.new.seat client.call _ client.now _ _ _ _ c.list_branches.result
    c.list_branches.ensures (of_names _))

pub returns-in-CreateBranch-clause-served : goal.returns-in-CreateBranch-clause-served
returns-in-CreateBranch-clause-served g c =
    let client = c.args.client.now in
    let blocks = client.blocks.now in
    same_call c.args.seat.now c.create_branch.new.seat client.call client.now (g.B.Blocks.faults blocks) (g.B.Blocks.misses blocks)
    (g.B.Blocks.missed blocks) (g.B.Blocks.held blocks) c.create_branch.result _ _ (ap any.Names c.in-CreateBranch.is)
    (of_change c.args.seat.now c.create_branch.new.seat client.call _ client.now _ _ _ _ c.create_branch.result
    (c.create_branch.ensures client.now) (of_names _) (names_none _))

pub returns-in-GetBranch-clause-served : goal.returns-in-GetBranch-clause-served
returns-in-GetBranch-clause-served g c =
    let client = c.args.client.now in
    let blocks = client.blocks.now in
    same_call c.args.seat.now c.get_branch.new.seat client.call client.now (g.B.Blocks.faults blocks) (g.B.Blocks.misses blocks)
    (g.B.Blocks.missed blocks) (g.B.Blocks.held blocks) c.get_branch.result _ _ (ap any.Names c.in-GetBranch.is)
    (of_reading c.args.seat.now c.get_branch.new.seat client.call _ client.now _ _ _ _ c.get_branch.result
    c.get_branch.ensures (of_names _))

pub returns-in-DeleteBranch-clause-served : goal.returns-in-DeleteBranch-clause-served
returns-in-DeleteBranch-clause-served g c =
    let client = c.args.client.now in
    let blocks = client.blocks.now in
    same_call c.args.seat.now c.delete_branch.new.seat client.call client.now (g.B.Blocks.faults blocks) (g.B.Blocks.misses blocks)
    (g.B.Blocks.missed blocks) (g.B.Blocks.held blocks) c.delete_branch.result _ _ (ap any.Names c.in-DeleteBranch.is)
    (of_change c.args.seat.now c.delete_branch.new.seat client.call _ client.now _ _ _ _ c.delete_branch.result
    (c.delete_branch.ensures client.now) (of_names _) (names_none _))

pub returns-in-ListTags-clause-served : goal.returns-in-ListTags-clause-served
returns-in-ListTags-clause-served g c =
    let client = c.args.client.now in
    let blocks = client.blocks.now in
    same_call c.args.seat.now c.list_tags.new.seat client.call client.now (g.B.Blocks.faults blocks) (g.B.Blocks.misses blocks)
    (g.B.Blocks.missed blocks) (g.B.Blocks.held blocks) c.list_tags.result _ _ (ap any.Names c.in-ListTags.is)
    (of_reading c.args.seat.now c.list_tags.new.seat client.call _ client.now _ _ _ _ c.list_tags.result
    c.list_tags.ensures (of_names _))

pub returns-in-CreateTag-clause-served : goal.returns-in-CreateTag-clause-served
returns-in-CreateTag-clause-served g c =
    let client = c.args.client.now in
    let blocks = client.blocks.now in
    same_call c.args.seat.now c.create_tag.new.seat client.call client.now (g.B.Blocks.faults blocks) (g.B.Blocks.misses blocks)
    (g.B.Blocks.missed blocks) (g.B.Blocks.held blocks) c.create_tag.result _ _ (ap any.Names c.in-CreateTag.is)
    (of_change c.args.seat.now c.create_tag.new.seat client.call _ client.now _ _ _ _ c.create_tag.result
    (c.create_tag.ensures client.now) (of_names _) (names_none _))

pub returns-in-GetTag-clause-served : goal.returns-in-GetTag-clause-served
returns-in-GetTag-clause-served g c =
    let client = c.args.client.now in
    let blocks = client.blocks.now in
    same_call c.args.seat.now c.get_tag.new.seat client.call client.now (g.B.Blocks.faults blocks) (g.B.Blocks.misses blocks)
    (g.B.Blocks.missed blocks) (g.B.Blocks.held blocks) c.get_tag.result _ _ (ap any.Names c.in-GetTag.is)
    (of_reading c.args.seat.now c.get_tag.new.seat client.call _ client.now _ _ _ _ c.get_tag.result
    c.get_tag.ensures (of_names _))

pub returns-in-DeleteTag-clause-served : goal.returns-in-DeleteTag-clause-served
returns-in-DeleteTag-clause-served g c =
    let client = c.args.client.now in
    let blocks = client.blocks.now in
    same_call c.args.seat.now c.delete_tag.new.seat client.call client.now (g.B.Blocks.faults blocks) (g.B.Blocks.misses blocks)
    (g.B.Blocks.missed blocks) (g.B.Blocks.held blocks) c.delete_tag.result _ _ (ap any.Names c.in-DeleteTag.is)
    (of_change c.args.seat.now c.delete_tag.new.seat client.call _ client.now _ _ _ _ c.delete_tag.result
    (c.delete_tag.ensures client.now) (of_names _) (names_none _))
