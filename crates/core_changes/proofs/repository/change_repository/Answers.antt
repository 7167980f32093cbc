use Rattle.std.proofs.Common.{◌∙◌, ap, refl, sym, Some}
use Rattle.std.specs.Prelude.{option_map}
use Rattle.lake_base.specs.declared.digest.Digest.{Digest}
use Rattle.lake_base.specs.Maps.{ByteMap}
use Rattle.byte_map.specs.Values.{some_values}
use Rattle.byte_map.proofs.ValuesLemmas.{some_values_insert, some_values_remove}
use Rattle.core_state.specs.BranchStates.{BranchStateValue, branch_value}
use Rattle.core_state.specs.RepositoryStates.{RepositoryStateValue, repository_value}
use Rattle.core_changes.specs.declared.repository.RepositoryChange.{RepositoryChange}
use Rattle.core_changes.specs.RepositoryChanges.{repository_after}
use Rattle.core_changes.proofs.repository.change_repository.Goals as goal

-- with other branches, with other tags
abbrev with_branches : RepositoryStateValue → ByteMap BranchStateValue → RepositoryStateValue
with_branches r branches = record r { branches = branches }

abbrev with_tags : RepositoryStateValue → ByteMap Digest → RepositoryStateValue
with_tags r tags = record r { tags = tags }

pub returns-in-PutBranch : goal.returns-in-PutBranch
returns-in-PutBranch c =
    let r = repository_value c.args.r.now in
    let said = option_map branch_value in
    ap (with_branches r) (ap (some_values said) c.put_in_place.ensures
    ∙ some_values_insert said c.args.r.now.branches c.in-PutBranch.name.now (Some c.in-PutBranch.branch) (branch_value c.in-PutBranch.branch) refl)
    ∙ ap (λ (change : RepositoryChange). repository_after change r) (sym c.in-PutBranch.is)

pub returns-in-DropBranch : goal.returns-in-DropBranch
returns-in-DropBranch c =
    let r = repository_value c.args.r.now in
    let said = option_map branch_value in
    ap (with_branches r) (ap (some_values said) c.drop_place.ensures ∙ some_values_remove said c.args.r.now.branches c.in-DropBranch.name.now)
    ∙ ap (λ (change : RepositoryChange). repository_after change r) (sym c.in-DropBranch.is)

pub returns-in-PutTag : goal.returns-in-PutTag
returns-in-PutTag c =
    let r = repository_value c.args.r.now in
    ap (with_tags r) (ap (some_values (λ tag. tag)) c.put_in_place-in-PutTag.ensures
    ∙ some_values_insert (λ tag. tag) c.args.r.now.tags c.in-PutTag.name.now (Some c.in-PutTag.commit) c.in-PutTag.commit refl)
    ∙ ap (λ (change : RepositoryChange). repository_after change r) (sym c.in-PutTag.is)

pub returns-in-DropTag : goal.returns-in-DropTag
returns-in-DropTag c =
    let r = repository_value c.args.r.now in
    ap (with_tags r) (ap (some_values (λ tag. tag)) c.drop_place-in-DropTag.ensures ∙ some_values_remove (λ tag. tag) c.args.r.now.tags c.in-DropTag.name.now)
    ∙ ap (λ (change : RepositoryChange). repository_after change r) (sym c.in-DropTag.is)
