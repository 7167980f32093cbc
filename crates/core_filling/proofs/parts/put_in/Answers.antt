use Rattle.std.proofs.Common.{◌∙◌, ap, refl, sym, Some}
use Rattle.std.specs.Prelude.{option_map}
use Rattle.lake_base.specs.declared.digest.Digest.{Digest}
use Rattle.lake_base.specs.Maps.{ByteMap}
use Rattle.byte_map.specs.Values.{some_values}
use Rattle.byte_map.proofs.ValuesLemmas.{some_values_insert}
use Rattle.core_state.specs.BranchStates.{BranchStateValue, branch_value}
use Rattle.core_state.specs.RepositoryStates.{RepositoryStateValue, repository_value}
use Rattle.core_filling.specs.declared.parts.Part.{Part}
use Rattle.core_filling.specs.Parts.{with_part}
use Rattle.core_filling.proofs.parts.put_in.Goals as goal

-- with other branches, with other tags
abbrev with_branches : RepositoryStateValue → ByteMap BranchStateValue → RepositoryStateValue
with_branches r branches = record r { branches = branches }

abbrev with_tags : RepositoryStateValue → ByteMap Digest → RepositoryStateValue
with_tags r tags = record r { tags = tags }

pub returns-in_ok-insert-in-Branch : goal.returns-in_ok-insert-in-Branch
returns-in_ok-insert-in-Branch c =
    let r = repository_value c.args.repository.now in
    let said = option_map branch_value in
    ap (with_branches r) (ap (some_values said) c.in_ok-insert-in-Branch.ensures.inserted
    ∙ some_values_insert said c.args.repository.now.branches c.in-Branch.name (Some c.in-Branch.branch) (branch_value c.in-Branch.branch) refl)
    ∙ ap (λ (part : Part). with_part part r) (sym c.in-Branch.is)

pub returns-in_ok-insert-in-Tag : goal.returns-in_ok-insert-in-Tag
returns-in_ok-insert-in-Tag c =
    let r = repository_value c.args.repository.now in
    ap (with_tags r) (ap (some_values (λ tag. tag)) c.in_ok-insert-in-Tag.ensures.inserted
    ∙ some_values_insert (λ tag. tag) c.args.repository.now.tags c.in-Tag.name (Some c.in-Tag.commit) c.in-Tag.commit refl)
    ∙ ap (λ (part : Part). with_part part r) (sym c.in-Tag.is)
