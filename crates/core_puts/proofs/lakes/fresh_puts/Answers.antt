use Rattle.std.proofs.Common.{◌≡◌, List, sym, subst}
use Rattle.std.specs.Prelude.{IfOk}
use Rattle.keeper.specs.declared.put.Put.{Put}
use Rattle.core_puts.specs.FirstCommits.{IsFirstCommit}
use Rattle.core_puts.specs.Puts.{create_repository_puts}
use Rattle.core_state.specs.LakeStates.{lake_value}
use Rattle.core_puts.proofs.FoundingLemmas.{dated, is_first_commit}
use Rattle.core_puts.proofs.lakes.fresh_puts.Goals as goal

pub create_repository_puts-requires-clause-first : goal.create_repository_puts-requires-clause-first
create_repository_puts-requires-clause-first c =
    let cut = (lake_value c.bare_lake-lake.result).cut in
    let first = c.in_ok-first.first in
    subst (IsFirstCommit cut first.commit first.content.name) (sym c.deref.ensures) (is_first_commit cut 0 first (c.in_ok-first.ensures cut))

pub returns : goal.returns
returns c =
    let cut = (lake_value c.bare_lake-lake.result).cut in
    let date = dated cut 0 c.in_ok-first.first (c.in_ok-first.ensures cut) in
    subst (λ (made : List Put). IfOk c.create_repository_puts.result (λ puts. puts.items ≡ made))
    (λ i. create_repository_puts (c.in_ok-repo.ensures i) (c.in_ok-branch.ensures i) (date i) (c.bare_lake-lake.ensures i))
    c.create_repository_puts.ensures.puts
