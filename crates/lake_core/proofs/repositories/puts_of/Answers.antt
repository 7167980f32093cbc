use Rattle.std.proofs.Common.{subst, sym}
use Rattle.core_puts.specs.FirstCommits.{IsFirstCommit}
use Rattle.core_puts.proofs.FoundingLemmas.{is_first_commit}
use Rattle.core_state.specs.LakeStates.{lake_value}
use Rattle.lake_core.proofs.repositories.puts_of.Goals as goal

pub create_repository_puts-requires-clause-first : goal.create_repository_puts-requires-clause-first
create_repository_puts-requires-clause-first c =
    let first = c.args.first.now in
    subst (IsFirstCommit (lake_value c.args.lake.now).cut first.commit first.content.name) (sym c.deref.ensures)
    (is_first_commit (lake_value c.args.lake.now).cut first.commit.date first c.requires.first)
