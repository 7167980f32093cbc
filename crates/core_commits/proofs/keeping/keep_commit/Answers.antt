use Rattle.std.proofs.Common.{sym}
use Rattle.lake_format.specs.Spelling.{commit_id}
use Rattle.core_state.specs.LakeStates.{lake_value}
use Rattle.core_state.specs.NewCommits.{NewCommit}
use Rattle.core_puts.specs.KeeperViews.{KeeperView}
use Rattle.core_commits.proofs.KeepingLemmas.{added_back, keeps_back, keeps_known, kept_repositories, known_same, left_sound}
use Rattle.core_commits.proofs.keeping.keep_commit.Goals as goal

pub returns-then-has_commit-clause-kept : goal.returns-then-has_commit-clause-kept
returns-then-has_commit-clause-kept g c =
    let view : KeeperView g.row.K.Denot = record {
      kept = g.K.Keeper.kept;
      faults = g.K.Keeper.faults;
      calls = g.K.Keeper.calls;
      successes =
          g.K.Keeper.successes;
    } in
    let new : NewCommit = record { id = c.args.id; content = c.args.commit; tree = c.args.tree.value } in
    keeps_known view c.args.by c.args.operation c.args.puts.items c.args.repo.now new c.keep.result
    (record { keeper = c.args.keeper.now; history = c.args.history.now.items; present = c.args.present.now })
    (record { keeper = c.keep.new.keeper; history = c.keep.new.history.items; present = c.keep.new.present })
    (known_same c.args.repo.now new (lake_value c.args.present.now) c.requires.may c.if-has_commit.ensures.there)
    c.keep.ensures.kept

pub remove_commit-requires : goal.remove_commit-requires
remove_commit-requires g c =
    let view : KeeperView g.row.K.Denot = record {
      kept = g.K.Keeper.kept;
      faults = g.K.Keeper.faults;
      calls = g.K.Keeper.calls;
      successes =
          g.K.Keeper.successes;
    } in
    let new : NewCommit = record { id = c.args.id; content = c.args.commit; tree = c.args.tree.value } in
    let kept = kept_repositories view c.args.by c.args.operation c.args.puts.items c.keep-kept.result
    (record { keeper = c.args.keeper.now; history = c.args.history.now.items; present = c.add_commit.new.lake })
    (record { keeper = c.keep-kept.new.keeper; history = c.keep-kept.new.history.items; present = c.keep-kept.new.present })
    c.keep-kept.ensures.kept in
    left_sound c.args.repo.now new (lake_value c.args.present.now) c.requires.may (commit_id c.args.commit) c.requires.named
    (lake_value c.add_commit.new.lake) c.in_ok-add_commit.ensures.added c.if-has_commit.ensures.there c.has_commit.ensures.valid
    (lake_value c.keep-kept.new.present) kept

pub returns-then-is_err-clause-kept : goal.returns-then-is_err-clause-kept
returns-then-is_err-clause-kept g c =
    let view : KeeperView g.row.K.Denot = record {
      kept = g.K.Keeper.kept;
      faults = g.K.Keeper.faults;
      calls = g.K.Keeper.calls;
      successes =
          g.K.Keeper.successes;
    } in
    let new : NewCommit = record { id = c.args.id; content = c.args.commit; tree = c.args.tree.value } in
    let back = added_back c.args.repo.now new (lake_value c.args.present.now) c.requires.may (commit_id c.args.commit) c.requires.named
    (lake_value c.add_commit.new.lake) c.in_ok-add_commit.ensures.added c.if-has_commit.ensures.there in
    keeps_back view c.args.by c.args.operation c.args.puts.items c.args.repo.now new c.keep-kept.result
    (record { keeper = c.args.keeper.now; history = c.args.history.now.items; present = c.add_commit.new.lake })
    (record { keeper = c.keep-kept.new.keeper; history = c.keep-kept.new.history.items; present = c.keep-kept.new.present })
    c.args.present.now c.remove_commit.new.lake (sym c.if-is_err.ensures.value) back c.remove_commit.ensures.removed c.keep-kept.ensures.kept
