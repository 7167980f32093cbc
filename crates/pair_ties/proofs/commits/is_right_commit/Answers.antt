use Rattle.std.proofs.Common.{ap, ◌∙◌}
use Rattle.lake_values.specs.Commit.{CommitRecordValue}
use Rattle.pair_ties.proofs.DueLemmas.{not_due_commit, right_commit}
use Rattle.pair_ties.proofs.commits.is_right_commit.Goals as goal

pub returns-then-not-branch : goal.returns-then-not-branch
returns-then-not-branch c =
    not_due_commit c.args.pairs.now c.as_slice.ensures.apart c.args.at c.args.repo.now c.args.id.now c.args.commit.now c.requires.here
    c.as_slice-2.result.now c.commit.inside.generation (c.as_slice-2.ensures ∙ ap (λ (v : CommitRecordValue). v.parents) c.commit.view_is)
    (ap (λ (v : CommitRecordValue). v.generation) c.commit.view_is) c.in_ok-is_due.field-0 c.in_ok-is_due.ensures c.if-not-branch.true

pub returns : goal.returns
returns c =
    right_commit c.args.pairs.now c.as_slice.ensures.apart c.args.at c.args.repo.now c.args.id.now c.args.commit.now c.requires.here
    c.as_slice-2.result.now c.commit.inside.generation (c.as_slice-2.ensures ∙ ap (λ (v : CommitRecordValue). v.parents) c.commit.view_is)
    (ap (λ (v : CommitRecordValue). v.generation) c.commit.view_is) (c.in_ok-is_due.ensures.0 c.if-not-branch.false) c.is_named.result c.is_named.ensures
