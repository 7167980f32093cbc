use Rattle.std.proofs.Common.{ap, ◌∙◌}
use Rattle.lake_values.specs.Commit.{CommitRecordValue}
use Rattle.pair_ties.proofs.NamedLemmas.{each_there, one_there, plain_default, told_of, two_there}
use Rattle.pair_ties.proofs.named.are_named_there.Goals as goal

pub has_pair-requires-clause-key : goal.has_pair-requires-clause-key
has_pair-requires-clause-key c = plain_default c.args.stored.now _ _ _ _ c.in-Repository.is c.requires.limits

pub returns-in-Repository : goal.returns-in-Repository
returns-in-Repository c =
    told_of c.args.raw.now c.args.stored.now _ c.in-Repository.is c.has_pair.result (one_there _ c.has_pair.result c.has_pair.ensures)

pub returns-in-Branch : goal.returns-in-Branch
returns-in-Branch c =
    told_of c.args.raw.now c.args.stored.now _ c.in-Branch.is c.has_commit.result (two_there _ _ c.has_commit.result c.has_commit.ensures)

pub returns-in-Tag : goal.returns-in-Tag
returns-in-Tag c =
    told_of c.args.raw.now c.args.stored.now _ c.in-Tag.is c.has_commit-in-Tag.result (two_there _ _ c.has_commit-in-Tag.result c.has_commit-in-Tag.ensures)

pub returns-in-Note : goal.returns-in-Note
returns-in-Note c =
    told_of c.args.raw.now c.args.stored.now _ c.in-Note.is c.has_pair-in-Note.result (one_there _ c.has_pair-in-Note.result c.has_pair-in-Note.ensures)

pub returns-in-Commit : goal.returns-in-Commit
returns-in-Commit c =
    told_of c.args.raw.now c.args.stored.now _ c.in-Commit.is c.has_commits.result
    (each_there c.args.raw.now c.in-Commit.repo c.as_slice.result.now _ (c.as_slice.ensures ∙ ap (λ (v : CommitRecordValue). v.parents) c.commit.view_is)
    c.has_commits.result c.has_commits.ensures)
