use Rattle.std.proofs.Common.{ap, sym, ◌∙◌}
use Rattle.pair_format.specs.declared.stored.Stored.TheVariants as stored
use Rattle.pair_ties.proofs.BreakingLemmas.{right_as, told_as}
use Rattle.pair_ties.proofs.breaking.is_right.Goals as goal

pub returns-in-Branch : goal.returns-in-Branch
returns-in-Branch c =
    right_as c.args.tables.now.cut c.args.raw.now c.args.pairs.now c.args.at c.args.stored.now _
    (c.in-Branch.is ∙ ap (λ l. stored.Branch c.in-Branch.repo c.in-Branch.branch c.in-Branch.version c.in-Branch.head c.in-Branch.staging l)
    (sym c.as_slice.ensures))
    c.is_right_branch.result c.is_right_branch.ensures

pub returns-in-Tag : goal.returns-in-Tag
returns-in-Tag c =
    right_as c.args.tables.now.cut c.args.raw.now c.args.pairs.now c.args.at c.args.stored.now _ c.in-Tag.is
    c.isnt_expired.result c.isnt_expired.ensures

pub returns-in-Commit : goal.returns-in-Commit
returns-in-Commit c =
    right_as c.args.tables.now.cut c.args.raw.now c.args.pairs.now c.args.at c.args.stored.now _ c.in-Commit.is
    c.is_right_commit.result c.is_right_commit.ensures

pub returns-in-MetaRange : goal.returns-in-MetaRange
returns-in-MetaRange c =
    right_as c.args.tables.now.cut c.args.raw.now c.args.pairs.now c.args.at c.args.stored.now _
    (c.in-MetaRange.is ∙ ap (λ l. stored.MetaRange c.in-MetaRange.name l) (sym c.as_slice-in-MetaRange.ensures))
    c.is_tied_metarange.result c.is_tied_metarange.ensures

pub returns-in-Range : goal.returns-in-Range
returns-in-Range c =
    right_as c.args.tables.now.cut c.args.raw.now c.args.pairs.now c.args.at c.args.stored.now _
    (c.in-Range.is ∙ ap (λ l. stored.Range c.in-Range.name l) (sym c.as_slice-in-Range.ensures))
    c.is_tied_range.result c.is_tied_range.ensures

pub returns-in-Staged : goal.returns-in-Staged
returns-in-Staged c =
    right_as c.args.tables.now.cut c.args.raw.now c.args.pairs.now c.args.at c.args.stored.now _ c.in-Staged.is
    c.is_right_staged.result c.is_right_staged.ensures

pub returns-in-Note : goal.returns-in-Note
returns-in-Note c =
    right_as c.args.tables.now.cut c.args.raw.now c.args.pairs.now c.args.at c.args.stored.now _
    (c.in-Note.is ∙ ap (λ l. stored.Note c.in-Note.repo c.in-Note.name l) (sym c.as_slice-in-Note.ensures))
    c.is_right_note.result c.is_right_note.ensures

pub returns-in-Repository : goal.returns-in-Repository
returns-in-Repository c =
    told_as c.args.tables.now.cut c.args.raw.now c.args.pairs.now c.args.at c.args.stored.now _ c.in-Repository.is
    c.is_given_version.result c.is_given_version.ensures

pub returns-in-Gone : goal.returns-in-Gone
returns-in-Gone c =
    told_as c.args.tables.now.cut c.args.raw.now c.args.pairs.now c.args.at c.args.stored.now _ c.in-Gone.is
    c.is_given_number.result c.is_given_number.ensures
