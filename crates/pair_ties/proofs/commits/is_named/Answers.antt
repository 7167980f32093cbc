use Rattle.std.proofs.Common.{ap, sym, ◌∙◌}
use Rattle.lake_base.specs.Digest.{sha256}
use Rattle.pair_ties.proofs.CommitsLemmas.{id_is_own, named_like, some_first}
use Rattle.pair_ties.proofs.FilesLemmas.{iff_ok}
use Rattle.pair_ties.proofs.commits.is_named.Goals as goal

pub returns-in-Some : goal.returns-in-Some
returns-in-Some c =
    let here = c.requires.here in
    let is = sym (c.requires.tables.commits c.args.id.now) ∙ sym c.in-Some.ensures.value in
    let spelled = c.in_ok-bytes.ensures.spelled in
    let named = id_is_own c.in_ok-bytes.bytes.items c.args.commit.now spelled c.of.result c.args.id.now (c.of.ensures ∙ ap sha256 c.as_slice-2.ensures.value)
    c.ne.result c.ne.ensures c.if-ne.false in
    iff_ok _ _ (named_like c.args.tables.now.cut c.args.raw.now c.args.pairs.now c.as_slice.ensures.limits c.args.at c.requires.before c.args.id.now
    c.args.commit.now here.0 here.1 here.2 c.in-Some.first.now is c.as_slice-in-Some.result.now (c.as_slice-in-Some.ensures.value ∙ spelled) named)
    c.is_like_first.result c.is_like_first.ensures

pub returns : goal.returns
returns c =
    let here = c.requires.here in
    absurd (some_first c.args.tables.now.cut c.args.raw.now c.args.pairs.now c.as_slice.ensures.limits c.args.at c.requires.before c.args.id.now
    c.args.commit.now here.0 here.1 here.2 (sym (c.requires.tables.commits c.args.id.now) ∙ sym c.in-None.ensures.value))
