use Rattle.std.proofs.Common.{ap, refl, sym, ◌∙◌}
use Rattle.std.specs.Str.{bytes_eq}
use Rattle.pair_format.specs.declared.stored.Stored.TheVariants as stored
use Rattle.pair_ties.proofs.FilesLemmas.{absent_other, same_bytes, surely, told_same, untold_metarange, untold_other}
use Rattle.pair_trees.proofs.FoundLemmas.{at_none, at_some}
use Rattle.pair_ties.proofs.files.is_tied_metarange.Goals as goal

pub returns-then-not-contains_key : goal.returns-then-not-contains_key
returns-then-not-contains_key c =
    surely _ (untold_metarange c.args.tables.now.cut c.args.pairs.now c.as_slice.ensures.limits c.as_slice.ensures.apart c.args.at c.args.name.now
    c.args.bytes.now
    c.requires.here (sym (c.contains_key.ensures ∙ c.requires.tables.metaranges c.args.name.now) ∙ c.if-not-contains_key.true))

pub returns-then-not-contains_key-2 : goal.returns-then-not-contains_key-2
returns-then-not-contains_key-2 c =
    surely _ (untold_other c.args.tables.now.cut c.args.pairs.now c.as_slice.ensures.limits c.as_slice.ensures.apart c.args.at c.args.name.now c.args.bytes.now
    c.requires.here (sym (c.contains_key-2.ensures ∙ c.requires.tables.ranges c.args.name.now) ∙ c.if-not-contains_key-2.true))

pub returns-in-Some : goal.returns-in-Some
returns-in-Some c =
    same_bytes _ c.in-Some.other.now c.args.bytes.now c.eq.result (c.eq.ensures ∙ ap (λ l. bytes_eq l c.args.bytes.now) c.as_slice-in-Some.ensures)
    (told_same c.args.tables.now.cut c.args.pairs.now c.as_slice.ensures.limits c.as_slice.ensures.apart c.args.at c.args.name.now c.args.bytes.now
    c.requires.here c.in-Some.other.now (at_some _ _ c.in_ok-other.field-0 c.in-Some.other c.in_ok-other.ensures c.in-Some.is)
    (sym (c.contains_key.ensures ∙ c.requires.tables.metaranges c.args.name.now) ∙ c.if-not-contains_key.false)
    (sym (c.contains_key-2.ensures ∙ c.requires.tables.ranges c.args.name.now) ∙ c.if-not-contains_key-2.false))

pub returns-in-None : goal.returns-in-None
returns-in-None c =
    surely _ (absent_other c.args.tables.now.cut c.args.pairs.now c.as_slice.ensures.limits c.as_slice.ensures.apart c.args.at c.args.name.now c.args.bytes.now
    c.requires.here (λ other there. at_none _ _ c.in_ok-other.field-0 c.in_ok-other.ensures c.in-None.is
    (record { thing = stored.Range c.args.name.now other; there = there; under = refl })))
