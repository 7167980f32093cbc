use Rattle.meta_range.proofs.ProvenanceLemmas.{range_kept}
use Rattle.meta_range.proofs.provenance.is_unchanged.Goals as goal

pub returns-in-Some : goal.returns-in-Some
returns-in-Some c =
    range_kept c.law_of_ends.ensures.same c.args.tree.now c.args.old.now c.args.place c.in-Some.field-0 c.ends.result.0.now c.ends.result.1.now
    c.args.changes.now
    c.ends.ensures c.in-Some.ensures.ends c.in-Some.ensures.within c.requires.made c.has_none_between.result c.has_none_between.ensures
