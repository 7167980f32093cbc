use Rattle.std.proofs.Common.{sym, ◌∙◌}
use Rattle.meta_range.proofs.ProvenanceLemmas.{dest_is_base, on_true, same_name, source_is_base}
use Rattle.meta_range.proofs.provenance.is_of_one_side.Goals as goal

pub returns-then-eq : goal.returns-then-eq
returns-then-eq c =
    on_true c.eq.result (λ same.
    source_is_base c.law_of_ends.ensures.same c.law_of_ends.ensures.agree c.args.tree.now c.args.base.now c.args.source.now c.args.dest.now
    c.ends.result.0.now c.ends.result.1.now c.args.place c.in-Some.base_place c.in-Some-place_with_ends.source_place c.in-Some-place_with_ends-2.dest_place
    c.ends.ensures c.in-Some.ensures.ends c.in-Some-place_with_ends.ensures.ends c.in-Some-place_with_ends-2.ensures.ends
    c.in-Some.ensures.within c.in-Some-place_with_ends.ensures.within c.in-Some-place_with_ends-2.ensures.within c.requires.made c.requires.known
    (sym c.file_name.ensures ∙ same_name _ _ c.eq.result c.eq.ensures same ∙ c.file_name-base_name.ensures))

pub returns-else-eq : goal.returns-else-eq
returns-else-eq c =
    on_true c.eq-else-eq.result (λ same.
    dest_is_base c.law_of_ends.ensures.same c.law_of_ends.ensures.agree c.args.tree.now c.args.base.now c.args.source.now c.args.dest.now
    c.ends.result.0.now c.ends.result.1.now c.args.place c.in-Some.base_place c.in-Some-place_with_ends.source_place c.in-Some-place_with_ends-2.dest_place
    c.ends.ensures c.in-Some.ensures.ends c.in-Some-place_with_ends.ensures.ends c.in-Some-place_with_ends-2.ensures.ends
    c.in-Some.ensures.within c.in-Some-place_with_ends.ensures.within c.in-Some-place_with_ends-2.ensures.within c.requires.made c.requires.known
    (sym c.file_name-else-eq.ensures ∙ same_name _ _ c.eq-else-eq.result c.eq-else-eq.ensures same ∙ c.file_name-base_name.ensures))
