use Rattle.std.proofs.Common.{ap, ◌∙◌}
use Rattle.std.specs.List.{slice_get}
use Rattle.meta_range.specs.RangeNames.{place_in, range_name}
use Rattle.meta_range.proofs.NamesLemmas.{is_first_named}
use Rattle.meta_range.proofs.named_ranges.NamedRanges.is_first.Goals as goal

pub returns-in-Some : goal.returns-in-Some
returns-in-Some c =
    let table = c.self.inside.places.entries in
    let told = c.in-Some.ensures.value ∙ ap (place_in table) c.name.ensures in
    let here = ap (λ ranges. slice_get ranges c.args.at) c.self.view_is ∙ c.requires in
    rw (← c.self.view_is) (is_first_named range_name table c.self.inside.ranges.items c.args.range.now c.in-Some.first.now c.args.at c.self.invariant told here)
