use Rattle.std.proofs.Common.{sym, ◌∙◌}
use Rattle.meta_range.proofs.NamesLemmas.{first_matches}
use Rattle.meta_range.proofs.named_ranges.NamedRanges.match_own.Goals as goal

pub returns-then-is_first : goal.returns-then-is_first
returns-then-is_first c = c.if-is_first.true ∙ sym (first_matches c.args.self.now c.args.range.now c.if-is_first.ensures)
