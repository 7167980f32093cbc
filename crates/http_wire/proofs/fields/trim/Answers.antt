use Rattle.std.proofs.Common.{ℕ, List, ap, ◌∙◌, reverse}
use Rattle.httparse.specs.Grammar.{skip_ows, trim_ows}
use Rattle.http_wire.proofs.fields.trim.Goals as goal

pub returns : goal.returns
unfolding trim_ows
returns c = c.trim_end.ensures ∙ ap (λ (l : List ℕ). reverse (skip_ows (reverse l))) c.trim_start.ensures
