use Rattle.std.proofs.Common.{sym, ◌∙◌}
use Rattle.meta_range.proofs.NamesLemmas.{puts_nothing, puts_new}
use Rattle.meta_range.proofs.places.put_first.Goals as goal

pub returns-then-contains_key : goal.returns-then-contains_key
returns-then-contains_key c = puts_nothing c.args.places.now.entries c.args.name c.args.at (sym c.contains_key.ensures ∙ c.if-contains_key.true)

pub returns : goal.returns
returns c = puts_new c.args.places.now.entries c.args.name c.args.at c.insert.new.self.entries (sym c.contains_key.ensures ∙ c.if-contains_key.false)
    c.in_ok-insert.ensures.updates.0
