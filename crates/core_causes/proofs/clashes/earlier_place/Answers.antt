use Rattle.std.proofs.Common.{ap, sym}
use Rattle.std.specs.Prelude.{is_some}
use Rattle.meta_range.proofs.NamesLemmas.{puts_new}
use Rattle.core_causes.proofs.clashes.earlier_place.Goals as goal

pub returns : goal.returns
returns c = (
  c.in_default.ensures.value,
  puts_new c.args.firsts.now.entries c.args.name c.args.place c.insert.new.self.entries (sym (ap is_some c.in_default.ensures.value))
      c.in_ok-insert.ensures.updates.0,
)
