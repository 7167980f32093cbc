use Rattle.std.proofs.Common.{arith, ap, sym, ◌∙◌}
use Rattle.lake_format.specs.Reading.{read_entry}
use Rattle.lake_format.proofs.EncodingLemmas.{shorter}
use Rattle.lake_format.proofs.encoding.entry_with_end.Goals as goal

pub overflow_sub-result : goal.overflow_sub-result
overflow_sub-result c = shorter c.args.bytes.now c.args.from c.in_ok-entry.entry c.in_ok-entry.rest.now (λ i. omega (arith, c.type_inv.bytes i))
    (ap read_entry (sym c.tail.ensures) ∙ c.in_ok-entry.ensures)
