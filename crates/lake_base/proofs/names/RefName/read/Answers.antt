use Rattle.std.proofs.Common.{sym}
use Rattle.lake_base.proofs.NamesLemmas.{ref_text}
use Rattle.lake_base.proofs.names.RefName.read.Goals as goal

pub of_utf8-requires : goal.of_utf8-requires
of_utf8-requires c = ref_text c.args.bytes.now (sym c.in_default.ensures)
