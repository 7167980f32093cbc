use Rattle.std.proofs.Common.{sym}
use Rattle.std.specs.Option.{option_copied}
use Rattle.plain_reference.proofs.SegmentLastLemmas.{last_is}
use Rattle.plain_reference.proofs.segments.last_path.Goals as goal

pub returns-in-Some : goal.returns-in-Some
returns-in-Some c = last_is (option_copied c.args.before) c.args.rows.now c.in-Some.row.now (sym c.in-Some.ensures.value)
