use Rattle.std.proofs.lemmas.Str.{IsUtf8-from_is_utf8}
use Rattle.lake_base.proofs.text.Text.from_vec.Goals as goal

pub unreachable-requires : goal.unreachable-requires
unreachable-requires c = cc (c.in-Err.ensures.succeeds (IsUtf8-from_is_utf8 c.args.bytes.items c.requires))
