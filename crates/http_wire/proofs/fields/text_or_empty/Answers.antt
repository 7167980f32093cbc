use Rattle.std.proofs.Common.{[]}
use Rattle.std.proofs.lemmas.Str.{is_utf8-from_IsUtf8, IsUtf8-nil}
use Rattle.http_wire.proofs.fields.text_or_empty.Goals as goal

pub returns-else-is_utf8-clause-text : goal.returns-else-is_utf8-clause-text
returns-else-is_utf8-clause-text c = is_utf8-from_IsUtf8 [] IsUtf8-nil
