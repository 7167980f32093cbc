use Rattle.std.proofs.Common.{◌≡◌, take, map}
use Rattle.httparse.specs.Spans.{header_bytes}
use Rattle.http_wire.specs.Parsing.{field_of_bytes}
use Rattle.http_wire.proofs.request.field_list.Given as goal

abbrev pub invariant-loop-header : goal.invariant-loop-header
invariant-loop-header l = l.fields.items ≡ map field_of_bytes (map (header_bytes l.head) (take l.header-index l.headers))
