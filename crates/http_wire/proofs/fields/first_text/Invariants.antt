use Rattle.std.proofs.Common.{◌≡◌, drop, filter}
use Rattle.http_wire.specs.MessageFields.{is_named}
use Rattle.http_wire.proofs.fields.first_text.Given as goal

-- none of the fields that were passed has the name
abbrev pub invariant-loop-at : goal.invariant-loop-at
invariant-loop-at l = filter (is_named l.name) l.fields ≡ filter (is_named l.name) (drop l.at l.fields)
