use Rattle.std.proofs.Common.{◌≡◌, drop, filter, codes}
use Rattle.http_wire.specs.MessageFields.{is_named}
use Rattle.http_wire.proofs.fields.stated_length.Given as goal

-- none of the fields that were passed is a length
abbrev pub invariant-loop-at : goal.invariant-loop-at
invariant-loop-at l = filter (is_named (codes "content-length")) l.fields ≡ filter (is_named (codes "content-length")) (drop l.at l.fields)
