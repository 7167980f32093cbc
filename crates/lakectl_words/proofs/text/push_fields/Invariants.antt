-- The bytes so far, and those of the fields that are left.
use Rattle.std.proofs.Common.{◌≡◌, ◌++◌, drop}
use Rattle.std.specs.List.{flat_map}
use Rattle.lakectl_words.specs.WireRequests.{field_text}
use Rattle.lakectl_words.proofs.text.push_fields.Given as goal

abbrev pub invariant-loop-field : goal.invariant-loop-field
invariant-loop-field l = l.out.items ++ flat_map field_text (drop l.field-index l.fields) ≡ l.fn.out.items ++ flat_map field_text l.fn.fields
