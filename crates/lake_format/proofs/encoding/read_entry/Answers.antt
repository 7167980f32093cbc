use Rattle.lake_format.proofs.FieldsLemmas.{text_limits}
use Rattle.lake_format.proofs.EncodingLemmas.{place_limits}
use Rattle.lake_format.proofs.encoding.read_entry.Goals as goal

pub invariant_of-entry : goal.invariant_of-entry
invariant_of-entry c = (
  place_limits c.args.bytes.now c.in_ok-place.place c.in_ok-place.rest.now c.in_ok-place.ensures,
  (text_limits 0 255 c.in_ok-mtime.rest.now c.in_ok-content_type.content_type c.in_ok-content_type.rest.now c.in_ok-content_type.ensures).short,
)
