use Rattle.std.proofs.Common.{ap, ◌∙◌}
use Rattle.std.specs.Int.{w64, to_be_bytes}
use Rattle.lake_format.specs.Spelling.{place_spelling, short_text, pairs_spelling, entry_spelling}
use Rattle.lake_format.proofs.WritingLemmas.{appends_then, appends_as}
use Rattle.lake_format.proofs.encoding.write_entry.Goals as goal

pub returns-clause-spelled : goal.returns-clause-spelled
returns-clause-spelled c =
    let e = c.entry.inside in
    let old = c.args.out.now in
    let place = c.write_place.new.out in
    let size = c.write_bytes.new.out in
    let mtime = c.write_bytes-2.new.out in
    let content_type = c.write_text.new.out in
    let metadata = c.write_metadata.new.out in
    let text = ap short_text (c.as_bytes.ensures.value ∙ c.as_str.ensures.bytes) in
    let four = appends_then mtime content_type metadata (short_text e.content_type) (pairs_spelling e.metadata)
    (appends_as mtime content_type _ _ text c.write_text.ensures) c.write_metadata.ensures.spelled in
    let three = appends_then size mtime metadata (to_be_bytes w64 e.mtime) _ (appends_as size mtime _ _ c.to_be_bytes-2.ensures c.write_bytes-2.ensures) four in
    let two = appends_then place size metadata (to_be_bytes w64 e.size) _ (appends_as place size _ _ c.to_be_bytes.ensures c.write_bytes.ensures) three in
    appends_as old metadata _ _ (ap entry_spelling c.entry.view_is)
    (appends_then old place metadata (place_spelling e.place) _ c.write_place.ensures.spelled two)
