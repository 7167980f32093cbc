use Rattle.std.proofs.Common.{◌-◌, ◌++◌, length, ap, ◌∙◌}
use Rattle.std.specs.Int.{w32, to_be_bytes}
use Rattle.lake_base.specs.declared.digest.Digest.{Digest}
use Rattle.lake_format.specs.Spelling.{short_text, path_at, file_name, range_spelling, line_spelling, line_of}
use Rattle.meta_range.proofs.RangesLemmas.{four}
use Rattle.meta_range.proofs.metarange.put_line.Goals as goal

pub returns : goal.returns
unfolding line_spelling line_of
returns c =
    let range = c.args.range.now in
    four c.args.out.now.items (file_name (range_spelling range)).0 (to_be_bytes w32 (length range)) (short_text (path_at range 0))
    (short_text (path_at range (length range - 1)))
    c.put_digest.new.out.items c.extend_from_slice.new.self.items c.put_text.new.out.items c.put_text-2.new.out.items
    (c.in_ok-put_digest.ensures.spelled ∙ ap (λ (name : Digest). c.args.out.now.items ++ name.0) c.name.ensures)
    (c.in_ok-extend_from_slice.ensures.items
    ∙ ap (λ b. c.put_digest.new.out.items ++ b) (c.to_be_bytes.ensures ∙ ap (λ rows. to_be_bytes w32 (length rows)) c.rows.ensures.rows))
    (c.in_ok-put_text.ensures.spelled ∙ ap (λ path. c.extend_from_slice.new.self.items ++ short_text path) (c.as_slice.ensures.bytes ∙ c.first.ensures))
    (c.in_ok-put_text-2.ensures.spelled ∙ ap (λ path. c.put_text.new.out.items ++ short_text path) (c.as_slice-2.ensures.bytes ∙ c.last.ensures))
