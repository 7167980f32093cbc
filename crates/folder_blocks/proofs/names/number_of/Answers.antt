use Rattle.std.proofs.Common.{◌≡◌, Ok, ap, sym, ◌∙◌}
use Rattle.std.specs.Int.{w64, from_be_bytes}
use Rattle.std.specs.Result.{is_err}
use Rattle.std.proofs.lemmas.Nat.{from_be_bytes-to_be_bytes_8}
use Rattle.folder_blocks.specs.ObjectNames.{object_name}
use Rattle.folder_blocks.proofs.NamesLemmas.{decodes}
use Rattle.folder_blocks.proofs.names.number_of.Goals as goal

pub returns-then-is_err-clause-unnamed : goal.returns-then-is_err-clause-unnamed
returns-then-is_err-clause-unnamed c number fits same =
    let read = rw (same, decodes number) at c.decode_to_slice.ensures.value in
    let e = sym c.if-is_err.true ∙ c.is_err.ensures.value ∙ ap is_err read.0 in cc

pub returns-else-is_name_of-clause-unnamed : goal.returns-else-is_name_of-clause-unnamed
returns-else-is_name_of-clause-unnamed c number fits same =
    let read = rw (same, decodes number) at c.decode_to_slice.ensures.value in
    let is : c.from_be_bytes-number.result ≡ number =
    c.from_be_bytes-number.ensures ∙ ap (from_be_bytes w64) read.1 ∙ from_be_bytes-to_be_bytes_8 number fits in
    let named = c.is_name_of.ensures.1 (same ∙ ap object_name (sym is)) in
    let e = sym c.if-is_name_of.false ∙ named in cc
