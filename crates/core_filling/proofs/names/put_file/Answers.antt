use Rattle.std.proofs.Common.{ap, sym, subst, ◌∙◌}
use Rattle.byte_map.specs.Values.{some_values}
use Rattle.lake_format.specs.Spelling.{file_name}
use Rattle.meta_range.specs.Files.{file_at}
use Rattle.meta_range.specs.Ranges.{TreeValue}
use Rattle.core_state.specs.NameIndexes.{bytes_in}
use Rattle.core_filling.specs.NewPlaces.{AddsPlaces}
use Rattle.core_filling.proofs.NamesLemmas.{named_put, place_at, place_put}
use Rattle.core_filling.proofs.names.put_file.Goals as goal

pub returns-clause-names : goal.returns-clause-names
returns-clause-names c =
    let tree = c.args.tree.now.value in
    ap (some_values bytes_in) c.in_ok-insert.ensures.inserted
    ∙ named_put c.args.files.now tree c.args.place c.file_name-name.result c.of-file.result
    (c.file_name-name.ensures ∙ ap (λ (t : TreeValue). file_name (file_at t.files c.args.place)) c.deref.ensures)
    (c.of-file.ensures ∙ ap (λ (t : TreeValue). place_at t c.args.place) c.in_ok-clone.ensures.cases)

pub returns-clause-places : goal.returns-clause-places
returns-clause-places c =
    let tree = c.args.tree.now.value in
    subst (AddsPlaces tree c.args.files.now) (sym c.in_ok-insert.ensures.inserted)
    (place_put c.args.files.now tree c.args.place c.file_name-name.result c.of-file.result
    (c.file_name-name.ensures ∙ ap (λ (t : TreeValue). file_name (file_at t.files c.args.place)) c.deref.ensures)
    (c.of-file.ensures ∙ ap (λ (t : TreeValue). place_at t c.args.place) c.in_ok-clone.ensures.cases)
    c.requires)
