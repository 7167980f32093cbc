use Rattle.std.proofs.Common.{sym, subst}
use Rattle.std.proofs.lemmas.Result.{on_ok_weaker}
use Rattle.core_state.specs.declared.names.NameIndex.{NameIndex}
use Rattle.core_filling.specs.NewPlaces.{AddsPlaces}
use Rattle.core_filling.proofs.commits.put_read.Goals as goal

pub returns-clause-places : goal.returns-clause-places
returns-clause-places c =
    on_ok_weaker c.put_part.result
    (λ _. subst (λ (names : NameIndex). AddsPlaces c.args.read.tree.value c.args.lake.now.names.files names.files) (sym c.put_part.ensures.names)
    c.in_ok-put_names.ensures.places)
    c.put_part.ensures.lake
