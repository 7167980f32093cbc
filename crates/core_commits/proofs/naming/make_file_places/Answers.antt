use Rattle.std.proofs.Common.{[], ◌∷◌, ◌++◌, take, ap, subst, sym, ◌∙◌}
use Rattle.std.proofs.lemmas.List.{take_more}
use Rattle.std.specs.List.{AllByRecursion}
use Rattle.core_changes.proofs.PlacesLemmas.{same_values}
use Rattle.core_state.specs.FilePlaces.{FilePlaceValue}
use Rattle.core_commits.specs.CommitNames.{HasPlace}
use Rattle.core_commits.proofs.NamingLemmas.{each_more, each_weaker}
use Rattle.core_commits.proofs.naming.make_file_places.Goals as goal

pub returns-in_err-make_place-clause-same : goal.returns-in_err-make_place-clause-same
returns-in_err-make_place-clause-same c =
    same_values {X = FilePlaceValue} (λ place. place.bytes) c.loop-file.places c.make_place.new.places c.make_place.ensures.same ∙ c.loop-file.invariant.same

pub returns-in_err-make_place-clause-places : goal.returns-in_err-make_place-clause-places
returns-in_err-make_place-clause-places c = c.make_place.ensures.same ∙ c.loop-file.invariant.places

pub loop-file-preserved : goal.loop-file-preserved
loop-file-preserved c =
    let places = c.make_place.new.places in
    let files = c.args.files.now in
    let at = c.loop-file.file-index in
    let file = c.file-item.result in
    let before =
    each_weaker (HasPlace c.loop-file.places) (HasPlace places) (take at files) (λ other. c.make_place.ensures.kept other.name.0) c.loop-file.invariant.room in
    record {
      same = same_values {X = FilePlaceValue} (λ place. place.bytes) c.loop-file.places places c.make_place.ensures.same ∙ c.loop-file.invariant.same;
      places = c.make_place.ensures.same ∙ c.loop-file.invariant.places;
      room =
          subst (AllByRecursion (HasPlace places))
          (sym (take_more files at file c.loop-file-test.true ∙ ap (λ one. take at files ++ one ∷ []) (sym c.file-item.is)))
          (each_more (HasPlace places) (take at files) file before c.in_ok-make_place.ensures.place);
    }
