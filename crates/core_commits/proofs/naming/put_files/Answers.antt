use Rattle.std.proofs.Common.{Some, refl, ap, subst, sym, ◌∙◌}
use Rattle.std.specs.List.{AllByRecursion}
use Rattle.lake_base.specs.declared.digest.Digest.{Digest}
use Rattle.byte_map.specs.Values.{some_values}
use Rattle.byte_map.proofs.ValuesLemmas.{some_values_insert}
use Rattle.core_state.specs.NameIndexes.{bytes_in}
use Rattle.core_changes.proofs.NewPlaceLemmas.{place_put, places_more}
use Rattle.core_commits.specs.CommitNames.{HasPlace, IsFileOf, with_named}
use Rattle.core_commits.proofs.NamingLemmas.{each_before, last_first, still_places}
use Rattle.core_commits.proofs.PlacesLeftLemmas.{each_last, same_new_places}
use Rattle.core_commits.proofs.naming.put_files.Goals as goal

pub loop-name-init : goal.loop-name-init
loop-name-init c = record {
  room = c.requires;
  same = refl;
  places = λ tree are named. (are, same_new_places c.args.places.now tree named);
}

pub loop-name-preserved : goal.loop-name-preserved
loop-name-preserved c =
    let places = c.loop-name.places in
    let kept = some_values bytes_in places in
    let rest = c.pop.new.self.items in
    let file = c.in-Some.field-0 in
    let room = subst (AllByRecursion (HasPlace places)) c.in-Some.ensures.items c.loop-name.invariant.room in
    record {
      room =
          subst (λ m. AllByRecursion (HasPlace m) rest) (sym c.put_in_place.ensures)
          (still_places places file.name (Some file.place) rest (each_before (HasPlace places) rest file room));
      same =
          ap (with_named rest) (ap (some_values bytes_in) c.put_in_place.ensures
          ∙ some_values_insert bytes_in places file.name.0 (Some file.place) file.place.bytes refl)
          ∙ sym (last_first rest file kept) ∙ ap (λ files. with_named files kept) (sym c.in-Some.ensures.items)
          ∙ c.loop-name.invariant.same;
      places = λ tree are named.
          let was = c.loop-name.invariant.places tree are named in
          let each = subst (AllByRecursion (IsFileOf tree)) c.in-Some.ensures.items was.0 in
          let one = each_last (IsFileOf tree) rest file each in
          let put = place_put places file.name.0 file.place c.put_in_place.new.places tree c.put_in_place.ensures was.1.named
          (ap (λ (d : Digest). d.0) (sym one.name)) one.place in
          (each_before (IsFileOf tree) rest file each, places_more c.args.places.now places c.put_in_place.new.places tree was.1 put);
    }

pub returns-clause-places : goal.returns-clause-places
returns-clause-places c tree are named = (c.loop-name.invariant.places tree are named).1
