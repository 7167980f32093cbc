-- Places of files of the trees of commits.
use Rattle.std.proofs.Common.{◌≡◌, ◌⊎◌, inl, inr, List, Option, Some}
use Rattle.std.specs.FinMap.{get}
use Rattle.std.specs.List.{Contains}
use Rattle.lake_base.specs.Maps.{ByteMap}
use Rattle.core_state.specs.FilePlaces.{FilePlaceValue}
use Rattle.core_filling.specs.Filling.{CommitRead}
use Rattle.core_filling.specs.NewPlaces.{AddsPlaces, AddsPlacesOf, IsPlaceAmong, IsPlaceOf}

-- of these commits, which are among those
pub places_among : (these those : List CommitRead) → ((commit : CommitRead) → Contains these commit → Contains those commit)
    → (before after : ByteMap (Option FilePlaceValue)) → AddsPlacesOf these before after → AddsPlacesOf those before after
places_among these those within before after adds name place there = by (adds name place there)
  where
    by : (get before name ≡ Some (Some place)) ⊎ IsPlaceAmong these name place → (get before name ≡ Some (Some place)) ⊎ IsPlaceAmong those name place
    by (inl old) = inl old
    by (inr new) = inr (record { commit = new.commit; among = within new.commit new.among; of = new.of })

pub places_none : (commits : List CommitRead) (files : ByteMap (Option FilePlaceValue)) → AddsPlacesOf commits files files
places_none commits files name place there = inl there

-- and then those of one of them
pub places_more : (commits : List CommitRead) (commit : CommitRead) → Contains commits commit → (a b c : ByteMap (Option FilePlaceValue))
    → AddsPlacesOf commits a b → AddsPlaces commit.tree b c → AddsPlacesOf commits a c
places_more commits commit among a b c first then name place there = by (then name place there)
  where
    by : (get b name ≡ Some (Some place)) ⊎ IsPlaceOf commit.tree name place → (get a name ≡ Some (Some place)) ⊎ IsPlaceAmong commits name place
    by (inl old) = first name place old
    by (inr new) = inr (record { commit = commit; among = among; of = new })
