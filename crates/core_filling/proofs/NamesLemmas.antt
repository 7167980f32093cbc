-- The names of the files of a tree are put.
use Rattle.std.proofs.Common.{◌≡◌, ◌⊎◌, ◌<◌, ◌≤◌, ◌+◌, ◌==◌, inl, inr, ℕ, zero, suc, Bool, true, false, List, [], ◌∷◌, length, drop, get_or, Option, Some, refl, sym, ap, subst, ◌∙◌, arith}
use Rattle.std.specs.FinMap.{get, insert}
use Rattle.std.specs.List.{Contains}
use Rattle.std.specs.Option.{unwrap_or}
use Rattle.std.proofs.lemmas.Bool.{eqb-true}
use Rattle.std.proofs.lemmas.List.{drop_all, drop_more}
use Rattle.std.proofs.lemmas.List.Elements.{Contains-get_or}
use Rattle.std.proofs.lemmas.Option.{unwrap_or-slice_get}
use Rattle.lake_base.specs.Maps.{ByteMap}
use Rattle.lake_base.specs.declared.digest.Digest.{Digest}
use Rattle.lake_format.specs.Spelling.{file_name}
use Rattle.meta_range.specs.Files.{file_at}
use Rattle.meta_range.specs.Ranges.{TreeValue}
use Rattle.byte_map.specs.Values.{some_values}
use Rattle.byte_map.proofs.ValuesLemmas.{some_values_insert}
use Rattle.core_state.specs.FilePlaces.{FilePlaceValue}
use Rattle.core_state.specs.NameIndexes.{bytes_in}
use Rattle.core_state.specs.NewCommits.{with_files}
use Rattle.core_pairs.specs.KeptPlaces.{IsFileAs, IsPlaceIn}
use Rattle.core_pairs.proofs.PlaceLemmas.{found}
use Rattle.core_filling.specs.Filling.{CommitRead}
use Rattle.core_filling.specs.NewPlaces.{AddsPlaces, AddsPlacesOf, IsPlaceOf}

-- ---- the place of a file

-- the file at a place of a tree, as it is kept
abbrev pub place_at : TreeValue → ℕ → FilePlaceValue
place_at tree place = record { bytes = file_at tree.files place; is_metarange = place == 0 }

file_there : (files : List (List ℕ)) (place : ℕ) → place < length files → Contains files (file_at files place)
file_there files place within = subst (Contains files) (sym (unwrap_or-slice_get files place [])) (Contains-get_or files place [] within)

never : (k : ℕ) → (suc k == 0) ≡ false
never k = by (suc k == 0) refl
  where
    by : (b : Bool) → (suc k == 0) ≡ b → b ≡ false
    by true e = let same : suc k ≡ 0 = eqb-true (suc k) 0 e in absurd (omega (arith, same))
    by false e = refl

-- it has the kind that it has in the tree
pub place_is : (tree : TreeValue) (place : ℕ) → place < length tree.files → IsPlaceIn tree (place_at tree place)
place_is tree place within = by tree.files refl place within
  where
    by : (files : List (List ℕ)) → tree.files ≡ files → (place : ℕ) → place < length files
        → IsPlaceIn tree (record { bytes = file_at files place; is_metarange = place == 0 })
    by [] is place within = absurd (omega (arith, within))
    by (metarange ∷ ranges) is zero within = (ranges, is)
    by (metarange ∷ ranges) is (suc place) within =
        subst (λ kind. IsFileAs tree kind (file_at ranges place)) (sym (never place))
        (metarange, (ranges, (is, file_there ranges place (omega (arith, within)))))

module _ (files : ByteMap (Option FilePlaceValue)) (tree : TreeValue) (place : ℕ) (name : Digest) (file : FilePlaceValue)
    (named : name ≡ file_name (file_at tree.files place)) (is : file ≡ place_at tree place) where
  -- one is put
  pub named_put : some_values bytes_in (insert files name.0 (Some file))
      ≡ insert (some_values bytes_in files) (file_name (file_at tree.files place)).0 (file_at tree.files place)
  named_put =
      some_values_insert bytes_in files name.0 (Some file) file.bytes refl
      ∙ (λ i. insert (some_values bytes_in files) (named i).0 (is i).bytes)

  pub place_put : place < length tree.files → AddsPlaces tree files (insert files name.0 (Some file))
  place_put within other found_place there = by (found files name.0 (Some file) other (Some found_place) there)
    where
      by : ((other ≡ name.0) × (Some file ≡ Some found_place)) ⊎ ((other ≡ name.0 → ⊥) × (get files other ≡ Some (Some found_place)))
          → (get files other ≡ Some (Some found_place)) ⊎ IsPlaceOf tree other found_place
      by (inl (same, one)) =
          let it : file ≡ found_place = cc in
          let here : place_at tree place ≡ found_place = sym is ∙ it in
          inr (record {
            named = ap (λ (p : FilePlaceValue). (file_name p.bytes).0) (sym here) ∙ ap (λ (n : Digest). n.0) (sym named) ∙ sym same;
            is = subst (IsPlaceIn tree) here (place_is tree place within);
          })
      by (inr (apart, before)) = inl before

-- ---- one after the other

pub adds_none : (tree : TreeValue) (files : ByteMap (Option FilePlaceValue)) → AddsPlaces tree files files
adds_none tree files name place there = inl there

pub adds_more : (tree : TreeValue) (a b c : ByteMap (Option FilePlaceValue)) → AddsPlaces tree a b → AddsPlaces tree b c → AddsPlaces tree a c
adds_more tree a b c first then name place there = by (then name place there)
  where
    by : (get b name ≡ Some (Some place)) ⊎ IsPlaceOf tree name place → (get a name ≡ Some (Some place)) ⊎ IsPlaceOf tree name place
    by (inl before) = first name place before
    by (inr new) = inr new

-- files from a place on are put
pub files_from : (all : List (List ℕ)) (place : ℕ) (kept now new : ByteMap (List ℕ)) → place < length all
    → now ≡ with_files (drop (place + 1) all) kept → new ≡ insert now (file_name (file_at all place)).0 (file_at all place)
    → new ≡ with_files (drop place all) kept
files_from all place kept now new within before put =
    put ∙ ap (λ m. insert m (file_name (file_at all place)).0 (file_at all place)) before
    ∙ ap (λ (file : List ℕ). insert (with_files (drop (place + 1) all) kept) (file_name file).0 file) (unwrap_or-slice_get all place [])
    ∙ sym (ap (λ files. with_files files kept) (drop_more all place [] within))

pub none_behind : (all : List (List ℕ)) (place : ℕ) (kept : ByteMap (List ℕ)) → length all ≤ place → kept ≡ with_files (drop place all) kept
none_behind all place kept past = sym (ap (λ files. with_files files kept) (drop_all place all past))
