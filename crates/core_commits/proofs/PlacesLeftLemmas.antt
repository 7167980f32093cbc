-- The places of files that a new head leaves in the index, and what holds of its commit where it was tried.
use Rattle.std.proofs.Common.{◌≡◌, ◌<◌, ◌⊎◌, ◌==◌, inl, inr, ℕ, zero, suc, false, List, [], ◌∷◌, ◌++◌, length, refl, sym, ap, subst, ◌∙◌, arith}
use Rattle.std.proofs.lemmas.Bool.{ne_eqb}
use Rattle.std.specs.Prelude.{Option, Some, None, Result, Ok, Err, IsErrAnd, IsSomeAnd, option_and_then}
use Rattle.std.specs.FinMap.{get}
use Rattle.std.specs.List.{AllByRecursion, Contains}
use Rattle.lake_base.specs.Maps.{ByteMap}
use Rattle.lake_base.specs.declared.digest.Digest.{Digest}
use Rattle.lake_values.proofs.OrderLemmas.{Contains-first, Contains-later}
use Rattle.lake_format.specs.Spelling.{file_name}
use Rattle.meta_range.specs.Files.{file_at}
use Rattle.meta_range.specs.Ranges.{TreeValue}
use Rattle.byte_map.proofs.ValuesLemmas.{get_some_values}
use Rattle.lake_model.specs.declared.fault.StepFault.{StepFault}
use Rattle.lake_model.specs.declared.fault.StepFault.TheVariants.{StoreFault, NoMemory}
use Rattle.lake_model.specs.Refusals.{IsRefusal}
use Rattle.core_state.specs.FilePlaces.{FilePlaceValue}
use Rattle.core_state.specs.Index.{HasIndex}
use Rattle.core_state.specs.NameIndexes.{bytes_in}
use Rattle.core_state.specs.NewCommits.{NewCommit}
use Rattle.core_state.specs.declared.file_place.FilePlace.{FilePlace}
use Rattle.core_state.specs.declared.lake.LakeState.{LakeState}
use Rattle.core_state.specs.LakeStates.{lake_value}
use Rattle.core_changes.specs.NewPlaces.{AreNamedPlaces, HasNewPlaces, HaveSamePlaces, IsFileAs}
use Rattle.core_changes.proofs.NewPlaceLemmas.{same_stands}
use Rattle.core_commits.specs.declared.naming.NamedFile.{NamedFile}
use Rattle.core_commits.specs.CommitNames.{IsFileOf}
use Rattle.core_commits.specs.Making.{HoldsOfTried, LeavesPlaces}

-- ---- the files of a tree

contains_at : (files : List (List ℕ)) (n : ℕ) → n < length files → Contains files (file_at files n)
contains_at [] n within = absurd (omega arith)
contains_at (file ∷ files) zero within = Contains-first file files
contains_at (file ∷ files) (suc n) within = Contains-later file (file_at files n) files (contains_at files n (omega arith))

-- a later place isn't the first
later : (n : ℕ) → (suc n == 0) ≡ false
later n = ne_eqb (suc n) 0 (λ same. omega (arith, same))

-- the first one is the metarange, and the others are ranges
kind_at : (tree : TreeValue) (files : List (List ℕ)) (n : ℕ) → tree.files ≡ files → n < length files → IsFileAs tree (n == 0) (file_at files n)
kind_at tree [] n is within = absurd (omega arith)
kind_at tree (file ∷ files) zero is within = (files, is)
kind_at tree (file ∷ files) (suc n) is within =
    subst (λ kind. IsFileAs tree kind (file_at files n)) (sym (later n)) (file, (files, (is, contains_at files n (omega arith))))

-- the place of one of them
abbrev pub place_at : TreeValue → ℕ → FilePlaceValue
place_at tree n = record { bytes = file_at tree.files n; is_metarange = n == 0 }

pub file_of_tree : (tree : TreeValue) (n : ℕ) → n < length tree.files → (name : Digest) (place : FilePlace) → name ≡ file_name (file_at tree.files n)
    → place ≡ place_at tree n → IsFileOf tree (record { name = name; place = place })
file_of_tree tree n within name place named is = record {
  name = named ∙ sym (ap (λ (p : FilePlaceValue). file_name p.bytes) is);
  place = subst (λ (p : FilePlaceValue). IsFileAs tree p.is_metarange p.bytes) (sym is) (kind_at tree tree.files n refl within);
}

-- what holds of each holds of the last
pub each_last : {X : Type 0} (P : X → Type 0) (xs : List X) (x : X) → AllByRecursion P (xs ++ x ∷ []) → P x
each_last P [] x each = each.0
each_last P (y ∷ ys) x each = each_last P ys x each.1

-- ---- the index

pub same_new_places : (kept : ByteMap (Option FilePlace)) (tree : TreeValue) → AreNamedPlaces kept → HasNewPlaces kept kept tree
same_new_places kept tree named = record { named = named; told = λ name place there. inl there }

-- where there is room for others
pub still_named_places : (before after : ByteMap (Option FilePlace)) → HaveSamePlaces before after → AreNamedPlaces before → AreNamedPlaces after
still_named_places before after same named = λ name place there. named name place (same_stands before after same name place there)

pub places_since : (before middle after : ByteMap (Option FilePlace)) (tree : TreeValue) → HaveSamePlaces before middle
    → HasNewPlaces middle after tree → HasNewPlaces before after tree
places_since before middle after tree same places = record {
  named = places.named;
  told = λ name place there. elim (places.told name place there) [
    | inl was ↦ inl (same_stands before middle same name place was)
    | inr within ↦ inr within
  ];
}

-- the files that the index tells of are under their names
pub index_named : (lake : LakeState) → HasIndex (lake_value lake) → AreNamedPlaces lake.names.files
unfolding lake_value
index_named lake index name place there =
    index.named name place.bytes (get_some_values bytes_in lake.names.files name ∙ ap (option_and_then bytes_in) there)

-- ---- what was tried

module _ (P : NewCommit → Type 0) (drafted : Option NewCommit) where
  same_tried : (X : Type 0) (fault : StepFault) → IsRefusal fault → HoldsOfTried {X = X} P drafted (Err fault)
  same_tried X NoMemory is = tt
  same_tried X StoreFault is = absurd is
  same_tried X fault is = tt

  -- a refusal tells nothing
  pub refused_tried : {X : Type 0} (answer : Result X StepFault) (fault : StepFault) → IsErrAnd answer (λ e. e ≡ fault)
      → (fault ≡ NoMemory) ⊎ IsRefusal fault → HoldsOfTried P drafted answer
  refused_tried {X} (Err e) fault same (inl memory) = subst (λ f. HoldsOfTried {X = X} P drafted (Err f)) (sym (same ∙ memory)) tt
  refused_tried {X} (Err e) fault same (inr refusal) = same_tried X e (subst IsRefusal (sym same) refusal)
  refused_tried (Ok x) fault same why = absurd same

  -- what holds of the draft holds where it was tried
  pub held_of_tried : (new : NewCommit) → drafted ≡ Some new → P new → {X : Type 0} (answer : Result X StepFault) → HoldsOfTried P drafted answer
  held_of_tried new is holds (Ok x) = subst (λ o. IsSomeAnd o P) (sym is) holds
  held_of_tried new is holds (Err StoreFault) = subst (λ o. IsSomeAnd o P) (sym is) holds
  held_of_tried new is holds (Err fault) = tt

-- no places came
pub no_places : (drafted : Option NewCommit) (before after : ByteMap (Option FilePlace)) → HaveSamePlaces before after
    → {X : Type 0} (answer : Result X StepFault) (fault : StepFault) → IsErrAnd answer (λ e. e ≡ fault) → LeavesPlaces drafted answer before after
no_places drafted before after same (Err e) fault is = same
no_places drafted before after same (Ok x) fault is = absurd is
