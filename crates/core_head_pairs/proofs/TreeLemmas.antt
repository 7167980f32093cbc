-- A tree is put in a repository whose files have their pairs.
use Rattle.std.proofs.Common.{◌≡◌, ◌⊎◌, inl, inr, ℕ, Bool, true, false, List, ◌∷◌, Some, refl, sym, ap, subst, ◌∙◌}
use Rattle.std.specs.FinMap.{get, insert}
use Rattle.std.specs.List.{Contains}
use Rattle.std.specs.Str.{bytes_eq}
use Rattle.meta_range.specs.Ranges.{TreeValue}
use Rattle.byte_map.proofs.ByteMapLemmas.{get_inserted}
use Rattle.pair_format.specs.declared.stored.Stored.{Stored}
use Rattle.pair_format.specs.declared.stored.Stored.TheVariants as stored
use Rattle.keeper.specs.Keepers.{KeptPairs}
use Rattle.core_state.specs.RepositoryStates.{RepositoryStateValue}
use Rattle.core_state.specs.LakeStates.{LakeStateValue}
use Rattle.core_pairs.specs.LakePairs.{IsFile, StandsIn}
use Rattle.core_pairs.proofs.PlaceLemmas.{found}
use Rattle.core_pairs.proofs.StandLemmas.{Stand, stand_for, tied}
use Rattle.core_pairs.proofs.ThingLemmas.{IsIn, LakeThing, ThingOf, from_repository, into, lake_stays, lake_stood, new_stands, other_stands, splits, with_one}
use Rattle.core_head_pairs.proofs.FilePutLemmas.{IsFileAmong, file_thing}

module _ (l : LakeStateValue) (q : List ℕ) (r : RepositoryStateValue) (in_lake : get l.repositories q ≡ Some r) (id : List ℕ) (tree : TreeValue)
    (metarange : List ℕ) (ranges : List (List ℕ)) (files : tree.files ≡ metarange ∷ ranges) where
  abbrev pub with_tree : RepositoryStateValue
  with_tree = record r { trees = insert r.trees id tree }

  abbrev With : Stored → Type 0
  With s = StandsIn l s ⊎ IsFileAmong (metarange ∷ ranges) s

  here : (s : Stored) → ThingOf q with_tree s → With s
  here (stored.MetaRange name bytes) (named, (other, ((k, at), (rest, is)))) = by (found r.trees id tree k other at)
    where
      by : ((k ≡ id) × (tree ≡ other)) ⊎ ((k ≡ id → ⊥) × (get r.trees k ≡ Some other)) → With (stored.MetaRange name bytes)
      by (inl (key_is, same)) =
          let all : metarange ∷ ranges ≡ bytes ∷ rest = sym files ∙ ap (λ (t : TreeValue). t.files) same ∙ is in
          let first : metarange ≡ bytes = cc in
          inr (inl (ap (file_thing true) first ∙ ap (λ n. stored.MetaRange n bytes) named))
      by (inr (apart, was)) = inl (from_repository l q r in_lake (stored.MetaRange name bytes) (named, (other, ((k, was), (rest, is)))))
  here (stored.Range name bytes) (named, (other, ((k, at), (first, (rest, (is, among)))))) = by (found r.trees id tree k other at)
    where
      by : ((k ≡ id) × (tree ≡ other)) ⊎ ((k ≡ id → ⊥) × (get r.trees k ≡ Some other)) → With (stored.Range name bytes)
      by (inl (key_is, same)) =
          let all : metarange ∷ ranges ≡ first ∷ rest = sym files ∙ ap (λ (t : TreeValue). t.files) same ∙ is in
          let others : ranges ≡ rest = cc in
          inr (inr (bytes, (subst (λ xs. Contains xs bytes) (sym others) among, ap (λ n. stored.Range n bytes) named)))
      by (inr (apart, was)) = inl (from_repository l q r in_lake (stored.Range name bytes) (named, (other, ((k, was), (first, (rest, (is, among)))))))
  here s h = inl (from_repository l q r in_lake s h)

  stood : (s : Stored) → StandsIn (with_one l q with_tree) s → With s
  stood s =
      splits l q with_tree With s (here s) (λ p x apart at h. inl (from_repository l p x at s h)) (λ h. inl (lake_stood l q with_tree s h))

  there : (s : Stored) → IsFileAmong (metarange ∷ ranges) s → StandsIn (with_one l q with_tree) s
  there s (inl is) =
      subst (StandsIn (with_one l q with_tree)) is
      (new_stands l q with_tree (file_thing true metarange) (refl, (tree, ((id, get_inserted r.trees id tree), (ranges, files)))))
  there s (inr (range, (among, is))) =
      subst (StandsIn (with_one l q with_tree)) is
      (new_stands l q with_tree (file_thing false range)
      (refl, (tree, ((id, get_inserted r.trees id tree), (metarange, (ranges, (files, among)))))))

  old_here : (s : Stored) → ThingOf q r s → StandsIn (with_one l q with_tree) s ⊎ IsFile s
  old_here (stored.MetaRange name bytes) h = inr tt
  old_here (stored.Range name bytes) h = inr tt
  old_here s h = inl (new_stands l q with_tree s h)

  old : (s : Stored) → LakeThing l s ⊎ IsIn l s → StandsIn (with_one l q with_tree) s ⊎ IsFile s
  old s (inl h) = inl (lake_stays l q with_tree s h)
  old s (inr i) = by (bytes_eq i.q q) refl
    where
      by : (test : Bool) → bytes_eq i.q q ≡ test → StandsIn (with_one l q with_tree) s ⊎ IsFile s
      by true e =
          let same = tied i.q q e in
          let is : Some i.r ≡ Some r = sym i.in_lake ∙ ap (get l.repositories) same ∙ in_lake in
          let one : i.r ≡ r = cc in
          old_here s (subst (λ x. ThingOf q x s) one (subst (λ p. ThingOf p i.r s) same i.thing))
      by false e = inl (other_stands l q with_tree i.q i.r e i.in_lake s i.thing)

  goes : (s : Stored) → With s → StandsIn (with_one l q with_tree) s ⊎ IsFile s
  goes s (inl h) = old s (into l s h)
  goes s (inr file) = inl (there s file)

  -- pairs that stand for the lake and for the files of the tree stand for the lake with the tree
  pub stand_tree : (pairs : KeptPairs) → Stand pairs With → Stand pairs (StandsIn (with_one l q with_tree))
  stand_tree pairs stand = stand_for pairs With (StandsIn (with_one l q with_tree)) stand (λ s h. inl (stood s h)) goes
