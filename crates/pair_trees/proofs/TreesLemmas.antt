-- What is found of the files of trees, among those that pairs spell.
use Rattle.std.proofs.Common.{◌≡◌, ℕ, zero, suc, ◌+◌, ◌<◌, Bool, true, false, cond, List, [], ◌∷◌, ◌++◌, length, get_or, take, Option, Some, None}
use Rattle.std.proofs.Common.{refl, sym, ap, ◌∙◌, arith}
use Rattle.std.specs.List.{cons_option, filter_map, find}
use Rattle.std.specs.Option.{option_map, option_to_list}
use Rattle.std.specs.Str.{bytes_eq}
use Rattle.std.proofs.lemmas.List.{take_more}
use Rattle.std.proofs.lemmas.List.Elements.{filter_map-append}
use Rattle.std.proofs.lemmas.Slice.Eq.{bytes_eq-Decides}
use Rattle.lake_base.specs.declared.digest.Digest.{Digest}
use Rattle.meta_range.specs.Files.{bytes_named}
use Rattle.meta_range.specs.declared.file.File.{File}
use Rattle.pair_format.specs.declared.key.OwnedKey.TheVariants as key
use Rattle.pair_format.specs.declared.stored.Stored.{Stored}
use Rattle.pair_format.specs.declared.stored.Stored.TheVariants as stored
use Rattle.pair_trees.specs.Found.{IsOnlyMetaRange, IsOnlyRange}
use Rattle.pair_trees.specs.PairTrees.{metarange_in, metaranges_in, range_in, ranges_in}
use Rattle.pair_trees.specs.Things.{HasKey, IsThere, Things}
use Rattle.pair_trees.proofs.ProvenanceLemmas.{file_there, metarange_back, range_back}

-- ---- what is found by a name

module _ (file_in : Option Stored → Option File) (of_file : Digest → List ℕ → Stored)
    (back : (thing : Option Stored) (file : File) → file_in thing ≡ Some file → thing ≡ Some (of_file file.name file.bytes))
    (forth : (name : Digest) (bytes : List ℕ) → file_in (Some (of_file name bytes)) ≡ Some (record { name = name; bytes = bytes })) where
  -- a file that is there is found by its name, or another of its name
  there_found : (things : Things) (name : Digest) (bytes : List ℕ) → IsThere things (of_file name bytes) → bytes_named name (filter_map file_in things) ≡ None
      → ⊥
  unfolding bytes_named
  there_found things name bytes has = by things has.0 has.1 has.2
    where
      by : (things : Things) (k : ℕ) → k < length things → get_or things k (Some (of_file name bytes)) ≡ Some (of_file name bytes)
          → bytes_named name (filter_map file_in things) ≡ None → ⊥
      by [] k lt is none = omega (arith, lt)
      by (thing ∷ things) k lt is none = each (by things) k lt is (file_in thing) refl
        where
          each : ((k : ℕ) → k < length things → get_or things k (Some (of_file name bytes)) ≡ Some (of_file name bytes)
              → bytes_named name (filter_map file_in things) ≡ None → ⊥) → (k : ℕ) → k < length (thing ∷ things)
              → get_or (thing ∷ things) k (Some (of_file name bytes)) ≡ Some (of_file name bytes)
              → (o : Option File) → file_in thing ≡ o → ⊥
          each more zero lt is o e =
              let found : bytes_named name (record { name = name; bytes = bytes } ∷ filter_map file_in things) ≡ None =
              sym (ap (λ o. bytes_named name (cons_option o (filter_map file_in things))) (ap file_in is ∙ forth name bytes)) ∙ none in
              no (sym (ap (λ b. option_map (λ (f : File). f.bytes)
              (cond b (Some (record { name = name; bytes = bytes })) (find (λ f. bytes_eq f.name.0 name.0) (filter_map file_in things))))
              ((bytes_eq-Decides name.0 name.0).1 refl)) ∙ found)
            where
              no : {x : List ℕ} → Some x ≡ None → ⊥
              no h = cc
          each more (suc k) lt is None e = more k (omega (arith, lt)) is (sym (ap (λ o. bytes_named name (cons_option o (filter_map file_in things))) e) ∙ none)
          each more (suc k) lt is (Some file) e =
              more k (omega (arith, lt)) is
              (rest (bytes_eq file.name.0 name.0) (find (λ f. bytes_eq f.name.0 name.0) (filter_map file_in things)) file
              (sym (ap (λ o. bytes_named name (cons_option o (filter_map file_in things))) e) ∙ none))
            where
              rest : (b : Bool) (o : Option File) (file : File) → option_map (λ (f : File). f.bytes) (cond b (Some file) o) ≡ None
                  → option_map (λ (f : File). f.bytes) o ≡ None
              rest true o file h = absurd cc
              rest false o file h = h

  -- the only one of its name is what is found
  found_is : (things : Things) (name : Digest) (bytes : List ℕ) → IsThere things (of_file name bytes)
      → ((other : List ℕ) → IsThere things (of_file name other) → other ≡ bytes) → bytes_named name (filter_map file_in things) ≡ Some bytes
  found_is things name bytes there only = by (bytes_named name (filter_map file_in things)) refl
    where
      by : (o : Option (List ℕ)) → bytes_named name (filter_map file_in things) ≡ o → bytes_named name (filter_map file_in things) ≡ Some bytes
      by None e = absurd (there_found things name bytes there e)
      by (Some other) e = e ∙ ap (λ b. Some b) (only other (file_there file_in of_file back things name other e))

  not_found : (things : Things) (name : Digest) → ((bytes : List ℕ) → IsThere things (of_file name bytes) → ⊥) → bytes_named name (filter_map file_in things)
      ≡ None
  not_found things name none = by (bytes_named name (filter_map file_in things)) refl
    where
      by : (o : Option (List ℕ)) → bytes_named name (filter_map file_in things) ≡ o → bytes_named name (filter_map file_in things) ≡ None
      by None e = e
      by (Some other) e = absurd (none other (file_there file_in of_file back things name other e))

module _ (things : Things) (name : Digest) where
  pub metarange_named : (bytes : List ℕ) → IsOnlyMetaRange things name bytes → bytes_named name (metaranges_in things) ≡ Some bytes
  metarange_named bytes is = found_is metarange_in stored.MetaRange metarange_back (λ n b. refl) things name bytes is.there is.only

  pub no_metarange : (HasKey things (key.MetaRange name) → ⊥) → bytes_named name (metaranges_in things) ≡ None
  no_metarange none = not_found metarange_in stored.MetaRange metarange_back (λ n b. refl) things name
      (λ bytes there. none (record { thing = stored.MetaRange name bytes; there = there; under = refl }))

  pub range_named : (bytes : List ℕ) → IsOnlyRange things name bytes → bytes_named name (ranges_in things) ≡ Some bytes
  range_named bytes is = found_is range_in stored.Range range_back (λ n b. refl) things name bytes is.there is.only

  pub no_range : (HasKey things (key.Range name) → ⊥) → bytes_named name (ranges_in things) ≡ None
  no_range none = not_found range_in stored.Range range_back (λ n b. refl) things name
      (λ bytes there. none (record { thing = stored.Range name bytes; there = there; under = refl }))

-- ---- one range file more

pub files_more : (things : Things) (i : ℕ) (thing : Option Stored) (files : List File) → i < length things → thing ≡ get_or things i thing
    → files ≡ ranges_in (take i things) → files ++ option_to_list (range_in thing) ≡ ranges_in (take (i + 1) things)
files_more things i thing files lt is so_far =
    let whole : take (i + 1) things ≡ take i things ++ thing ∷ [] = take_more things i thing lt ∙ ap (λ l. take i things ++ l ∷ []) (sym is) in
    ap (λ l. l ++ option_to_list (range_in thing)) so_far ∙ ap (λ l. ranges_in (take i things) ++ l) (by (range_in thing))
    ∙ sym (ap ranges_in whole ∙ filter_map-append range_in (take i things) (thing ∷ []))
  where
    by : (o : Option File) → option_to_list o ≡ cons_option o []
    by None = refl
    by (Some f) = refl
