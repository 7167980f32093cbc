-- Files under their names, the places for them, and the index that tells of them.
use Rattle.std.proofs.Common.{◌≡◌, ◌<◌, ◌+◌, ℕ, List, [], ◌∷◌, ◌++◌, suc, zero, length, map, take, get_or, refl, sym, ap, ◌∙◌, arith}
use Rattle.std.proofs.lemmas.List.{map_push, take_more}
use Rattle.std.specs.Prelude.{Option}
use Rattle.std.specs.FinMap.{insert}
use Rattle.std.specs.List.{AllByRecursion}
use Rattle.lake_base.specs.Maps.{ByteMap}
use Rattle.lake_base.specs.declared.digest.Digest.{Digest}
use Rattle.lake_format.specs.Spelling.{file_name}
use Rattle.meta_range.specs.Files.{file_at, file_of}
use Rattle.core_changes.proofs.PlacesLemmas.{kept_put}
use Rattle.core_state.specs.declared.file_place.FilePlace.{FilePlace}
use Rattle.core_state.specs.NewCommits.{with_files}
use Rattle.core_commits.specs.declared.naming.NamedFile.{NamedFile}
use Rattle.core_commits.specs.CommitNames.{HasPlace, named_file, with_named}

-- ---- lists

-- a file within the list
file_there : (files : List (List ℕ)) (place : ℕ) → place < length files → get_or files place [] ≡ file_at files place
file_there [] place within = absurd (omega arith)
file_there (file ∷ files) zero within = refl
file_there (file ∷ files) (suc place) within = file_there files place (omega arith)

-- the files before a place, and the one there
files_more : (files : List (List ℕ)) (place : ℕ) → place < length files
    → take (place + 1) files ≡ take place files ++ file_at files place ∷ []
files_more files place within = take_more files place [] within ∙ ap (λ file. take place files ++ file ∷ []) (file_there files place within)

-- the files before a place have names, and so has the one there
pub named_more : (files : List (List ℕ)) (named : List NamedFile) (file : NamedFile) (place : ℕ) → place < length files
    → file.name ≡ file_name (file_at files place) → file.place.bytes ≡ file_at files place
    → map named_file named ≡ map file_of (take place files)
    → map named_file (named ++ file ∷ []) ≡ map file_of (take (place + 1) files)
named_more files named file place within name bytes before =
    let one : named_file file ≡ file_of (file_at files place) = λ i. record { name = name i; bytes = bytes i } in
    map_push named_file named file ∙ (λ i. before i ++ one i ∷ []) ∙ sym (map_push file_of (take place files) (file_at files place))
    ∙ ap (map file_of) (sym (files_more files place within))

module _ {X : Type 0} (P : X → Type 0) where
  -- what holds of each and of one more
  pub each_more : (xs : List X) (x : X) → AllByRecursion P xs → P x → AllByRecursion P (xs ++ x ∷ [])
  each_more [] x each one = (one, tt)
  each_more (y ∷ ys) x each one = (each.0, each_more ys x each.1 one)

  -- what holds of each holds of each but the last
  pub each_before : (xs : List X) (x : X) → AllByRecursion P (xs ++ x ∷ []) → AllByRecursion P xs
  each_before [] x each = tt
  each_before (y ∷ ys) x each = (each.0, each_before ys x each.1)

  -- what is weaker holds of each
  pub each_weaker : (Q : X → Type 0) (xs : List X) → ((x : X) → P x → Q x) → AllByRecursion P xs → AllByRecursion Q xs
  each_weaker Q [] weaker each = tt
  each_weaker Q (x ∷ xs) weaker each = (weaker x each.0, each_weaker Q xs weaker each.1)

-- ---- places

-- the places for files stay where one of them is filled
pub still_places : (places : ByteMap (Option FilePlace)) (name : Digest) (place : Option FilePlace) (files : List NamedFile)
    → AllByRecursion (HasPlace places) files → AllByRecursion (HasPlace (insert places name.0 place)) files
still_places places name place files =
    each_weaker (HasPlace places) (HasPlace (insert places name.0 place)) files (λ file. kept_put places name.0 place file.name.0)

-- ---- files over those that are kept

-- the last file is put first
pub last_first : (files : List NamedFile) (file : NamedFile) (kept : ByteMap (List ℕ))
    → with_named (files ++ file ∷ []) kept ≡ with_named files (insert kept file.name.0 file.place.bytes)
last_first [] file kept = refl
last_first (other ∷ files) file kept = ap (λ m. insert m other.name.0 other.place.bytes) (last_first files file kept)

-- files under the names that they have
pub under_names : (named : List NamedFile) (files : List (List ℕ)) (kept : ByteMap (List ℕ))
    → map named_file named ≡ map file_of files → with_named named kept ≡ with_files files kept
under_names [] [] kept are = refl
under_names [] (file ∷ files) kept are = absurd cc
under_names (one ∷ named) [] kept are = absurd cc
under_names (one ∷ named) (file ∷ files) kept are =
    let head : named_file one ≡ file_of file = cc in
    let tail : map named_file named ≡ map file_of files = cc in
    λ i. insert (under_names named files kept tail i) (head i).name.0 (head i).bytes
