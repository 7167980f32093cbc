-- The puts of the files of a tree that aren't kept yet, file by file.
use Rattle.std.proofs.Common.{◌≡◌, ◌≤◌, ◌<◌, ◌+◌, ℕ, Bool, true, false, cond, List, [], ◌∷◌, ◌++◌, map, drop, length, refl, ap, sym, ◌∙◌, append-nil}
use Rattle.std.proofs.Common.{append_assoc, arith}
use Rattle.std.proofs.lemmas.List.{drop_all, drop_more}
use Rattle.std.proofs.lemmas.Option.{unwrap_or-slice_get}
use Rattle.std.specs.Prelude.{Option, filter, not}
use Rattle.lake_base.specs.Maps.{ByteMap}
use Rattle.core_state.specs.declared.file_place.FilePlace.{FilePlace}
use Rattle.keeper.specs.declared.put.Put.{Put}
use Rattle.meta_range.specs.Files.{file_at}
use Rattle.core_puts.specs.NewFiles.{new_metarange_puts, new_range_puts}
use Rattle.core_puts.specs.Puts.{is_kept_range, new_file_puts, range_put}

module _ (kept : ByteMap (Option FilePlace)) where
  -- of no ranges there are none
  ranges_none : new_range_puts kept [] ≡ []
  unfolding new_range_puts
  ranges_none = refl

  -- those of the first range, and of the others
  ranges_first : (range : List ℕ) (ranges : List (List ℕ))
      → new_range_puts kept (range ∷ ranges) ≡ new_range_puts kept (range ∷ []) ++ new_range_puts kept ranges
  unfolding new_range_puts
  ranges_first range ranges = either (not (is_kept_range kept range))
    where
      others : List (List ℕ)
      others = filter (λ range. not (is_kept_range kept range)) ranges

      either : (b : Bool) → map range_put (cond b (range ∷ others) others)
          ≡ map range_put (cond b (range ∷ []) []) ++ map range_put others
      either true = refl
      either false = refl

  -- those of a tree are of its metarange, and of its ranges
  files_split : (files : List (List ℕ)) → 0 < length files
      → new_file_puts kept files ≡ new_metarange_puts kept (file_at files 0) ++ new_range_puts kept (drop 1 files)
  unfolding new_metarange_puts new_range_puts
  files_split [] some = absurd (omega arith)
  files_split (metarange ∷ ranges) some = refl

  -- puts, then that of the metarange, and then those of the ranges
  pub new_files_pushed : (before mid after : List Put) (files : List (List ℕ)) → 0 < length files
      → mid ≡ before ++ new_metarange_puts kept (file_at files 0) → after ≡ mid ++ new_range_puts kept (drop 1 files)
      → after ≡ before ++ new_file_puts kept files
  new_files_pushed before mid after files some one more =
      let first = new_metarange_puts kept (file_at files 0) in
      let rest = new_range_puts kept (drop 1 files) in
      more ∙ ap (λ puts. puts ++ rest) one ∙ append_assoc before first rest
      ∙ ap (λ puts. before ++ puts) (sym (files_split files some))

  -- those of the range at a place, after others, and of the ranges to come
  pub ranges_next : (before after all : List Put) (files : List (List ℕ)) (place : ℕ) → place < length files
      → after ≡ before ++ new_range_puts kept (file_at files place ∷ [])
      → before ++ new_range_puts kept (drop place files) ≡ all
      → after ++ new_range_puts kept (drop (place + 1) files) ≡ all
  ranges_next before after all files place within put so_far =
      let first = new_range_puts kept (file_at files place ∷ []) in
      let rest = new_range_puts kept (drop (place + 1) files) in
      ap (λ puts. puts ++ rest) put ∙ append_assoc before first rest
      ∙ ap (λ puts. before ++ puts)
      (sym (ap (new_range_puts kept) (drop_more files place [] within)
      ∙ ap (λ file. new_range_puts kept (file ∷ drop (place + 1) files)) (sym (unwrap_or-slice_get files place []))
      ∙ ranges_first (file_at files place) (drop (place + 1) files)))
      ∙ so_far

  -- past the last range there are none
  pub ranges_end : (puts all : List Put) (files : List (List ℕ)) (place : ℕ) → length files ≤ place
      → puts ++ new_range_puts kept (drop place files) ≡ all → puts ≡ all
  ranges_end puts all files place past so_far =
      sym (append-nil puts)
      ∙ ap (λ more. puts ++ more) (sym (ap (new_range_puts kept) (drop_all place files past) ∙ ranges_none)) ∙ so_far
