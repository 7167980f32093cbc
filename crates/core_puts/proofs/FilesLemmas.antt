-- The puts of the files of a tree.
use Rattle.std.proofs.Common.{◌≡◌, ℕ, List, [], ◌∷◌, ◌++◌, map, refl, ap, ◌∙◌, append_assoc}
use Rattle.keeper.specs.declared.put.Put.{Put}
use Rattle.meta_range.specs.Files.{file_of}
use Rattle.meta_range.specs.declared.file.File.{File}
use Rattle.pair_format.specs.declared.stored.Stored.TheVariants.{MetaRange, Range}
use Rattle.core_puts.specs.Puts.{file_puts, range_put, spelled_put}

-- the put of a metarange in the hands of the code, and of a range
abbrev metarange_of : File → Put
metarange_of file = spelled_put (MetaRange file.name file.bytes)

abbrev pub range_of : File → Put
range_of file = spelled_put (Range file.name file.bytes)

ranges_put : (ranges : List (List ℕ)) → map range_of (map file_of ranges) ≡ map range_put ranges
ranges_put [] = refl
ranges_put (range ∷ ranges) = ap (λ puts. range_put range ∷ puts) (ranges_put ranges)

files_put : (files : List (List ℕ)) (first : File) (rest : List File) → map file_of files ≡ first ∷ rest
    → metarange_of first ∷ map range_of rest ≡ file_puts files
files_put [] first rest is = absurd cc
files_put (metarange ∷ ranges) first rest is =
    let one : first ≡ file_of metarange = cc in
    let others : rest ≡ map file_of ranges = cc in
    λ i. metarange_of (one i) ∷ (ap (map range_of) others ∙ ranges_put ranges) i

-- puts, then that of the metarange, and then those of the ranges
pub files_pushed : (before mid after : List Put) (files : List (List ℕ)) (first : File) (rest : List File) → map file_of files ≡ first ∷ rest
    → mid ≡ before ++ metarange_of first ∷ [] → after ≡ mid ++ map range_of rest → after ≡ before ++ file_puts files
files_pushed before mid after files first rest is one more =
    more ∙ ap (λ puts. puts ++ map range_of rest) one ∙ append_assoc before (metarange_of first ∷ []) (map range_of rest)
    ∙ ap (λ puts. before ++ puts) (files_put files first rest is)
