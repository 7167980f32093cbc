-- The three trees of a merge, in which ranges of equal names have equal rows.
use Rattle.std.specs.Prelude.{◌≡◌, ◌++◌, ℕ, List, drop, refl}
use Rattle.std.specs.Coded.{Coded, code_by, coded×}
use Rattle.std.specs.List.{Contains}
use Rattle.lake_format.specs.Spelling.{file_name}
use Rattle.meta_range.specs.Ranges.{TreeValue, tree_code}

-- the trees of a merge: the base, the source and the destination
pub record TrioValue : Type 0 where
  pub base : TreeValue
  pub source : TreeValue
  pub dest : TreeValue

-- it is stored as its fields
abbrev pub trio_code : Coded TrioValue
trio_code =
    code_by (TreeValue × (TreeValue × TreeValue)) (coded× tree_code (coded× tree_code tree_code)) (λ t. (t.base, (t.source, t.dest)))
    (λ p. record { base = p.0; source = p.1.0; dest = p.1.1 }) (λ _. refl)

-- the range files of the three: of each tree the files behind its metarange
abbrev pub range_files : TrioValue → List (List ℕ)
range_files trio = drop 1 trio.base.files ++ (drop 1 trio.source.files ++ drop 1 trio.dest.files)

-- range files of one name have the same bytes, and so the same rows
abbrev pub Agree : TrioValue → Type 0
Agree trio = (file other : List ℕ) → Contains (range_files trio) file → Contains (range_files trio) other → file_name file ≡ file_name other → file ≡ other
