-- What the map of a tree was made from, and the files of that.
use Rattle.std.specs.Prelude.{◌≡◌, ◌⊎◌, ℕ, List}
use Rattle.std.specs.List.{Contains}
use Rattle.lake_values.specs.KeyMap.{KeyMapValue, apply}
use Rattle.lake_values.specs.Merging.{merged_map}
use Rattle.lake_values.specs.declared.commit.Strategy.{Strategy}
use Rattle.lake_format.specs.Spelling.{file_name}
use Rattle.meta_range.specs.Ranges.{TreeValue}
use Rattle.meta_range.specs.declared.provenance.Provenance.{Provenance}
use Rattle.meta_range.specs.declared.provenance.Provenance.TheVariants.{Changed, Merged, Unknown}

-- a map is that of a merge of three, by some strategy
pub record IsMerged (base source dest merged : KeyMapValue) : Type 0 where
  pub strategy : Strategy
  pub map : merged ≡ merged_map strategy base source dest

-- a map was made so
abbrev pub IsMadeFrom : Provenance → KeyMapValue → Type 0
IsMadeFrom (Changed old changes) map = map ≡ apply changes.now old.now.map
IsMadeFrom (Merged base source dest) map = IsMerged base.now.map source.now.map dest.now.map map
IsMadeFrom Unknown map = Unit {0}

-- a file of one of three trees
abbrev pub IsTrioFile : TreeValue → TreeValue → TreeValue → List ℕ → Type 0
IsTrioFile base source dest file = Contains base.files file ⊎ Contains source.files file ⊎ Contains dest.files file

-- a file of the trees that a map was made from
abbrev pub IsFileOf : Provenance → List ℕ → Type 0
IsFileOf (Changed old changes) file = Contains old.now.files file
IsFileOf (Merged base source dest) file = IsTrioFile base.now source.now dest.now file
IsFileOf Unknown file = ⊥

-- files are known by their names: those of one name have the same bytes
abbrev pub AreKnownByName : (List ℕ → Type 0) → Type 0
AreKnownByName IsFile = (file other : List ℕ) → IsFile file → IsFile other → file_name file ≡ file_name other → file ≡ other

-- so are the files of a merge's trees
abbrev pub HasKnownTrio : Provenance → Type 0
HasKnownTrio (Changed old changes) = Unit {0}
HasKnownTrio (Merged base source dest) = AreKnownByName (IsTrioFile base.now source.now dest.now)
HasKnownTrio Unknown = Unit {0}
