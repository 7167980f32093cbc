-- A merge leaves what one side left, and files of one name are one.
use Rattle.std.proofs.Common.{◌≡◌, ◌<◌, inl, inr, ℕ, Bool, true, false, cond, List, [], length, Option, None, Some, refl, sym, ap, subst, ◌∙◌}
use Rattle.std.specs.Bool.{OnTrue}
use Rattle.std.specs.FinMap.{get}
use Rattle.std.specs.List.{Contains}
use Rattle.std.specs.Option.{unwrap_or}
use Rattle.std.specs.Str.{bytes_eq}
use Rattle.std.proofs.lemmas.Slice.Eq.{bytes_eq-Decides}
use Rattle.std.proofs.lemmas.List.Elements.{Contains-get_or}
use Rattle.std.proofs.lemmas.Option.{slice_get-get_or}
use Rattle.lake_base.specs.declared.digest.Digest.{Digest}
use Rattle.lake_values.specs.Entry.{EntryValue}
use Rattle.lake_values.specs.KeyMap.{ChangesValue, KeyMapValue, apply, value_after}
use Rattle.lake_values.specs.Merging.{merged_value, side_value}
use Rattle.lake_values.specs.Sameness.{same_value}
use Rattle.lake_values.specs.declared.commit.Strategy.{Strategy}
use Rattle.lake_values.specs.declared.merge.Side.TheVariants.{Source, Destination, Neither}
use Rattle.lake_values.proofs.KeyMapLemmas.{get_apply, same_as_itself}
use Rattle.lake_values.proofs.SamenessLemmas.{same_entry_decides}
use Rattle.lake_values.proofs.MergingLemmas.{get_merged}
use Rattle.lake_format.specs.Spelling.{file_name}
use Rattle.meta_range.specs.Ends.{AgreeBetween, HasEnds, is_between}
use Rattle.meta_range.specs.Files.{file_at}
use Rattle.meta_range.specs.Ranges.{TreeValue}
use Rattle.meta_range.specs.Provenance.{AreKnownByName, IsMerged, IsTrioFile}

-- ---- changes

-- where changes have nothing, the map is as it was
pub unchanged : (first last : List ℕ) (changes : ChangesValue) (old new : KeyMapValue) → new ≡ apply changes old
    → ((path : List ℕ) → is_between first last path ≡ true → get changes path ≡ None) → AgreeBetween first last new old
unchanged first last changes old new made none path within =
    ap (λ m. get m path) made ∙ get_apply changes old path ∙ ap (λ c. value_after c (get old path)) (none path within)

-- ---- merges

source_left : (strategy : Strategy) (base source dest : Option EntryValue) → source ≡ base → merged_value strategy base source dest ≡ dest
source_left strategy base source dest is =
    ap (λ s. merged_value strategy base s dest) is
    ∙ ap (λ b. side_value strategy base dest (cond b Destination (cond (same_value dest base) Source (cond (same_value base dest) Source Neither))))
    (same_as_itself base)

same_value_is : (value other : Option EntryValue) → same_value value other ≡ true → value ≡ other
same_value_is None None e = refl
same_value_is None (Some entry) e = absurd cc
same_value_is (Some entry) None e = absurd cc
same_value_is (Some entry) (Some other) e = ap Some ((same_entry_decides entry other).0 e)

dest_left : (strategy : Strategy) (base source dest : Option EntryValue) → dest ≡ base → merged_value strategy base source dest ≡ source
dest_left strategy base source dest is = ap (merged_value strategy base source) is ∙ by (same_value source base) refl
  where
    by : (b : Bool) → same_value source base ≡ b
        → side_value strategy source base (cond b Destination (cond (same_value base base) Source (cond (same_value source base) Source Neither))) ≡ source
    by true same = sym (same_value_is source base same)
    by false apart = ap (λ b. side_value strategy source base (cond b Source (cond (same_value source base) Source Neither))) (same_as_itself base)

module _ (first last : List ℕ) (base source dest merged : KeyMapValue) (made : IsMerged base source dest merged) where
  at : (path : List ℕ) → get merged path ≡ merged_value made.strategy (get base path) (get source path) (get dest path)
  at path = ap (λ m. get m path) made.map ∙ get_merged made.strategy base source dest path

  -- where the source has what the base has, the destination's stays
  dest_stays : AgreeBetween first last source base → AgreeBetween first last merged dest
  dest_stays agree path within = at path ∙ source_left made.strategy (get base path) (get source path) (get dest path) (agree path within)

  -- where the destination has what the base has, the source's is taken
  source_taken : AgreeBetween first last dest base → AgreeBetween first last merged source
  source_taken agree path within = at path ∙ dest_left made.strategy (get base path) (get source path) (get dest path) (agree path within)

-- ---- files of trees

file_there : (tree : TreeValue) (place : ℕ) → place < length tree.files → Contains tree.files (file_at tree.files place)
file_there tree place within =
    subst (Contains tree.files) (sym (ap (λ o. unwrap_or o []) (slice_get-get_or tree.files place [] within))) (Contains-get_or tree.files place [] within)

-- ---- ranges with the same ends

-- what a law says of ranges with the same ends
abbrev pub AreSame : Type 0
AreSame = (tree other : TreeValue) (place at : ℕ) (first last : List ℕ) → HasEnds tree place first last → HasEnds other at first last
    → AgreeBetween first last tree.map other.map → file_at tree.files place ≡ file_at other.files at

abbrev pub DoAgree : Type 0
DoAgree = (tree other : TreeValue) (place at : ℕ) (first last : List ℕ) → HasEnds tree place first last → HasEnds other at first last
    → file_at tree.files place ≡ file_at other.files at → AgreeBetween first last tree.map other.map

pub range_kept : AreSame → (tree old : TreeValue) (place at : ℕ) (first last : List ℕ) (changes : ChangesValue) → HasEnds tree place first last
    → HasEnds old at first last
    → at < length old.files → tree.map ≡ apply changes old.map
    → (none : Bool) → OnTrue none ((path : List ℕ) → is_between first last path ≡ true → get changes path ≡ None)
    → OnTrue none (Contains old.files (file_at tree.files place))
range_kept same tree old place at first last changes here there within made false none = tt
range_kept same tree old place at first last changes here there within made true none =
    subst (Contains old.files) (sym (same tree old place at first last here there (unchanged first last changes old.map tree.map made none)))
    (file_there old at within)

module _ (same : AreSame) (agree : DoAgree) (tree base source dest : TreeValue) (first last : List ℕ) (place base_place source_place dest_place : ℕ)
    (here : HasEnds tree place first last) (in_base : HasEnds base base_place first last) (in_source : HasEnds source source_place first last)
    (in_dest : HasEnds dest dest_place first last)
    (base_within : base_place < length base.files) (source_within : source_place < length source.files) (dest_within : dest_place < length dest.files)
    (made : IsMerged base.map source.map dest.map tree.map) (apart : AreKnownByName (IsTrioFile base source dest)) where
  abbrev base_file : List ℕ
  base_file = file_at base.files base_place

  abbrev source_file : List ℕ
  source_file = file_at source.files source_place

  abbrev dest_file : List ℕ
  dest_file = file_at dest.files dest_place

  -- the source left the range as it was
  pub source_is_base : file_name source_file ≡ file_name base_file → IsTrioFile base source dest (file_at tree.files place)
  source_is_base named =
      let is : source_file ≡ base_file =
      apart source_file base_file (inr (inl (file_there source source_place source_within))) (inl (file_there base base_place base_within)) named in
      let stays =
      dest_stays first last base.map source.map dest.map tree.map made (agree source base source_place base_place first last in_source in_base is) in
      inr (inr (subst (Contains dest.files) (sym (same tree dest place dest_place first last here in_dest stays)) (file_there dest dest_place dest_within)))

  -- the destination did
  pub dest_is_base : file_name dest_file ≡ file_name base_file → IsTrioFile base source dest (file_at tree.files place)
  dest_is_base named =
      let is : dest_file ≡ base_file =
      apart dest_file base_file (inr (inr (file_there dest dest_place dest_within))) (inl (file_there base base_place base_within)) named in
      let taken = source_taken first last base.map source.map dest.map tree.map made (agree dest base dest_place base_place first last in_dest in_base is) in
      inr (inl (subst (Contains source.files) (sym (same tree source place source_place first last here in_source taken))
      (file_there source source_place source_within)))

pub on_true : {P : Type 0} (test : Bool) → (test ≡ true → P) → OnTrue test P
on_true true holds = holds refl
on_true false holds = tt

-- names with the same bytes are one
pub same_name : (name other : Digest) (same : Bool) → same ≡ bytes_eq name.0 other.0 → same ≡ true → name ≡ other
same_name name other same is equal = λ i. record { 0 = (bytes_eq-Decides name.0 other.0).0 (sym is ∙ equal) i }
