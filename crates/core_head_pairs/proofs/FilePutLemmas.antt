-- Files of a tree are put.
use Rattle.std.proofs.Common.{◌≡◌, ◌⊎◌, inl, inr, not, ℕ, Bool, true, false, List, [], ◌∷◌, map, filter, Option, Some, refl, sym, ap, subst, ◌∙◌, if◌then◌else◌}
use Rattle.std.specs.List.{Contains}
use Rattle.lake_base.specs.Maps.{ByteMap}
use Rattle.lake_base.specs.declared.digest.Digest.{Digest}
use Rattle.lake_values.specs.Ancestry.{id_of}
use Rattle.lake_values.proofs.OrderLemmas.{Contains-filter, Contains-first, Contains-from_filter, Contains-later, Contains-nothing, first_or_later}
use Rattle.lake_format.specs.Spelling.{AreBytes, file_name}
use Rattle.meta_range.proofs.RangesLemmas.{is_digest}
use Rattle.pair_format.specs.declared.key.OwnedKey.TheVariants as key
use Rattle.pair_format.specs.declared.stored.Stored.{Stored}
use Rattle.pair_format.specs.declared.stored.Stored.TheVariants as stored
use Rattle.pair_format.specs.PairSpelling.{IsSpelledStored, key_of}
use Rattle.keeper.specs.declared.put.Put.{Put}
use Rattle.keeper.specs.Keepers.{KeptPairs, pairs_after, pairs_with}
use Rattle.core_state.specs.declared.file_place.FilePlace.{FilePlace}
use Rattle.core_pairs.specs.PutWords.{file_puts, is_kept_metarange, is_kept_range, metarange_put, new_file_puts, range_put, spelled_put}
use Rattle.core_pairs.proofs.PlaceLemmas.{decide}
use Rattle.core_pairs.proofs.StandLemmas.{Stand, after_both, after_first, after_none, stand_as, turned}

-- what stands of a file, as a metarange or as a range
abbrev pub file_thing : Bool → List ℕ → Stored
file_thing true bytes = stored.MetaRange (file_name bytes) bytes
file_thing false bytes = stored.Range (file_name bytes) bytes

pub spelled_file : (kind : Bool) (bytes : List ℕ) → AreBytes bytes → IsSpelledStored (file_thing kind bytes)
spelled_file true bytes within = record { named = is_digest bytes; valued = within }
spelled_file false bytes within = record { named = is_digest bytes; valued = within }

-- a thing has the key of a file, or not
abbrev HasKey : Bool → List ℕ → Stored → Type 0
HasKey kind bytes s = (key_of s ≡ key_of (file_thing kind bytes)) ⊎ (key_of s ≡ key_of (file_thing kind bytes) → ⊥)

has_name : (name : Digest) (bytes : List ℕ) → (name ≡ file_name bytes) ⊎ (name ≡ file_name bytes → ⊥)
has_name name bytes = by (decide name.0 (file_name bytes).0)
  where
    by : (name.0 ≡ (file_name bytes).0) ⊎ (name.0 ≡ (file_name bytes).0 → ⊥) → (name ≡ file_name bytes) ⊎ (name ≡ file_name bytes → ⊥)
    by (inl same) = inl (ap id_of same)
    by (inr apart) = inr (λ e. apart (ap (λ (d : Digest). d.0) e))

meta_key : (name : Digest) (bytes content : List ℕ) → (name ≡ file_name bytes) ⊎ (name ≡ file_name bytes → ⊥)
    → HasKey true bytes (stored.MetaRange name content)
meta_key name bytes content (inl same) = inl (ap key.MetaRange same)
meta_key name bytes content (inr apart) = inr (λ e. apart cc)

range_key : (name : Digest) (bytes content : List ℕ) → (name ≡ file_name bytes) ⊎ (name ≡ file_name bytes → ⊥) → HasKey false bytes (stored.Range name content)
range_key name bytes content (inl same) = inl (ap key.Range same)
range_key name bytes content (inr apart) = inr (λ e. apart cc)

decide_key : (kind : Bool) (bytes : List ℕ) (s : Stored) → HasKey kind bytes s
decide_key true bytes (stored.MetaRange name content) = meta_key name bytes content (has_name name bytes)
decide_key false bytes (stored.Range name content) = range_key name bytes content (has_name name bytes)
decide_key true bytes s = inr (λ e. cc)
decide_key false bytes s = inr (λ e. cc)

-- ---- one file

module _ (kind : Bool) (bytes : List ℕ) (P : Stored → Type 0)
    (same : (s : Stored) → P s → key_of s ≡ key_of (file_thing kind bytes) → s ≡ file_thing kind bytes) where
  abbrev WithFile : Stored → Type 0
  WithFile s = P s ⊎ (file_thing kind bytes ≡ s)

  old_by : (s : Stored) → P s → HasKey kind bytes s → (Some (file_thing kind bytes) ≡ Some s) ⊎ (P s × (key_of s ≡ key_of (file_thing kind bytes) → ⊥))
  old_by s p (inl e) = inl (ap Some (sym (same s p e)))
  old_by s p (inr apart) = inr (p, apart)

  either : (s : Stored) → WithFile s → (Some (file_thing kind bytes) ≡ Some s) ⊎ (P s × (key_of s ≡ key_of (file_thing kind bytes) → ⊥))
  either s (inl p) = old_by s p (decide_key kind bytes s)
  either s (inr is) = inl (ap Some is)

  -- it stands after its put
  pub file_stands : (pairs : KeptPairs) → Stand pairs P → AreBytes bytes → Stand (pairs_with (spelled_put (file_thing kind bytes)) pairs) WithFile
  unfolding spelled_put
  file_stands pairs stand within =
      turned pairs P WithFile (key_of (file_thing kind bytes)) (Some (file_thing kind bytes)) stand (record {
        key = (spelled_file kind bytes within).named;
        new = λ s put.
            let is : file_thing kind bytes ≡ s = cc in
            (ap key_of (sym is), (subst IsSpelledStored is (spelled_file kind bytes within), inl (inr is)));
        either = either;
        stays = λ s p apart. inl p;
      })

-- ---- ranges

-- one of these ranges
abbrev pub IsRangeAmong : List (List ℕ) → Stored → Type 0
IsRangeAmong ranges s = (range : List ℕ) × (Contains ranges range × (file_thing false range ≡ s))

-- of files that share a name none differ
abbrev pub AreOneNamed : List (List ℕ) → Type 0
AreOneNamed files = (a b : List ℕ) → Contains files a → Contains files b → file_name a ≡ file_name b → a ≡ b

-- what stands under the name of one of these files, of this kind, is that file
abbrev pub AreSame : Bool → List (List ℕ) → (Stored → Type 0) → Type 0
AreSame kind files P = (file : List ℕ) → Contains files file → (s : Stored) → P s → key_of s ≡ key_of (file_thing kind file) → s ≡ file_thing kind file

pub ranges_stand : (ranges : List (List ℕ)) (pairs : KeptPairs) (P : Stored → Type 0) → Stand pairs P
    → ((range : List ℕ) → Contains ranges range → AreBytes range) → AreSame false ranges P → AreOneNamed ranges
    → Stand (pairs_after (map range_put ranges) pairs) (λ s. P s ⊎ IsRangeAmong ranges s)
ranges_stand [] pairs P stand within same one =
    subst (λ m. Stand m (λ s. P s ⊎ IsRangeAmong [] s)) (sym (after_none pairs))
    (stand_as pairs P (λ s. P s ⊎ IsRangeAmong [] s) stand by (λ s p. inl p))
  where
    by : (s : Stored) → P s ⊎ IsRangeAmong [] s → P s
    by s (inl p) = p
    by s (inr (range, (among, is))) = absurd (Contains-nothing range among)
ranges_stand (range ∷ ranges) pairs P stand within same one =
    subst (λ m. Stand m (λ s. P s ⊎ IsRangeAmong (range ∷ ranges) s)) (sym (after_first (range_put range) (map range_put ranges) pairs))
    (stand_as _ (λ s. (P s ⊎ (file_thing false range ≡ s)) ⊎ IsRangeAmong ranges s) (λ s. P s ⊎ IsRangeAmong (range ∷ ranges) s)
    (ranges_stand ranges (pairs_with (range_put range) pairs) (λ s. P s ⊎ (file_thing false range ≡ s))
    (file_stands false range P (same range (Contains-first range ranges)) pairs stand (within range (Contains-first range ranges)))
    (λ other among. within other (Contains-later range other ranges among))
    same_then
    (λ a b x y. one a b (Contains-later range a ranges x) (Contains-later range b ranges y)))
    from into)
  where
    same_then : AreSame false ranges (λ s. P s ⊎ (file_thing false range ≡ s))
    same_then file among s (inl p) e = same file (Contains-later range file ranges among) s p e
    same_then file among s (inr is) e =
        let keys : key.Range (file_name range) ≡ key.Range (file_name file) = ap key_of is ∙ e in
        let names : file_name range ≡ file_name file = cc in
        sym is ∙ ap (file_thing false) (one range file (Contains-first range ranges) (Contains-later range file ranges among) names)

    from : (s : Stored) → P s ⊎ IsRangeAmong (range ∷ ranges) s → (P s ⊎ (file_thing false range ≡ s)) ⊎ IsRangeAmong ranges s
    from s (inl p) = inl (inl p)
    from s (inr (other, (among, is))) = by (first_or_later range other ranges among)
      where
        by : (range ≡ other) ⊎ Contains ranges other → (P s ⊎ (file_thing false range ≡ s)) ⊎ IsRangeAmong ranges s
        by (inl first) = inl (inr (ap (file_thing false) first ∙ is))
        by (inr later) = inr (other, (later, is))

    into : (s : Stored) → (P s ⊎ (file_thing false range ≡ s)) ⊎ IsRangeAmong ranges s → P s ⊎ IsRangeAmong (range ∷ ranges) s
    into s (inl (inl p)) = inl p
    into s (inl (inr is)) = inr (range, (Contains-first range ranges, is))
    into s (inr (other, (among, is))) = inr (other, (Contains-later range other ranges among, is))

-- ---- the files of a tree

-- the metarange, or one of the ranges
abbrev pub IsFileAmong : List (List ℕ) → Stored → Type 0
IsFileAmong [] s = ⊥
IsFileAmong (metarange ∷ ranges) s = (file_thing true metarange ≡ s) ⊎ IsRangeAmong ranges s

module _ (metarange : List ℕ) (ranges : List (List ℕ)) (pairs : KeptPairs) (P : Stored → Type 0) (stand : Stand pairs P)
    (within : (file : List ℕ) → Contains (metarange ∷ ranges) file → AreBytes file)
    (same : (kind : Bool) → AreSame kind (metarange ∷ ranges) P) (one : AreOneNamed (metarange ∷ ranges)) where
  abbrev WithMetarange : Stored → Type 0
  WithMetarange s = P s ⊎ (file_thing true metarange ≡ s)

  range_same : (some : List (List ℕ)) → ((file : List ℕ) → Contains some file → Contains ranges file) → AreSame false some WithMetarange
  range_same some part file among s (inl p) e = same false file (Contains-later metarange file ranges (part file among)) s p e
  range_same some part file among s (inr is) e =
      let keys : key.MetaRange (file_name metarange) ≡ key.Range (file_name file) = ap key_of is ∙ e in absurd cc

  -- the metarange is put, or stands already
  first_stands : (kept : Bool) → (kept ≡ true → P (file_thing true metarange))
      → Stand (pairs_after (if kept then [] else metarange_put metarange ∷ []) pairs) WithMetarange
  first_stands true there =
      subst (λ m. Stand m WithMetarange) (sym (after_none pairs)) (stand_as pairs P WithMetarange stand by (λ s p. inl p))
    where
      by : (s : Stored) → WithMetarange s → P s
      by s (inl p) = p
      by s (inr is) = subst P is (there refl)
  first_stands false there =
      subst (λ m. Stand m WithMetarange) (sym (after_first (metarange_put metarange) [] pairs ∙ after_none (pairs_with (metarange_put metarange) pairs)))
      (file_stands true metarange P (same true metarange (Contains-first metarange ranges)) pairs stand
      (within metarange (Contains-first metarange ranges)))

  module _ (kept : ByteMap (Option FilePlace)) (there : is_kept_metarange kept metarange ≡ true → P (file_thing true metarange))
      (each : (range : List ℕ) → Contains ranges range → is_kept_range kept range ≡ true → P (file_thing false range)) where
    abbrev left : List (List ℕ)
    left = filter (λ range. not (is_kept_range kept range)) ranges

    part : (file : List ℕ) → Contains left file → Contains ranges file
    part file among = (Contains-from_filter (λ range. not (is_kept_range kept range)) ranges file among).0

    from : (s : Stored) → P s ⊎ IsFileAmong (metarange ∷ ranges) s → WithMetarange s ⊎ IsRangeAmong left s
    from s (inl p) = inl (inl p)
    from s (inr (inl is)) = inl (inr is)
    from s (inr (inr (range, (among, is)))) = by (is_kept_range kept range) refl
      where
        by : (test : Bool) → is_kept_range kept range ≡ test → WithMetarange s ⊎ IsRangeAmong left s
        by true e = inl (inl (subst P is (each range among e)))
        by false e = inr (range, (Contains-filter (λ range. not (is_kept_range kept range)) ranges range among (ap not e), is))

    into : (s : Stored) → WithMetarange s ⊎ IsRangeAmong left s → P s ⊎ IsFileAmong (metarange ∷ ranges) s
    into s (inl (inl p)) = inl p
    into s (inl (inr is)) = inr (inl is)
    into s (inr (range, (among, is))) = inr (inr (range, (part range among, is)))

    -- those that aren't kept yet are put, and all of them stand
    pub new_files_stand : Stand (pairs_after (new_file_puts kept (metarange ∷ ranges)) pairs) (λ s. P s ⊎ IsFileAmong (metarange ∷ ranges) s)
    new_files_stand =
        let first : List Put = if is_kept_metarange kept metarange then [] else metarange_put metarange ∷ [] in
        subst (λ m. Stand m (λ s. P s ⊎ IsFileAmong (metarange ∷ ranges) s))
        (sym (after_both (if is_kept_metarange kept metarange then [] else metarange_put metarange ∷ []) (map range_put left) pairs))
        (stand_as _ (λ s. WithMetarange s ⊎ IsRangeAmong left s) (λ s. P s ⊎ IsFileAmong (metarange ∷ ranges) s)
        (ranges_stand left (pairs_after (if is_kept_metarange kept metarange then [] else metarange_put metarange ∷ []) pairs) WithMetarange
        (first_stands (is_kept_metarange kept metarange) there)
        (λ file among. within file (Contains-later metarange file ranges (part file among)))
        (range_same left part)
        (λ a b x y. one a b (Contains-later metarange a ranges (part a x)) (Contains-later metarange b ranges (part b y))))
        from into)

  gather : (s : Stored) → WithMetarange s ⊎ IsRangeAmong ranges s → P s ⊎ IsFileAmong (metarange ∷ ranges) s
  gather s (inl (inl p)) = inl p
  gather s (inl (inr is)) = inr (inl is)
  gather s (inr range) = inr (inr range)

  parted : (s : Stored) → P s ⊎ IsFileAmong (metarange ∷ ranges) s → WithMetarange s ⊎ IsRangeAmong ranges s
  parted s (inl p) = inl (inl p)
  parted s (inr (inl is)) = inl (inr is)
  parted s (inr (inr range)) = inr range

  -- all of them are put
  pub files_stand : Stand (pairs_after (file_puts (metarange ∷ ranges)) pairs) (λ s. P s ⊎ IsFileAmong (metarange ∷ ranges) s)
  files_stand =
      subst (λ m. Stand m (λ s. P s ⊎ IsFileAmong (metarange ∷ ranges) s)) (sym (after_first (metarange_put metarange) (map range_put ranges) pairs))
      (stand_as _ (λ s. WithMetarange s ⊎ IsRangeAmong ranges s) (λ s. P s ⊎ IsFileAmong (metarange ∷ ranges) s)
      (ranges_stand ranges (pairs_with (metarange_put metarange) pairs) WithMetarange
      (file_stands true metarange P (same true metarange (Contains-first metarange ranges)) pairs stand
      (within metarange (Contains-first metarange ranges)))
      (λ file among. within file (Contains-later metarange file ranges among))
      (range_same ranges (λ file among. among))
      (λ a b x y. one a b (Contains-later metarange a ranges x) (Contains-later metarange b ranges y)))
      parted gather)
