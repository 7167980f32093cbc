-- What is found under a key is of its kind.
use Rattle.std.proofs.Common.{◌≡◌, ℕ, Bool, List, Option, Some, None, Bor, MatchOption, refl, sym, ap, subst, ◌∙◌}
use Rattle.std.specs.Option.{option_copied, option_map}
use Rattle.lake_base.specs.declared.digest.Digest.{Digest}
use Rattle.lake_values.specs.Commit.{CommitRecordValue}
use Rattle.pair_format.specs.declared.key.OwnedKey.TheVariants as key
use Rattle.pair_format.specs.declared.stored.Stored.{Stored}
use Rattle.pair_format.specs.declared.stored.Stored.TheVariants as stored
use Rattle.pair_format.specs.PairSpelling.{key_of}
use Rattle.pair_trees.specs.Found.{AreCounts, IsOnlyCommit, IsOnlyMetaRange, IsOnlyRange, commit_part, counts_part, metarange_part, range_part}
use Rattle.pair_trees.specs.Things.{HasKey, IsFound, IsThere, Things}

-- what is said of what an option has
pub at_some : {X : Type 0} (A : Type 0) (P : X → Type 0) (o : Option X) (x : X) → MatchOption o A P → o ≡ Some x → P x
at_some A P o x h e = subst (λ y. MatchOption y A P) e h

pub at_none : {X : Type 0} (A : Type 0) (P : X → Type 0) (o : Option X) → MatchOption o A P → o ≡ None → A
at_none A P o h e = subst (λ y. MatchOption y A P) e h

-- what has the key of a metarange is one
pub metarange_is : (s : Stored) (name : Digest) → key_of s ≡ key.MetaRange name → (bytes : List ℕ) × (s ≡ stored.MetaRange name bytes)
metarange_is (stored.MetaRange other bytes) name e = (bytes, ap (λ n. stored.MetaRange n bytes) (inside e))
  where
    inside : {a b : Digest} → key.MetaRange a ≡ key.MetaRange b → a ≡ b
    inside h = cc
metarange_is (stored.Repository repo created branch settings) name e = absurd cc
metarange_is (stored.Branch repo branch version head staging sealed) name e = absurd cc
metarange_is (stored.Tag repo tag commit) name e = absurd cc
metarange_is (stored.Commit repo id expired commit) name e = absurd cc
metarange_is (stored.Range other bytes) name e = absurd cc
metarange_is (stored.Staged token path change) name e = absurd cc
metarange_is (stored.Note repo note text) name e = absurd cc
metarange_is (stored.Gone number) name e = absurd cc
metarange_is (stored.Counts number version token) name e = absurd cc

pub range_is : (s : Stored) (name : Digest) → key_of s ≡ key.Range name → (bytes : List ℕ) × (s ≡ stored.Range name bytes)
range_is (stored.Range other bytes) name e = (bytes, ap (λ n. stored.Range n bytes) (inside e))
  where
    inside : {a b : Digest} → key.Range a ≡ key.Range b → a ≡ b
    inside h = cc
range_is (stored.Repository repo created branch settings) name e = absurd cc
range_is (stored.Branch repo branch version head staging sealed) name e = absurd cc
range_is (stored.Tag repo tag commit) name e = absurd cc
range_is (stored.Commit repo id expired commit) name e = absurd cc
range_is (stored.MetaRange other bytes) name e = absurd cc
range_is (stored.Staged token path change) name e = absurd cc
range_is (stored.Note repo note text) name e = absurd cc
range_is (stored.Gone number) name e = absurd cc
range_is (stored.Counts number version token) name e = absurd cc

pub commit_is : (s : Stored) (repo : List ℕ) (id : Digest) → key_of s ≡ key.Commit repo id
    → (expired : Bool) × (commit : CommitRecordValue) × (s ≡ stored.Commit repo id expired commit)
commit_is (stored.Commit home other expired commit) repo id e = (expired, commit, both (inside e))
  where
    inside : {a b : List ℕ} {c d : Digest} → key.Commit a c ≡ key.Commit b d → (a ≡ b) × (c ≡ d)
    inside h = (cc, cc)

    both : (home ≡ repo) × (other ≡ id) → stored.Commit home other expired commit ≡ stored.Commit repo id expired commit
    both h = ap (λ r. stored.Commit r other expired commit) h.0 ∙ ap (λ i. stored.Commit repo i expired commit) h.1
commit_is (stored.Repository home created branch settings) repo id e = absurd cc
commit_is (stored.Branch home branch version head staging sealed) repo id e = absurd cc
commit_is (stored.Tag home tag commit) repo id e = absurd cc
commit_is (stored.MetaRange name bytes) repo id e = absurd cc
commit_is (stored.Range name bytes) repo id e = absurd cc
commit_is (stored.Staged token path change) repo id e = absurd cc
commit_is (stored.Note home note text) repo id e = absurd cc
commit_is (stored.Gone number) repo id e = absurd cc
commit_is (stored.Counts number version token) repo id e = absurd cc

pub counts_is : (s : Stored) → key_of s ≡ key.Counts → (number : ℕ) × (version : ℕ) × (token : ℕ) × (s ≡ stored.Counts number version token)
counts_is (stored.Counts number version token) e = (number, version, token, refl)
counts_is (stored.Repository home created branch settings) e = absurd cc
counts_is (stored.Branch home branch version head staging sealed) e = absurd cc
counts_is (stored.Tag home tag commit) e = absurd cc
counts_is (stored.Commit repo id expired commit) e = absurd cc
counts_is (stored.MetaRange name bytes) e = absurd cc
counts_is (stored.Range name bytes) e = absurd cc
counts_is (stored.Staged token path change) e = absurd cc
counts_is (stored.Note home note text) e = absurd cc
counts_is (stored.Gone number) e = absurd cc

module _ (things : Things) (s : Stored) where
  pub metarange_found : (name : Digest) → IsFound things (key.MetaRange name) s → (r : Option (Bor (List ℕ))) → option_copied r ≡ metarange_part s
      → MatchOption r (HasKey things (key.MetaRange name) → ⊥) (λ bytes. IsOnlyMetaRange things name bytes.now)
  metarange_found name found r e = by (metarange_is s name found.under) r e
    where
      by : (bytes : List ℕ) × (s ≡ stored.MetaRange name bytes) → (r : Option (Bor (List ℕ))) → option_copied r ≡ metarange_part s
          → MatchOption r (HasKey things (key.MetaRange name) → ⊥) (λ bytes. IsOnlyMetaRange things name bytes.now)
      by is None e = absurd (no (e ∙ ap metarange_part is.1))
        where
          no : {x : List ℕ} → None ≡ Some x → ⊥
          no h = cc
      by is (Some bytes) e =
          let same = inside (e ∙ ap metarange_part is.1) in
          let whole : s ≡ stored.MetaRange name bytes.now = is.1 ∙ ap (stored.MetaRange name) (sym same) in
          record {
            there = subst (IsThere things) whole found.there;
            only = λ other there. same_bytes (found.only (stored.MetaRange name other) there refl ∙ whole);
          }
        where
          inside : {x y : List ℕ} → Some x ≡ Some y → x ≡ y
          inside h = cc

          same_bytes : {x y : List ℕ} → stored.MetaRange name x ≡ stored.MetaRange name y → x ≡ y
          same_bytes h = cc

  pub range_found : (name : Digest) → IsFound things (key.Range name) s → (r : Option (Bor (List ℕ))) → option_copied r ≡ range_part s
      → MatchOption r (HasKey things (key.Range name) → ⊥) (λ bytes. IsOnlyRange things name bytes.now)
  range_found name found r e = by (range_is s name found.under) r e
    where
      by : (bytes : List ℕ) × (s ≡ stored.Range name bytes) → (r : Option (Bor (List ℕ))) → option_copied r ≡ range_part s
          → MatchOption r (HasKey things (key.Range name) → ⊥) (λ bytes. IsOnlyRange things name bytes.now)
      by is None e = absurd (no (e ∙ ap range_part is.1))
        where
          no : {x : List ℕ} → None ≡ Some x → ⊥
          no h = cc
      by is (Some bytes) e =
          let same = inside (e ∙ ap range_part is.1) in
          let whole : s ≡ stored.Range name bytes.now = is.1 ∙ ap (stored.Range name) (sym same) in
          record {
            there = subst (IsThere things) whole found.there;
            only = λ other there. same_bytes (found.only (stored.Range name other) there refl ∙ whole);
          }
        where
          inside : {x y : List ℕ} → Some x ≡ Some y → x ≡ y
          inside h = cc

          same_bytes : {x y : List ℕ} → stored.Range name x ≡ stored.Range name y → x ≡ y
          same_bytes h = cc

  pub commit_found : (repo : List ℕ) (id : Digest) → IsFound things (key.Commit repo id) s → (r : Option (Bool × Bor CommitRecordValue))
      → option_map (λ c. (c.0, c.1.now)) r ≡ commit_part s
      → MatchOption r (HasKey things (key.Commit repo id) → ⊥) (λ c. IsOnlyCommit things repo id c.0 c.1.now)
  commit_found repo id found r e = by (commit_is s repo id found.under) r e
    where
      by : (expired : Bool) × (commit : CommitRecordValue) × (s ≡ stored.Commit repo id expired commit) → (r : Option (Bool × Bor CommitRecordValue))
          → option_map (λ c. (c.0, c.1.now)) r ≡ commit_part s
          → MatchOption r (HasKey things (key.Commit repo id) → ⊥) (λ c. IsOnlyCommit things repo id c.0 c.1.now)
      by is None e = absurd (no (e ∙ ap commit_part is.2))
        where
          no : {x : Bool × CommitRecordValue} → None ≡ Some x → ⊥
          no h = cc
      by is (Some c) e =
          let same = inside (e ∙ ap commit_part is.2) in
          let whole : s ≡ stored.Commit repo id c.0 c.1.now =
          is.2 ∙ ap (λ (x : Bool × CommitRecordValue). stored.Commit repo id x.0 x.1) (sym same) in
          record {
            there = subst (IsThere things) whole found.there;
            only = λ old other there. same_parts (found.only (stored.Commit repo id old other) there refl ∙ whole);
          }
        where
          inside : {x y : Bool × CommitRecordValue} → Some x ≡ Some y → x ≡ y
          inside h = cc

          same_parts : {a b : Bool} {x y : CommitRecordValue} → stored.Commit repo id a x ≡ stored.Commit repo id b y → (a ≡ b) × (x ≡ y)
          same_parts h = (cc, cc)

  pub counts_found : IsFound things key.Counts s → (r : Option (ℕ × ℕ × ℕ)) → r ≡ counts_part s
      → MatchOption r (HasKey things key.Counts → ⊥) (AreCounts things)
  counts_found found r e = by (counts_is s found.under) r e
    where
      by : (number : ℕ) × (version : ℕ) × (token : ℕ) × (s ≡ stored.Counts number version token) → (r : Option (ℕ × ℕ × ℕ)) → r ≡ counts_part s
          → MatchOption r (HasKey things key.Counts → ⊥) (AreCounts things)
      by is None e = absurd (no (e ∙ ap counts_part is.3))
        where
          no : {x : ℕ × ℕ × ℕ} → None ≡ Some x → ⊥
          no h = cc
      by is (Some c) e =
          let same = inside (e ∙ ap counts_part is.3) in
          let whole : s ≡ stored.Counts c.0 c.1 c.2 = is.3 ∙ ap (λ (x : ℕ × ℕ × ℕ). stored.Counts x.0 x.1 x.2) (sym same) in
          record {
            there = subst (IsThere things) whole found.there;
            only = λ number version token there. same_parts (found.only (stored.Counts number version token) there refl ∙ whole);
          }
        where
          inside : {x y : ℕ × ℕ × ℕ} → Some x ≡ Some y → x ≡ y
          inside h = cc

          same_parts : {a b c x y z : ℕ} → stored.Counts a b c ≡ stored.Counts x y z → (a ≡ x) × (b ≡ y) × (c ≡ z)
          same_parts h = (cc, cc, cc)
