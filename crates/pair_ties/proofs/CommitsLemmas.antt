-- Commits of one id, and ids of their bytes.
use Rattle.std.proofs.Common.{◌≡◌, ◌↔◌, ℕ, zero, suc, ◌+◌, ◌<◌, ◌≤◌, Bool, true, false, not, List, [], ◌∷◌, take, Option}
use Rattle.std.proofs.Common.{Some, None}
use Rattle.std.proofs.Common.{IsSomeAnd, ltb, ◌⊎◌, ◌||◌, refl, sym, ap, subst, ◌∙◌, inl, inr, arith}
use Rattle.std.specs.List.{list_any, slice_get}
use Rattle.std.specs.Option.{option_and_then}
use Rattle.std.specs.Str.{bytes_eq}
use Rattle.std.proofs.lemmas.Bool.{cases_Bool, ltb-true, ltb-false}
use Rattle.std.proofs.lemmas.Slice.Eq.{bytes_eq-Decides}
use Rattle.lake_base.specs.Digest.{sha256}
use Rattle.lake_base.specs.declared.digest.Digest.{Digest}
use Rattle.lake_values.specs.Commit.{CommitRecordValue}
use Rattle.pair_format.specs.declared.pair.Pair.{Pair}
use Rattle.pair_format.specs.declared.stored.Stored.{Stored}
use Rattle.pair_format.specs.declared.stored.Stored.TheVariants as stored
use Rattle.pair_format.specs.PairSpelling.{IsSpelledStored}
use Rattle.lake_format.specs.Spelling.{commit_id, commit_spelling, IsSpelledCommit}
use Rattle.lake_format.specs.declared.cut.Cut.{Cut}
use Rattle.commit_graph.proofs.ReadingLemmas.{apart as commit_apart}
use Rattle.pair_ties.specs.OneCommit.{HasBytesAt, IsOneCommit, commit_at}
use Rattle.pair_ties.specs.BrokenPairs.{AreBlamelessBefore, IsBlameless}
use Rattle.pair_trees.specs.Tables.{first_place, is_commit}
use Rattle.pair_trees.specs.Things.{Spells, Things, thing_at}
use Rattle.pair_trees.proofs.ThingsLemmas.{thing_here}
use Rattle.pair_ties.proofs.TokensLemmas.{first_free, first_none, first_passes}

some_is : {X : Type 0} {x y : X} → Some x ≡ Some y → x ≡ y
some_is e = cc

-- ---- commits of one id

-- the commit at a place
pub commit_there : (thing : Option Stored) (commit : CommitRecordValue) → commit_at thing ≡ Some commit
    → (repo : List ℕ) × (id : Digest) × (expired : Bool) × (thing ≡ Some (stored.Commit repo id expired commit))
commit_there (Some (stored.Commit repo id expired other)) commit e = (repo, id, expired, ap (λ c. Some (stored.Commit repo id expired c)) (some_is e))
commit_there None commit e = absurd cc
commit_there (Some (stored.Repository home created branch settings)) commit e = absurd cc
commit_there (Some (stored.Branch home branch version head staging sealed)) commit e = absurd cc
commit_there (Some (stored.Tag home tag id)) commit e = absurd cc
commit_there (Some (stored.MetaRange name bytes)) commit e = absurd cc
commit_there (Some (stored.Range name bytes)) commit e = absurd cc
commit_there (Some (stored.Staged token path change)) commit e = absurd cc
commit_there (Some (stored.Note home name text)) commit e = absurd cc
commit_there (Some (stored.Gone number)) commit e = absurd cc
commit_there (Some (stored.Counts number version token)) commit e = absurd cc

-- what passes the test of an id is a commit of it
commit_passes : (id : Digest) (thing : Option Stored) → is_commit id thing ≡ true
    → (repo : List ℕ) × (expired : Bool) × (commit : CommitRecordValue) × (thing ≡ Some (stored.Commit repo id expired commit))
commit_passes id (Some (stored.Commit repo other expired commit)) e =
    let bytes = (bytes_eq-Decides other.0 id.0).0 e in
    (repo, expired, commit, ap (λ i. Some (stored.Commit repo i expired commit)) (λ j. record { 0 = bytes j }))
commit_passes id None e = absurd cc
commit_passes id (Some (stored.Repository home created branch settings)) e = absurd cc
commit_passes id (Some (stored.Branch home branch version head staging sealed)) e = absurd cc
commit_passes id (Some (stored.Tag home tag commit)) e = absurd cc
commit_passes id (Some (stored.MetaRange name bytes)) e = absurd cc
commit_passes id (Some (stored.Range name bytes)) e = absurd cc
commit_passes id (Some (stored.Staged token path change)) e = absurd cc
commit_passes id (Some (stored.Note home name text)) e = absurd cc
commit_passes id (Some (stored.Gone number)) e = absurd cc
commit_passes id (Some (stored.Counts number version token)) e = absurd cc

module _ (cut : Cut) (pairs : List Pair) (things : Things) (limits : (n : ℕ) (s : Stored) → Spells things n s → IsSpelledStored s)
    (at : ℕ) (before : AreBlamelessBefore cut pairs things at)
    (id : Digest) (commit : CommitRecordValue) (repo : List ℕ) (expired : Bool) (here : Spells things at (stored.Commit repo id expired commit)) where
  passes_here : is_commit id (Some (stored.Commit repo id expired commit)) ≡ true
  passes_here = (bytes_eq-Decides id.0 id.0).1 refl

  -- there is a first
  pub some_first : first_place (is_commit id) 0 things ≡ None → ⊥
  some_first none =
      no (sym (any_true things at (thing_here things at (stored.Commit repo id expired commit) here)) ∙ first_none (is_commit id) 0 things none)
    where
      no : true ≡ false → ⊥
      no h = cc

      any_true : (xs : Things) (k : ℕ) → slice_get xs k ≡ Some (Some (stored.Commit repo id expired commit)) → list_any (is_commit id) xs ≡ true
      any_true [] k h = absurd cc
      any_true (x ∷ xs) zero h = ap (λ b. b || list_any (is_commit id) xs) (ap (is_commit id) (some_is h) ∙ passes_here)
      any_true (x ∷ xs) (suc k) h = ap (λ b. is_commit id x || b) (any_true xs k h) ∙ or_true (is_commit id x)
        where
          or_true : (b : Bool) → (b || true) ≡ true
          or_true true = refl
          or_true false = refl

  module _ (first : ℕ) (is : first_place (is_commit id) 0 things ≡ Some first) where
    free : list_any (is_commit id) (take first things) ≡ false
    free = first_free (is_commit id) 0 things first (is ∙ ap (λ n. Some n) none_more)
      where
        none_more : first ≡ 0 + first
        none_more = omega arith

    -- none stands before the first
    not_before : (k : ℕ) (home : List ℕ) (old : Bool) (other : CommitRecordValue) → k < first → Spells things k (stored.Commit home id old other) → ⊥
    not_before k home old other lt spells =
        no (sym (earlier things k first lt (thing_here things k (stored.Commit home id old other) spells)) ∙ free)
      where
        no : true ≡ false → ⊥
        no h = cc

        earlier : (xs : Things) (k n : ℕ) → k < n → slice_get xs k ≡ Some (Some (stored.Commit home id old other)) → list_any (is_commit id) (take n xs) ≡ true
        earlier [] k n lt h = absurd cc
        earlier (x ∷ xs) k zero lt h = absurd (omega (arith, lt))
        earlier (x ∷ xs) zero (suc n) lt h =
            ap (λ b. b || list_any (is_commit id) (take n xs)) (ap (is_commit id) (some_is h) ∙ (bytes_eq-Decides id.0 id.0).1 refl)
        earlier (x ∷ xs) (suc k) (suc n) lt h = ap (λ b. is_commit id x || b) (earlier xs k n (omega (arith, lt)) h) ∙ or_true (is_commit id x)
          where
            or_true : (b : Bool) → (b || true) ≡ true
            or_true true = refl
            or_true false = refl

    at_most : first ≤ at
    at_most = elim (cases_Bool (ltb at first)) [
      | inl lt ↦ absurd (not_before at repo expired commit (ltb-true at first lt) here)
      | inr ge ↦ ltb-false at first ge
    ]

    -- the first one
    first_is : (home : List ℕ) × (old : Bool) × (other : CommitRecordValue) × Spells things first (stored.Commit home id old other)
    first_is =
        let passes = first_passes (is_commit id) 0 things first is in
        let c = commit_passes id passes.1 passes.4 in
        let same : passes.0 ≡ first = omega (arith, passes.2) in (
          c.0,
          c.1,
          c.2,
          subst (λ n. thing_at things n ≡ Some (stored.Commit c.0 id c.1 c.2)) same
              (ap (option_and_then (λ thing. thing)) (passes.3 ∙ ap (λ x. Some x) c.3)),
        )

    same_first : (k : ℕ) (home : List ℕ) (old : Bool) (other : CommitRecordValue) → k < at → Spells things k (stored.Commit home id old other)
        → other ≡ first_is.2
    same_first k home old other lt spells =
        elim (cases_Bool (ltb first k)) [
          | inl later ↦
              let blameless = subst (λ o. IsSomeAnd o (IsBlameless cut pairs things k)) spells (before k lt) in
              sym (blameless.right.same first first_is.0 first_is.1 first_is.2 (ltb-true first k later) first_is.3)
          | inr no_later ↦ elim (cases_Bool (ltb k first)) [
            | inl earlier ↦ absurd (not_before k home old other (ltb-true k first earlier) spells)
            | inr no_earlier ↦
                let same : k ≡ first = omega (arith, ltb-false first k no_later, ltb-false k first no_earlier) in
                inside (some_is (sym (subst (λ n. thing_at things n ≡ Some (stored.Commit home id old other)) same spells) ∙ first_is.3))
          ]
        ]
      where
        inside : {a b : List ℕ} {c d : Bool} {x y : CommitRecordValue} → stored.Commit a id c x ≡ stored.Commit b id d y → x ≡ y
        inside h = cc

    -- the others are this one where the first has its bytes
    pub one_commit : (bytes : List ℕ) → bytes ≡ commit_spelling commit → ((first ≡ at) ⊎ HasBytesAt things first bytes) ↔ IsOneCommit things at id commit
    one_commit bytes spelled = (λ h. forth h, λ one. back one)
      where
        own : IsSpelledCommit commit
        own = (limits at (stored.Commit repo id expired commit) here).valued

        forth : (first ≡ at) ⊎ HasBytesAt things first bytes → IsOneCommit things at id commit
        forth (inl same) k home old other lt spells = absurd (not_before k home old other (omega (arith, lt, same)) spells)
        forth (inr has) k home old other lt spells =
            let there : has.commit ≡ first_is.2 = some_is (sym has.there ∙ ap commit_at first_is.3) in
            same_first k home old other lt spells
            ∙ commit_apart first_is.2 commit (limits first (stored.Commit first_is.0 id first_is.1 first_is.2) first_is.3).valued own
            (ap commit_spelling (sym there) ∙ has.same ∙ spelled)

        back : IsOneCommit things at id commit → (first ≡ at) ⊎ HasBytesAt things first bytes
        back one = elim (cases_Bool (ltb first at)) [
          | inl lt ↦
              let same = one first first_is.0 first_is.1 first_is.2 (ltb-true first at lt) first_is.3 in
              inr (record { commit = first_is.2; there = ap commit_at first_is.3; same = ap commit_spelling same ∙ sym spelled })
          | inr ge ↦ inl (omega (arith, at_most, ltb-false first at ge))
        ]

    -- so it is named, where its id is its own
    pub named_like : (bytes : List ℕ) → bytes ≡ commit_spelling commit → commit_id commit ≡ id
        → ((first ≡ at) ⊎ HasBytesAt things first bytes) ↔ ((commit_id commit ≡ id) × IsOneCommit things at id commit)
    named_like bytes spelled named = let one = one_commit bytes spelled in (λ h. (named, one.0 h), λ both. one.1 both.1)

-- the SHA-256 of the bytes of a commit is its id, or isn't
module _ (bytes : List ℕ) (commit : CommitRecordValue) (spelled : bytes ≡ commit_spelling commit) (found id : Digest) (hashed : found.0 ≡ sha256 bytes) where
  hash_is : commit_id commit ≡ found
  hash_is = λ i. record { 0 = sym (hashed ∙ ap sha256 spelled) i }

  pub id_is_own : (ne : Bool) → ne ≡ not (bytes_eq found.0 id.0) → ne ≡ false → commit_id commit ≡ id
  id_is_own ne is off = let same = (bytes_eq-Decides found.0 id.0).0 (by (bytes_eq found.0 id.0) (sym is ∙ off)) in
      let other : found ≡ id = λ i. record { 0 = same i } in
      hash_is ∙ other
    where
      by : (b : Bool) → not b ≡ false → b ≡ true
      by true e = refl
      by false e = absurd cc
