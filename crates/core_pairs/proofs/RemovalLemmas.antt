-- Changes under tokens that go.
use Rattle.std.proofs.Common.{◌≡◌, ◌⊎◌, ◌&&◌, ◌||◌, inl, inr, ℕ, Bool, true, false, cond, List, [], ◌∷◌, map, filter, flat_map, Option, Some, None, refl, sym}
use Rattle.std.proofs.Common.{ap, subst, ◌∙◌}
use Rattle.std.specs.Prelude.{is_some}
use Rattle.std.specs.Bool.{nat_eq}
use Rattle.std.specs.List.{list_any}
use Rattle.std.specs.Str.{bytes_eq}
use Rattle.std.specs.Ordering.{eq_by_cmp}
use Rattle.std.specs.Cmp.{nat_eq_equiv}
use Rattle.std.specs.Cmp.Lexicographic.{texts_ties}
use Rattle.std.specs.FinMap.{contains_key, contains_key-keys, get, insert, keys, remove}
use Rattle.std.proofs.lemmas.Bool.{eqb-true}
use Rattle.lake_base.specs.Maps.{byte_order}
use Rattle.lake_values.specs.Reset.{drops_path}
use Rattle.lake_values.specs.declared.commit.ResetWhat.{ResetWhat}
use Rattle.lake_values.specs.declared.commit.ResetWhat.TheVariants.{All}
use Rattle.lake_values.specs.declared.entry.Change.{Change}
use Rattle.branch_record.specs.Record.{is_among}
use Rattle.branch_record.specs.Tokens.{TokenMap, changes_under}
use Rattle.pair_format.specs.declared.key.OwnedKey.{OwnedKey}
use Rattle.pair_format.specs.declared.key.OwnedKey.TheVariants as key
use Rattle.pair_format.specs.declared.stored.Stored.{Stored}
use Rattle.pair_format.specs.declared.stored.Stored.TheVariants as stored
use Rattle.pair_format.specs.PairSpelling.{IsSpelledKey, key_of}
use Rattle.keeper.specs.declared.put.Put.{Put}
use Rattle.keeper.specs.Keepers.{KeptPairs, pairs_after, pairs_with}
use Rattle.core_state.specs.BranchStates.{BranchStateValue, tokens_of}
use Rattle.core_state.specs.RepositoryStates.{RepositoryStateValue}
use Rattle.core_state.specs.LakeStates.{LakeStateValue}
use Rattle.core_puts.specs.Puts.{removals_at, removals_under, removed_put}
use Rattle.core_pairs.specs.LakePairs.{AreTokensApart, StandsIn}
use Rattle.core_pairs.proofs.PlaceLemmas.{found, get_left, left}
use Rattle.core_pairs.proofs.StandLemmas.{Stand, after_both, after_first, after_none, same_bytes, stand_as, tied, turned, untied}
use Rattle.core_pairs.proofs.StagedLemmas.{own_named, same_branch}
use Rattle.core_pairs.proofs.ThingLemmas.{HasChange, IsIn, IsRecord, IsThere, LakeThing, ThingOf, closed, from_repository, into, is_there, lake_stays}
use Rattle.core_pairs.proofs.ThingLemmas.{lake_stood, new_stands}
use Rattle.core_pairs.proofs.ThingLemmas.{opened, other_stands, splits, was_there, with_one}

-- ---- the paths under a token

abbrev among_paths : List (List ℕ) → List ℕ → Bool
among_paths paths path = list_any (eq_by_cmp byte_order path) paths

-- a thing isn't a change at one of these paths, under a token, that a reset drops
abbrev IsSparedAt : ResetWhat → ℕ → List (List ℕ) → Stored → Type 0
IsSparedAt what token paths s = (path : List ℕ) → key_of s ≡ key.Staged token path → drops_path what path ≡ true → among_paths paths path ≡ true → ⊥

or_later : (a b : Bool) → b ≡ true → (a || b) ≡ true
or_later true b e = refl
or_later false b e = e

or_first : (a b : Bool) → a ≡ true → (a || b) ≡ true
or_first a b e = ap (λ a. a || b) e

first_among : (path : List ℕ) (paths : List (List ℕ)) → among_paths (path ∷ paths) path ≡ true
first_among path paths = or_first (eq_by_cmp byte_order path path) (among_paths paths path) (sym (texts_ties path path) ∙ same_bytes path)

-- one of these is the first, or one of the others
among_by : (p path : List ℕ) (paths : List (List ℕ)) → among_paths (path ∷ paths) p ≡ true → (p ≡ path) ⊎ (among_paths paths p ≡ true)
among_by p path paths among = by (eq_by_cmp byte_order p path) refl among
  where
    by : (test : Bool) → eq_by_cmp byte_order p path ≡ test → (test || among_paths paths p) ≡ true → (p ≡ path) ⊎ (among_paths paths p ≡ true)
    by true e h = inl (tied p path (texts_ties p path ∙ e))
    by false e h = inr h

-- nothing of a key stands any more
gone_one : (pairs : KeptPairs) (P : Stored → Type 0) (k : OwnedKey) → Stand pairs P → IsSpelledKey k
    → Stand (pairs_with (removed_put k) pairs) (λ s. P s × (key_of s ≡ k → ⊥))
unfolding removed_put
gone_one pairs P k stand within =
    turned pairs P (λ s. P s × (key_of s ≡ k → ⊥)) k None stand
    (record { key = within; new = λ s put. absurd cc; either = λ s h. inr h; stays = λ s p apart. (p, apart) })

abbrev removed_at : ℕ → List (List ℕ) → List Put
removed_at token paths = map (λ path. removed_put (key.Staged token path)) paths

module _ (what : ResetWhat) (token : ℕ) (path : List ℕ) (paths : List (List ℕ)) (pairs : KeptPairs) (P : Stored → Type 0) where
  abbrev pairs_then : KeptPairs
  pairs_then = pairs_with (removed_put (key.Staged token path)) pairs

  abbrev Apart : Stored → Type 0
  Apart s = P s × (key_of s ≡ key.Staged token path → ⊥)

  one_more : (test : Bool) → drops_path what path ≡ test
      → Stand (pairs_after (removed_at token (filter (drops_path what) paths)) pairs_then) (λ s. Apart s × IsSparedAt what token paths s)
      → Stand (pairs_after (removed_at token (filter (drops_path what) paths)) pairs) (λ s. P s × IsSparedAt what token paths s)
      → Stand (pairs_after (removed_at token (cond test (path ∷ filter (drops_path what) paths) (filter (drops_path what) paths))) pairs)
      (λ s. P s × IsSparedAt what token (path ∷ paths) s)
  one_more true drops gone kept =
      subst (λ m. Stand m (λ s. P s × IsSparedAt what token (path ∷ paths) s))
      (sym (after_first (removed_put (key.Staged token path)) (removed_at token (filter (drops_path what) paths)) pairs))
      (stand_as (pairs_after (removed_at token (filter (drops_path what) paths)) pairs_then) (λ s. Apart s × IsSparedAt what token paths s)
      (λ s. P s × IsSparedAt what token (path ∷ paths) s) gone
      (λ s h. (
        (h.0, λ e. h.1 path e drops (first_among path paths)),
        λ p e d among. h.1 p e d (or_later (eq_by_cmp byte_order p path) (among_paths paths p) among),
      ))
      (λ s h. (h.0.0, λ p e d among. by s h p e d (among_by p path paths among))))
    where
      by : (s : Stored) → Apart s × IsSparedAt what token paths s → (p : List ℕ) → key_of s ≡ key.Staged token p → drops_path what p ≡ true
          → (p ≡ path) ⊎ (among_paths paths p ≡ true) → ⊥
      by s h p e d (inl same) = h.0.1 (e ∙ ap (key.Staged token) same)
      by s h p e d (inr among) = h.1 p e d among
  one_more false keeps gone kept =
      stand_as (pairs_after (removed_at token (filter (drops_path what) paths)) pairs) (λ s. P s × IsSparedAt what token paths s)
      (λ s. P s × IsSparedAt what token (path ∷ paths) s) kept
      (λ s h. (h.0, λ p e d among. h.1 p e d (or_later (eq_by_cmp byte_order p path) (among_paths paths p) among)))
      (λ s h. (h.0, λ p e d among. by s h p e d (among_by p path paths among)))
    where
      by : (s : Stored) → P s × IsSparedAt what token paths s → (p : List ℕ) → key_of s ≡ key.Staged token p → drops_path what p ≡ true
          → (p ≡ path) ⊎ (among_paths paths p ≡ true) → ⊥
      by s h p e d (inl same) = let no : drops_path what p ≡ false = ap (drops_path what) same ∙ keeps in absurd cc
      by s h p e d (inr among) = h.1 p e d among

-- the changes at those of these paths, under a token, that a reset drops
removed_paths : (what : ResetWhat) (token : ℕ) (paths : List (List ℕ)) (pairs : KeptPairs) (P : Stored → Type 0) → Stand pairs P
    → ((path : List ℕ) → among_paths paths path ≡ true → IsSpelledKey (key.Staged token path))
    → Stand (pairs_after (removed_at token (filter (drops_path what) paths)) pairs) (λ s. P s × IsSparedAt what token paths s)
removed_paths what token [] pairs P stand within =
    subst (λ m. Stand m (λ s. P s × IsSparedAt what token [] s)) (sym (after_none pairs))
    (stand_as pairs P (λ s. P s × IsSparedAt what token [] s) stand (λ s h. h.0) (λ s p. (p, λ path e d among. absurd cc)))
removed_paths what token (path ∷ paths) pairs P stand within =
    one_more what token path paths pairs P (drops_path what path) refl
    (removed_paths what token paths (pairs_with (removed_put (key.Staged token path)) pairs) (λ s. P s × (key_of s ≡ key.Staged token path → ⊥))
    (gone_one pairs P (key.Staged token path) stand (within path (first_among path paths)))
    (λ p among. within p (or_later (eq_by_cmp byte_order p path) (among_paths paths p) among)))
    (removed_paths what token paths pairs P stand (λ p among. within p (or_later (eq_by_cmp byte_order p path) (among_paths paths p) among)))

-- ---- some tokens

-- a thing isn't a change under one of these tokens that a reset drops
abbrev pub IsSpared : ResetWhat → TokenMap → List ℕ → Stored → Type 0
IsSpared what tokens these s =
    (token : ℕ) (path : List ℕ) → key_of s ≡ key.Staged token path → is_among these token ≡ true → drops_path what path ≡ true
    → contains_key (changes_under tokens token) path ≡ true → ⊥

-- one of these is the first, or one of the others
token_by : (t token : ℕ) (these : List ℕ) → is_among (token ∷ these) t ≡ true → (token ≡ t) ⊎ (is_among these t ≡ true)
token_by t token these among = by (nat_eq token t) refl among
  where
    by : (test : Bool) → nat_eq token t ≡ test → (test || is_among these t) ≡ true → (token ≡ t) ⊎ (is_among these t ≡ true)
    by true e h = inl (eqb-true token t e)
    by false e h = inr h

pub removed_tokens : (what : ResetWhat) (tokens : TokenMap) (these : List ℕ) (pairs : KeptPairs) (P : Stored → Type 0) → Stand pairs P
    → ((token : ℕ) (path : List ℕ) → is_among these token ≡ true → contains_key (changes_under tokens token) path ≡ true → IsSpelledKey (key.Staged token path))
    → Stand (pairs_after (flat_map (removals_under what tokens) these) pairs) (λ s. P s × IsSpared what tokens these s)
unfolding removals_at
removed_tokens what tokens [] pairs P stand within =
    subst (λ m. Stand m (λ s. P s × IsSpared what tokens [] s)) (sym (after_none pairs))
    (stand_as pairs P (λ s. P s × IsSpared what tokens [] s) stand (λ s h. h.0) (λ s p. (p, λ token path e among d c. absurd cc)))
removed_tokens what tokens (token ∷ these) pairs P stand within =
    let paths : List (List ℕ) = keys (changes_under tokens token) in
    let first : is_among (token ∷ these) token ≡ true = or_first (nat_eq token token) (is_among these token) (nat_eq_equiv.refl token) in
    let one = removed_paths what token (keys (changes_under tokens token)) pairs P stand
    (λ path among. within token path first (contains_key-keys (changes_under tokens token) path ∙ among)) in
    let rest = removed_tokens what tokens these (pairs_after (removals_under what tokens token) pairs)
    (λ s. P s × IsSparedAt what token (keys (changes_under tokens token)) s) one
    (λ t path among. within t path (or_later (nat_eq token t) (is_among these t) among)) in
    subst (λ m. Stand m (λ s. P s × IsSpared what tokens (token ∷ these) s))
    (sym (after_both (removals_under what tokens token) (flat_map (removals_under what tokens) these) pairs))
    (stand_as (pairs_after (flat_map (removals_under what tokens) these) (pairs_after (removals_under what tokens token) pairs))
    (λ s. (P s × IsSparedAt what token (keys (changes_under tokens token)) s) × IsSpared what tokens these s)
    (λ s. P s × IsSpared what tokens (token ∷ these) s) rest
    (λ s h. (
      (h.0, λ path e d among. h.1 token path e first d (contains_key-keys (changes_under tokens token) path ∙ among)),
      λ t path e among. h.1 t path e (or_later (nat_eq token t) (is_among these t) among),
    ))
    (λ s h. (h.0.0, λ t path e among d c. by s h t path e d c (token_by t token these among))))
  where
    by : (s : Stored) → (P s × IsSparedAt what token (keys (changes_under tokens token)) s) × IsSpared what tokens these s
        → (t : ℕ) (path : List ℕ) → key_of s ≡ key.Staged t path → drops_path what path ≡ true → contains_key (changes_under tokens t) path ≡ true
        → (token ≡ t) ⊎ (is_among these t ≡ true) → ⊥
    by s h t path e d c (inl same) =
        h.0.1 path (e ∙ ap (λ n. key.Staged n path) (sym same)) d
        (sym (contains_key-keys (changes_under tokens token) path) ∙ ap (λ n. contains_key (changes_under tokens n) path) same ∙ c)
    by s h t path e d c (inr among) = h.1 t path e among d c

-- ---- a branch without them

module _ (l : LakeStateValue) (apart : AreTokensApart l) (q : List ℕ) (r : RepositoryStateValue) (in_lake : get l.repositories q ≡ Some r)
    (name : List ℕ) (b : BranchStateValue) (in_it : get r.branches name ≡ Some b)
    (what : ResetWhat) (these : List ℕ) (named : (token : ℕ) → is_among these token ≡ true → is_among (tokens_of b) token ≡ true) where
  -- a change of another branch isn't dropped
  other_spared : (p : List ℕ) (x : RepositoryStateValue) → get l.repositories p ≡ Some x → (branch : List ℕ) (other : BranchStateValue)
      → get x.branches branch ≡ Some other → ((p ≡ q) × (branch ≡ name) → ⊥) → (token : ℕ) (path : List ℕ) (c : Change) → HasChange token path c other
      → IsSpared what b.tokens these (stored.Staged token path c)
  other_spared p x at branch other is ne token path c has t at_path k among drops contains =
      let t_is : token ≡ t = cc in
      ne (same_branch l apart q r in_lake name b in_it token (named token (ap (is_among these) t_is ∙ among)) p x at branch other is path c has)

  elsewhere : (p : List ℕ) (x : RepositoryStateValue) → (p ≡ q → ⊥) → get l.repositories p ≡ Some x → (s : Stored) → ThingOf p x s
      → IsSpared what b.tokens these s
  elsewhere p x ne at (stored.Staged token path c) (branch, h) =
      let there = opened (get x.branches branch) (HasChange token path c) h in
      other_spared p x at branch there.one there.is (λ both. ne both.0) token path c there.holds
  elsewhere p x ne at s h = λ t path k among drops contains. cc

  lake_spared : (m : LakeStateValue) (s : Stored) → LakeThing m s → IsSpared what b.tokens these s
  lake_spared m (stored.Gone number) h = λ t path k among drops contains. cc
  lake_spared m (stored.Counts number version token) h = λ t path k among drops contains. cc
  lake_spared m s h = absurd h

  within : (pairs : KeptPairs) → Stand pairs (StandsIn l) → (token : ℕ) (path : List ℕ) → is_among these token ≡ true
      → contains_key (changes_under b.tokens token) path ≡ true → IsSpelledKey (key.Staged token path)
  within pairs stand token path among contains = by (get (changes_under b.tokens token) path) refl contains
    where
      by : (o : Option Change) → get (changes_under b.tokens token) path ≡ o → is_some o ≡ true → IsSpelledKey (key.Staged token path)
      by None is h = absurd cc
      by (Some c) is h =
          (stand.spelled (stored.Staged token path c)
          (from_repository l q r in_lake (stored.Staged token path c) (name, closed (get r.branches name) (HasChange token path c) b in_it is))).named

  -- what stands in one repository that is the other
  thing_here : (p : List ℕ) (x : RepositoryStateValue) (s : Stored) → bytes_eq p q ≡ true → get l.repositories p ≡ Some x → ThingOf p x s → ThingOf q r s
  thing_here p x s e at h =
      let same = tied p q e in
      let is : Some x ≡ Some r = sym at ∙ ap (get l.repositories) same ∙ in_lake in
      let one : x ≡ r = cc in
      subst (λ x. ThingOf q x s) one (subst (λ p. ThingOf p x s) same h)

  -- ---- some of them go

  module _ (tokens : TokenMap)
      (left : (token : ℕ) (path : List ℕ) → get (changes_under tokens token) path
      ≡ cond (is_among these token && drops_path what path) None (get (changes_under b.tokens token) path)) where
    abbrev now : BranchStateValue
    now = record b { tokens = tokens }

    abbrev pub with_left : RepositoryStateValue
    with_left = record r { branches = insert r.branches name now }

    abbrev Before : Stored → Type 0
    Before s = StandsIn l s × IsSpared what b.tokens these s

    both : (x y : Bool) → (x && y) ≡ false → x ≡ true → y ≡ true → ⊥
    both true true e f g = cc
    both true false e f g = cc
    both false y e f g = cc

    -- what is left was there, and wasn't dropped
    own_was : (token : ℕ) (path : List ℕ) (c : Change) → HasChange token path c now
        → ThingOf q r (stored.Staged token path c) × IsSpared what b.tokens these (stored.Staged token path c)
    own_was token path c has = by (is_among these token && drops_path what path) refl (sym (left token path) ∙ has)
      where
        by : (test : Bool) → (is_among these token && drops_path what path) ≡ test → cond test None (get (changes_under b.tokens token) path) ≡ Some c
            → ThingOf q r (stored.Staged token path c) × IsSpared what b.tokens these (stored.Staged token path c)
        by true e is = absurd cc
        by false e is = (
          (name, closed (get r.branches name) (HasChange token path c) b in_it is),
          λ t p k among drops contains.
              let t_is : token ≡ t = cc in let p_is : path ≡ p = cc in
              both (is_among these token) (drops_path what path) e (ap (is_among these) t_is ∙ among) (ap (drops_path what) p_is ∙ drops),
        )

    here : (s : Stored) → ThingOf q with_left s → ThingOf q r s × IsSpared what b.tokens these s
    here (stored.Branch repo branch version head staging sealed) (same, h) =
        ((same, was_there r.branches name b now in_it (IsRecord version head staging sealed) (λ rec. rec) branch h), λ t p k among drops contains. cc)
    here (stored.Staged token path c) (branch, h) =
        let there = opened (get (insert r.branches name now) branch) (HasChange token path c) h in
        by there (found r.branches name now branch there.one there.is)
      where
        by : (there : IsThere (get (insert r.branches name now) branch) (HasChange token path c))
            → ((branch ≡ name) × (now ≡ there.one)) ⊎ ((branch ≡ name → ⊥) × (get r.branches branch ≡ Some there.one))
            → ThingOf q r (stored.Staged token path c) × IsSpared what b.tokens these (stored.Staged token path c)
        by there (inl (same, one)) = own_was token path c (subst (HasChange token path c) (sym one) there.holds)
        by there (inr (ne, is)) = (
          (branch, closed (get r.branches branch) (HasChange token path c) there.one is there.holds),
          other_spared q r in_lake branch there.one is (λ both. ne both.1) token path c there.holds,
        )
    here s h = (h, λ t p k among drops contains. cc)

    before : (s : Stored) → StandsIn (with_one l q with_left) s → Before s
    before s =
        splits l q with_left Before s (λ h. let was = here s h in (from_repository l q r in_lake s was.0, was.1))
        (λ p x ne at h. (from_repository l p x at s h, elsewhere p x (untied p q ne) at s h))
        (λ h. (lake_stood l q with_left s h, lake_spared (with_one l q with_left) s h))

    own_is : (token : ℕ) (path : List ℕ) (c : Change) → IsSpared what b.tokens these (stored.Staged token path c) → HasChange token path c b
        → HasChange token path c now
    own_is token path c spared has = left token path ∙ by (is_among these token) (drops_path what path) refl refl
      where
        by : (x y : Bool) → is_among these token ≡ x → drops_path what path ≡ y → cond (x && y) None (get (changes_under b.tokens token) path) ≡ Some c
        by true true among drops = absurd (spared token path refl among drops (ap is_some has))
        by true false among drops = has
        by false y among drops = has

    after_here : (s : Stored) → IsSpared what b.tokens these s → ThingOf q r s → ThingOf q with_left s
    after_here (stored.Branch repo branch version head staging sealed) spared (same, h) =
        (same, is_there r.branches name b now in_it (IsRecord version head staging sealed) (λ rec. rec) branch h)
    after_here (stored.Staged token path c) spared (branch, h) =
        (branch, is_there r.branches name b now in_it (HasChange token path c) (own_is token path c spared) branch h)
    after_here s spared h = h

    after_by : (s : Stored) → IsSpared what b.tokens these s → LakeThing l s ⊎ IsIn l s → StandsIn (with_one l q with_left) s
    after_by s spared (inl h) = lake_stays l q with_left s h
    after_by s spared (inr i) = by (bytes_eq i.q q) refl
      where
        by : (test : Bool) → bytes_eq i.q q ≡ test → StandsIn (with_one l q with_left) s
        by true e = new_stands l q with_left s (after_here s spared (thing_here i.q i.r s e i.in_lake i.thing))
        by false e = other_stands l q with_left i.q i.r e i.in_lake s i.thing

    -- pairs that stood for the lake stand for it with what is left, after the removals
    pub stand_left : (pairs : KeptPairs) → Stand pairs (StandsIn l)
        → Stand (pairs_after (flat_map (removals_under what b.tokens) these) pairs) (StandsIn (with_one l q with_left))
    stand_left pairs stand =
        stand_as (pairs_after (flat_map (removals_under what b.tokens) these) pairs) Before (StandsIn (with_one l q with_left))
        (removed_tokens what b.tokens these pairs (StandsIn l) stand (within pairs stand))
        before (λ s h. after_by s h.1 (into l s h.0))

-- ---- a branch goes with all of them

module _ (l : LakeStateValue) (apart : AreTokensApart l) (q : List ℕ) (r : RepositoryStateValue) (in_lake : get l.repositories q ≡ Some r)
    (name : List ℕ) (b : BranchStateValue) (in_it : get r.branches name ≡ Some b) where
  abbrev pub without : RepositoryStateValue
  without = record r { branches = remove r.branches name }

  abbrev its_key : OwnedKey
  its_key = key.Branch q name

  abbrev IsOther : Stored → Type 0
  IsOther s = (key_of s ≡ its_key → ⊥) × IsSpared All b.tokens (tokens_of b) s

  spared_here : (branch : List ℕ) (other : BranchStateValue) → get r.branches branch ≡ Some other → (branch ≡ name → ⊥)
      → (token : ℕ) (path : List ℕ) (c : Change) → HasChange token path c other → IsSpared All b.tokens (tokens_of b) (stored.Staged token path c)
  spared_here branch other is ne token path c has =
      other_spared l apart q r in_lake name b in_it All (tokens_of b) (λ t among. among) q r in_lake branch other is (λ both. ne both.1) token path c has

  stood : (s : Stored) → ThingOf q without s → ThingOf q r s × IsOther s
  stood (stored.Branch repo branch version head staging sealed) (same, h) =
      let there = opened (get (remove r.branches name) branch) (IsRecord version head staging sealed) h in
      let was = left r.branches name branch there.one there.is in (
        (same, closed (get r.branches branch) (IsRecord version head staging sealed) there.one was.1 there.holds),
        (λ e. was.0 cc, λ t p k among drops contains. cc),
      )
  stood (stored.Staged token path c) (branch, h) =
      let there = opened (get (remove r.branches name) branch) (HasChange token path c) h in
      let was = left r.branches name branch there.one there.is in (
        (branch, closed (get r.branches branch) (HasChange token path c) there.one was.1 there.holds),
        (λ e. cc, spared_here branch there.one was.1 was.0 token path c there.holds),
      )
  stood s h = (h, (λ e. cc, λ t p k among drops contains. cc))

  other_elsewhere : (p : List ℕ) (x : RepositoryStateValue) → (p ≡ q → ⊥) → (s : Stored) → ThingOf p x s → key_of s ≡ its_key → ⊥
  other_elsewhere p x ne (stored.Branch repo branch version head staging sealed) (same, h) e = ne cc
  other_elsewhere p x ne s h e = cc

  lake_other : (m : LakeStateValue) (s : Stored) → LakeThing m s → key_of s ≡ its_key → ⊥
  lake_other m (stored.Gone number) h e = cc
  lake_other m (stored.Counts number version token) h e = cc
  lake_other m s h e = absurd h

  was_standing : (s : Stored) → StandsIn (with_one l q without) s → (StandsIn l s × (key_of s ≡ its_key → ⊥)) × IsSpared All b.tokens (tokens_of b) s
  was_standing s =
      splits l q without (λ s. (StandsIn l s × (key_of s ≡ its_key → ⊥)) × IsSpared All b.tokens (tokens_of b) s) s
      (λ h. let was = stood s h in ((from_repository l q r in_lake s was.0, was.1.0), was.1.1))
      (λ p x ne at h. (
        (from_repository l p x at s h, other_elsewhere p x (untied p q ne) s h),
        elsewhere l apart q r in_lake name b in_it All (tokens_of b) (λ t among. among) p x (untied p q ne) at s h,
      ))
      (λ h. (
        (lake_stood l q without s h, lake_other (with_one l q without) s h),
        lake_spared l apart q r in_lake name b in_it All (tokens_of b) (λ t among. among) (with_one l q without) s h,
      ))

  stands_here : (s : Stored) → IsOther s → ThingOf q r s → ThingOf q without s
  stands_here (stored.Branch repo branch version head staging sealed) (other, spared) (same, h) =
      let there = opened (get r.branches branch) (IsRecord version head staging sealed) h in (
        same,
        closed (get (remove r.branches name) branch) (IsRecord version head staging sealed) there.one
            (get_left r.branches name branch (λ named. other cc) ∙ there.is) there.holds,
      )
  stands_here (stored.Staged token path c) (other, spared) (branch, h) =
      let there = opened (get r.branches branch) (HasChange token path c) h in (
        branch,
        closed (get (remove r.branches name) branch) (HasChange token path c) there.one
            (get_left r.branches name branch (λ named. gone there named) ∙ there.is) there.holds,
      )
    where
      gone : IsThere (get r.branches branch) (HasChange token path c) → branch ≡ name → ⊥
      gone there named =
          let is : Some there.one ≡ Some b = sym there.is ∙ ap (get r.branches) named ∙ in_it in
          let one : there.one ≡ b = cc in
          let has : HasChange token path c b = subst (HasChange token path c) one there.holds in
          spared token path refl (own_named l apart q r in_lake name b in_it token path c has) refl (ap is_some has)
  stands_here s other h = h

  stands_by : (s : Stored) → IsOther s → LakeThing l s ⊎ IsIn l s → StandsIn (with_one l q without) s
  stands_by s other (inl h) = lake_stays l q without s h
  stands_by s other (inr i) = by (bytes_eq i.q q) refl
    where
      by : (test : Bool) → bytes_eq i.q q ≡ test → StandsIn (with_one l q without) s
      by true e =
          new_stands l q without s (stands_here s other
          (thing_here l apart q r in_lake name b in_it All (tokens_of b) (λ t among. among) i.q i.r s e i.in_lake i.thing))
      by false e = other_stands l q without i.q i.r e i.in_lake s i.thing

  pub stand_without : (pairs : KeptPairs) → Stand pairs (StandsIn l) → IsSpelledKey its_key
      → Stand (pairs_after (flat_map (removals_under All b.tokens) (tokens_of b)) (pairs_with (removed_put its_key) pairs)) (StandsIn (with_one l q without))
  stand_without pairs stand spelled =
      stand_as _ (λ s. (StandsIn l s × (key_of s ≡ its_key → ⊥)) × IsSpared All b.tokens (tokens_of b) s) (StandsIn (with_one l q without))
      (removed_tokens All b.tokens (tokens_of b) (pairs_with (removed_put its_key) pairs) (λ s. StandsIn l s × (key_of s ≡ its_key → ⊥))
      (gone_one pairs (StandsIn l) its_key stand spelled)
      (within l apart q r in_lake name b in_it All (tokens_of b) (λ t among. among) pairs stand))
      was_standing (λ s h. stands_by s (h.0.1, h.1) (into l s h.0.0))
