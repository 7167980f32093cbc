-- Changes under tokens: one is staged, and those that go.
use Rattle.std.proofs.Common.{◌≡◌, ◌⊎◌, ◌||◌, inl, inr, ℕ, Bool, true, false, cond, List, Some, None, refl, sym, ap, subst, ◌∙◌}
use Rattle.std.specs.Bool.{nat_eq}
use Rattle.std.specs.Str.{bytes_eq}
use Rattle.std.specs.Cmp.{nat_eq_equiv}
use Rattle.std.specs.FinMap.{contains_key, empty, get, insert}
use Rattle.std.proofs.lemmas.Bool.{eqb-true}
use Rattle.lake_values.specs.KeyMap.{ChangesValue}
use Rattle.lake_values.specs.declared.entry.Change.{Change}
use Rattle.branch_record.specs.Record.{is_among}
use Rattle.branch_record.specs.Tokens.{TokenMap, changes_under, with_change}
use Rattle.branch_record.proofs.TokensLemmas.{under_none, under_with}
use Rattle.byte_map.proofs.ByteMapLemmas.{get_empty, get_insert, get_inserted}
use Rattle.pair_format.specs.declared.key.OwnedKey.{OwnedKey}
use Rattle.pair_format.specs.declared.key.OwnedKey.TheVariants as key
use Rattle.pair_format.specs.declared.stored.Stored.{Stored}
use Rattle.pair_format.specs.declared.stored.Stored.TheVariants as stored
use Rattle.pair_format.specs.PairSpelling.{IsSpelledStored, key_of}
use Rattle.core_state.specs.BranchStates.{BranchStateValue, tokens_of}
use Rattle.core_state.specs.RepositoryStates.{RepositoryStateValue}
use Rattle.core_state.specs.LakeStates.{LakeStateValue}
use Rattle.core_pairs.specs.LakePairs.{AreTokensApart}
use Rattle.core_pairs.proofs.PlaceLemmas.{decide, found, get_other}
use Rattle.core_pairs.proofs.StandLemmas.{same_bytes, tied, untied}
use Rattle.core_pairs.proofs.ThingLemmas.{HasChange, IsRecord, IsThere, Makes, ThingOf, branch_closed, branch_opened, closed, is_there, opened, was_there}

-- ---- tokens of two branches

pub tokens_or_not : (t token : ℕ) → (t ≡ token) ⊎ (nat_eq t token ≡ false)
tokens_or_not t token = by (nat_eq t token) refl
  where
    by : (test : Bool) → nat_eq t token ≡ test → (t ≡ token) ⊎ (nat_eq t token ≡ false)
    by true e = inl (eqb-true t token e)
    by false e = inr e

-- a change stands under a token that is there
pub has_token : (tokens : TokenMap) (token : ℕ) (path : List ℕ) (change : Change) → get (changes_under tokens token) path ≡ Some change
    → contains_key tokens token ≡ true
has_token tokens token path change there = by (contains_key tokens token) refl
  where
    by : (test : Bool) → contains_key tokens token ≡ test → test ≡ true
    by true e = refl
    by false e =
        let none : changes_under tokens token ≡ empty = under_none tokens token e in
        let nothing = get_empty {X = Change} path in
        let at : get (changes_under tokens token) path ≡ None = ap (λ (c : ChangesValue). get c path) none ∙ nothing in absurd cc

-- a branch that has a change under a token is the one that names it
module _ (l : LakeStateValue) (apart : AreTokensApart l) (q : List ℕ) (r : RepositoryStateValue) (in_lake : get l.repositories q ≡ Some r)
    (name : List ℕ) (b : BranchStateValue) (in_it : get r.branches name ≡ Some b) (token : ℕ) (names : is_among (tokens_of b) token ≡ true) where
  pub same_branch : (p : List ℕ) (x : RepositoryStateValue) → get l.repositories p ≡ Some x → (branch : List ℕ) (other : BranchStateValue)
      → get x.branches branch ≡ Some other → (path : List ℕ) (change : Change) → HasChange token path change other → (p ≡ q) × (branch ≡ name)
  same_branch p x at branch other is path change has =
      let named = apart.named token p branch
      (branch_closed l p branch (λ b. contains_key b.tokens token ≡ true) x other at is (has_token other.tokens token path change has)) in
      apart.apart token p branch q name named (branch_closed l q name (λ b. is_among (tokens_of b) token ≡ true) r b in_lake in_it names)

-- a branch names the tokens under which it has changes
pub own_names : (l : LakeStateValue) → AreTokensApart l → (q : List ℕ) (r : RepositoryStateValue) → get l.repositories q ≡ Some r
    → (name : List ℕ) (b : BranchStateValue) → get r.branches name ≡ Some b → (token : ℕ) → contains_key b.tokens token ≡ true
    → is_among (tokens_of b) token ≡ true
own_names l apart q r in_lake name b in_it token uses =
    let there = branch_opened l q name (λ b. is_among (tokens_of b) token ≡ true)
    (apart.named token q name (branch_closed l q name (λ b. contains_key b.tokens token ≡ true) r b in_lake in_it uses)) in
    let first : Some there.r ≡ Some r = sym there.in_lake ∙ in_lake in
    let same : there.r ≡ r = cc in
    let second : Some there.b ≡ Some b = sym there.in_it ∙ ap (λ (r : RepositoryStateValue). get r.branches name) same ∙ in_it in
    let one : there.b ≡ b = cc in
    subst (λ (b : BranchStateValue). is_among (tokens_of b) token ≡ true) one there.holds

pub own_named : (l : LakeStateValue) → AreTokensApart l → (q : List ℕ) (r : RepositoryStateValue) → get l.repositories q ≡ Some r
    → (name : List ℕ) (b : BranchStateValue) → get r.branches name ≡ Some b → (token : ℕ) (path : List ℕ) (change : Change) → HasChange token path change b
    → is_among (tokens_of b) token ≡ true
own_named l apart q r in_lake name b in_it token path change has =
    own_names l apart q r in_lake name b in_it token (has_token b.tokens token path change has)

-- a branch names its staging token
pub staging_named : (b : BranchStateValue) → is_among (tokens_of b) b.staging ≡ true
staging_named b = ap (λ t. t || is_among b.sealed b.staging) (nat_eq_equiv.refl b.staging)

-- ---- a change stands under a token that its branch names

module _ (l : LakeStateValue) (apart : AreTokensApart l) (q : List ℕ) (r : RepositoryStateValue) (in_lake : get l.repositories q ≡ Some r)
    (name : List ℕ) (b : BranchStateValue) (in_it : get r.branches name ≡ Some b) (own : ℕ) (names : is_among (tokens_of b) own ≡ true)
    (path : List ℕ) (change : Change) where
  abbrev now : BranchStateValue
  now = record b { tokens = with_change b.tokens own path change }

  abbrev pub with_staged : RepositoryStateValue
  with_staged = record r { branches = insert r.branches name now }

  abbrev pub staged_thing : Stored
  staged_thing = stored.Staged own path change

  abbrev staged_key : OwnedKey
  staged_key = key.Staged own path

  -- what is found under a token then
  under_now : (token : ℕ) (at : List ℕ)
      → get (changes_under now.tokens token) at
      ≡ cond (nat_eq token own) (cond (bytes_eq at path) (Some change) (get (changes_under b.tokens own) at))
      (get (changes_under b.tokens token) at)
  unfolding with_change
  under_now token at =
      ap (λ (c : ChangesValue). get c at) (under_with b.tokens own (insert (changes_under b.tokens own) path change) token)
      ∙ by (nat_eq token own)
    where
      by : (test : Bool)
          → get (cond test (insert (changes_under b.tokens own) path change) (changes_under b.tokens token)) at
          ≡ cond test (cond (bytes_eq at path) (Some change) (get (changes_under b.tokens own) at)) (get (changes_under b.tokens token) at)
      by true = get_insert (changes_under b.tokens own) path change at
      by false = refl

  -- it is the new one, or stood there before under another key
  split_now : (token : ℕ) (at : List ℕ) (c : Change) → HasChange token at c now
      → (Some staged_thing ≡ Some (stored.Staged token at c)) ⊎ (HasChange token at c b × (key.Staged token at ≡ staged_key → ⊥))
  split_now token at c has = by_token (nat_eq token own) refl (sym (under_now token at) ∙ has)
    where
      by_path : token ≡ own → (test : Bool) → bytes_eq at path ≡ test
          → cond test (Some change) (get (changes_under b.tokens own) at) ≡ Some c
          → (Some staged_thing ≡ Some (stored.Staged token at c)) ⊎ (HasChange token at c b × (key.Staged token at ≡ staged_key → ⊥))
      by_path same true e is = let named = tied at path e in inl cc
      by_path same false e is =
          inr (subst (λ t. HasChange t at c b) (sym same) is, λ k. untied at path e (let paths : at ≡ path = cc in paths))

      by_token : (test : Bool) → nat_eq token own ≡ test
          → cond test (cond (bytes_eq at path) (Some change) (get (changes_under b.tokens own) at)) (get (changes_under b.tokens token) at) ≡ Some c
          → (Some staged_thing ≡ Some (stored.Staged token at c)) ⊎ (HasChange token at c b × (key.Staged token at ≡ staged_key → ⊥))
      by_token true e is = by_path (eqb-true token own e) (bytes_eq at path) refl is
      by_token false e is =
          inr (
            is,
            λ k. let same : token ≡ own = cc in let all = nat_eq_equiv.refl own in
                let none : nat_eq own own ≡ false = subst (λ t. nat_eq t own ≡ false) same e in absurd cc,
          )

  stays_now : (token : ℕ) (at : List ℕ) (c : Change) → HasChange token at c b → (key.Staged token at ≡ staged_key → ⊥) → HasChange token at c now
  stays_now token at c has other = under_now token at ∙ by_token (nat_eq token own) refl
    where
      by_path : token ≡ own → (test : Bool) → bytes_eq at path ≡ test
          → cond test (Some change) (get (changes_under b.tokens own) at) ≡ Some c
      by_path same true e = let named = tied at path e in absurd (other cc)
      by_path same false e = subst (λ t. HasChange t at c b) same has

      by_token : (test : Bool) → nat_eq token own ≡ test
          → cond test (cond (bytes_eq at path) (Some change) (get (changes_under b.tokens own) at)) (get (changes_under b.tokens token) at) ≡ Some c
      by_token true e = by_path (eqb-true token own e) (bytes_eq at path) refl
      by_token false e = has

  put_now : HasChange own path change now
  put_now =
      under_now own path
      ∙ ap (λ t. cond t (cond (bytes_eq path path) (Some change) (get (changes_under b.tokens own) path)) (get (changes_under b.tokens own) path))
      (nat_eq_equiv.refl own)
      ∙ ap (λ t. cond t (Some change) (get (changes_under b.tokens own) path)) (same_bytes path)

  -- what the branch has is another branch's, or its own
  abbrev Either : Stored → Type 0
  Either s = (Some staged_thing ≡ Some s) ⊎ (ThingOf q r s × (key_of s ≡ staged_key → ⊥))

  -- a change of another branch has another key
  other_key : (p : List ℕ) (x : RepositoryStateValue) → get l.repositories p ≡ Some x → (branch : List ℕ) (other : BranchStateValue)
      → get x.branches branch ≡ Some other → (token : ℕ) (at : List ℕ) (c : Change) → HasChange token at c other → key.Staged token at ≡ staged_key
      → (p ≡ q) × (branch ≡ name)
  other_key p x is branch other there token at c has e =
      let same : token ≡ own = cc in
      same_branch l apart q r in_lake name b in_it own names p x is branch other there at c (subst (λ t. HasChange t at c other) same has)

  either_staged : (s : Stored) → ThingOf q with_staged s → Either s
  either_staged (stored.Branch repo branch version head staging sealed) (same, h) =
      inr ((same, was_there r.branches name b now in_it (IsRecord version head staging sealed) (λ rec. rec) branch h), λ e. cc)
  either_staged (stored.Staged token at c) (branch, h) = change_was (opened (get (insert r.branches name now) branch) (HasChange token at c) h)
    where
      change_was : IsThere (get (insert r.branches name now) branch) (HasChange token at c) → Either (stored.Staged token at c)
      change_was there = by (found r.branches name now branch there.one there.is)
        where
          its : (Some staged_thing ≡ Some (stored.Staged token at c)) ⊎ (HasChange token at c b × (key.Staged token at ≡ staged_key → ⊥))
              → Either (stored.Staged token at c)
          its (inl new) = inl new
          its (inr (was, other)) = inr ((name, closed (get r.branches name) (HasChange token at c) b in_it was), other)

          by : ((branch ≡ name) × (now ≡ there.one)) ⊎ ((branch ≡ name → ⊥) × (get r.branches branch ≡ Some there.one)) → Either (stored.Staged token at c)
          by (inl (named, one)) = its (split_now token at c (subst (HasChange token at c) (sym one) there.holds))
          by (inr (other, is)) =
              inr (
                (branch, closed (get r.branches branch) (HasChange token at c) there.one is there.holds),
                λ e. other (other_key q r in_lake branch there.one is token at c there.holds e).1,
              )
  either_staged s h = inr (h, λ e. cc)

  stays_staged : (s : Stored) → ThingOf q r s → (key_of s ≡ staged_key → ⊥) → ThingOf q with_staged s
  stays_staged (stored.Branch repo branch version head staging sealed) (same, h) other =
      (same, is_there r.branches name b now in_it (IsRecord version head staging sealed) (λ rec. rec) branch h)
  stays_staged (stored.Staged token at c) (branch, h) other = change_is (opened (get r.branches branch) (HasChange token at c) h)
    where
      change_is : IsThere (get r.branches branch) (HasChange token at c) → ThingOf q with_staged (stored.Staged token at c)
      change_is there = by (decide branch name)
        where
          by : (branch ≡ name) ⊎ (branch ≡ name → ⊥) → ThingOf q with_staged (stored.Staged token at c)
          by (inl named) =
              let one : there.one ≡ b = let is : Some there.one ≡ Some b = sym there.is ∙ ap (get r.branches) named ∙ in_it in cc in (
                name,
                closed (get (insert r.branches name now) name) (HasChange token at c) now (get_inserted r.branches name now)
                    (stays_now token at c (subst (HasChange token at c) one there.holds) other),
              )
          by (inr apart) = (
            branch,
            closed (get (insert r.branches name now) branch) (HasChange token at c) there.one
                (get_other r.branches name now branch apart ∙ there.is) there.holds,
          )
  stays_staged s h other = h

  elsewhere_staged : (p : List ℕ) (x : RepositoryStateValue) (s : Stored) → (p ≡ q → ⊥) → get l.repositories p ≡ Some x → ThingOf p x s
      → key_of s ≡ staged_key → ⊥
  elsewhere_staged p x (stored.Staged token at c) ne is (branch, h) e =
      let there = opened (get x.branches branch) (HasChange token at c) h in
      ne (other_key p x is branch there.one there.is token at c there.holds e).0
  elsewhere_staged p x s ne is h e = cc

  -- a change is put
  pub makes_staged : IsSpelledStored staged_thing → Makes l q (Some r) with_staged staged_key (Some staged_thing)
  makes_staged spelled = record {
    within = spelled.named;
    new = λ s put.
        let same : staged_thing ≡ s = cc in
        subst (λ s. (key_of s ≡ staged_key) × (IsSpelledStored s × ThingOf q with_staged s)) same (
          refl,
          (
            spelled,
            (
              name,
              closed (get (insert r.branches name now) name) (HasChange own path change) now
                  (get_inserted r.branches name now) put_now,
            ),
          ),
        );
    either = either_staged;
    stays = stays_staged;
    elsewhere = elsewhere_staged;
    gone = λ number e. cc;
    counts = λ e. cc;
  }
