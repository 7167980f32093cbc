-- Pairs of which none is to blame are tied, and none of those that are tied is to blame.
use Rattle.std.proofs.Common.{◌≡◌, ℕ, zero, suc, ◌<◌, ◌^◌, Bool, true, false, List, [], ◌∷◌, ◌++◌, length, map, get_or, Option, Some, None, IfSome, IsSomeAnd}
use Rattle.std.proofs.Common.{refl, sym, ap, subst, ◌∙◌, arith}
use Rattle.std.specs.List.{AllByRecursion, Contains, slice_get}
use Rattle.std.proofs.lemmas.List.{length-map}
use Rattle.std.proofs.lemmas.List.Elements.{All-contains, All-from_recursion, Contains-append_left}
use Rattle.std.proofs.lemmas.Option.{get_or_from_slice_get, slice_get-get_or, slice_get_within}
use Rattle.lake_base.specs.declared.digest.Digest.{Digest}
use Rattle.lake_base.specs.Names.{repo_fault}
use Rattle.lake_values.specs.Ancestry.{parents, parents_in}
use Rattle.lake_values.specs.Commit.{CommitRecordValue}
use Rattle.lake_values.specs.declared.entry.Change.{Change}
use Rattle.lake_format.specs.Spelling.{IsDigest}
use Rattle.lake_format.specs.declared.cut.Cut.{Cut}
use Rattle.lake_model.specs.Uncommitted.{put_number}
use Rattle.pair_format.specs.declared.key.OwnedKey.{OwnedKey}
use Rattle.pair_format.specs.declared.key.OwnedKey.TheVariants as key
use Rattle.pair_format.specs.declared.pair.Pair.{Pair}
use Rattle.pair_format.specs.declared.stored.Stored.{Stored}
use Rattle.pair_format.specs.declared.stored.Stored.TheVariants as stored
use Rattle.pair_format.specs.PairSpelling.{IsSpelledKey, IsSpelledStored, key_of, key_spelling, pair_spelling, value_spelling}
use Rattle.pair_format.proofs.ReadingLemmas.{keys_apart}
use Rattle.pair_trees.specs.Spelled.{AreSpelled}
use Rattle.pair_trees.specs.Things.{HasKey, HasLiveCommit, IsGone, IsThere, Spells, Things, commits_in, thing_at, thing_of}
use Rattle.pair_trees.proofs.FoundLemmas.{commit_is}
use Rattle.pair_trees.proofs.SpelledLemmas.{things_apart}
use Rattle.pair_trees.proofs.ThingsLemmas.{spells_there, there_spells}
use Rattle.pair_ties.specs.BrokenPairs.{AreBlamelessBefore, HasPair, IsBlameless, IsExpired, IsRightCommit, IsRightStaged, IsSealedOver}
use Rattle.pair_ties.specs.PairTies.{IsHidden, IsTied, IsTiedAt, IsTiedCommit, IsTiedStaged}
use Rattle.pair_ties.proofs.DueLemmas.{graph_found, some_read}

some_is : {X : Type 0} {x y : X} → Some x ≡ Some y → x ≡ y
some_is e = cc

some_and : (o : Option Stored) (P : Stored → Type 0) → IsSomeAnd o P → (s : Stored) × (o ≡ Some s) × P s
some_and None P h = absurd h
some_and (Some s) P h = (s, refl, h)

-- of the images of a list
image_each : {X Y : Type 0} (P : Y → Type 0) (f : X → Y) (xs : List X) → ((x : X) → Contains xs x → P (f x)) → AllByRecursion P (map f xs)
image_each P f [] each = tt
image_each P f (x ∷ xs) each = (
  each x (0, omega arith, refl),
  image_each P f xs (λ y has. each y (suc has.0, omega (arith, has.1), has.2)),
)

each_image : {X Y : Type 0} (P : Y → Type 0) (f : X → Y) (xs : List X) → AllByRecursion P (map f xs) → (x : X) → Contains xs x → P (f x)
each_image P f [] all x has = absurd (omega (arith, has.1))
each_image {X = X} P f (y ∷ xs) all x has = by (each_image P f xs all.1 x) has.0 has.1 has.2
  where
    by : (Contains xs x → P (f x)) → (k : ℕ) → k < length (y ∷ xs) → get_or (y ∷ xs) k x ≡ x → P (f x)
    by more zero lt is = subst (λ z. P (f z)) is all.0
    by more (suc k) lt is = more (k, omega (arith, lt), is)

module _ (cut : Cut) (pairs : List Pair) (things : Things) (are : AreSpelled pairs things) where
  long : length things ≡ length pairs
  long = ap length are.same ∙ length-map pairs thing_of

  -- what is there has its pair
  pair_there : (k : OwnedKey) → HasKey things k → HasPair pairs k
  pair_there k has =
      let place = there_spells things has.thing has.there in
      let at = (are.each place.0 has.thing place.1).at in
      let value = value_spelling has.thing in
      let same : pair_spelling has.thing ≡ record { key = key_spelling k; value = value } =
      ap (λ j. record { key = key_spelling j; value = value }) has.under in (
        value,
        (
          place.0,
          slice_get_within pairs place.0 (pair_spelling has.thing) at,
          get_or_from_slice_get pairs place.0 (pair_spelling has.thing) (record { key = key_spelling k; value = value }) at ∙ same,
        ),
      )

  -- no commit that is live is read as expired
  not_expired : (repo : List ℕ) (id : Digest) → HasLiveCommit things repo id → IsExpired things repo id → ⊥
  not_expired repo id live old =
      let one = there_spells things (stored.Commit repo id false live.commit) live.there in
      let two = there_spells things (stored.Commit repo id true old.commit) old.there in
      let place : one.0 ≡ two.0 =
      things_apart pairs things are one.0 two.0 (stored.Commit repo id false live.commit) (stored.Commit repo id true old.commit) one.1 two.1 refl in
      no (some_is (sym one.1 ∙ ap (thing_at things) place ∙ two.1))
    where
      no : {x y : CommitRecordValue} → stored.Commit repo id false x ≡ stored.Commit repo id true y → ⊥
      no e = cc

  -- the commit of an id is the one that is there
  own_parents : (n : ℕ) (repo : List ℕ) (id : Digest) (expired : Bool) (commit : CommitRecordValue) → Spells things n (stored.Commit repo id expired commit)
      → parents (commits_in repo things) id ≡ commit.parents
  unfolding parents
  own_parents n repo id expired commit here =
      ap parents_in (graph_found things repo id expired commit (record {
        there = spells_there things n (stored.Commit repo id expired commit) here;
        only = λ old other there. only old other there;
      }))
    where
      only : (old : Bool) (other : CommitRecordValue) → IsThere things (stored.Commit repo id old other) → (old ≡ expired) × (other ≡ commit)
      only old other there =
          let two = there_spells things (stored.Commit repo id old other) there in
          let place : two.0 ≡ n =
          things_apart pairs things are two.0 n (stored.Commit repo id old other) (stored.Commit repo id expired commit) two.1 here refl in
          inside (some_is (sym two.1 ∙ ap (thing_at things) place ∙ here))
        where
          inside : {a b : Bool} {x y : CommitRecordValue} → stored.Commit repo id a x ≡ stored.Commit repo id b y → (a ≡ b) × (x ≡ y)
          inside e = (cc, cc)

  -- ---- tied, so not to blame

  right_staged : (token : ℕ) (path : List ℕ) (change : Change) → IsTiedStaged things token path change → IsRightStaged pairs things token path change
  right_staged token path change tied = record { held = tied.held; given = tied.given; apart = by (put_number change) tied.apart }
    where
      by : (o : Option ℕ) → IfSome o (λ number. IsGone things number → IsHidden things token path)
          → IfSome o (λ number. IsGone things number → (over : ℕ) × IsSealedOver things over token × HasPair pairs (key.Staged over path))
      by None h = tt
      by (Some number) h = λ gone.
          let hidden = h gone in (
            hidden.over,
            record {
              repo = hidden.repo;
              branch = hidden.branch;
              version = hidden.version;
              head = hidden.head;
              staging = hidden.staging;
              newer = hidden.newer;
              older = hidden.older;
              there = hidden.there;
              among = hidden.among;
            },
            pair_there (key.Staged hidden.over path) hidden.changed,
          )

  pub not_to_blame : (n : ℕ) (s : Stored) → Spells things n s → IsTied cut things n s → IsBlameless cut pairs things n s
  not_to_blame n (stored.Repository repo created branch settings) here tied =
      record { there = (pair_there (key.Branch repo branch) tied.default, tt); right = tied.given }
  not_to_blame n (stored.Branch repo branch version head staging sealed) here tied = record {
    there = (
      pair_there (key.Repository repo) tied.repository,
      (pair_there (key.Commit repo head) (record { thing = stored.Commit repo head false tied.live.commit; there = tied.live.there; under = refl }), tt),
    );
    right = record {
      live = not_expired repo head tied.live;
      given = tied.given;
      tokens_given = tied.tokens_given;
      distinct = tied.distinct;
      fresh = tied.fresh;
    };
  }
  not_to_blame n (stored.Tag repo tag id) here tied = record {
    there = (
      pair_there (key.Repository repo) tied.repository,
      (pair_there (key.Commit repo id) (record { thing = stored.Commit repo id false tied.live.commit; there = tied.live.there; under = refl }), tt),
    );
    right = not_expired repo id tied.live;
  }
  not_to_blame n (stored.Commit repo id expired commit) here tied = record {
    there = (
      pair_there (key.Repository repo) tied.repository,
      image_each (HasPair pairs) (key.Commit repo) commit.parents (λ parent has.
          pair_there (key.Commit repo parent) (some_read things repo parent
          (tied.due.whole parent (subst (λ l. Contains l parent) (sym (own_parents n repo id expired commit here)) has)))),
    );
    right = record { due = λ read. tied.due; named = tied.named; same = tied.same };
  }
  not_to_blame n (stored.MetaRange name bytes) here tied = record { there = tt; right = tied }
  not_to_blame n (stored.Range name bytes) here tied = record { there = tt; right = tied }
  not_to_blame n (stored.Staged token path change) here tied = record { there = tt; right = right_staged token path change tied }
  not_to_blame n (stored.Note repo name text) here tied = record { there = (pair_there (key.Repository repo) tied.repository, tt); right = tied.kept }
  not_to_blame n (stored.Gone number) here tied = record { there = tt; right = tied }
  not_to_blame n (stored.Counts number version token) here tied = record { there = tt; right = tied }

  -- ---- none to blame, so tied

  module _ (all : AreBlamelessBefore cut pairs things (length things)) where
    -- where each pair is of a form, what has a pair is there
    key_there : (k : OwnedKey) → IsSpelledKey k → HasPair pairs k → HasKey things k
    key_there k limits has =
        let n = has.1.0 in
        let pair : Pair = record { key = key_spelling k; value = has.0 } in
        let at : slice_get pairs n ≡ Some pair = slice_get-get_or pairs n pair has.1.1 ∙ ap (λ p. Some p) has.1.2 in
        let spelled = some_and (thing_at things n) (IsBlameless cut pairs things n) (all n (omega (arith, has.1.1, long))) in
        let own = are.each n spelled.0 spelled.1 in
        let same : key_spelling (key_of spelled.0) ≡ key_spelling k = ap (λ (p : Pair). p.key) (some_is (sym own.at ∙ at)) in
        record { thing = spelled.0; there = spells_there things n spelled.0 spelled.1; under = keys_apart (key_of spelled.0) k own.limits.named limits same }

    -- a commit that has a pair, and isn't read as expired, is live
    live_there : (repo : List ℕ) (id : Digest) → repo_fault repo ≡ None → IsDigest id.0 → HasPair pairs (key.Commit repo id) → (IsExpired things repo id → ⊥)
        → HasLiveCommit things repo id
    live_there repo id valid digest has live =
        let found = key_there (key.Commit repo id) (valid, digest) has in
        let is = commit_is found.thing repo id found.under in
        by is.0 is.1 (subst (IsThere things) is.2 found.there)
      where
        by : (expired : Bool) (commit : CommitRecordValue) → IsThere things (stored.Commit repo id expired commit) → HasLiveCommit things repo id
        by true commit there = absurd (live (record { commit = commit; there = there }))
        by false commit there = record { commit = commit; there = there }

    tied_commit : (n : ℕ) (repo : List ℕ) (id : Digest) (expired : Bool) (commit : CommitRecordValue) → Spells things n (stored.Commit repo id expired commit)
        → HasPair pairs (key.Repository repo) → AllByRecursion (HasPair pairs) (map (key.Commit repo) commit.parents) → IsRightCommit things n repo id commit
        → IsTiedCommit things n repo id commit
    tied_commit n repo id expired commit here repository named right =
        let limits = (are.each n (stored.Commit repo id expired commit) here).limits in
        let digests = All-from_recursion (λ parent. IsDigest parent.0) commit.parents limits.valued.parents in
        record {
          repository = key_there (key.Repository repo) limits.named.0 repository;
          due = right.due (λ parent has. key_there (key.Commit repo parent)
              (limits.named.0, All-contains (λ p. IsDigest p.0) commit.parents parent digests has)
              (each_image (HasPair pairs) (key.Commit repo) commit.parents named parent has));
          named = right.named;
          same = right.same;
        }

    tied_staged : (n token : ℕ) (path : List ℕ) (change : Change) → Spells things n (stored.Staged token path change)
        → IsRightStaged pairs things token path change → IsTiedStaged things token path change
    tied_staged n token path change here right = record { held = right.held; given = right.given; apart = by (put_number change) right.apart }
      where
        limits : IsSpelledStored (stored.Staged token path change)
        limits = (are.each n (stored.Staged token path change) here).limits

        small : (over : ℕ) → IsSealedOver things over token → over < 2 ^ 64
        small over sealed =
            let tokens = sealed.newer ++ token ∷ sealed.older in
            let branch = stored.Branch sealed.repo sealed.branch sealed.version sealed.head sealed.staging tokens in
            let place = there_spells things branch sealed.there in
            let each = All-from_recursion (λ t. t < 2 ^ 64) tokens (are.each place.0 branch place.1).limits.valued.1.1.1.each in
            All-contains (λ t. t < 2 ^ 64) tokens over each (Contains-append_left sealed.newer (token ∷ sealed.older) over sealed.among)

        by : (o : Option ℕ) → IfSome o (λ number. IsGone things number → (over : ℕ) × IsSealedOver things over token × HasPair pairs (key.Staged over path))
            → IfSome o (λ number. IsGone things number → IsHidden things token path)
        by None h = tt
        by (Some number) h = λ gone.
            let hidden = h gone in
            let sealed = hidden.1 in
            record {
              repo = sealed.repo;
              branch = sealed.branch;
              version = sealed.version;
              head = sealed.head;
              staging = sealed.staging;
              newer = sealed.newer;
              older = sealed.older;
              there = sealed.there;
              over = hidden.0;
              among = sealed.among;
              changed = key_there (key.Staged hidden.0 path) (small hidden.0 sealed, limits.named.1) hidden.2;
            }

    tied_here : (n : ℕ) (s : Stored) → Spells things n s → IsBlameless cut pairs things n s → IsTied cut things n s
    tied_here n (stored.Repository repo created branch settings) here blameless =
        let limits = (are.each n (stored.Repository repo created branch settings) here).limits in
        record { default = key_there (key.Branch repo branch) (limits.named, limits.valued.1.0) blameless.there.0; given = blameless.right }
    tied_here n (stored.Branch repo branch version head staging sealed) here blameless =
        let limits = (are.each n (stored.Branch repo branch version head staging sealed) here).limits in
        record {
          repository = key_there (key.Repository repo) limits.named.0 blameless.there.0;
          live = live_there repo head limits.named.0 limits.valued.1.0 blameless.there.1.0 blameless.right.live;
          given = blameless.right.given;
          tokens_given = blameless.right.tokens_given;
          distinct = blameless.right.distinct;
          fresh = blameless.right.fresh;
        }
    tied_here n (stored.Tag repo tag id) here blameless =
        let limits = (are.each n (stored.Tag repo tag id) here).limits in
        record {
          repository = key_there (key.Repository repo) limits.named.0 blameless.there.0;
          live = live_there repo id limits.named.0 limits.valued blameless.there.1.0 blameless.right;
        }
    tied_here n (stored.Commit repo id expired commit) here blameless =
        tied_commit n repo id expired commit here blameless.there.0 blameless.there.1 blameless.right
    tied_here n (stored.MetaRange name bytes) here blameless = blameless.right
    tied_here n (stored.Range name bytes) here blameless = blameless.right
    tied_here n (stored.Staged token path change) here blameless = tied_staged n token path change here blameless.right
    tied_here n (stored.Note repo name text) here blameless =
        let limits = (are.each n (stored.Note repo name text) here).limits in
        record { repository = key_there (key.Repository repo) limits.named blameless.there.0; kept = blameless.right }
    tied_here n (stored.Gone number) here blameless = blameless.right
    tied_here n (stored.Counts number version token) here blameless = blameless.right

    pub all_are_tied : (n : ℕ) → n < length things → IsTiedAt cut things n
    all_are_tied n lt =
        let spelled = some_and (thing_at things n) (IsBlameless cut pairs things n) (all n lt) in
        subst (λ o. IsSomeAnd o (IsTied cut things n)) (sym spelled.1) (tied_here n spelled.0 spelled.1 spelled.2)
