-- What stands in a lake, by the repository in which it stands.
use Rattle.std.proofs.Common.{◌≡◌, ◌⊎◌, inl, inr, ℕ, Bool, true, false, cond, List, Option, Some, None, IsSomeAnd, refl, sym, ap, subst, ◌∙◌}
use Rattle.std.specs.Prelude.{option_and_then}
use Rattle.std.specs.Str.{bytes_eq}
use Rattle.std.specs.FinMap.{contains_key, get, insert}
use Rattle.lake_base.specs.Maps.{ByteMap}
use Rattle.lake_base.specs.declared.digest.Digest.{Digest}
use Rattle.lake_values.specs.Ancestry.{commit_of}
use Rattle.lake_values.specs.Commit.{CommitRecordValue}
use Rattle.lake_values.specs.declared.entry.Change.{Change}
use Rattle.lake_format.specs.Spelling.{file_name}
use Rattle.meta_range.specs.Ranges.{TreeValue}
use Rattle.branch_record.specs.Tokens.{changes_under}
use Rattle.byte_map.proofs.ByteMapLemmas.{get_insert, get_inserted}
use Rattle.lake_model.specs.NoteChanges.{note_at}
use Rattle.pair_format.specs.declared.key.OwnedKey.{OwnedKey}
use Rattle.pair_format.specs.declared.key.OwnedKey.TheVariants as key
use Rattle.pair_format.specs.declared.stored.Stored.{Stored}
use Rattle.pair_format.specs.declared.stored.Stored.TheVariants as stored
use Rattle.pair_format.specs.PairSpelling.{IsSpelledKey, IsSpelledStored, key_of}
use Rattle.keeper.specs.Keepers.{KeptPairs, pairs_with}
use Rattle.core_state.specs.BranchStates.{BranchStateValue}
use Rattle.core_state.specs.RepositoryStates.{RepositoryStateValue}
use Rattle.core_state.specs.LakeStates.{LakeStateValue}
use Rattle.core_puts.specs.Puts.{branch_at, note_text}
use Rattle.core_pairs.specs.LakePairs.{IsMetaRangeOf, IsRangeOf, StandsIn}
use Rattle.core_pairs.proofs.PlaceLemmas.{decide, found, get_other}
use Rattle.core_pairs.proofs.StandLemmas.{Stand, Turns, put_of, tied, turned, untied}

-- ---- what is there

-- one is there, of which P holds
pub record IsThere {X : Type 0} (o : Option X) (P : X → Type 0) : Type 0 where
  pub one : X
  pub is : o ≡ Some one
  pub holds : P one

pub opened : {X : Type 0} (o : Option X) (P : X → Type 0) → IsSomeAnd o P → IsThere o P
opened None P h = absurd h
opened (Some x) P h = record { one = x; is = refl; holds = h }

pub closed : {X : Type 0} (o : Option X) (P : X → Type 0) (x : X) → o ≡ Some x → P x → IsSomeAnd o P
closed o P x is h = subst (λ o. IsSomeAnd o P) (sym is) h

-- one of a map is another one then, of which Q holds where it held of the one before
module _ {X : Type 0} (m : ByteMap X) (name : List ℕ) (x y : X) (at : get m name ≡ Some x) (Q : X → Type 0) where
  pub was_there : (Q y → Q x) → (n : List ℕ) → IsSomeAnd (get (insert m name y) n) Q → IsSomeAnd (get m n) Q
  was_there back n h = let there = opened (get (insert m name y) n) Q h in by there (found m name y n there.one there.is)
    where
      by : (there : IsThere (get (insert m name y) n) Q) → ((n ≡ name) × (y ≡ there.one)) ⊎ ((n ≡ name → ⊥) × (get m n ≡ Some there.one))
          → IsSomeAnd (get m n) Q
      by there (inl (named, one)) = closed (get m n) Q x (ap (get m) named ∙ at) (back (subst Q (sym one) there.holds))
      by there (inr (other, is)) = closed (get m n) Q there.one is there.holds

  pub is_there : (Q x → Q y) → (n : List ℕ) → IsSomeAnd (get m n) Q → IsSomeAnd (get (insert m name y) n) Q
  is_there forth n h = let there = opened (get m n) Q h in by there (decide n name)
    where
      by : (there : IsThere (get m n) Q) → (n ≡ name) ⊎ (n ≡ name → ⊥) → IsSomeAnd (get (insert m name y) n) Q
      by there (inl named) =
          let is : Some there.one ≡ Some x = sym there.is ∙ ap (get m) named ∙ at in
          let one : there.one ≡ x = cc in
          closed (get (insert m name y) n) Q y (ap (get (insert m name y)) named ∙ get_inserted m name y) (forth (subst Q one there.holds))
      by there (inr other) = closed (get (insert m name y) n) Q there.one (get_other m name y n other ∙ there.is) there.holds

-- a branch is there in a repository that is there
pub record IsBranchThere (l : LakeStateValue) (repo branch : List ℕ) (Q : BranchStateValue → Type 0) : Type 0 where
  pub r : RepositoryStateValue
  pub in_lake : get l.repositories repo ≡ Some r
  pub b : BranchStateValue
  pub in_it : get r.branches branch ≡ Some b
  pub holds : Q b

pub branch_opened : (l : LakeStateValue) (repo branch : List ℕ) (Q : BranchStateValue → Type 0) → IsSomeAnd (branch_at repo branch l) Q
    → IsBranchThere l repo branch Q
branch_opened l repo branch Q h = by (get l.repositories repo) refl h
  where
    by : (o : Option RepositoryStateValue) → get l.repositories repo ≡ o → IsSomeAnd (option_and_then (λ r. get r.branches branch) o) Q
        → IsBranchThere l repo branch Q
    by None is h = absurd h
    by (Some r) is h =
        let b = opened (get r.branches branch) Q h in
        record { r = r; in_lake = is; b = b.one; in_it = b.is; holds = b.holds }

pub branch_closed : (l : LakeStateValue) (repo branch : List ℕ) (Q : BranchStateValue → Type 0) (r : RepositoryStateValue) (b : BranchStateValue)
    → get l.repositories repo ≡ Some r → get r.branches branch ≡ Some b → Q b → IsSomeAnd (branch_at repo branch l) Q
branch_closed l repo branch Q r b in_lake in_it h =
    closed (branch_at repo branch l) Q b (ap (option_and_then (λ r. get r.branches branch)) in_lake ∙ in_it) h

-- ---- things by their repository

-- what a branch's pair says of it
abbrev pub IsRecord : ℕ → Digest → ℕ → List ℕ → BranchStateValue → Type 0
IsRecord version head staging sealed b = (b.version ≡ version) × ((b.head ≡ head) × ((b.staging ≡ staging) × (b.sealed ≡ sealed)))

-- a branch has this change at the path, under the token
abbrev pub HasChange : ℕ → List ℕ → Change → BranchStateValue → Type 0
HasChange token path change b = get (changes_under b.tokens token) path ≡ Some change

-- what a repository's pair says of it, and a commit's
abbrev pub IsRepository : ℕ → List ℕ → ℕ → RepositoryStateValue → Type 0
IsRepository created default_branch settings r = (r.created ≡ created) × ((r.default_branch ≡ default_branch) × (r.settings ≡ settings))

abbrev pub HasCommitOf : Digest → Bool → CommitRecordValue → RepositoryStateValue → Type 0
HasCommitOf id expired commit r = (commit_of r.commits id ≡ Some commit) × (contains_key r.expired id.0 ≡ expired)

-- a tree of a repository
abbrev pub IsTreeOf : RepositoryStateValue → TreeValue → Type 0
IsTreeOf r tree = (id : List ℕ) × (get r.trees id ≡ Some tree)

-- what stands in a repository of a name
abbrev pub ThingOf : List ℕ → RepositoryStateValue → Stored → Type 0
ThingOf q r (stored.Repository repo created default_branch settings) = (repo ≡ q) × IsRepository created default_branch settings r
ThingOf q r (stored.Branch repo branch version head staging sealed) =
    (repo ≡ q) × IsSomeAnd (get r.branches branch) (IsRecord version head staging sealed)
ThingOf q r (stored.Tag repo tag commit) = (repo ≡ q) × (get r.tags tag ≡ Some commit)
ThingOf q r (stored.Commit repo id expired commit) = (repo ≡ q) × HasCommitOf id expired commit r
ThingOf q r (stored.MetaRange name bytes) = (file_name bytes ≡ name) × ((tree : TreeValue) × (IsTreeOf r tree × IsMetaRangeOf tree bytes))
ThingOf q r (stored.Range name bytes) = (file_name bytes ≡ name) × ((tree : TreeValue) × (IsTreeOf r tree × IsRangeOf tree bytes))
ThingOf q r (stored.Staged token path change) = (branch : List ℕ) × IsSomeAnd (get r.branches branch) (HasChange token path change)
ThingOf q r (stored.Note repo name text) = (repo ≡ q) × IsSomeAnd (note_at name r.notes) (λ note. note_text note ≡ text)
ThingOf q r (stored.Gone number) = ⊥
ThingOf q r (stored.Counts number version token) = ⊥

-- what stands in no repository
abbrev pub LakeThing : LakeStateValue → Stored → Type 0
LakeThing l (stored.Gone number) = contains_key l.gone number ≡ true
LakeThing l (stored.Counts number version token) = (l.next_number ≡ number) × ((l.next_version ≡ version) × (l.next_token ≡ token))
LakeThing l _ = ⊥

-- something stands in a repository of a lake
pub record IsIn (l : LakeStateValue) (s : Stored) : Type 0 where
  pub q : List ℕ
  pub r : RepositoryStateValue
  pub in_lake : get l.repositories q ≡ Some r
  pub thing : ThingOf q r s

pub into : (l : LakeStateValue) (s : Stored) → StandsIn l s → LakeThing l s ⊎ IsIn l s
into l (stored.Repository repo created default_branch settings) h =
    let r = opened (get l.repositories repo) (IsRepository created default_branch settings) h in
    inr (record { q = repo; r = r.one; in_lake = r.is; thing = (refl, r.holds) })
into l (stored.Branch repo branch version head staging sealed) h =
    let b = branch_opened l repo branch (IsRecord version head staging sealed) h in
    inr (record {
      q = repo;
      r = b.r;
      in_lake = b.in_lake;
      thing = (refl, closed (get b.r.branches branch) (IsRecord version head staging sealed) b.b b.in_it b.holds);
    })
into l (stored.Tag repo tag commit) h =
    let r = opened (get l.repositories repo) (λ r. get r.tags tag ≡ Some commit) h in
    inr (record { q = repo; r = r.one; in_lake = r.is; thing = (refl, r.holds) })
into l (stored.Commit repo id expired commit) h =
    let r = opened (get l.repositories repo) (HasCommitOf id expired commit) h in
    inr (record { q = repo; r = r.one; in_lake = r.is; thing = (refl, r.holds) })
into l (stored.MetaRange name bytes) (named, (tree, ((repo, (id, h)), is))) =
    let r = opened (get l.repositories repo) (λ r. get r.trees id ≡ Some tree) h in
    inr (record { q = repo; r = r.one; in_lake = r.is; thing = (named, (tree, ((id, r.holds), is))) })
into l (stored.Range name bytes) (named, (tree, ((repo, (id, h)), is))) =
    let r = opened (get l.repositories repo) (λ r. get r.trees id ≡ Some tree) h in
    inr (record { q = repo; r = r.one; in_lake = r.is; thing = (named, (tree, ((id, r.holds), is))) })
into l (stored.Staged token path change) (repo, (branch, h)) =
    let b = branch_opened l repo branch (HasChange token path change) h in
    inr (record {
      q = repo;
      r = b.r;
      in_lake = b.in_lake;
      thing = (branch, closed (get b.r.branches branch) (HasChange token path change) b.b b.in_it b.holds);
    })
into l (stored.Note repo name text) h =
    let r = opened (get l.repositories repo) (λ r. IsSomeAnd (note_at name r.notes) (λ note. note_text note ≡ text)) h in
    inr (record { q = repo; r = r.one; in_lake = r.is; thing = (refl, r.holds) })
into l (stored.Gone number) h = inl h
into l (stored.Counts number version token) h = inl h

module _ (l : LakeStateValue) where
  of_lake : (s : Stored) → LakeThing l s → StandsIn l s
  of_lake (stored.Gone number) h = h
  of_lake (stored.Counts number version token) h = h
  of_lake s h = absurd h

  module _ (q : List ℕ) (r : RepositoryStateValue) (in_lake : get l.repositories q ≡ Some r) where
    there : (repo : List ℕ) (P : RepositoryStateValue → Type 0) → repo ≡ q → P r → IsSomeAnd (get l.repositories repo) P
    there repo P same h = closed (get l.repositories repo) P r (ap (get l.repositories) same ∙ in_lake) h

    of_repository : (s : Stored) → ThingOf q r s → StandsIn l s
    of_repository (stored.Repository repo created default_branch settings) (same, h) = there repo (IsRepository created default_branch settings) same h
    of_repository (stored.Branch repo branch version head staging sealed) (same, h) =
        let b = opened (get r.branches branch) (IsRecord version head staging sealed) h in
        branch_closed l repo branch (IsRecord version head staging sealed) r b.one (ap (get l.repositories) same ∙ in_lake) b.is b.holds
    of_repository (stored.Tag repo tag commit) (same, h) = there repo (λ r. get r.tags tag ≡ Some commit) same h
    of_repository (stored.Commit repo id expired commit) (same, h) = there repo (HasCommitOf id expired commit) same h
    of_repository (stored.MetaRange name bytes) (named, (tree, ((id, h), is))) =
        (named, (tree, ((q, (id, there q (λ r. get r.trees id ≡ Some tree) refl h)), is)))
    of_repository (stored.Range name bytes) (named, (tree, ((id, h), is))) =
        (named, (tree, ((q, (id, there q (λ r. get r.trees id ≡ Some tree) refl h)), is)))
    of_repository (stored.Staged token path change) (branch, h) =
        let b = opened (get r.branches branch) (HasChange token path change) h in
        (q, (branch, branch_closed l q branch (HasChange token path change) r b.one in_lake b.is b.holds))
    of_repository (stored.Note repo name text) (same, h) =
        there repo (λ r. IsSomeAnd (note_at name r.notes) (λ note. note_text note ≡ text)) same h
    of_repository (stored.Gone number) h = absurd h
    of_repository (stored.Counts number version token) h = absurd h

-- something stands in a lake that stands in a repository of it, or in none
pub from_either : (l : LakeStateValue) (s : Stored) → LakeThing l s ⊎ IsIn l s → StandsIn l s
from_either l s (inl h) = of_lake l s h
from_either l s (inr i) = of_repository l i.q i.r i.in_lake s i.thing

pub from_repository : (l : LakeStateValue) (q : List ℕ) (r : RepositoryStateValue) → get l.repositories q ≡ Some r → (s : Stored) → ThingOf q r s → StandsIn l s
from_repository = of_repository

pub from_lake : (l : LakeStateValue) (s : Stored) → LakeThing l s → StandsIn l s
from_lake = of_lake

-- ---- a lake with another repository

-- a lake with these repositories
abbrev pub with_all : LakeStateValue → ByteMap RepositoryStateValue → LakeStateValue
with_all l repositories = record l { repositories = repositories }

-- a lake with this repository under the name
abbrev pub with_one : LakeStateValue → List ℕ → RepositoryStateValue → LakeStateValue
with_one l q r = with_all l (insert l.repositories q r)

-- what stands in the repository of a name, where it is there
abbrev pub OldThing : List ℕ → Option RepositoryStateValue → Stored → Type 0
OldThing q o s = IsSomeAnd o (λ r. ThingOf q r s)

module _ (l : LakeStateValue) (q : List ℕ) (r : RepositoryStateValue) where
  -- what stood in no repository stands
  pub lake_stays : (s : Stored) → LakeThing l s → StandsIn (with_one l q r) s
  lake_stays (stored.Gone number) h = h
  lake_stays (stored.Counts number version token) h = h
  lake_stays s h = absurd h

  pub lake_stood : (s : Stored) → LakeThing (with_one l q r) s → StandsIn l s
  lake_stood (stored.Gone number) h = h
  lake_stood (stored.Counts number version token) h = h
  lake_stood s h = absurd h

  -- what stands in the repository
  pub new_stands : (s : Stored) → ThingOf q r s → StandsIn (with_one l q r) s
  new_stands s h = from_repository (with_one l q r) q r (get_inserted l.repositories q r) s h

  -- what stood in another one stands
  pub other_stands : (p : List ℕ) (x : RepositoryStateValue) → bytes_eq p q ≡ false → get l.repositories p ≡ Some x → (s : Stored) → ThingOf p x s
      → StandsIn (with_one l q r) s
  other_stands p x apart is s h =
      from_repository (with_one l q r) p x (get_insert l.repositories q r p ∙ ap (λ b. cond b (Some r) (get l.repositories p)) apart ∙ is) s h

  -- what stands then stands in it, or in another one, or in none
  module _ (R : Stored → Type 0) (s : Stored) (here : ThingOf q r s → R s)
      (other : (p : List ℕ) (x : RepositoryStateValue) → bytes_eq p q ≡ false → get l.repositories p ≡ Some x → ThingOf p x s → R s)
      (lake : LakeThing (with_one l q r) s → R s) where
    split_by : (p : List ℕ) (x : RepositoryStateValue) (test : Bool) → bytes_eq p q ≡ test → cond test (Some r) (get l.repositories p) ≡ Some x
        → ThingOf p x s → R s
    split_by p x true test is h =
        let same : r ≡ x = cc in here (subst (λ p. ThingOf p r s) (tied p q test) (subst (λ x. ThingOf p x s) (sym same) h))
    split_by p x false test is h = other p x test is h

    split : LakeThing (with_one l q r) s ⊎ IsIn (with_one l q r) s → R s
    split (inl h) = lake h
    split (inr i) = split_by i.q i.r (bytes_eq i.q q) refl (sym (get_insert l.repositories q r i.q) ∙ i.in_lake) i.thing

    pub splits : StandsIn (with_one l q r) s → R s
    splits h = split (into (with_one l q r) s h)

-- ---- a put of something in a repository

-- A put makes another repository of this one: of what stands there then each is what was put, or stood there before under
-- another key; and nothing in another repository has the key, nor has what stands in none.
pub record Makes (l : LakeStateValue) (q : List ℕ) (was : Option RepositoryStateValue) (r : RepositoryStateValue) (k : OwnedKey)
    (o : Option Stored) : Type 0 where
  pub within : IsSpelledKey k
  pub new : (s : Stored) → o ≡ Some s → (key_of s ≡ k) × (IsSpelledStored s × ThingOf q r s)
  pub either : (s : Stored) → ThingOf q r s → (o ≡ Some s) ⊎ (OldThing q was s × (key_of s ≡ k → ⊥))
  pub stays : (s : Stored) → OldThing q was s → (key_of s ≡ k → ⊥) → ThingOf q r s
  pub elsewhere : (p : List ℕ) (x : RepositoryStateValue) (s : Stored) → (p ≡ q → ⊥) → get l.repositories p ≡ Some x → ThingOf p x s → key_of s ≡ k → ⊥
  pub gone : (number : ℕ) → key.Gone number ≡ k → ⊥
  pub counts : key.Counts ≡ k → ⊥

module _ (l : LakeStateValue) (q : List ℕ) (was : Option RepositoryStateValue) (r : RepositoryStateValue) (k : OwnedKey) (o : Option Stored)
    (is : get l.repositories q ≡ was) (m : Makes l q was r k o) where
  lake_apart : (s : Stored) → LakeThing (with_one l q r) s → key_of s ≡ k → ⊥
  lake_apart (stored.Gone number) h e = m.gone number e
  lake_apart (stored.Counts number version token) h e = m.counts e
  lake_apart s h e = absurd h

  old_stands : (s : Stored) → (was' : Option RepositoryStateValue) → get l.repositories q ≡ was' → OldThing q was' s → StandsIn l s
  old_stands s was' at h = let x = opened was' (λ r. ThingOf q r s) h in from_repository l q x.one (at ∙ x.is) s x.holds

  from_here : (s : Stored) → (o ≡ Some s) ⊎ (OldThing q was s × (key_of s ≡ k → ⊥)) → (o ≡ Some s) ⊎ (StandsIn l s × (key_of s ≡ k → ⊥))
  from_here s (inl new) = inl new
  from_here s (inr (old, apart)) = inr (old_stands s was is old, apart)

  then_by : (s : Stored) → (key_of s ≡ k → ⊥) → (p : List ℕ) (x : RepositoryStateValue) (test : Bool) → bytes_eq p q ≡ test → get l.repositories p ≡ Some x
      → ThingOf p x s → StandsIn (with_one l q r) s
  then_by s apart p x true test at h =
      let same = tied p q test in
      new_stands l q r s
      (m.stays s (closed was (λ r. ThingOf q r s) x (sym is ∙ ap (get l.repositories) (sym same) ∙ at) (subst (λ p. ThingOf p x s) same h)) apart)
  then_by s apart p x false test at h = other_stands l q r p x test at s h

  then_stands : (s : Stored) → (key_of s ≡ k → ⊥) → LakeThing l s ⊎ IsIn l s → StandsIn (with_one l q r) s
  then_stands s apart (inl h) = lake_stays l q r s h
  then_stands s apart (inr i) = then_by s apart i.q i.r (bytes_eq i.q q) refl i.in_lake i.thing

  pub turns : Turns (StandsIn l) (StandsIn (with_one l q r)) k o
  turns = record {
    key = m.within;
    new = λ s put. let n = m.new s put in (n.0, (n.1.0, inl (new_stands l q r s n.1.1)));
    either = λ s.
        splits l q r (λ s. (o ≡ Some s) ⊎ (StandsIn l s × (key_of s ≡ k → ⊥))) s
        (λ h. from_here s (m.either s h))
        (λ p x apart at h. inr (from_repository l p x at s h, m.elsewhere p x s (untied p q apart) at h))
        (λ h. inr (lake_stood l q r s h, lake_apart s h));
    stays = λ s h apart. then_stands s apart (into l s h);
  }

  -- pairs that stood for the lake stand for it with the other repository, after the put
  pub made : (pairs : KeptPairs) → Stand pairs (StandsIn l) → Stand (pairs_with (put_of k o) pairs) (StandsIn (with_one l q r))
  made pairs stand = turned pairs (StandsIn l) (StandsIn (with_one l q r)) k o stand turns
