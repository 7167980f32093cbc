-- What pairs name is there.
use Rattle.std.proofs.Common.{◌≡◌, ◌↔◌, false, ℕ, Bool, List, [], ◌∷◌, map, IfOk, IsTrue, Result, Ok, Err, sym, subst}
use Rattle.std.specs.List.{AllByRecursion}
use Rattle.lake_base.specs.declared.digest.Digest.{Digest}
use Rattle.lake_base.specs.Names.{is_like_id}
use Rattle.pair_format.specs.declared.key.OwnedKey.TheVariants as key
use Rattle.pair_format.specs.declared.pair.Pair.{Pair}
use Rattle.pair_format.specs.declared.stored.Stored.{Stored}
use Rattle.pair_format.specs.declared.stored.Stored.TheVariants as stored
use Rattle.pair_format.specs.PairSpelling.{IsSpelledStored}
use Rattle.pair_ties.specs.BrokenPairs.{HasPair, keys_named}

-- what is told of the keys that this names
abbrev pub AreTold : {E : Type 0} → List Pair → Stored → Result Bool E → Type 0
AreTold pairs s r = IfOk r (λ there. IsTrue there ↔ AllByRecursion (HasPair pairs) (keys_named s))

pub told_of : {E : Type 0} (pairs : List Pair) (s t : Stored) → s ≡ t → (r : Result Bool E) → AreTold pairs t r → AreTold pairs s r
told_of pairs s t is r told = subst (λ x. AreTold pairs x r) (sym is) told

-- the default branch of a repository isn't like an id
pub plain_default : (s : Stored) (repo : List ℕ) (created : ℕ) (branch : List ℕ) (settings : ℕ) → s ≡ stored.Repository repo created branch settings
    → IsSpelledStored s → is_like_id branch ≡ false
plain_default s repo created branch settings is spelled = (subst IsSpelledStored is spelled).valued.1.0.unlike

pub one_there : {E : Type 0} (P : Type 0) (r : Result Bool E) → IfOk r (λ b. IsTrue b ↔ P) → IfOk r (λ b. IsTrue b ↔ (P × Unit {0}))
one_there P (Ok b) told = (λ e. (told.0 e, tt), λ all. told.1 all.0)
one_there P (Err fault) told = tt

pub two_there : {E : Type 0} (P Q : Type 0) (r : Result Bool E) → IfOk r (λ b. IsTrue b ↔ (P × Q)) → IfOk r (λ b. IsTrue b ↔ (P × (Q × Unit {0})))
two_there P Q (Ok b) told = (λ e. let both = told.0 e in (both.0, (both.1, tt)), λ all. told.1 (all.0, all.1.0))
two_there P Q (Err fault) told = tt

-- commits of a repository, one by one and by their keys
by_keys : (pairs : List Pair) (repo : List ℕ) (ids : List Digest)
    → AllByRecursion (λ id. HasPair pairs (key.Commit repo id)) ids ↔ AllByRecursion (HasPair pairs) (map (key.Commit repo) ids)
by_keys pairs repo [] = (λ all. tt, λ all. tt)
by_keys pairs repo (id ∷ ids) = let more = by_keys pairs repo ids in (λ all. (all.0, more.0 all.1), λ all. (all.0, more.1 all.1))

pub each_there : {E : Type 0} (pairs : List Pair) (repo : List ℕ) (ids parents : List Digest) → ids ≡ parents → (r : Result Bool E)
    → IfOk r (λ b. IsTrue b ↔ (HasPair pairs (key.Repository repo) × AllByRecursion (λ id. HasPair pairs (key.Commit repo id)) ids))
    → IfOk r (λ b. IsTrue b ↔ (HasPair pairs (key.Repository repo) × AllByRecursion (HasPair pairs) (map (key.Commit repo) parents)))
each_there pairs repo ids parents same (Ok b) told =
    let keys = subst (λ l. AllByRecursion (λ id. HasPair pairs (key.Commit repo id)) ids ↔ AllByRecursion (HasPair pairs) (map (key.Commit repo) l)) same
    (by_keys pairs repo ids) in
    (λ e. let both = told.0 e in (both.0, keys.0 both.1), λ all. told.1 (all.0, keys.1 all.1))
each_there pairs repo ids parents same (Err fault) told = tt
