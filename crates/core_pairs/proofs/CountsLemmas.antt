-- The counts are put; and a lake whose kept parts are the same.
use Rattle.std.proofs.Common.{◌≡◌, ◌⊎◌, ◌<◌, ◌+◌, ◌^◌, inl, inr, ℕ, List, [], ◌∷◌, Some, arith, refl, sym, ap, subst, ◌∙◌}
use Rattle.std.specs.Option.{option_map_or}
use Rattle.std.specs.FinMap.{contains_key, get, insert}
use Rattle.lake_base.specs.Maps.{ByteMap}
use Rattle.lake_model.specs.Parts.{changed_at}
use Rattle.pair_format.specs.declared.key.OwnedKey.TheVariants as key
use Rattle.pair_format.specs.declared.stored.Stored.{Stored}
use Rattle.pair_format.specs.declared.stored.Stored.TheVariants as stored
use Rattle.pair_format.specs.PairSpelling.{IsSpelledStored, key_of}
use Rattle.keeper.specs.declared.put.Put.{Put}
use Rattle.keeper.specs.Keepers.{KeptPairs, pairs_after, pairs_with}
use Rattle.core_state.specs.Counts.{AreFew}
use Rattle.core_state.specs.RepositoryStates.{RepositoryStateValue}
use Rattle.core_state.specs.LakeStates.{LakeStateValue}
use Rattle.core_puts.specs.Puts.{spelled_put}
use Rattle.core_pairs.specs.LakePairs.{IsFile, StandFor, StandsIn}
use Rattle.core_pairs.proofs.StandLemmas.{Stand, after_first, after_none, stand_as, turned}
use Rattle.core_pairs.proofs.ThingLemmas.{IsIn, LakeThing, from_repository, into}

-- ---- pairs of a lake

pub things : (pairs : KeptPairs) (l : LakeStateValue) → StandFor pairs l → Stand pairs (StandsIn l)
things pairs l stand = record { spelled = stand.spelled; each = stand.each; only = stand.only }

pub standing : (pairs : KeptPairs) (l : LakeStateValue) → Stand pairs (StandsIn l) → StandFor pairs l
standing pairs l stand = record { spelled = stand.spelled; each = stand.each; only = stand.only }

-- lakes whose repositories, numbers that are gone and counts are the same
pub record AreAlike (l m : LakeStateValue) : Type 0 where
  pub repositories : m.repositories ≡ l.repositories
  pub gone : m.gone ≡ l.gone
  pub numbers : m.next_number ≡ l.next_number
  pub versions : m.next_version ≡ l.next_version
  pub tokens : m.next_token ≡ l.next_token

alike_lake : (l m : LakeStateValue) → AreAlike l m → (s : Stored) → LakeThing l s → StandsIn m s
alike_lake l m same (stored.Gone number) h = ap (λ g. contains_key g number) same.gone ∙ h
alike_lake l m same (stored.Counts number version token) (a, (b, c)) = (same.numbers ∙ a, (same.versions ∙ b, same.tokens ∙ c))
alike_lake l m same s h = absurd h

alike_stands : (l m : LakeStateValue) → AreAlike l m → (s : Stored) → LakeThing l s ⊎ IsIn l s → StandsIn m s
alike_stands l m same s (inl h) = alike_lake l m same s h
alike_stands l m same s (inr i) = from_repository m i.q i.r (ap (λ (all : ByteMap RepositoryStateValue). get all i.q) same.repositories ∙ i.in_lake) s i.thing

turned_about : (l m : LakeStateValue) → AreAlike l m → AreAlike m l
turned_about l m same = record {
  repositories = sym same.repositories;
  gone = sym same.gone;
  numbers = sym same.numbers;
  versions = sym same.versions;
  tokens = sym same.tokens;
}

pub alike : (pairs : KeptPairs) (l m : LakeStateValue) → AreAlike l m → Stand pairs (StandsIn l) → Stand pairs (StandsIn m)
alike pairs l m same stand =
    stand_as pairs (StandsIn l) (StandsIn m) stand (λ s h. alike_stands m l (turned_about l m same) s (into m s h))
    (λ s h. alike_stands l m same s (into l s h))

-- one of a map is changed that is there
pub changed_is : {X : Type 0} (m : ByteMap X) (q : List ℕ) (change : X → X) (x : X) → get m q ≡ Some x → changed_at q change m ≡ insert m q (change x)
changed_is m q change x is = ap (λ o. option_map_or (λ x. insert m q (change x)) o m) is

-- ---- counts

-- a lake with these counts
abbrev pub with_counts : LakeStateValue → ℕ → ℕ → ℕ → LakeStateValue
with_counts l number version token = record l { next_number = number; next_version = version; next_token = token }

module _ (l : LakeStateValue) (number version token : ℕ) (P : Stored → Type 0)
    (from : (s : Stored) → P s → StandsIn l s) (back : (s : Stored) → StandsIn l s → (key_of s ≡ key.Counts → ⊥) → P s) where
  abbrev now : LakeStateValue
  now = with_counts l number version token

  abbrev counts_thing : Stored
  counts_thing = stored.Counts number version token

  either : (s : Stored) → StandsIn now s → (Some counts_thing ≡ Some s) ⊎ (P s × (key_of s ≡ key.Counts → ⊥))
  either (stored.Counts n v t) (a, (b, c)) = inl cc
  either s h = inr (back s h (λ e. cc), λ e. cc)

  stays_in : (s : Stored) → StandsIn l s → (key_of s ≡ key.Counts → ⊥) → StandsIn now s
  stays_in (stored.Counts n v t) h apart = absurd (apart refl)
  stays_in s h apart = h

  -- the counts are put
  pub counts_stand : (pairs : KeptPairs) → number < 2 ^ 64 → version < 2 ^ 64 → token < 2 ^ 64 → Stand pairs P
      → Stand (pairs_with (spelled_put counts_thing) pairs) (StandsIn now)
  unfolding spelled_put
  counts_stand pairs a b c stand =
      turned pairs P (StandsIn now) key.Counts (Some counts_thing) stand (record {
        key = tt;
        new = λ s put.
            let same : counts_thing ≡ s = cc in
            subst (λ s. (key_of s ≡ key.Counts) × (IsSpelledStored s × (StandsIn now s ⊎ IsFile s))) same
            (refl, (record { named = tt; valued = (a, (b, c)) }, inl (refl, (refl, refl))));
        either = either;
        stays = λ s p apart. stays_in s (from s p) apart;
      })

pub counted : (l : LakeStateValue) (number version token : ℕ) (pairs : KeptPairs) → number < 2 ^ 64 → version < 2 ^ 64 → token < 2 ^ 64
    → Stand pairs (StandsIn l) → Stand (pairs_with (spelled_put (stored.Counts number version token)) pairs) (StandsIn (with_counts l number version token))
counted l number version token = counts_stand l number version token (StandsIn l) (λ s h. h) (λ s h apart. h)

-- counts that are few are of 64 bits, and so are those that are one higher
pub record AreWide (l : LakeStateValue) : Type 0 where
  pub number : l.next_number + 1 < 2 ^ 64
  pub version : l.next_version + 1 < 2 ^ 64
  pub token : l.next_token + 1 < 2 ^ 64

pub wide : (l : LakeStateValue) → AreFew l → AreWide l
wide l few =
    let a = few.counted.numbers in let b = few.counted.versions in let c = few.counted.tokens in let room = few.room in
    record { number = omega arith; version = omega arith; token = omega arith }

-- pairs after one put
pub after_one : (put : Put) (pairs : KeptPairs) → pairs_after (put ∷ []) pairs ≡ pairs_with put pairs
after_one put pairs = after_first put [] pairs ∙ after_none (pairs_with put pairs)
