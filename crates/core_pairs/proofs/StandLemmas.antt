-- Pairs that stand for some things, whichever these are, after puts.
use Rattle.std.proofs.Common.{◌≡◌, ◌⊎◌, inl, inr, ℕ, Bool, true, false, cond, List, [], ◌∷◌, ◌++◌, Option, Some, None, refl, sym, ap, subst, ◌∙◌}
use Rattle.std.specs.Prelude.{option_map}
use Rattle.std.specs.Ordering.{is_eq}
use Rattle.std.specs.Cmp.{tied_itself}
use Rattle.std.specs.Str.{bytes_eq}
use Rattle.std.specs.Cmp.Lexicographic.{same_text, texts_ties}
use Rattle.std.proofs.lemmas.Cmp.{nat_list_cmp_total}
use Rattle.std.specs.FinMap.{get}
use Rattle.byte_map.proofs.ByteMapLemmas.{get_insert, get_remove}
use Rattle.pair_format.specs.declared.key.OwnedKey.{OwnedKey}
use Rattle.pair_format.specs.declared.stored.Stored.{Stored}
use Rattle.pair_format.specs.PairSpelling.{IsSpelledKey, IsSpelledStored, key_of, key_spelling, value_spelling}
use Rattle.pair_format.proofs.ReadingLemmas.{keys_apart}
use Rattle.keeper.specs.declared.put.Put.{Put}
use Rattle.keeper.specs.Keepers.{KeptPairs, pairs_after, pairs_with}
use Rattle.core_pairs.specs.LakePairs.{IsFile, IsFilePair}

-- ---- bytes

pub same_bytes : (k : List ℕ) → bytes_eq k k ≡ true
same_bytes k = texts_ties k k ∙ ap is_eq (tied_itself nat_list_cmp_total k)

-- bytes of which the test says that they are the same, and those of which it doesn't
pub tied : (a b : List ℕ) → bytes_eq a b ≡ true → a ≡ b
tied a b test = same_text a b (sym test)

pub untied : (a b : List ℕ) → bytes_eq a b ≡ false → a ≡ b → ⊥
untied a b test same =
    let all : bytes_eq b b ≡ true = same_bytes b in
    let none : bytes_eq b b ≡ false = subst (λ x. bytes_eq x b ≡ false) same test in
    absurd cc

-- ---- pairs of things

-- a pair of one of these things
abbrev pub IsPair : (Stored → Type 0) → List ℕ → List ℕ → Type 0
IsPair P bytes value = (s : Stored) × (P s × ((bytes ≡ key_spelling (key_of s)) × (value ≡ value_spelling s)))

-- pairs stand for these things
pub record Stand (pairs : KeptPairs) (P : Stored → Type 0) : Type 0 where
  pub spelled : (s : Stored) → P s → IsSpelledStored s
  pub each : (s : Stored) → P s → get pairs (key_spelling (key_of s)) ≡ Some (value_spelling s)
  pub only : (bytes value : List ℕ) → get pairs bytes ≡ Some value → IsPair P bytes value ⊎ IsFilePair bytes value

module _ (pairs : KeptPairs) (P Q : Stored → Type 0) (stand : Stand pairs P)
    (has : (s : Stored) → Q s → P s ⊎ (IsSpelledStored s × (get pairs (key_spelling (key_of s)) ≡ Some (value_spelling s))))
    (goes : (s : Stored) → P s → Q s ⊎ IsFile s) where
  spelled_by : (s : Stored) → P s ⊎ (IsSpelledStored s × (get pairs (key_spelling (key_of s)) ≡ Some (value_spelling s))) → IsSpelledStored s
  spelled_by s (inl p) = stand.spelled s p
  spelled_by s (inr (within, there)) = within

  there_by : (s : Stored) → P s ⊎ (IsSpelledStored s × (get pairs (key_spelling (key_of s)) ≡ Some (value_spelling s)))
      → get pairs (key_spelling (key_of s)) ≡ Some (value_spelling s)
  there_by s (inl p) = stand.each s p
  there_by s (inr (within, there)) = there

  going : (bytes value : List ℕ) (s : Stored) → P s → bytes ≡ key_spelling (key_of s) → value ≡ value_spelling s → Q s ⊎ IsFile s
      → IsPair Q bytes value ⊎ IsFilePair bytes value
  going bytes value s p key is (inl q) = inl (s, (q, (key, is)))
  going bytes value s p key is (inr file) = inr (s, (file, (stand.spelled s p, (key, is))))

  only_by : (bytes value : List ℕ) → IsPair P bytes value ⊎ IsFilePair bytes value → IsPair Q bytes value ⊎ IsFilePair bytes value
  only_by bytes value (inl (s, (p, (key, is)))) = going bytes value s p key is (goes s p)
  only_by bytes value (inr file) = inr file

  -- of other things, that have their pairs, with files of those that go
  pub stand_for : Stand pairs Q
  stand_for = record {
    spelled = λ s q. spelled_by s (has s q);
    each = λ s q. there_by s (has s q);
    only = λ bytes value there. only_by bytes value (stand.only bytes value there);
  }

-- of the same things in other words
pub stand_as : (pairs : KeptPairs) (P Q : Stored → Type 0) → Stand pairs P → ((s : Stored) → Q s → P s) → ((s : Stored) → P s → Q s) → Stand pairs Q
stand_as pairs P Q stand from into = stand_for pairs P Q stand (λ s q. inl (from s q)) (λ s p. inl (into s p))

-- ---- one put

-- by which one of these stands under a key, or nothing
abbrev pub put_of : OwnedKey → Option Stored → Put
put_of k o = record { key = key_spelling k; value = option_map value_spelling o }

under : (k : OwnedKey) (o : Option Stored) (pairs : KeptPairs) (q : List ℕ)
    → get (pairs_with (put_of k o) pairs) q ≡ cond (bytes_eq q (key_spelling k)) (option_map value_spelling o) (get pairs q)
under k None pairs q = get_remove pairs (key_spelling k) q
under k (Some s) pairs q = get_insert pairs (key_spelling k) (value_spelling s) q

-- different keys are spelled differently
unlike : (a b : OwnedKey) → IsSpelledKey a → IsSpelledKey b → (a ≡ b → ⊥) → bytes_eq (key_spelling a) (key_spelling b) ≡ false
unlike a b one other apart = by (bytes_eq (key_spelling a) (key_spelling b)) refl
  where
    by : (test : Bool) → bytes_eq (key_spelling a) (key_spelling b) ≡ test → test ≡ false
    by true e = absurd (apart (keys_apart a b one other (tied _ _ e)))
    by false e = refl

-- A put under a key makes others of these things: of those that stand then each is the one that was put, or stood before under
-- another key; and what stood under another key stands.
pub record Turns (P Q : Stored → Type 0) (k : OwnedKey) (o : Option Stored) : Type 0 where
  pub key : IsSpelledKey k
  pub new : (s : Stored) → o ≡ Some s → (key_of s ≡ k) × (IsSpelledStored s × (Q s ⊎ IsFile s))
  pub either : (s : Stored) → Q s → (o ≡ Some s) ⊎ (P s × (key_of s ≡ k → ⊥))
  pub stays : (s : Stored) → P s → (key_of s ≡ k → ⊥) → Q s

module _ (pairs : KeptPairs) (P Q : Stored → Type 0) (k : OwnedKey) (o : Option Stored) (stand : Stand pairs P) (t : Turns P Q k o) where
  within_by : (s : Stored) → (o ≡ Some s) ⊎ (P s × (key_of s ≡ k → ⊥)) → IsSpelledStored s
  within_by s (inl is) = (t.new s is).1.0
  within_by s (inr (p, apart)) = stand.spelled s p

  each_by : (s : Stored) → (o ≡ Some s) ⊎ (P s × (key_of s ≡ k → ⊥))
      → get (pairs_with (put_of k o) pairs) (key_spelling (key_of s)) ≡ Some (value_spelling s)
  each_by s (inl is) =
      let same : bytes_eq (key_spelling (key_of s)) (key_spelling k) ≡ true =
      subst (λ j. bytes_eq (key_spelling j) (key_spelling k) ≡ true) (sym (t.new s is).0) (same_bytes (key_spelling k)) in
      under k o pairs (key_spelling (key_of s))
      ∙ ap (λ b. cond b (option_map value_spelling o) (get pairs (key_spelling (key_of s)))) same
      ∙ ap (option_map value_spelling) is
  each_by s (inr (p, apart)) =
      under k o pairs (key_spelling (key_of s))
      ∙ ap (λ b. cond b (option_map value_spelling o) (get pairs (key_spelling (key_of s))))
      (unlike (key_of s) k (stand.spelled s p).named t.key apart)
      ∙ stand.each s p

  -- what stands under the key of the put
  put_there : (bytes value : List ℕ) → bytes ≡ key_spelling k → (one : Option Stored) → o ≡ one → option_map value_spelling one ≡ Some value
      → IsPair Q bytes value ⊎ IsFilePair bytes value
  put_there bytes value key None is there = absurd cc
  put_there bytes value key (Some s) is there = by (t.new s is).1.1
    where
      by : Q s ⊎ IsFile s → IsPair Q bytes value ⊎ IsFilePair bytes value
      by (inl q) = inl (s, (q, (key ∙ ap key_spelling (sym (t.new s is).0), cc)))
      by (inr file) = inr (s, (file, ((t.new s is).1.0, (key ∙ ap key_spelling (sym (t.new s is).0), cc))))

  -- and under another one
  kept_there : (bytes value : List ℕ) → bytes_eq bytes (key_spelling k) ≡ false → IsPair P bytes value ⊎ IsFilePair bytes value
      → IsPair Q bytes value ⊎ IsFilePair bytes value
  kept_there bytes value apart (inl (s, (p, (key, is)))) =
      inl (s, (t.stays s p (λ same. untied bytes (key_spelling k) apart (key ∙ ap key_spelling same)), (key, is)))
  kept_there bytes value apart (inr file) = inr file

  only_then : (bytes value : List ℕ) (test : Bool) → bytes_eq bytes (key_spelling k) ≡ test
      → cond test (option_map value_spelling o) (get pairs bytes) ≡ Some value → IsPair Q bytes value ⊎ IsFilePair bytes value
  only_then bytes value true test there = put_there bytes value (tied _ _ test) o refl there
  only_then bytes value false test there = kept_there bytes value test (stand.only bytes value there)

  pub turned : Stand (pairs_with (put_of k o) pairs) Q
  turned = record {
    spelled = λ s q. within_by s (t.either s q);
    each = λ s q. each_by s (t.either s q);
    only = λ bytes value there. only_then bytes value (bytes_eq bytes (key_spelling k)) refl (sym (under k o pairs bytes) ∙ there);
  }

-- ---- puts

-- some puts and then others
pub after_both : (puts others : List Put) (pairs : KeptPairs) → pairs_after (puts ++ others) pairs ≡ pairs_after others (pairs_after puts pairs)
unfolding pairs_after
after_both [] others pairs = refl
after_both (put ∷ puts) others pairs = after_both puts others (pairs_with put pairs)

pub after_none : (pairs : KeptPairs) → pairs_after [] pairs ≡ pairs
unfolding pairs_after
after_none pairs = refl

pub after_first : (put : Put) (puts : List Put) (pairs : KeptPairs) → pairs_after (put ∷ puts) pairs ≡ pairs_after puts (pairs_with put pairs)
unfolding pairs_after
after_first put puts pairs = refl
