-- The pairs after the puts of the fresh lake stand for it, where there were none before.
use Rattle.std.proofs.Common.{◌≡◌, ◌⊎◌, inl, inr, ℕ, Bool, true, false, cond, List, [], ◌∷◌, ◌++◌, reverse, find, Some, codes, arith, refl, sym, ap, subst, ◌∙◌}
use Rattle.std.specs.Option.{option_map_or}
use Rattle.std.specs.Ordering.{nat_cmp}
use Rattle.std.specs.Str.{bytes_eq}
use Rattle.std.proofs.lemmas.List.{reverse-append}
use Rattle.std.specs.FinMap.{empty, get, get-empty, insert}
use Rattle.lake_format.specs.Cutting.{files}
use Rattle.lake_format.specs.declared.cut.Cut.{Cut}
use Rattle.meta_range.specs.Ranges.{first_file}
use Rattle.byte_map.proofs.ByteMapLemmas.{get_empty, get_insert, same_maps}
use Rattle.pair_format.specs.declared.key.OwnedKey.TheVariants as key
use Rattle.pair_format.specs.declared.stored.Stored.{Stored}
use Rattle.pair_format.specs.declared.stored.Stored.TheVariants as stored
use Rattle.pair_format.specs.PairSpelling.{IsRefName, key_of, key_spelling, value_spelling}
use Rattle.keeper.specs.declared.put.Put.{Put}
use Rattle.keeper.specs.Keepers.{KeptPairs, last_put, pairs_after, pairs_with}
use Rattle.keeper.proofs.PutLemmas.{get_after}
use Rattle.core_state.specs.RepositoryStates.{RepositoryStateValue}
use Rattle.core_state.specs.FirstStates.{first_id, first_record, founded_repository, fresh_lake}
use Rattle.core_state.specs.BranchStates.{BranchStateValue, new_branch}
use Rattle.core_state.specs.LakeStates.{LakeStateValue}
use Rattle.core_changes.specs.FreshTokens.{AreTokensBelow}
use Rattle.core_changes.specs.LakeChanges.{after_repository_create}
use Rattle.core_pairs.specs.PutWords.{bare_lake, fresh_puts}
use Rattle.core_pairs.specs.PutWords.{branch_put, commit_put, counts_put, file_puts, repository_put, spelled_put}
use Rattle.core_pairs.specs.LakePairs.{AreTokensApart, HasBranchIn, StandFor, StandsIn}
use Rattle.core_pairs.proofs.ApartLemmas.{lake_apart}
use Rattle.core_pairs.proofs.CountsLemmas.{alike, counts_stand, standing, things}
use Rattle.core_pairs.proofs.StandLemmas.{Stand}
use Rattle.core_pairs.proofs.ThingLemmas.{IsIn, LakeThing, branch_opened, into}
use Rattle.core_pairs.proofs.TokenApartLemmas.{found_apart}
use Rattle.core_head_pairs.proofs.FilePutLemmas.{AreSame, file_thing}
use Rattle.core_head_pairs.proofs.FoundedLemmas.{follow_founded}

-- ---- a put whose key has another one at the end

last_is : (front : List Put) (last : Put) (q : List ℕ) → bytes_eq q last.key ≡ true → last_put q (front ++ last ∷ []) ≡ Some last
last_is front last q same =
    ap (find (λ (put : Put). bytes_eq q put.key)) (reverse-append front (last ∷ []))
    ∙ ap (λ b. cond b (Some last) (find (λ (put : Put). bytes_eq q put.key) (reverse front))) same

module _ (front : List Put) (last : Put) (k value : List ℕ) (keys : k ≡ last.key) (pairs : KeptPairs) where
  abbrev puts : List Put
  puts = front ++ last ∷ []

  under_by : (q : List ℕ) (test : Bool) → bytes_eq q k ≡ test
      → option_map_or (λ (put : Put). put.value) (last_put q puts) (cond test (Some value) (get pairs q))
      ≡ option_map_or (λ (put : Put). put.value) (last_put q puts) (get pairs q)
  under_by q true e =
      let is = last_is front last q (subst (λ j. bytes_eq q j ≡ true) keys e) in
      ap (λ o. option_map_or (λ (put : Put). put.value) o (Some value)) is ∙ sym (ap (λ o. option_map_or (λ (put : Put). put.value) o (get pairs q)) is)
  under_by q false e = refl

  -- it leaves nothing
  same_end : pairs_after puts (insert pairs k value) ≡ pairs_after puts pairs
  same_end =
      same_maps (pairs_after puts (insert pairs k value)) (pairs_after puts pairs) (λ q.
      get_after puts (insert pairs k value) q
      ∙ ap (option_map_or (λ (put : Put). put.value) (last_put q puts)) (get_insert pairs k value q)
      ∙ under_by q (bytes_eq q k) refl
      ∙ sym (get_after puts pairs q))

-- ---- the lake before its first repository

module _ (cut : Cut) where
  abbrev l : LakeStateValue
  l = bare_lake cut

  -- nothing stands but its counts
  no_thing : (s : Stored) → LakeThing l s ⊎ IsIn l s → (key_of s ≡ key.Counts → ⊥) → ⊥
  no_thing (stored.Gone number) (inl h) apart = let none = get-empty {X = Unit {0}} nat_cmp number in cc
  no_thing (stored.Counts number version token) (inl h) apart = apart refl
  no_thing s (inl h) apart = h
  no_thing s (inr i) apart = let none = get_empty {X = RepositoryStateValue} i.q in let is = i.in_lake in cc

  no_pairs : Stand empty (λ s. ⊥)
  no_pairs = record {
    spelled = λ s none. absurd none;
    each = λ s none. absurd none;
    only = λ bytes value there. let none = get_empty {X = List ℕ} bytes in absurd cc;
  }

  -- with its counts alone, pairs stand for it
  bare_stands : Stand (pairs_with (spelled_put (stored.Counts 0 1 0)) empty) (StandsIn l)
  bare_stands =
      counts_stand l 0 1 0 (λ s. ⊥) (λ s none. absurd none) (λ s h apart. no_thing s (into l s h) apart) empty (omega arith) (omega arith) (omega arith)
      no_pairs

  no_file : (kind : Bool) → AreSame kind (first_file (files cut empty) ∷ []) (StandsIn l)
  no_file true one among s h e = absurd (no_thing s (into l s h) (λ counts. let keys : key.Counts ≡ key_of (file_thing true one) = sym counts ∙ e in cc))
  no_file false one among s h e = absurd (no_thing s (into l s h) (λ counts. let keys : key.Counts ≡ key_of (file_thing false one) = sym counts ∙ e in cc))

  main_named : IsRefName (codes "main")
  main_named = record { valid = refl; unlike = refl }

  founded : StandFor (pairs_after (fresh_puts cut) (pairs_with (spelled_put (stored.Counts 0 1 0)) empty))
      (after_repository_create (codes "quickstart") (codes "main") 0 l)
  founded =
      follow_founded (pairs_with (spelled_put (stored.Counts 0 1 0)) empty) l (codes "quickstart") (codes "main") 0 bare_stands
      (omega arith) (omega arith) (omega arith) (get_empty (codes "quickstart")) refl main_named (omega arith) no_file

  -- the puts of the fresh lake end with its counts
  no_counts : pairs_after (fresh_puts cut) (pairs_with (spelled_put (stored.Counts 0 1 0)) empty) ≡ pairs_after (fresh_puts cut) empty
  unfolding spelled_put
  no_counts =
      same_end
      (repository_put (codes "quickstart") (founded_repository cut 0 (codes "main") 1 0)
      ∷ branch_put (codes "quickstart") (codes "main") (new_branch 1 (first_id cut 0) 0)
      ∷ commit_put (codes "quickstart") (first_id cut 0) (first_record cut 0) ∷ file_puts (files cut empty))
      (counts_put (fresh_lake cut)) (key_spelling key.Counts) (value_spelling (stored.Counts 0 1 0)) refl empty

  -- the pairs stand for the fresh lake
  pub fresh_follows : StandFor (pairs_after (fresh_puts cut) empty) (fresh_lake cut)
  fresh_follows =
      let made = things _ (after_repository_create (codes "quickstart") (codes "main") 0 l) founded in
      standing (pairs_after (fresh_puts cut) empty) (fresh_lake cut)
      (alike (pairs_after (fresh_puts cut) empty) (after_repository_create (codes "quickstart") (codes "main") 0 l) (fresh_lake cut)
      (record { repositories = refl; gone = refl; numbers = refl; versions = refl; tokens = refl })
      (subst (λ p. Stand p (StandsIn (after_repository_create (codes "quickstart") (codes "main") 0 l))) no_counts made))

  -- ---- tokens

  nowhere : (q n : List ℕ) (Q : BranchStateValue → Type 0) → HasBranchIn l q n Q → ⊥
  nowhere q n Q h = let there = branch_opened l q n Q h in let none = get_empty {X = RepositoryStateValue} q in let is = there.in_lake in cc

  bare_apart : AreTokensApart l
  bare_apart = record {
    apart = λ token q n p o one other. absurd (nowhere q n _ one);
    named = λ token q n h. absurd (nowhere q n _ h);
  }

  bare_below : AreTokensBelow l
  bare_below = λ repo r branch b here there. let none = get_empty {X = RepositoryStateValue} repo in absurd cc

  -- and its tokens are apart
  pub fresh_apart : AreTokensApart (fresh_lake cut)
  fresh_apart =
      lake_apart (after_repository_create (codes "quickstart") (codes "main") 0 l) (fresh_lake cut) refl
      (found_apart l bare_apart bare_below (codes "quickstart") (codes "main") 0 (get_empty (codes "quickstart")))
