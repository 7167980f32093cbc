-- The pairs after a new repository stand for the lake with it.
use Rattle.std.proofs.Common.{◌≡◌, ◌⊎◌, ◌<◌, ◌+◌, ◌^◌, inl, inr, ℕ, Bool, true, false, List, [], ◌∷◌, Option, Some, None, arith, refl, sym, ap, subst, ◌∙◌}
use Rattle.std.specs.Prelude.{is_some}
use Rattle.std.specs.FinMap.{empty, get}
use Rattle.std.specs.List.{Contains}
use Rattle.lake_base.specs.Names.{repo_fault}
use Rattle.lake_base.specs.declared.digest.Digest.{Digest}
use Rattle.lake_values.proofs.OrderLemmas.{Contains-nothing, first_or_later}
use Rattle.lake_format.specs.Cutting.{files}
use Rattle.lake_format.specs.Spelling.{AreBytes}
use Rattle.meta_range.specs.Ranges.{first_file}
use Rattle.byte_map.proofs.ByteMapLemmas.{get_empty, get_inserted, insert_over}
use Rattle.pair_format.specs.declared.key.OwnedKey.{OwnedKey}
use Rattle.pair_format.specs.declared.key.OwnedKey.TheVariants as key
use Rattle.pair_format.specs.declared.stored.Stored.{Stored}
use Rattle.pair_format.specs.PairSpelling.{IsRefName, key_of}
use Rattle.keeper.specs.declared.put.Put.{Put}
use Rattle.keeper.specs.Keepers.{KeptPairs, pairs_after, pairs_with}
use Rattle.core_state.specs.BranchStates.{BranchStateValue, new_branch}
use Rattle.core_state.specs.FirstStates.{first_id, first_record, first_tree}
use Rattle.core_state.specs.RepositoryStates.{RepositoryStateValue}
use Rattle.core_state.specs.LakeStates.{LakeStateValue}
use Rattle.core_changes.specs.LakeChanges.{after_repository_create}
use Rattle.core_changes.proofs.FoundingLemmas.{one_file}
use Rattle.core_pairs.specs.PutWords.{branch_put, commit_put, counts_put, create_repository_puts, file_puts, repository_put, spelled_put}
use Rattle.core_pairs.specs.LakePairs.{StandFor, StandsIn}
use Rattle.core_pairs.proofs.BranchPutLemmas.{branch_thing, makes_branch, with_branch}
use Rattle.core_pairs.proofs.ChangeLemmas.{finished, first_then, no_changes, some_then}
use Rattle.core_pairs.proofs.RepositoryPutLemmas.{bare, commit_thing, makes_bare, makes_commit, repository_thing, with_content}
use Rattle.core_pairs.proofs.StandLemmas.{Stand, Turns}
use Rattle.core_pairs.proofs.ThingLemmas.{Makes, made, turns, with_one}
use Rattle.core_head_pairs.proofs.FilePutLemmas.{AreOneNamed, AreSame, IsFileAmong, file_thing, files_stand}
use Rattle.core_head_pairs.proofs.FirstCommitLemmas.{first_bytes, first_digest, first_spelled}
use Rattle.core_head_pairs.proofs.TreeLemmas.{stand_tree, with_tree}

-- ---- what isn't the key of a file

abbrev is_file_key : OwnedKey → Bool
is_file_key (key.MetaRange name) = true
is_file_key (key.Range name) = true
is_file_key _ = false

file_key : (kind : Bool) (file : List ℕ) → is_file_key (key_of (file_thing kind file)) ≡ true
file_key true file = refl
file_key false file = refl

-- a put of something else leaves what stands under the names of files
same_after : (all : List (List ℕ)) (P Q : Stored → Type 0) (k : OwnedKey) (o : Option Stored) → Turns P Q k o → is_file_key k ≡ false
    → ((kind : Bool) → AreSame kind all P) → (kind : Bool) → AreSame kind all Q
same_after all P Q k o t plain same kind file among s h e = by (t.either s h)
  where
    by : (o ≡ Some s) ⊎ (P s × (key_of s ≡ k → ⊥)) → s ≡ file_thing kind file
    by (inl put) =
        let is : is_file_key (key_of (file_thing kind file)) ≡ is_file_key k = ap is_file_key (sym e ∙ (t.new s put).0) in
        let file_is = file_key kind file in absurd cc
    by (inr (p, other)) = same kind file among s p e

-- one file alone
one_alone : (file : List ℕ) → AreOneNamed (file ∷ [])
one_alone file a b x y names = sym (only a x) ∙ only b y
  where
    only : (c : List ℕ) → Contains (file ∷ []) c → file ≡ c
    only c within = by (first_or_later file c [] within)
      where
        by : (file ≡ c) ⊎ Contains [] c → file ≡ c
        by (inl is) = is
        by (inr later) = absurd (Contains-nothing c later)

-- ---- a new repository

module _ (pairs : KeptPairs) (l : LakeStateValue) (q branch : List ℕ) (date : ℕ) (stand : Stand pairs (StandsIn l))
    (version : l.next_version + 1 < 2 ^ 64) (token : l.next_token + 1 < 2 ^ 64) (number : l.next_number < 2 ^ 64)
    (none : get l.repositories q ≡ None) (valid : repo_fault q ≡ None) (named : IsRefName branch) (dated : date < 2 ^ 64) where
  abbrev pub file : List ℕ
  file = first_file (files l.cut empty)

  abbrev id : Digest
  id = first_id l.cut date

  abbrev main : BranchStateValue
  main = new_branch l.next_version id l.next_token

  abbrev r1 : RepositoryStateValue
  r1 = bare l q date branch 0

  abbrev l1 : LakeStateValue
  l1 = with_one l q r1

  abbrev r2 : RepositoryStateValue
  r2 = with_branch l1 q r1 branch main

  abbrev l2 : LakeStateValue
  l2 = with_one l1 q r2

  abbrev r3 : RepositoryStateValue
  r3 = with_content l2 q r2 id (first_record l.cut date)

  abbrev l3 : LakeStateValue
  l3 = with_one l2 q r3

  in_first : get l1.repositories q ≡ Some r1
  in_first = get_inserted l.repositories q r1

  in_second : get l2.repositories q ≡ Some r2
  in_second = get_inserted l1.repositories q r2

  in_third : get l3.repositories q ≡ Some r3
  in_third = get_inserted l2.repositories q r3

  made_first : Makes l q None r1 (key.Repository q) (Some (repository_thing l q r1))
  made_first = makes_bare l q date branch 0 (record { named = valid; valued = (dated, (named, omega arith)) })

  made_second : Makes l1 q (Some r1) r2 (key.Branch q branch) (Some (branch_thing l1 q r1 branch main))
  made_second =
      makes_branch l1 q r1 branch main (no_changes (get r1.branches branch) l.next_version id l.next_token (get_empty branch))
      (record {
        named = (valid, named);
        valued = (omega arith, (first_digest l.cut date, (omega arith, record { few = omega arith; each = tt })));
      })

  made_third : Makes l2 q (Some r2) r3 (key.Commit q id) (Some (commit_thing l2 q r2 id (first_record l.cut date)))
  made_third =
      makes_commit l2 q r2 id (first_record l.cut date) (ap is_some (get_empty {X = Unit {0}} id.0))
      (record { named = (valid, first_digest l.cut date); valued = first_spelled l.cut date dated })

  abbrev repository_puts : List Put
  repository_puts = repository_put q r1 ∷ branch_put q branch main ∷ commit_put q id (first_record l.cut date) ∷ []

  third_stands : Stand (pairs_with (commit_put q id (first_record l.cut date)) (pairs_with (branch_put q branch main) (pairs_with (repository_put q r1) pairs)))
      (StandsIn l3)
  unfolding spelled_put
  third_stands =
      made l2 q (Some r2) r3 (key.Commit q id) (Some (commit_thing l2 q r2 id (first_record l.cut date))) in_second made_third
      (pairs_with (branch_put q branch main) (pairs_with (repository_put q r1) pairs))
      (made l1 q (Some r1) r2 (key.Branch q branch) (Some (branch_thing l1 q r1 branch main)) in_first made_second (pairs_with (repository_put q r1) pairs)
      (made l q None r1 (key.Repository q) (Some (repository_thing l q r1)) none made_first pairs stand))

  module _ (same : (kind : Bool) → AreSame kind (file ∷ []) (StandsIn l)) where
    same_third : (kind : Bool) → AreSame kind (file ∷ []) (StandsIn l3)
    same_third =
        same_after (file ∷ []) (StandsIn l2) (StandsIn l3) (key.Commit q id) (Some (commit_thing l2 q r2 id (first_record l.cut date)))
        (turns l2 q (Some r2) r3 (key.Commit q id) (Some (commit_thing l2 q r2 id (first_record l.cut date))) in_second made_third) refl
        (same_after (file ∷ []) (StandsIn l1) (StandsIn l2) (key.Branch q branch) (Some (branch_thing l1 q r1 branch main))
        (turns l1 q (Some r1) r2 (key.Branch q branch) (Some (branch_thing l1 q r1 branch main)) in_first made_second) refl
        (same_after (file ∷ []) (StandsIn l) (StandsIn l1) (key.Repository q) (Some (repository_thing l q r1))
        (turns l q None r1 (key.Repository q) (Some (repository_thing l q r1)) none made_first) refl same))

    within : (bytes : List ℕ) → Contains (file ∷ []) bytes → AreBytes bytes
    within bytes among = by (first_or_later file bytes [] among)
      where
        by : (file ≡ bytes) ⊎ Contains [] bytes → AreBytes bytes
        by (inl is) = subst AreBytes is (first_bytes l.cut)
        by (inr later) = absurd (Contains-nothing bytes later)

    abbrev r4 : RepositoryStateValue
    r4 = with_tree l3 q r3 in_third id.0 (first_tree l.cut) file [] (one_file l.cut)

    abbrev l4 : LakeStateValue
    l4 = with_one l3 q r4

    tree_stands : (pairs' : KeptPairs) → Stand pairs' (StandsIn l3) → Stand (pairs_after (file_puts (files l.cut empty)) pairs') (StandsIn l4)
    tree_stands pairs' stood =
        stand_tree l3 q r3 in_third id.0 (first_tree l.cut) file [] (one_file l.cut) (pairs_after (file_puts (files l.cut empty)) pairs')
        (subst (λ fs. Stand (pairs_after (file_puts fs) pairs') (λ s. StandsIn l3 s ⊎ IsFileAmong (file ∷ []) s)) (sym (one_file l.cut))
        (files_stand file [] pairs' (StandsIn l3) stood within same_third (one_alone file)))

    repositories_are : (after_repository_create q branch date l).repositories ≡ l4.repositories
    repositories_are =
        sym (insert_over l2.repositories q r3 r4 ∙ insert_over l1.repositories q r2 r4 ∙ insert_over l.repositories q r1 r4)

    pub follow_founded : StandFor (pairs_after (create_repository_puts q branch date l) pairs) (after_repository_create q branch date l)
    follow_founded =
        let m = after_repository_create q branch date l in
        let last = counts_put (record l { next_version = l.next_version + 1; next_token = l.next_token + 1 }) ∷ [] in
        let one = pairs_with (repository_put q r1) pairs in
        let two = pairs_with (branch_put q branch main) one in
        let three = pairs_with (commit_put q id (first_record l.cut date)) two in
        first_then pairs (repository_put q r1) _ m
        (first_then one (branch_put q branch main) _ m
        (first_then two (commit_put q id (first_record l.cut date)) _ m
        (some_then three (file_puts (files l.cut empty)) last m
        (finished (pairs_after (file_puts (files l.cut empty)) three) l4 m l.next_number (l.next_version + 1) (l.next_token + 1) number version token
        (record { repositories = repositories_are; gone = refl; numbers = refl; versions = refl; tokens = refl })
        (tree_stands three third_stands)))))
