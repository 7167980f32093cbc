-- The pairs after a new head of a branch stand for the lake with it.
use Rattle.std.proofs.Common.{◌≡◌, ◌⊎◌, ◌+◌, ◌&&◌, ◌||◌, inl, inr, ℕ, Bool, true, false, cond, List, ◌∷◌, ◌++◌, Option, Some, None, arith, refl, sym, ap}
use Rattle.std.proofs.Common.{subst, ◌∙◌}
use Rattle.std.specs.Prelude.{option_and_then}
use Rattle.std.specs.Bool.{nat_eq}
use Rattle.std.specs.FinMap.{contains_key, empty, get, insert}
use Rattle.std.specs.List.{Contains}
use Rattle.lake_base.specs.Maps.{ByteMap}
use Rattle.lake_values.specs.KeyMap.{ChangesValue}
use Rattle.lake_values.specs.Reset.{drops_path}
use Rattle.lake_values.specs.declared.commit.ResetWhat.TheVariants.{All}
use Rattle.lake_values.proofs.OrderLemmas.{Contains-first, Contains-later}
use Rattle.lake_format.specs.Spelling.{AreBytes, IsDigest, IsSpelledCommit, file_name}
use Rattle.branch_record.specs.Record.{is_among}
use Rattle.branch_record.specs.Tokens.{TokenMap, changes_under, with_each}
use Rattle.branch_record.proofs.TokensLemmas.{under_changed}
use Rattle.byte_map.proofs.ByteMapLemmas.{get_empty, get_inserted, insert_over}
use Rattle.lake_model.specs.Commits.{AreKept}
use Rattle.lake_model.specs.Soundness.{IsSound}
use Rattle.pair_format.specs.declared.key.OwnedKey.TheVariants as key
use Rattle.pair_format.specs.declared.stored.Stored.{Stored}
use Rattle.pair_format.specs.PairSpelling.{IsSpelledStored, key_of}
use Rattle.keeper.specs.Keepers.{KeptPairs, pairs_after, pairs_with}
use Rattle.core_state.specs.BranchStates.{BranchStateValue, tokens_of}
use Rattle.core_state.specs.Counts.{AreFew}
use Rattle.core_state.specs.Index.{HasIndex}
use Rattle.core_state.specs.NewCommits.{NewCommit, with_new_commit, with_new_head}
use Rattle.core_state.specs.RepositoryStates.{RepositoryStateValue}
use Rattle.core_state.specs.declared.file_place.FilePlace.{FilePlace}
use Rattle.core_state.specs.LakeStates.{LakeStateValue, state_of}
use Rattle.core_changes.specs.LakeChanges.{after_new_head}
use Rattle.core_pairs.specs.PutWords.{branch_at, commit_put, is_kept_metarange, is_kept_range, new_file_puts, new_head_puts, sealed_removals, spelled_put}
use Rattle.core_pairs.specs.KeptPlaces.{HasPlaces}
use Rattle.core_pairs.specs.LakePairs.{AreTokensApart, StandFor, StandsIn}
use Rattle.core_pairs.proofs.ApartLemmas.{repository_apart}
use Rattle.core_pairs.proofs.BranchPutLemmas.{with_branch}
use Rattle.core_pairs.proofs.ChangeLemmas.{at_branch, branch_puts, branch_then, first_then, puts_of, same_changes, some_then, spelled_branch}
use Rattle.core_pairs.proofs.ChangeLemmas.{spelled_repository}
use Rattle.core_pairs.proofs.CountsLemmas.{changed_is, things, wide}
use Rattle.core_pairs.proofs.RemovalLemmas.{stand_left, with_left}
use Rattle.core_pairs.proofs.RepositoryPutLemmas.{commit_thing, makes_commit, with_content}
use Rattle.core_pairs.proofs.StandLemmas.{Stand, Turns}
use Rattle.core_pairs.proofs.ThingLemmas.{made, turns, with_one}
use Rattle.core_head_pairs.proofs.FilePutLemmas.{AreOneNamed, AreSame, IsFileAmong, file_thing, new_files_stand}
use Rattle.core_head_pairs.proofs.KeptFileLemmas.{file_same, kept_metarange, kept_range}
use Rattle.core_head_pairs.proofs.TreeLemmas.{stand_tree, with_tree}

-- what is asked of a new commit: it isn't expired, it is within limits, no file of its tree shares a name with other bytes
pub record IsNewCommit (l : LakeStateValue) (r : RepositoryStateValue) (new : NewCommit) (metarange : List ℕ) (ranges : List (List ℕ)) : Type 0 where
  pub live : contains_key r.expired new.id.0 ≡ false
  pub content : IsSpelledCommit new.content
  pub id : IsDigest new.id.0
  pub files : new.tree.files ≡ metarange ∷ ranges
  pub bytes : (file : List ℕ) → Contains (metarange ∷ ranges) file → AreBytes file
  pub apart : (file kept : List ℕ) → Contains (metarange ∷ ranges) file → AreKept (state_of l) kept → file_name file ≡ file_name kept → file ≡ kept
  pub one : AreOneNamed (metarange ∷ ranges)

-- ---- a commit is put, and the files of its tree

module _ (pairs : KeptPairs) (l : LakeStateValue) (stand : Stand pairs (StandsIn l)) (q : List ℕ) (r : RepositoryStateValue)
    (in_lake : get l.repositories q ≡ Some r) (new : NewCommit) (metarange : List ℕ) (ranges : List (List ℕ))
    (is : IsNewCommit l r new metarange ranges) where
  abbrev pub r1 : RepositoryStateValue
  r1 = with_content l q r new.id new.content

  abbrev pub l1 : LakeStateValue
  l1 = with_one l q r1

  spelled : IsSpelledStored (commit_thing l q r new.id new.content)
  spelled = record { named = ((spelled_repository pairs l stand q r in_lake).named, is.id); valued = is.content }

  change : Turns (StandsIn l) (StandsIn l1) (key.Commit q new.id) (Some (commit_thing l q r new.id new.content))
  change =
      turns l q (Some r) r1 (key.Commit q new.id) (Some (commit_thing l q r new.id new.content)) in_lake
      (makes_commit l q r new.id new.content is.live spelled)

  -- a file that stands then stood, and those that stood stand
  file_stood : (kind : Bool) (file : List ℕ) (s : Stored) → key_of s ≡ key_of (file_thing kind file)
      → (Some (commit_thing l q r new.id new.content) ≡ Some s) ⊎ (StandsIn l s × (key_of s ≡ key.Commit q new.id → ⊥)) → StandsIn l s
  file_stood true file s e (inl put) =
      let same : commit_thing l q r new.id new.content ≡ s = cc in
      let keys : key.Commit q new.id ≡ key.MetaRange (file_name file) = ap key_of same ∙ e in absurd cc
  file_stood false file s e (inl put) =
      let same : commit_thing l q r new.id new.content ≡ s = cc in
      let keys : key.Commit q new.id ≡ key.Range (file_name file) = ap key_of same ∙ e in absurd cc
  file_stood kind file s e (inr (h, other)) = h

  file_stays : (kind : Bool) (file : List ℕ) → StandsIn l (file_thing kind file) → StandsIn l1 (file_thing kind file)
  file_stays true file h = change.stays (file_thing true file) h (λ e. cc)
  file_stays false file h = change.stays (file_thing false file) h (λ e. cc)

  pub commit_stands : Stand (pairs_with (commit_put q new.id new.content) pairs) (StandsIn l1)
  unfolding spelled_put
  commit_stands =
      made l q (Some r) r1 (key.Commit q new.id) (Some (commit_thing l q r new.id new.content)) in_lake
      (makes_commit l q r new.id new.content is.live spelled) pairs stand

  module _ (same : (kind : Bool) → AreSame kind (metarange ∷ ranges) (StandsIn l)) where
    pub same_then : (kind : Bool) → AreSame kind (metarange ∷ ranges) (StandsIn l1)
    same_then kind file among s h e = same kind file among s (file_stood kind file s e (change.either s h)) e

    abbrev pub r2 : RepositoryStateValue
    r2 = with_tree l1 q r1 (get_inserted l.repositories q r1) new.id.0 new.tree metarange ranges is.files

    abbrev pub l2 : LakeStateValue
    l2 = with_one l1 q r2

    -- pairs that stand for the lake with the commit and for the files stand for the lake with the commit and its tree
    pub tree_stands : (pairs' : KeptPairs) → Stand pairs' (λ s. StandsIn l1 s ⊎ IsFileAmong (metarange ∷ ranges) s) → Stand pairs' (StandsIn l2)
    tree_stands = stand_tree l1 q r1 (get_inserted l.repositories q r1) new.id.0 new.tree metarange ranges is.files

    module _ (kept : ByteMap (Option FilePlace)) (first : is_kept_metarange kept metarange ≡ true → StandsIn l (file_thing true metarange))
        (each : (range : List ℕ) → Contains ranges range → is_kept_range kept range ≡ true → StandsIn l (file_thing false range)) where
      pub new_tree_stands : (pairs' : KeptPairs) → Stand pairs' (StandsIn l1)
          → Stand (pairs_after (new_file_puts kept new.tree.files) pairs') (StandsIn l2)
      new_tree_stands pairs' stood =
          subst (λ fs. Stand (pairs_after (new_file_puts kept fs) pairs') (StandsIn l2)) (sym is.files)
          (tree_stands (pairs_after (new_file_puts kept (metarange ∷ ranges)) pairs')
          (new_files_stand metarange ranges pairs' (StandsIn l1) stood is.bytes same_then is.one kept (λ h. file_stays true metarange (first h))
          (λ range among h. file_stays false range (each range among h))))

-- ---- the head

-- what is left of changes when those of some tokens go
sealed_left : (these : List ℕ) (tokens : TokenMap) (token : ℕ) (path : List ℕ)
    → get (changes_under (with_each these (λ _. empty) tokens) token) path
    ≡ cond (is_among these token && drops_path All path) None (get (changes_under tokens token) path)
sealed_left these tokens token path =
    ap (λ (c : ChangesValue). get c path) (under_changed (λ _. empty) tokens these token) ∙ by (is_among these token)
  where
    by : (test : Bool)
        → get (cond test empty (changes_under tokens token)) path
        ≡ cond (test && drops_path All path) None (get (changes_under tokens token) path)
    by true = get_empty path
    by false = refl

or_later : (a b : Bool) → b ≡ true → (a || b) ≡ true
or_later true b e = refl
or_later false b e = e

module _ (pairs : KeptPairs) (l : LakeStateValue) (kept : ByteMap (Option FilePlace)) (q name : List ℕ) (r : RepositoryStateValue) (b : BranchStateValue)
    (new : NewCommit) (metarange : List ℕ) (ranges : List (List ℕ)) (stand : StandFor pairs l) (apart : AreTokensApart l) (few : AreFew l)
    (index : HasIndex l) (sound : IsSound (state_of l)) (places : HasPlaces kept l) (in_lake : get l.repositories q ≡ Some r)
    (in_it : get r.branches name ≡ Some b) (is : IsNewCommit l r new metarange ranges) where
  abbrev all : Stand pairs (StandsIn l)
  all = things pairs l stand

  abbrev same : (kind : Bool) → AreSame kind (metarange ∷ ranges) (StandsIn l)
  same = file_same l index sound (metarange ∷ ranges) is.apart

  abbrev after_commit : RepositoryStateValue
  after_commit = r1 pairs l all q r in_lake new metarange ranges is

  abbrev after_tree : RepositoryStateValue
  after_tree = r2 pairs l all q r in_lake new metarange ranges is same

  abbrev lake_commit : LakeStateValue
  lake_commit = with_one l q after_commit

  abbrev lake_tree : LakeStateValue
  lake_tree = with_one lake_commit q after_tree

  tree_apart : AreTokensApart lake_tree
  tree_apart =
      repository_apart lake_commit q after_tree
      (λ n. sym (ap (option_and_then (λ r. get r.branches n)) (get_inserted l.repositories q after_commit)))
      (repository_apart l q after_commit (λ n. sym (ap (option_and_then (λ r. get r.branches n)) in_lake)) apart)

  abbrev tokens : TokenMap
  tokens = with_each b.sealed (λ _. empty) b.tokens

  among_named : (token : ℕ) → is_among b.sealed token ≡ true → is_among (tokens_of b) token ≡ true
  among_named token among = or_later (nat_eq b.staging token) (is_among b.sealed token) among

  abbrev rest : RepositoryStateValue
  rest =
      with_left lake_tree tree_apart q after_tree (get_inserted lake_commit.repositories q after_tree) name b in_it All b.sealed among_named tokens
      (sealed_left b.sealed b.tokens)

  abbrev lake_rest : LakeStateValue
  lake_rest = with_one lake_tree q rest

  abbrev now : BranchStateValue
  now = with_new_head l.next_version new.id b

  repositories_are : (after_new_head q name new l).repositories ≡ insert lake_rest.repositories q (with_branch lake_rest q rest name now)
  repositories_are =
      changed_is l.repositories q (with_new_commit l.next_version name new) r in_lake
      ∙ ap (λ (m : ByteMap BranchStateValue). insert l.repositories q (record after_tree { branches = m }))
      (changed_is r.branches name (with_new_head l.next_version new.id) b in_it
      ∙ sym (insert_over r.branches name (record b { tokens = tokens }) now))
      ∙ sym (insert_over lake_tree.repositories q rest (with_branch lake_rest q rest name now)
      ∙ insert_over lake_commit.repositories q after_tree (with_branch lake_rest q rest name now)
      ∙ insert_over l.repositories q after_commit (with_branch lake_rest q rest name now))

  pub follow_head : StandFor (pairs_after (new_head_puts q name new kept l) pairs) (after_new_head q name new l)
  follow_head =
      let w = wide l few in
      let number = w.number in let version = w.version in let token = w.token in
      let old = spelled_branch pairs l all q r in_lake name b in_it in
      let first_pairs = pairs_with (commit_put q new.id new.content) pairs in
      let file_pairs = pairs_after (new_file_puts kept new.tree.files) first_pairs in
      puts_of (λ b. commit_put q new.id new.content ∷ (new_file_puts kept new.tree.files ++ (sealed_removals b
      ++ branch_puts q name (with_new_head l.next_version new.id b) l.next_number (l.next_version + 1) l.next_token)))
      (branch_at q name l) b (at_branch l q name r b in_lake in_it) pairs (after_new_head q name new l)
      (first_then pairs (commit_put q new.id new.content) (new_file_puts kept new.tree.files ++ (sealed_removals b
      ++ branch_puts q name now l.next_number (l.next_version + 1) l.next_token)) (after_new_head q name new l)
      (some_then first_pairs (new_file_puts kept new.tree.files) (sealed_removals b
      ++ branch_puts q name now l.next_number (l.next_version + 1) l.next_token) (after_new_head q name new l)
      (some_then file_pairs (sealed_removals b) (branch_puts q name now l.next_number (l.next_version + 1) l.next_token) (after_new_head q name new l)
      (branch_then (pairs_after (sealed_removals b) file_pairs) lake_rest (after_new_head q name new l) q rest name now
      l.next_number (l.next_version + 1) l.next_token (omega arith) version (omega arith) (get_inserted lake_tree.repositories q rest)
      (same_changes (get rest.branches name) (record b { tokens = tokens }) now (get_inserted r.branches name (record b { tokens = tokens })) refl)
      (record { named = old.named; valued = (omega arith, (is.id, (old.valued.1.1.0, record { few = omega arith; each = tt }))) })
      (record { repositories = repositories_are; gone = refl; numbers = refl; versions = refl; tokens = refl })
      (stand_left lake_tree tree_apart q after_tree (get_inserted lake_commit.repositories q after_tree) name b in_it All b.sealed among_named tokens
      (sealed_left b.sealed b.tokens) file_pairs
      (new_tree_stands pairs l all q r in_lake new metarange ranges is same kept
      (kept_metarange l index sound (metarange ∷ ranges) is.apart kept places metarange (Contains-first metarange ranges))
      (λ range among. kept_range l index sound (metarange ∷ ranges) is.apart kept places range (Contains-later metarange range ranges among))
      first_pairs (commit_stands pairs l all q r in_lake new metarange ranges is)))))))
