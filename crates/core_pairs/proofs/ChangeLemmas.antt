-- The pairs after each change stand for what it makes of a lake.
use Rattle.std.proofs.Common.{◌≡◌, ◌<◌, ◌+◌, ◌^◌, ◌&&◌, ℕ, Bool, true, false, cond, List, [], ◌∷◌, ◌++◌, length, Option, Some, None, IsSome, IsSomeAnd}
use Rattle.std.proofs.Common.{IfSome, arith, refl, sym, ap, subst, ◌∙◌}
use Rattle.std.specs.Prelude.{option_and_then}
use Rattle.std.specs.Option.{option_map_or}
use Rattle.std.specs.FinMap.{contains_key, empty, get, insert, remove}
use Rattle.lake_base.specs.Maps.{ByteMap}
use Rattle.lake_base.specs.Names.{path_fault}
use Rattle.lake_base.specs.declared.digest.Digest.{Digest}
use Rattle.lake_values.specs.KeyMap.{ChangesValue}
use Rattle.lake_values.specs.NoteNames.{note_name}
use Rattle.lake_values.specs.Reset.{changes_after_reset, drops_path}
use Rattle.lake_values.specs.declared.commit.ResetWhat.{ResetWhat}
use Rattle.lake_values.specs.declared.entry.Change.{Change}
use Rattle.lake_values.specs.declared.settings.Note.{Note}
use Rattle.lake_values.specs.declared.settings.NoteName.{NoteName}
use Rattle.lake_values.proofs.ResetLemmas.{get_reset}
use Rattle.lake_format.specs.Spelling.{AreBytes, IsDigest}
use Rattle.branch_record.specs.Record.{is_among}
use Rattle.branch_record.specs.Tokens.{TokenMap, changes_under, with_each}
use Rattle.branch_record.proofs.TokensLemmas.{under_changed, under_empty}
use Rattle.byte_map.proofs.ByteMapLemmas.{get_empty, get_inserted, insert_over}
use Rattle.lake_model.specs.NoteChanges.{notes_after}
use Rattle.lake_model.specs.Parts.{changed_at}
use Rattle.lake_model.specs.Uncommitted.{put_number}
use Rattle.pair_format.specs.declared.key.OwnedKey.TheVariants as key
use Rattle.pair_format.specs.declared.stored.Stored.TheVariants as stored
use Rattle.pair_format.specs.PairSpelling.{IsRefName, IsSpelledChange, IsSpelledStored}
use Rattle.keeper.specs.declared.put.Put.{Put}
use Rattle.keeper.specs.Keepers.{KeptPairs, pairs_after, pairs_with}
use Rattle.core_state.specs.BranchStates.{BranchStateValue, new_branch, tokens_of, with_fresh}
use Rattle.core_state.specs.Counts.{AreFew}
use Rattle.core_state.specs.RepositoryStates.{RepositoryStateValue}
use Rattle.core_state.specs.LakeStates.{LakeStateValue}
use Rattle.core_changes.specs.declared.branch.BranchChange.TheVariants as branch
use Rattle.core_changes.specs.BranchChanges.{branch_after}
use Rattle.core_changes.specs.LakeChanges.{after_branch_create, after_note_set, after_reset, after_seal, after_stage, after_tag_create, after_tag_delete}
use Rattle.core_changes.specs.LakeChanges.{after_ticket_take, in_branch, with_entry, without_ticket}
use Rattle.core_puts.specs.Puts.{branch_at, branch_put, counts_put, note_put, note_text, removals_of, removed_put, repository_put, spelled_put}
use Rattle.core_puts.specs.Puts.{create_branch_puts, create_tag_puts, delete_tag_puts, reset_puts, seal_puts, set_note_puts, stage_puts, ticket_puts}
use Rattle.core_pairs.specs.LakePairs.{AreTokensApart, StandFor, StandsIn}
use Rattle.core_pairs.proofs.StandLemmas.{Stand, after_both, after_first}
use Rattle.core_pairs.proofs.ThingLemmas.{HasChange, IsBranchThere, IsRecord, branch_opened, closed, from_repository, made, with_one}
use Rattle.core_pairs.proofs.BranchPutLemmas.{HasChangesOf, branch_thing, makes_branch, with_branch}
use Rattle.core_pairs.proofs.CountsLemmas.{AreAlike, after_one, alike, changed_is, counted, standing, things, wide, with_counts}
use Rattle.core_pairs.proofs.RemovalLemmas.{stand_left, with_left}
use Rattle.core_pairs.proofs.RepositoryPutLemmas.{is_set, makes_note, makes_settings, makes_tag, makes_untagged, repository_thing, with_notes, with_settings}
use Rattle.core_pairs.proofs.RepositoryPutLemmas.{with_tags}
use Rattle.core_pairs.proofs.StagedLemmas.{makes_staged, staged_thing, staging_named, with_staged}

-- ---- parts

-- the counts are put at the end
pub finished : (pairs : KeptPairs) (l m : LakeStateValue) (number version token : ℕ) → number < 2 ^ 64 → version < 2 ^ 64 → token < 2 ^ 64
    → AreAlike (with_counts l number version token) m → Stand pairs (StandsIn l)
    → StandFor (pairs_after (spelled_put (stored.Counts number version token) ∷ []) pairs) m
finished pairs l m number version token a b c same stand =
    standing _ m (subst (λ p. Stand p (StandsIn m)) (sym (after_one (spelled_put (stored.Counts number version token)) pairs))
    (alike _ (with_counts l number version token) m same (counted l number version token pairs a b c stand)))

-- one put, and no counts
pub ended : (pairs : KeptPairs) (put : Put) (m : LakeStateValue) → Stand (pairs_with put pairs) (StandsIn m) → StandFor (pairs_after (put ∷ []) pairs) m
ended pairs put m stand = standing _ m (subst (λ p. Stand p (StandsIn m)) (sym (after_one put pairs)) stand)

-- the first of puts
pub first_then : (pairs : KeptPairs) (put : Put) (puts : List Put) (m : LakeStateValue) → StandFor (pairs_after puts (pairs_with put pairs)) m
    → StandFor (pairs_after (put ∷ puts) pairs) m
first_then pairs put puts m stand = subst (λ p. StandFor p m) (sym (after_first put puts pairs)) stand

pub some_then : (pairs : KeptPairs) (puts others : List Put) (m : LakeStateValue) → StandFor (pairs_after others (pairs_after puts pairs)) m
    → StandFor (pairs_after (puts ++ others) pairs) m
some_then pairs puts others m stand = subst (λ p. StandFor p m) (sym (after_both puts others pairs)) stand

-- puts that are made of a branch that is there
pub puts_of : {X : Type 0} (f : X → List Put) (o : Option X) (x : X) → o ≡ Some x → (pairs : KeptPairs) (m : LakeStateValue)
    → StandFor (pairs_after (f x) pairs) m → StandFor (pairs_after (option_map_or f o []) pairs) m
puts_of f o x is pairs m stand = subst (λ puts. StandFor (pairs_after puts pairs) m) (sym (ap (λ o. option_map_or f o []) is)) stand

some_and : {X : Type 0} (o : Option X) → IsSome o → IsSomeAnd o (λ x. Unit {0})
some_and None h = absurd cc
some_and (Some x) h = tt

-- a branch that is there
pub branch_there : (l : LakeStateValue) (q name : List ℕ) → IsSome (branch_at q name l) → IsBranchThere l q name (λ b. Unit {0})
branch_there l q name h = branch_opened l q name (λ b. Unit {0}) (some_and (branch_at q name l) h)

pub at_branch : (l : LakeStateValue) (q name : List ℕ) (r : RepositoryStateValue) (b : BranchStateValue) → get l.repositories q ≡ Some r
    → get r.branches name ≡ Some b → branch_at q name l ≡ Some b
at_branch l q name r b in_lake in_it = ap (option_and_then (λ r. get r.branches name)) in_lake ∙ in_it

-- a branch that is there is changed
pub branch_changed : (l : LakeStateValue) (q name : List ℕ) (r : RepositoryStateValue) (b : BranchStateValue) (change : BranchStateValue → BranchStateValue)
    → get l.repositories q ≡ Some r → get r.branches name ≡ Some b
    → (in_branch q name change l).repositories ≡ insert l.repositories q (record r { branches = insert r.branches name (change b) })
branch_changed l q name r b change in_lake in_it =
    changed_is l.repositories q (λ r. record r { branches = changed_at name change r.branches }) r in_lake
    ∙ ap (λ (all : ByteMap BranchStateValue). insert l.repositories q (record r { branches = all })) (changed_is r.branches name change b in_it)

-- the same changes
pub same_changes : (was : Option BranchStateValue) (b now : BranchStateValue) → was ≡ Some b → now.tokens ≡ b.tokens → HasChangesOf was now
same_changes was b now is same = record {
  from = λ token path change h.
      closed was (HasChange token path change) b is (subst (λ (t : TokenMap). get (changes_under t token) path ≡ Some change) same h);
  into = λ token path change h.
      subst (λ (t : TokenMap). get (changes_under t token) path ≡ Some change) (sym same) (subst (λ o. IsSomeAnd o (HasChange token path change)) is h);
}

-- no changes, where there was no branch
pub no_changes : (was : Option BranchStateValue) (version : ℕ) (commit : Digest) (token : ℕ) → was ≡ None → HasChangesOf was (new_branch version commit token)
no_changes was version commit token none = record {
  from = λ t path change h.
      let nothing = get_empty {X = Change} path in
      let at : get (changes_under empty t) path ≡ None = ap (λ (c : ChangesValue). get c path) (under_empty t) ∙ nothing in
      absurd cc;
  into = λ t path change h. absurd (subst (λ o. IsSomeAnd o (HasChange t path change)) none h);
}

module _ (pairs : KeptPairs) (l : LakeStateValue) (stand : Stand pairs (StandsIn l)) (q : List ℕ) (r : RepositoryStateValue)
    (in_lake : get l.repositories q ≡ Some r) where
  -- what stands of a repository and of a branch can be spelled
  pub spelled_repository : IsSpelledStored (repository_thing l q r)
  spelled_repository =
      stand.spelled (repository_thing l q r) (from_repository l q r in_lake (repository_thing l q r) (refl, (refl, (refl, refl))))

  pub spelled_branch : (name : List ℕ) (b : BranchStateValue) → get r.branches name ≡ Some b → IsSpelledStored (branch_thing l q r name b)
  spelled_branch name b in_it =
      stand.spelled (branch_thing l q r name b) (from_repository l q r in_lake (branch_thing l q r name b)
      (refl, closed (get r.branches name) (IsRecord b.version b.head b.staging b.sealed) b in_it (refl, (refl, (refl, refl)))))

-- ---- tickets

pub follow_ticket : (pairs : KeptPairs) (l : LakeStateValue) (seat : ℕ) → StandFor pairs l → AreFew l
    → StandFor (pairs_after (ticket_puts l) pairs) (after_ticket_take seat l)
follow_ticket pairs l seat stand few =
    let w = wide l few in
    let a = w.version in let b = w.token in
    finished pairs l (after_ticket_take seat l) (l.next_number + 1) l.next_version l.next_token w.number (omega arith) (omega arith)
    (record { repositories = refl; gone = refl; numbers = refl; versions = refl; tokens = refl }) (things pairs l stand)

-- nothing that is kept changes
pub follow_none : (pairs : KeptPairs) (l m : LakeStateValue) → AreAlike l m → StandFor pairs l → StandFor pairs m
follow_none pairs l m same stand = standing pairs m (alike pairs l m same (things pairs l stand))

-- ---- staged changes

module _ (pairs : KeptPairs) (l : LakeStateValue) (q name path : List ℕ) (change : Change) (stand : StandFor pairs l) (apart : AreTokensApart l)
    (valid : path_fault path ≡ None) (within : IsSpelledChange change) where
  staged : (m : LakeStateValue) (there : IsBranchThere l q name (λ b. Unit {0}))
      → AreAlike (with_one l q (with_staged l apart q there.r there.in_lake name there.b there.in_it there.b.staging (staging_named there.b) path change)) m
      → StandFor (pairs_after (stage_puts q name path change l) pairs) m
  unfolding spelled_put
  staged m there same =
      let b = there.b in
      let all = things pairs l stand in
      let thing = staged_thing l apart q there.r there.in_lake name b there.in_it b.staging (staging_named b) path change in
      let spelled : IsSpelledStored (stored.Staged b.staging path change) =
      record { named = ((spelled_branch pairs l all q there.r there.in_lake name b there.in_it).valued.1.1.0, valid); valued = within } in
      puts_of (λ b. spelled_put (stored.Staged b.staging path change) ∷ []) (branch_at q name l) b (at_branch l q name there.r b there.in_lake there.in_it)
      pairs m
      (ended pairs (spelled_put (stored.Staged b.staging path change)) m
      (alike _ (with_one l q (with_staged l apart q there.r there.in_lake name b there.in_it b.staging (staging_named b) path change)) m same
      (made l q (Some there.r) (with_staged l apart q there.r there.in_lake name b there.in_it b.staging (staging_named b) path change)
      (key.Staged b.staging path)
      (Some (stored.Staged b.staging path change)) there.in_lake
      (makes_staged l apart q there.r there.in_lake name b there.in_it b.staging (staging_named b) path change spelled)
      pairs all)))

  alike_staged : (there : IsBranchThere l q name (λ b. Unit {0})) (o : Option ℕ)
      → AreAlike (with_one l q (with_staged l apart q there.r there.in_lake name there.b there.in_it there.b.staging (staging_named there.b) path change))
      (with_entry (in_branch q name (branch_after (branch.Stage path change)) (option_map_or (λ number. without_ticket number l) o l)))
  alike_staged there None = record {
    repositories = branch_changed l q name there.r there.b (branch_after (branch.Stage path change)) there.in_lake there.in_it;
    gone = refl;
    numbers = refl;
    versions = refl;
    tokens = refl;
  }
  alike_staged there (Some number) = record {
    repositories = branch_changed l q name there.r there.b (branch_after (branch.Stage path change)) there.in_lake there.in_it;
    gone = refl;
    numbers = refl;
    versions = refl;
    tokens = refl;
  }

  pub follow_stage : IsSome (branch_at q name l) → StandFor (pairs_after (stage_puts q name path change l) pairs) (after_stage q name path change l)
  follow_stage h = let there = branch_there l q name h in staged (after_stage q name path change l) there (alike_staged there (put_number change))

  pub follow_staged : IsSome (branch_at q name l)
      → StandFor (pairs_after (stage_puts q name path change l) pairs) (with_entry (in_branch q name (branch_after (branch.Stage path change)) l))
  follow_staged h =
      let there = branch_there l q name h in
      staged (with_entry (in_branch q name (branch_after (branch.Stage path change)) l)) there (alike_staged there None)

-- ---- a branch is put, and then the counts

-- the puts of a branch that is put, and then the counts
abbrev pub branch_puts : List ℕ → List ℕ → BranchStateValue → ℕ → ℕ → ℕ → List Put
branch_puts q name b number version token = branch_put q name b ∷ spelled_put (stored.Counts number version token) ∷ []

pub branch_then : (pairs : KeptPairs) (l m : LakeStateValue) (q : List ℕ) (r : RepositoryStateValue) (name : List ℕ) (b : BranchStateValue)
    (number version token : ℕ)
    → number < 2 ^ 64 → version < 2 ^ 64 → token < 2 ^ 64 → get l.repositories q ≡ Some r → HasChangesOf (get r.branches name) b
    → IsSpelledStored (branch_thing l q r name b)
    → AreAlike (with_counts (with_one l q (with_branch l q r name b)) number version token) m → Stand pairs (StandsIn l)
    → StandFor (pairs_after (branch_puts q name b number version token) pairs) m
unfolding spelled_put
branch_then pairs l m q r name b number version token x y z in_lake changes spelled same stand =
    first_then pairs (branch_put q name b) (spelled_put (stored.Counts number version token) ∷ []) m
    (finished (pairs_with (branch_put q name b) pairs) (with_one l q (with_branch l q r name b)) m number version token x y z same
    (made l q (Some r) (with_branch l q r name b) (key.Branch q name) (Some (branch_thing l q r name b)) in_lake
    (makes_branch l q r name b changes spelled) pairs stand))

-- ---- staged changes are sealed

fresh_tokens : (fresh : ℕ) (b : BranchStateValue) → (with_fresh fresh b).tokens ≡ b.tokens
fresh_tokens fresh b = by (contains_key b.tokens b.staging)
  where
    by : (test : Bool) → (cond test (record b { staging = fresh; sealed = b.staging ∷ b.sealed }) b).tokens ≡ b.tokens
    by true = refl
    by false = refl

spelled_sealed : (l : LakeStateValue) (q : List ℕ) (r : RepositoryStateValue) (name : List ℕ) (b : BranchStateValue) (fresh version : ℕ)
    → fresh < 2 ^ 64 → version < 2 ^ 64
    → length (with_fresh fresh b).sealed < 2 ^ 32 → IsSpelledStored (branch_thing l q r name b)
    → IsSpelledStored (branch_thing l q r name (record (with_fresh fresh b) { version = version }))
spelled_sealed l q r name b fresh version x y few spelled = by (contains_key b.tokens b.staging) few
  where
    by : (test : Bool) → length (cond test (record b { staging = fresh; sealed = b.staging ∷ b.sealed }) b).sealed < 2 ^ 32
        → IsSpelledStored (branch_thing l q r name (record (cond test (record b { staging = fresh; sealed = b.staging ∷ b.sealed }) b) { version = version }))
    by true short = record {
      named = spelled.named;
      valued = (y, (spelled.valued.1.0, (x, record { few = short; each = (spelled.valued.1.1.0, spelled.valued.1.1.1.each) })));
    }
    by false short = record { named = spelled.named; valued = (y, spelled.valued.1) }

pub follow_seal : (pairs : KeptPairs) (l : LakeStateValue) (q name : List ℕ) → StandFor pairs l → AreFew l
    → IsSomeAnd (branch_at q name l) (λ b. length (with_fresh l.next_token b).sealed < 2 ^ 32)
    → StandFor (pairs_after (seal_puts q name l) pairs) (after_seal q name l)
follow_seal pairs l q name stand few sealed =
    let there = branch_opened l q name (λ b. length (with_fresh l.next_token b).sealed < 2 ^ 32) sealed in
    let b = there.b in let r = there.r in
    let all = things pairs l stand in
    let w = wide l few in
    let at = at_branch l q name r b there.in_lake there.in_it in
    let short = there.holds in
    let number = w.number in let version = w.version in let token = w.token in
    let now : BranchStateValue = record (with_fresh l.next_token b) { version = l.next_version } in
    puts_of (λ b. branch_puts q name (record (with_fresh l.next_token b) { version = l.next_version }) l.next_number (l.next_version + 1) (l.next_token + 1))
    (branch_at q name l) b at pairs (after_seal q name l)
    (branch_then pairs l (after_seal q name l) q r name (record (with_fresh l.next_token b) { version = l.next_version })
    l.next_number (l.next_version + 1) (l.next_token + 1)
    (omega arith) version token there.in_lake
    (same_changes (get r.branches name) b (record (with_fresh l.next_token b) { version = l.next_version }) there.in_it (fresh_tokens l.next_token b))
    (spelled_sealed l q r name b l.next_token l.next_version (omega arith) (omega arith) short
    (spelled_branch pairs l all q r there.in_lake name b there.in_it))
    (record {
      repositories = branch_changed l q name r b (branch_after (branch.Seal l.next_token l.next_version)) there.in_lake there.in_it;
      gone = refl;
      numbers = refl;
      versions = refl;
      tokens = refl;
    }) all)

-- ---- a branch is made

pub follow_branch_create : (pairs : KeptPairs) (l : LakeStateValue) (q name : List ℕ) (commit : Digest) → StandFor pairs l → AreFew l
    → IsSome (get l.repositories q) → branch_at q name l ≡ None → IsRefName name → IsDigest commit.0
    → StandFor (pairs_after (create_branch_puts q name commit l) pairs) (after_branch_create q name commit l)
follow_branch_create pairs l q name commit stand few h none named digest = by (get l.repositories q) refl h
  where
    by : (o : Option RepositoryStateValue) → get l.repositories q ≡ o → IsSome o
        → StandFor (pairs_after (create_branch_puts q name commit l) pairs) (after_branch_create q name commit l)
    by None is h = absurd cc
    by (Some r) is h =
        let w = wide l few in
        let number = w.number in let version = w.version in let token = w.token in
        let all = things pairs l stand in
        branch_then pairs l (after_branch_create q name commit l) q r name (new_branch l.next_version commit l.next_token)
        l.next_number (l.next_version + 1) (l.next_token + 1) (omega arith) version token is
        (no_changes (get r.branches name) l.next_version commit l.next_token (sym (ap (option_and_then (λ r. get r.branches name)) is) ∙ none))
        (record {
          named = ((spelled_repository pairs l all q r is).named, named);
          valued = (omega arith, (digest, (omega arith, record { few = omega arith; each = tt })));
        })
        (record {
          repositories = changed_is l.repositories q (λ r. record r { branches = insert r.branches name (new_branch l.next_version commit l.next_token) }) r is;
          gone = refl;
          numbers = refl;
          versions = refl;
          tokens = refl;
        }) all

-- ---- tags

module _ (pairs : KeptPairs) (l : LakeStateValue) (q name : List ℕ) (stand : StandFor pairs l) (named : IsRefName name) where
  pub follow_tag_create : (commit : Digest) → IsSome (get l.repositories q) → IsDigest commit.0
      → StandFor (pairs_after (create_tag_puts q name commit) pairs) (after_tag_create q name commit l)
  unfolding spelled_put
  follow_tag_create commit h digest = by (get l.repositories q) refl h
    where
      by : (o : Option RepositoryStateValue) → get l.repositories q ≡ o → IsSome o
          → StandFor (pairs_after (create_tag_puts q name commit) pairs) (after_tag_create q name commit l)
      by None is h = absurd cc
      by (Some r) is h =
          let all = things pairs l stand in
          ended pairs (spelled_put (stored.Tag q name commit)) (after_tag_create q name commit l)
          (alike _ (with_one l q (with_tags l q r (insert r.tags name commit))) (after_tag_create q name commit l)
          (record {
            repositories = changed_is l.repositories q (λ r. record r { tags = insert r.tags name commit }) r is;
            gone = refl;
            numbers = refl;
            versions = refl;
            tokens = refl;
          })
          (made l q (Some r) (with_tags l q r (insert r.tags name commit)) (key.Tag q name) (Some (stored.Tag q name commit)) is
          (makes_tag l q r name commit (record { named = ((spelled_repository pairs l all q r is).named, named); valued = digest })) pairs all))

  pub follow_tag_delete : IsSome (get l.repositories q) → StandFor (pairs_after (delete_tag_puts q name) pairs) (after_tag_delete q name l)
  unfolding removed_put
  follow_tag_delete h = by (get l.repositories q) refl h
    where
      by : (o : Option RepositoryStateValue) → get l.repositories q ≡ o → IsSome o
          → StandFor (pairs_after (delete_tag_puts q name) pairs) (after_tag_delete q name l)
      by None is h = absurd cc
      by (Some r) is h =
          let all = things pairs l stand in
          ended pairs (removed_put (key.Tag q name)) (after_tag_delete q name l)
          (alike _ (with_one l q (with_tags l q r (remove r.tags name))) (after_tag_delete q name l)
          (record {
            repositories = changed_is l.repositories q (λ r. record r { tags = remove r.tags name }) r is;
            gone = refl;
            numbers = refl;
            versions = refl;
            tokens = refl;
          })
          (made l q (Some r) (with_tags l q r (remove r.tags name)) (key.Tag q name) None is
          (makes_untagged l q r name ((spelled_repository pairs l all q r is).named, named)) pairs all))

-- ---- settings

module _ (pairs : KeptPairs) (l : LakeStateValue) (q : List ℕ) (name : NoteName) (value : Option Note) (stand : StandFor pairs l) (few : AreFew l)
    (is_of : IfSome value (λ n. note_name n ≡ name)) (bytes : IfSome value (λ n. AreBytes (note_text n))) where
  with_settings_put : (r : RepositoryStateValue) → get l.repositories q ≡ Some r → (pairs' : KeptPairs)
      → Stand pairs' (StandsIn (with_one l q (with_notes l q r (notes_after name value r.notes))))
      → StandFor (pairs_after (repository_put q (record r { settings = l.next_version })
      ∷ counts_put (record l { next_version = l.next_version + 1 }) ∷ []) pairs') (after_note_set q name value l)
  unfolding spelled_put
  with_settings_put r is pairs' stood =
      let w = wide l few in
      let number = w.number in let version = w.version in let token = w.token in
      let all = things pairs l stand in
      let old = spelled_repository pairs l all q r is in
      let set = with_notes l q r (notes_after name value r.notes) in
      first_then pairs' (repository_put q (record r { settings = l.next_version })) (counts_put (record l { next_version = l.next_version + 1 }) ∷ [])
      (after_note_set q name value l)
      (finished _ (with_one (with_one l q set) q (with_settings l q l.next_version set)) (after_note_set q name value l)
      l.next_number (l.next_version + 1) l.next_token (omega arith) version (omega arith)
      (record {
        repositories =
            changed_is l.repositories q (λ r. record r { settings = l.next_version; notes = notes_after name value r.notes }) r is
            ∙ sym (insert_over l.repositories q set (with_settings l q l.next_version set));
        gone = refl;
        numbers = refl;
        versions = refl;
        tokens = refl;
      })
      (made (with_one l q set) q (Some set) (with_settings l q l.next_version set) (key.Repository q)
      (Some (repository_thing l q (with_settings l q l.next_version set))) (get_inserted l.repositories q set)
      (makes_settings (with_one l q set) q set l.next_version
      (record { named = old.named; valued = (old.valued.0, (old.valued.1.0, omega arith)) })) pairs' stood))

  note_first : (r : RepositoryStateValue) → get l.repositories q ≡ Some r
      → Stand (pairs_with (note_put q name value) pairs) (StandsIn (with_one l q (with_notes l q r (notes_after name value r.notes))))
  unfolding spelled_put removed_put
  note_first r is = by value refl is_of bytes
    where
      by : (o : Option Note) → value ≡ o → IfSome o (λ n. note_name n ≡ name) → IfSome o (λ n. AreBytes (note_text n))
          → Stand (pairs_with (note_put q name o) pairs) (StandsIn (with_one l q (with_notes l q r (notes_after name o r.notes))))
      by None at named texts =
          let all = things pairs l stand in
          made l q (Some r) (with_notes l q r (notes_after name None r.notes)) (key.Note q name) None is
          (makes_note l q r name None (notes_after name None r.notes) (is_set l q r name None tt)
          (spelled_repository pairs l all q r is).named tt) pairs all
      by (Some note) at named texts =
          let all = things pairs l stand in
          let repo = (spelled_repository pairs l all q r is).named in
          made l q (Some r) (with_notes l q r (notes_after name (Some note) r.notes)) (key.Note q name) (Some (stored.Note q name (note_text note))) is
          (makes_note l q r name (Some note) (notes_after name (Some note) r.notes) (is_set l q r name (Some note) named)
          repo (record { named = repo; valued = texts })) pairs all

  pub follow_note : IsSome (get l.repositories q) → StandFor (pairs_after (set_note_puts q name value l) pairs) (after_note_set q name value l)
  follow_note h = by (get l.repositories q) refl h
    where
      by : (o : Option RepositoryStateValue) → get l.repositories q ≡ o → IsSome o
          → StandFor (pairs_after (set_note_puts q name value l) pairs) (after_note_set q name value l)
      by None is h = absurd cc
      by (Some r) is h =
          puts_of (λ r. note_put q name value ∷ repository_put q (record r { settings = l.next_version })
          ∷ counts_put (record l { next_version = l.next_version + 1 }) ∷ []) (get l.repositories q) r is pairs (after_note_set q name value l)
          (first_then pairs (note_put q name value) (repository_put q (record r { settings = l.next_version })
          ∷ counts_put (record l { next_version = l.next_version + 1 }) ∷ []) (after_note_set q name value l)
          (with_settings_put r is (pairs_with (note_put q name value) pairs) (note_first r is)))

-- ---- changes are dropped

-- what is left after a reset
reset_left : (what : ResetWhat) (these : List ℕ) (tokens : TokenMap) (token : ℕ) (path : List ℕ)
    → get (changes_under (with_each these (changes_after_reset what) tokens) token) path
    ≡ cond (is_among these token && drops_path what path) None (get (changes_under tokens token) path)
reset_left what these tokens token path =
    ap (λ (c : ChangesValue). get c path) (under_changed (changes_after_reset what) tokens these token) ∙ by (is_among these token)
  where
    by : (test : Bool)
        → get (cond test (changes_after_reset what (changes_under tokens token)) (changes_under tokens token)) path
        ≡ cond (test && drops_path what path) None (get (changes_under tokens token) path)
    by true = get_reset what (changes_under tokens token) path
    by false = refl

pub follow_reset : (pairs : KeptPairs) (l : LakeStateValue) (q name : List ℕ) (what : ResetWhat) → StandFor pairs l → AreTokensApart l → AreFew l
    → IsSome (branch_at q name l) → StandFor (pairs_after (reset_puts q name what l) pairs) (after_reset q name what l)
follow_reset pairs l q name what stand apart few h =
    let there = branch_there l q name h in
    let b = there.b in let r = there.r in
    let all = things pairs l stand in
    let w = wide l few in
    let number = w.number in let version = w.version in let token = w.token in
    let at = at_branch l q name r b there.in_lake there.in_it in
    let tokens : TokenMap = with_each (tokens_of b) (changes_after_reset what) b.tokens in
    let rest = with_left l apart q r there.in_lake name b there.in_it what (tokens_of b) (λ t among. among) tokens (reset_left what (tokens_of b) b.tokens) in
    let now : BranchStateValue = record b { version = l.next_version; tokens = tokens } in
    let old = spelled_branch pairs l all q r there.in_lake name b there.in_it in
    puts_of (λ b. removals_of what b ++ branch_puts q name (record b { version = l.next_version }) l.next_number (l.next_version + 1) l.next_token)
    (branch_at q name l) b at pairs (after_reset q name what l)
    (some_then pairs (removals_of what b) (branch_puts q name (record b { version = l.next_version }) l.next_number (l.next_version + 1) l.next_token)
    (after_reset q name what l)
    (branch_then (pairs_after (removals_of what b) pairs) (with_one l q rest) (after_reset q name what l) q rest name now
    l.next_number (l.next_version + 1) l.next_token (omega arith) version (omega arith) (get_inserted l.repositories q rest)
    (same_changes (get rest.branches name) (record b { tokens = tokens }) now (get_inserted r.branches name (record b { tokens = tokens })) refl)
    (record { named = old.named; valued = (omega arith, old.valued.1) })
    (record {
      repositories =
          branch_changed l q name r b (branch_after (branch.Reset what l.next_version)) there.in_lake there.in_it
          ∙ sym (insert_over l.repositories q rest (with_branch l q rest name now)
          ∙ ap (λ (m : ByteMap BranchStateValue). insert l.repositories q (record r { branches = m }))
          (insert_over r.branches name (record b { tokens = tokens }) now));
      gone = refl;
      numbers = refl;
      versions = refl;
      tokens = refl;
    })
    (stand_left l apart q r there.in_lake name b there.in_it what (tokens_of b) (λ t among. among) tokens (reset_left what (tokens_of b) b.tokens) pairs all)))
