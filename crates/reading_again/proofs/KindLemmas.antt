-- What stands in a lake in order is tied among the pairs that stand for it, kind by kind.
use Rattle.std.proofs.Common.{◌≡◌, inl, inr, ℕ, ◌<◌, Bool, true, false, List, [], ◌∷◌, take, Some, IsSome, IsSomeAnd}
use Rattle.std.proofs.Common.{refl, sym, ap, subst, ◌∙◌, arith}
use Rattle.std.specs.Prelude.{is_some, option_map}
use Rattle.std.specs.Option.{option_and_then, unwrap_or}
use Rattle.std.specs.FinMap.{contains_key, get}
use Rattle.std.proofs.lemmas.Bool.{cases_Bool}
use Rattle.lake_base.specs.Maps.{HasAscendingKeys}
use Rattle.lake_base.specs.declared.digest.Digest.{Digest}
use Rattle.lake_values.specs.Ancestry.{IsDue, commit_of}
use Rattle.lake_values.specs.Commit.{CommitRecordValue}
use Rattle.lake_values.specs.declared.settings.NoteName.{NoteName}
use Rattle.lake_format.specs.Spelling.{commit_spelling}
use Rattle.lake_format.specs.declared.cut.Cut.{Cut}
use Rattle.branch_record.specs.Record.{is_among}
use Rattle.byte_map.specs.Values.{map_values}
use Rattle.byte_map.proofs.ValuesLemmas.{get_map_values}
use Rattle.commit_graph.proofs.ReadingLemmas.{apart as commit_apart}
use Rattle.lake_model.specs.Soundness.{IsSoundRepository}
use Rattle.lake_model.specs.State.{HasLiveCommit}
use Rattle.lake_model.specs.Versions.{branch_version, settings_version}
use Rattle.pair_format.specs.declared.key.OwnedKey.TheVariants as key
use Rattle.pair_format.specs.declared.pair.Pair.{Pair}
use Rattle.pair_format.specs.declared.stored.Stored.{Stored}
use Rattle.pair_format.specs.declared.stored.Stored.TheVariants as stored
use Rattle.keeper.specs.Keepers.{entries_of}
use Rattle.pair_trees.specs.SettingTexts.{IsTextOf}
use Rattle.pair_trees.specs.Things.{HasKey, HasLiveCommit as HasLivePair, IsGivenNumber, IsGivenToken, IsGivenVersion, IsThere, Spells, Things}
use Rattle.pair_trees.specs.Things.{kept_of, things_of, tokens_in, tokens_named}
use Rattle.pair_trees.proofs.ThingsLemmas.{spells_there}
use Rattle.pair_ties.specs.PairTies.{IsTiedBranch, IsTiedCommit, IsTiedCounts, IsTiedNote, IsTiedRepository, IsTiedTag}
use Rattle.core_state.specs.BranchStates.{BranchStateValue, branch_of, tokens_of}
use Rattle.core_state.specs.Counts.{versions_of}
use Rattle.core_state.specs.RepositoryStates.{RepositoryStateValue, repository_of}
use Rattle.core_state.specs.LakeStates.{LakeStateValue}
use Rattle.core_puts.specs.Puts.{note_text}
use Rattle.core_pairs.specs.LakePairs.{StandFor, StandsIn}
use Rattle.core_pairs.proofs.ThingLemmas.{HasCommitOf, IsRecord, IsRepository, branch_closed, branch_opened, closed, opened}
use Rattle.lake_model.specs.NoteChanges.{note_at}
use Rattle.opening_laws.proofs.GraphLemmas.{commit_stands, same_commits}
use Rattle.opening_laws.proofs.PairLemmas.{some_is, stands_there, there_stands}
use Rattle.opening_laws.proofs.SoundRepositoryLemmas.{mapped_some, some_there}
use Rattle.reading_again.specs.ReadableLakes.{CanBeRead, IsInOrder}
use Rattle.reading_again.proofs.PlaceLemmas.{IsNamedBefore, named_by, one_place}

module _ (cut : Cut) (pairs : List Pair) (l : LakeStateValue) (ascend : HasAscendingKeys (entries_of pairs)) (stand : StandFor (kept_of pairs) l)
    (order : IsInOrder l) (can : CanBeRead cut l) where
  abbrev things : Things
  things = things_of pairs

  -- ---- what was given out

  counts_are : (number version token : ℕ) → IsThere things (stored.Counts number version token)
      → (l.next_number ≡ number) × ((l.next_version ≡ version) × (l.next_token ≡ token))
  counts_are number version token there = there_stands pairs l ascend stand (stored.Counts number version token) (λ file. file) there

  pub number_told : (given : ℕ) → given < l.next_number → IsGivenNumber things given
  number_told given less number version token there = subst (λ n. given < n) (counts_are number version token there).0 less

  pub version_told : (given : ℕ) → given < l.next_version → IsGivenVersion things given
  version_told given less number version token there = subst (λ n. given < n) (counts_are number version token there).1.0 less

  pub token_told : (given : ℕ) → given < l.next_token → IsGivenToken things given
  token_told given less number version token there = subst (λ n. given < n) (counts_are number version token there).1.1 less

  pub counts_tied : (number version token : ℕ) → StandsIn l (stored.Counts number version token) → IsTiedCounts number version token
  counts_tied number version token (a, (b, c)) =
      let some = order.versions.settings [] in
      let none : 0 < l.next_version = omega (arith, some) in
      record {
        small_number = omega (arith, a, can.small_number);
        small_version = omega (arith, b, can.small_version);
        small_token = omega (arith, c, can.small_token);
        some_version = omega (arith, b, none);
      }

  pub gone_tied : (number : ℕ) → StandsIn l (stored.Gone number) → IsGivenNumber things number
  gone_tied number h = number_told number (order.sound.gone number h)

  -- ---- in a repository

  module _ (repo : List ℕ) (r : RepositoryStateValue) (in_lake : get l.repositories repo ≡ Some r) where
    pub sound_here : IsSoundRepository l.cut (repository_of r)
    sound_here =
        order.sound.repositories repo (repository_of r)
        (get_map_values repository_of l.repositories repo ∙ ap (option_map repository_of) in_lake)

    pub repository_there : HasKey things (key.Repository repo)
    repository_there = record {
      thing = stored.Repository repo r.created r.default_branch r.settings;
      there =
          stands_there pairs l ascend stand (stored.Repository repo r.created r.default_branch r.settings)
          (closed (get l.repositories repo) (IsRepository r.created r.default_branch r.settings) r in_lake (refl, (refl, refl)));
      under = refl;
    }

    live_there : (id : Digest) → HasLiveCommit (repository_of r) id → HasLivePair things repo id
    live_there id live =
        let commit = some_there (commit_of r.commits id) live.0 in
        record {
          commit = commit.one;
          there =
              subst (λ expired. IsThere things (stored.Commit repo id expired commit.one)) live.1
              (stands_there pairs l ascend stand (stored.Commit repo id (contains_key r.expired id.0) commit.one)
              (commit_stands pairs l ascend stand repo r in_lake id commit.one commit.is));
        }

    pub branch_there : (name : List ℕ) (b : BranchStateValue) → get r.branches name ≡ Some b
        → IsThere things (stored.Branch repo name b.version b.head b.staging b.sealed)
    branch_there name b in_it =
        stands_there pairs l ascend stand (stored.Branch repo name b.version b.head b.staging b.sealed)
        (branch_closed l repo name (IsRecord b.version b.head b.staging b.sealed) r b in_lake in_it (refl, (refl, (refl, refl))))

    -- the versions of its settings and of its branches are those that the lake tells of
    settings_told : settings_version (versions_of l) repo ≡ r.settings
    settings_told =
        ap (λ o. unwrap_or o 0)
        (get_map_values (λ (r : RepositoryStateValue). r.settings) l.repositories repo ∙ ap (option_map (λ (r : RepositoryStateValue). r.settings)) in_lake)

    branch_told : (name : List ℕ) (b : BranchStateValue) → get r.branches name ≡ Some b → branch_version (versions_of l) repo name ≡ b.version
    branch_told name b in_it =
        ap (λ o. unwrap_or (option_and_then (λ given. get given name) o) 0)
        (get_map_values (λ (r : RepositoryStateValue). map_values (λ (b : BranchStateValue). b.version) r.branches) l.repositories repo
        ∙ ap (option_map (λ (r : RepositoryStateValue). map_values (λ (b : BranchStateValue). b.version) r.branches)) in_lake)
        ∙ ap (λ o. unwrap_or o 0)
        (get_map_values (λ (b : BranchStateValue). b.version) r.branches name ∙ ap (option_map (λ (b : BranchStateValue). b.version)) in_it)

    repository_so : IsTiedRepository things repo r.default_branch r.settings
    repository_so =
        let b = some_there (get r.branches r.default_branch)
        (mapped_some branch_of (get r.branches r.default_branch)
        (subst IsSome (get_map_values branch_of r.branches r.default_branch) sound_here.default)) in
        record {
          default = record {
            thing = stored.Branch repo r.default_branch b.one.version b.one.head b.one.staging b.one.sealed;
            there = branch_there r.default_branch b.one b.is;
            under = refl;
          };
          given = version_told r.settings (subst (λ v. v < l.next_version) settings_told (order.versions.settings repo));
        }

    -- ---- a branch

    module _ (name : List ℕ) (b : BranchStateValue) (in_it : get r.branches name ≡ Some b) (n : ℕ)
        (here : Spells things n (stored.Branch repo name b.version b.head b.staging b.sealed)) where
      -- no branch before names a token of it
      not_before : (token : ℕ) → is_among (tokens_of b) token ≡ true → IsNamedBefore things n token → ⊥
      not_before token among before = by before.thing before.spelled before.among
        where
          by : (s : Stored) → Spells things before.place s → is_among (tokens_in (Some s)) token ≡ true → ⊥
          by (stored.Branch home other version head staging sealed) spelled among_other =
              let x = branch_opened l home other (IsRecord version head staging sealed)
              (there_stands pairs l ascend stand (stored.Branch home other version head staging sealed) (λ file. file)
              (spells_there things before.place (stored.Branch home other version head staging sealed) spelled)) in
              let tokens : tokens_of x.b ≡ staging ∷ sealed = λ i. x.holds.1.1.0 i ∷ x.holds.1.1.1 i in
              let same = order.apart.apart token repo name home other
              (branch_closed l repo name (λ b. is_among (tokens_of b) token ≡ true) r b in_lake in_it among)
              (branch_closed l home other (λ b. is_among (tokens_of b) token ≡ true) x.r x.b x.in_lake x.in_it
              (ap (λ these. is_among these token) tokens ∙ among_other)) in
              let place : before.place ≡ n =
              one_place pairs l ascend stand before.place n (stored.Branch home other version head staging sealed)
              (stored.Branch repo name b.version b.head b.staging b.sealed) spelled here (λ i. key.Branch (sym same.0 i) (sym same.1 i)) in
              omega (arith, place, before.less)
          by (stored.Repository home created default_branch settings) spelled e = absurd cc
          by (stored.Tag home tag commit) spelled e = absurd cc
          by (stored.Commit home id expired commit) spelled e = absurd cc
          by (stored.MetaRange file bytes) spelled e = absurd cc
          by (stored.Range file bytes) spelled e = absurd cc
          by (stored.Staged held path change) spelled e = absurd cc
          by (stored.Note home note text) spelled e = absurd cc
          by (stored.Gone number) spelled e = absurd cc
          by (stored.Counts number version next) spelled e = absurd cc

      fresh : (token : ℕ) → is_among (tokens_of b) token ≡ true → is_among (tokens_named (take n things)) token ≡ false
      fresh token among =
          elim (cases_Bool (is_among (tokens_named (take n things)) token)) [
            | inl named ↦ absurd (not_before token among (named_by things n token named))
            | inr none ↦ none
          ]

      pub branch_so : IsTiedBranch things n repo b.version b.head (tokens_of b)
      branch_so =
          let below = order.tokens repo r name b in_lake in_it in
          record {
            repository = repository_there;
            live =
                live_there b.head (sound_here.heads name (branch_of b) (get_map_values branch_of r.branches name ∙ ap (option_map branch_of) in_it));
            given =
                version_told b.version
                (subst (λ v. v < l.next_version) (branch_told name b in_it) (order.versions.branches repo name));
            tokens_given = λ token among. token_told token (below.named token among);
            distinct = below.distinct;
            fresh = fresh;
          }

    -- ---- a commit

    -- commits of one id are one
    one_commit : (id : Digest) (commit : CommitRecordValue) → commit_of r.commits id ≡ Some commit → (home : List ℕ) (expired : Bool)
        (other : CommitRecordValue) → StandsIn l (stored.Commit home id expired other) → other ≡ commit
    one_commit id commit is home expired other h =
        let x = opened (get l.repositories home) (HasCommitOf id expired other) h in
        let bytes : commit_spelling other ≡ commit_spelling commit =
        some_is (sym (order.index.commits home x.one id other x.is x.holds.0) ∙ order.index.commits repo r id commit in_lake is) in
        commit_apart other commit (stand.spelled (stored.Commit home id expired other) h).valued
        (stand.spelled (stored.Commit repo id (contains_key r.expired id.0) commit)
        (commit_stands pairs l ascend stand repo r in_lake id commit is)).valued bytes

    pub commit_so : (n : ℕ) (id : Digest) (commit : CommitRecordValue) → commit_of r.commits id ≡ Some commit → IsTiedCommit things n repo id commit
    commit_so n id commit is = record {
      repository = repository_there;
      due = subst (λ g. IsDue g id) (same_commits pairs l ascend stand repo r in_lake) (sound_here.graph id (ap is_some is));
      named = sym (sound_here.ids id commit is);
      same = λ k home expired other lt spelled.
          one_commit id commit is home expired other
          (there_stands pairs l ascend stand (stored.Commit home id expired other) (λ file. file)
          (spells_there things k (stored.Commit home id expired other) spelled));
    }

    pub tag_so : (tag : List ℕ) (id : Digest) → get r.tags tag ≡ Some id → IsTiedTag things repo id
    tag_so tag id is = record { repository = repository_there; live = live_there id (sound_here.tagged tag id is) }

  -- ---- by what is stored

  pub repository_tied : (repo : List ℕ) (created : ℕ) (default_branch : List ℕ) (settings : ℕ)
      → StandsIn l (stored.Repository repo created default_branch settings)
      → IsTiedRepository things repo default_branch settings
  repository_tied repo created default_branch settings h =
      let r = opened (get l.repositories repo) (IsRepository created default_branch settings) h in
      subst (λ v. IsTiedRepository things repo default_branch v) r.holds.1.1
      (subst (λ name. IsTiedRepository things repo name r.one.settings) r.holds.1.0 (repository_so repo r.one r.is))

  pub branch_tied : (n : ℕ) (repo name : List ℕ) (version : ℕ) (head : Digest) (staging : ℕ) (sealed : List ℕ)
      → StandsIn l (stored.Branch repo name version head staging sealed) → Spells things n (stored.Branch repo name version head staging sealed)
      → IsTiedBranch things n repo version head (staging ∷ sealed)
  branch_tied n repo name version head staging sealed h here =
      let x = branch_opened l repo name (IsRecord version head staging sealed) h in
      let same : stored.Branch repo name version head staging sealed ≡ stored.Branch repo name x.b.version x.b.head x.b.staging x.b.sealed =
      λ i. stored.Branch repo name (sym x.holds.0 i) (sym x.holds.1.0 i) (sym x.holds.1.1.0 i) (sym x.holds.1.1.1 i) in
      let so = branch_so repo x.r x.in_lake name x.b x.in_it n (subst (Spells things n) same here) in
      subst (λ v. IsTiedBranch things n repo v head (staging ∷ sealed)) x.holds.0
      (subst (λ d. IsTiedBranch things n repo x.b.version d (staging ∷ sealed)) x.holds.1.0
      (subst (IsTiedBranch things n repo x.b.version x.b.head) (λ i. x.holds.1.1.0 i ∷ x.holds.1.1.1 i) so))

  pub tag_tied : (repo tag : List ℕ) (id : Digest) → StandsIn l (stored.Tag repo tag id) → IsTiedTag things repo id
  tag_tied repo tag id h =
      let r = opened (get l.repositories repo) (λ r. get r.tags tag ≡ Some id) h in
      tag_so repo r.one r.is tag id r.holds

  pub commit_tied : (n : ℕ) (repo : List ℕ) (id : Digest) (expired : Bool) (commit : CommitRecordValue) → StandsIn l (stored.Commit repo id expired commit)
      → IsTiedCommit things n repo id commit
  commit_tied n repo id expired commit h =
      let r = opened (get l.repositories repo) (HasCommitOf id expired commit) h in
      commit_so repo r.one r.is n id commit r.holds.0

  pub note_tied : (repo : List ℕ) (name : NoteName) (text : List ℕ) → StandsIn l (stored.Note repo name text) → IsTiedNote things repo name text
  note_tied repo name text h =
      let r = opened (get l.repositories repo) (λ r. IsSomeAnd (note_at name r.notes) (λ note. note_text note ≡ text)) h in
      let note = opened (note_at name r.one.notes) (λ note. note_text note ≡ text) r.holds in
      record {
        repository = repository_there repo r.one r.is;
        kept = (note.one, subst (λ t. IsTextOf name t note.one) note.holds (can.parts.texts repo r.one name note.one r.is note.is));
      }
