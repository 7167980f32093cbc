-- A lake that was read from the pairs of another one is that lake, put to rest.
use Rattle.std.proofs.Common.{◌≡◌, ℕ, true, List, ◌∷◌, Option, Some, None, Result, Ok, IsSome, arith, refl, sym, ap, subst, ◌∙◌}
use Rattle.std.specs.Prelude.{is_some, option_map}
use Rattle.std.specs.List.{Contains}
use Rattle.std.specs.FinMap.{contains_key, get}
use Rattle.lake_base.specs.Maps.{HasAscendingKeys}
use Rattle.lake_base.specs.declared.digest.Digest.{Digest}
use Rattle.lake_values.specs.Ancestry.{commit_of, id_of}
use Rattle.lake_values.specs.Commit.{CommitRecordValue}
use Rattle.lake_values.specs.Settings.{RulesValue}
use Rattle.lake_values.specs.declared.settings.HookRule.{HookRule}
use Rattle.lake_values.specs.declared.settings.NoteName.{NoteName}
use Rattle.lake_values.specs.declared.settings.Note.TheVariants as setting
use Rattle.lake_values.specs.declared.settings.NoteName.TheVariants as name
use Rattle.lake_format.specs.declared.cut.Cut.{Cut}
use Rattle.meta_range.specs.Ranges.{TreeValue}
use Rattle.meta_range.specs.declared.fault.TreeFault.{TreeFault}
use Rattle.branch_record.specs.Overlay.{layers_of}
use Rattle.branch_record.specs.Record.{is_among}
use Rattle.branch_record.specs.Tokens.{changes_under}
use Rattle.byte_map.specs.Values.{map_values}
use Rattle.byte_map.proofs.ValuesLemmas.{get_map_values}
use Rattle.lake_model.specs.NoteChanges.{note_at}
use Rattle.pair_format.specs.declared.pair.Pair.{Pair}
use Rattle.pair_format.specs.declared.stored.Stored.TheVariants as stored
use Rattle.keeper.specs.Keepers.{entries_of}
use Rattle.pair_trees.specs.Things.{kept_of}
use Rattle.core_state.specs.BranchStates.{BranchStateValue, branch_of, tokens_of}
use Rattle.core_state.specs.Counts.{versions_of}
use Rattle.core_state.specs.RepositoryStates.{RepositoryStateValue, repository_of}
use Rattle.core_state.specs.LakeStates.{LakeStateValue, state_of}
use Rattle.core_standing.specs.Standing.{HasNoHistory}
use Rattle.core_pairs.specs.LakePairs.{AreTokensApart, StandFor, at_rest}
use Rattle.opening_laws.specs.ReadLakes.{IsReadFrom}
use Rattle.opening_laws.proofs.GraphLemmas.{commit_stands, commit_there, same_commits}
use Rattle.opening_laws.proofs.LayerLemmas.{among_those, behind}
use Rattle.opening_laws.proofs.PairLemmas.{some_is, stands_there}
use Rattle.opening_laws.proofs.SoundRepositoryLemmas.{some_mapped, some_there}
use Rattle.opening_laws.proofs.TieLemmas.{no_history, tokens_apart}
use Rattle.reading_again.specs.ReadableLakes.{CanBeRead, HasTexts, IsInOrder}
use Rattle.reading_again.proofs.FileTieLemmas.{has_tree}
use Rattle.reading_again.proofs.KindLemmas.{sound_here}
use Rattle.reading_again.proofs.ReadAgainLemmas.{are_tied}
use Rattle.reading_again.proofs.SameMapLemmas.{IsAlike, alike, same_found, same_layers, same_marks, same_numbers, same_tests, same_values}
use Rattle.reading_again.proofs.SameSideLemmas.{branch_moved, change_moved, moved, note_moved, repository_moved, tag_moved}

abbrev done : TreeValue → Result TreeValue TreeFault
done tree = Ok tree

one_tree : (a b : TreeValue) → done a ≡ done b → a ≡ b
one_tree a b e = cc

-- ---- a branch

module _ (pairs : List Pair) (ascend : HasAscendingKeys (entries_of pairs)) (x y : LakeStateValue) (stand_x : StandFor (kept_of pairs) x)
    (stand_y : StandFor (kept_of pairs) y) (apart_x : AreTokensApart x) (apart_y : AreTokensApart y) (repo : List ℕ) (r s : RepositoryStateValue)
    (in_x : get x.repositories repo ≡ Some r) (in_y : get y.repositories repo ≡ Some s) where
  same_branch : (name : List ℕ) (b : BranchStateValue) → get r.branches name ≡ Some b → IsAlike branch_of s.branches name b
  same_branch name b in_r =
      let other = branch_moved pairs ascend x y stand_x stand_y apart_y repo r s in_x in_y name b in_r in
      let sealed : other.one.sealed ≡ b.sealed = other.alike.1.1.1 in
      let staging : other.one.staging ≡ b.staging = other.alike.1.1.0 in
      let changes : (token : ℕ) → Contains (tokens_of b) token → changes_under b.tokens token ≡ changes_under other.one.tokens token =
      λ token has.
      let among = among_those (tokens_of b) token has in
      let names = subst (λ (these : List ℕ). is_among these token ≡ true) (λ i. sym staging i ∷ sym sealed i) among in
      same_found (changes_under b.tokens token) (changes_under other.one.tokens token)
      (change_moved pairs ascend x y stand_x stand_y apart_y repo r s in_x in_y name b other.one in_r other.in_it token names)
      (change_moved pairs ascend y x stand_y stand_x apart_x repo s r in_y in_x name other.one b other.in_it in_r token among) in
      let layers : layers_of b.tokens b.sealed ≡ layers_of other.one.tokens other.one.sealed =
      same_layers b.tokens other.one.tokens b.sealed (λ token has. changes token (behind b.staging b.sealed token has))
      ∙ ap (layers_of other.one.tokens) (sym sealed) in
      let staged : changes_under b.tokens b.staging ≡ changes_under other.one.tokens other.one.staging =
      changes b.staging (0, omega arith, refl) ∙ ap (changes_under other.one.tokens) (sym staging) in
      record {
        one = other.one;
        is = other.in_it;
        same = λ i. record { head = sym other.alike.1.0 i; sealed = layers i; staged = staged i };
      }

  same_version : (name : List ℕ) (b : BranchStateValue) → get r.branches name ≡ Some b
      → IsAlike (λ (b : BranchStateValue). b.version) s.branches name b
  same_version name b in_r =
      let other = branch_moved pairs ascend x y stand_x stand_y apart_y repo r s in_x in_y name b in_r in
      record { one = other.one; is = other.in_it; same = sym other.alike.0 }

-- ---- the lake

module _ (cut : Cut) (pairs : List Pair) (l o : LakeStateValue) (ascend : HasAscendingKeys (entries_of pairs)) (stand : StandFor (kept_of pairs) l)
    (order : IsInOrder l) (can : CanBeRead cut l) (read : IsReadFrom cut pairs o) (texts : HasTexts o) where
  apart_o : AreTokensApart o
  apart_o = tokens_apart cut pairs o ascend (are_tied cut pairs l ascend stand order can) read

  module _ (repo : List ℕ) (r s : RepositoryStateValue) (in_l : get l.repositories repo ≡ Some r) (in_o : get o.repositories repo ≡ Some s) where
    branches : map_values branch_of r.branches ≡ map_values branch_of s.branches
    branches =
        same_values branch_of r.branches s.branches (same_branch pairs ascend l o stand read.stand order.apart apart_o repo r s in_l in_o)
        (same_branch pairs ascend o l read.stand stand apart_o order.apart repo s r in_o in_l)

    pub versions : map_values (λ (b : BranchStateValue). b.version) r.branches ≡ map_values (λ (b : BranchStateValue). b.version) s.branches
    versions =
        same_values (λ (b : BranchStateValue). b.version) r.branches s.branches
        (same_version pairs ascend l o stand read.stand order.apart apart_o repo r s in_l in_o)
        (same_version pairs ascend o l read.stand stand apart_o order.apart repo s r in_o in_l)

    tags : r.tags ≡ s.tags
    tags =
        same_found r.tags s.tags (tag_moved pairs ascend l o stand read.stand apart_o repo r s in_l in_o)
        (tag_moved pairs ascend o l read.stand stand order.apart repo s r in_o in_l)

    commits : r.commits ≡ s.commits
    commits = same_commits pairs l ascend stand repo r in_l ∙ sym (same_commits pairs o ascend read.stand repo s in_o)

    -- a commit of the one lake is there in the other, expired in both or in none
    expired_alike : (id : Digest) (commit : CommitRecordValue) → commit_of r.commits id ≡ Some commit
        → contains_key r.expired id.0 ≡ contains_key s.expired id.0
    expired_alike id commit is =
        let there = stands_there pairs l ascend stand (stored.Commit repo id (contains_key r.expired id.0) commit)
        (commit_stands pairs l ascend stand repo r in_l id commit is) in
        sym (commit_there pairs o ascend read.stand repo s in_o id (contains_key r.expired id.0) commit there).1

    expired : r.expired ≡ s.expired
    expired = same_marks r.expired s.expired (λ q.
        same_tests (contains_key r.expired q) (contains_key s.expired q)
        (λ is.
        let commit = some_there (commit_of r.commits (id_of q)) ((sound_here cut pairs l ascend stand order can repo r in_l).expired (id_of q) is) in
        sym (expired_alike (id_of q) commit.one commit.is) ∙ is)
        (λ is.
        let commit = some_there (commit_of s.commits (id_of q)) (read.only_expired repo s (id_of q) in_o is) in
        expired_alike (id_of q) commit.one (ap (λ g. commit_of g (id_of q)) commits ∙ commit.is) ∙ is))

    -- the trees of a commit are one
    tree_alike : (id : Digest) (commit : CommitRecordValue) → commit_of r.commits id ≡ Some commit → get r.trees id.0 ≡ get s.trees id.0
    tree_alike id commit is =
        let there = stands_there pairs l ascend stand (stored.Commit repo id (contains_key r.expired id.0) commit)
        (commit_stands pairs l ascend stand repo r in_l id commit is) in
        let has = has_tree cut pairs l ascend stand order can repo id (contains_key r.expired id.0) commit there in
        let home : has.of_lake.r ≡ r = some_is (sym has.of_lake.in_lake ∙ in_l) in
        let own : get r.trees id.0 ≡ Some has.tree = subst (λ (r : RepositoryStateValue). get r.trees id.0 ≡ Some has.tree) home has.of_lake.at in
        let other = read.trees repo s id commit in_o (ap (λ g. commit_of g id) (sym commits) ∙ is) in
        own ∙ ap (λ t. Some t) (one_tree has.tree other.0 (sym has.read ∙ other.1.1)) ∙ sym other.1.0

    trees : r.trees ≡ s.trees
    trees = same_found r.trees s.trees
        (λ q tree is.
        let mapped = subst IsSome (sym (get_map_values (λ (t : TreeValue). t.map) r.trees q)) (some_mapped (λ (t : TreeValue). t.map) (get r.trees q)
        (ap is_some is)) in
        let commit = some_there (commit_of r.commits (id_of q)) ((sound_here cut pairs l ascend stand order can repo r in_l).maps (id_of q) mapped) in
        sym (tree_alike (id_of q) commit.one commit.is) ∙ is)
        (λ q tree is.
        let commit = some_there (commit_of s.commits (id_of q)) (read.only_trees repo s (id_of q) in_o (ap is_some is)) in
        tree_alike (id_of q) commit.one (ap (λ g. commit_of g (id_of q)) commits ∙ commit.is) ∙ is)

    note_alike : (which : NoteName) → note_at which r.notes ≡ note_at which s.notes
    note_alike which =
        alike (note_at which r.notes) (note_at which s.notes) (note_moved pairs ascend l o stand read.stand apart_o repo r s in_l in_o can.parts.texts texts which)
        (note_moved pairs ascend o l read.stand stand order.apart repo s r in_o in_l texts can.parts.texts which)

    notes : r.notes ≡ s.notes
    notes = λ i. record {
      retention = retention_is r.notes.retention s.notes.retention (note_alike name.Retention) i;
      protection = protection_is r.notes.protection s.notes.protection (note_alike name.Protection) i;
      hooks = hooks_is r.notes.hooks s.notes.hooks (note_alike name.Hooks) i;
    }
      where
        retention_is : (a b : Option RulesValue) → option_map setting.Retention a ≡ option_map setting.Retention b → a ≡ b
        retention_is None None e = refl
        retention_is None (Some z) e = absurd cc
        retention_is (Some z) None e = absurd cc
        retention_is (Some z) (Some w) e = cc

        protection_is : (a b : Option (List (List ℕ))) → option_map setting.Protection a ≡ option_map setting.Protection b → a ≡ b
        protection_is None None e = refl
        protection_is None (Some z) e = absurd cc
        protection_is (Some z) None e = absurd cc
        protection_is (Some z) (Some w) e = cc

        hooks_is : (a b : Option (List HookRule)) → option_map setting.Hooks a ≡ option_map setting.Hooks b → a ≡ b
        hooks_is None None e = refl
        hooks_is None (Some z) e = absurd cc
        hooks_is (Some z) None e = absurd cc
        hooks_is (Some z) (Some w) e = cc

    repository_same : repository_of r ≡ repository_of s
    repository_same =
        let other = repository_moved pairs ascend l o stand read.stand apart_o repo r in_l in
        let home : other.one ≡ s = some_is (sym other.in_lake ∙ in_o) in
        λ i. record {
          created = (sym other.alike.0 ∙ ap (λ (s : RepositoryStateValue). s.created) home) i;
          default_branch = (sym other.alike.1.0 ∙ ap (λ (s : RepositoryStateValue). s.default_branch) home) i;
          branches = branches i;
          tags = tags i;
          commits = commits i;
          maps = map_values (λ (t : TreeValue). t.map) (trees i);
          expired = expired i;
          notes = notes i;
        }

    settings_same : r.settings ≡ s.settings
    settings_same =
        let other = repository_moved pairs ascend l o stand read.stand apart_o repo r in_l in
        let home : other.one ≡ s = some_is (sym other.in_lake ∙ in_o) in
        sym other.alike.1.1 ∙ ap (λ (s : RepositoryStateValue). s.settings) home

  -- what is so of each repository and the other of its name is so of both lakes
  module _ {Y : Type 0} (f : RepositoryStateValue → Y)
      (same : (repo : List ℕ) (r s : RepositoryStateValue) → get l.repositories repo ≡ Some r → get o.repositories repo ≡ Some s → f r ≡ f s) where
    in_both : map_values f l.repositories ≡ map_values f o.repositories
    in_both = same_values f l.repositories o.repositories
        (λ repo r in_l.
        let other = repository_moved pairs ascend l o stand read.stand apart_o repo r in_l in
        record { one = other.one; is = other.in_lake; same = same repo r other.one in_l other.in_lake })
        (λ repo s in_o.
        let other = repository_moved pairs ascend o l read.stand stand order.apart repo s in_o in
        record { one = other.one; is = other.in_lake; same = sym (same repo other.one s other.in_lake in_o) })

  counts : (o.next_number ≡ l.next_number) × ((o.next_version ≡ l.next_version) × (o.next_token ≡ l.next_token))
  counts =
      moved pairs ascend l o stand read.stand apart_o (stored.Counts l.next_number l.next_version l.next_token) (λ file. file) (refl, (refl, refl))

  gone : l.gone ≡ o.gone
  gone = same_numbers l.gone o.gone (λ number.
      same_tests (contains_key l.gone number) (contains_key o.gone number)
      (moved pairs ascend l o stand read.stand apart_o (stored.Gone number) (λ file. file))
      (moved pairs ascend o l read.stand stand order.apart (stored.Gone number) (λ file. file)))

  fresh : HasNoHistory o
  fresh = no_history cut pairs o ascend (are_tied cut pairs l ascend stand order can) read

  pub state_same : state_of o ≡ state_of (at_rest l)
  state_same = λ i. record {
    cut = (read.cut_is ∙ sym can.cut_is) i;
    repositories = sym (in_both repository_of repository_same) i;
    next_number = counts.0 i;
    tickets = fresh.tickets i;
    gone = sym gone i;
    stopped = fresh.stopped i;
    entries = fresh.entries i;
  }

  pub versions_same : versions_of o ≡ versions_of (at_rest l)
  versions_same = λ i. record {
    next = counts.1.0 i;
    branches = sym (in_both (λ r. map_values (λ (b : BranchStateValue). b.version) r.branches) versions) i;
    settings = sym (in_both (λ r. r.settings) settings_same) i;
    references = fresh.references i;
  }

  pub token_same : o.next_token ≡ l.next_token
  token_same = counts.1.1
