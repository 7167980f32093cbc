-- The index of a lake goes on to tell of just what is kept.
use Rattle.std.proofs.Common.{◌≡◌, ℕ, List, refl, sym, ap, subst, ◌∙◌, ◌⊎◌}
use Rattle.std.specs.Prelude.{Option, Some, None, IsSome, option_map, option_and_then}
use Rattle.std.specs.Option.{option_map_or, unwrap_or}
use Rattle.std.specs.FinMap.{empty, get, insert}
use Rattle.std.specs.List.{Contains}
use Rattle.lake_base.specs.Maps.{ByteMap}
use Rattle.lake_base.specs.declared.digest.Digest.{Digest}
use Rattle.lake_values.specs.Ancestry.{Graph, commit_of}
use Rattle.lake_values.specs.Commit.{CommitRecordValue}
use Rattle.lake_values.specs.KeyMap.{KeyMapValue}
use Rattle.lake_values.specs.declared.entry.Change.{Change}
use Rattle.lake_format.specs.Cutting.{files}
use Rattle.lake_format.specs.Spelling.{commit_spelling}
use Rattle.lake_format.specs.declared.cut.Cut.{Cut}
use Rattle.meta_range.specs.Ranges.{TreeValue}
use Rattle.byte_map.specs.Values.{map_values}
use Rattle.byte_map.proofs.ByteMapLemmas.{insert_same}
use Rattle.byte_map.proofs.ValuesLemmas.{get_map_values, map_values_insert}
use Rattle.lake_model.specs.Commits.{AreKept}
use Rattle.lake_model.specs.Parts.{changed_at}
use Rattle.lake_model.specs.State.{Repository, map_of}
use Rattle.core_state.specs.Index.{HasIndex, indexed_commit}
use Rattle.core_state.specs.RepositoryStates.{RepositoryStateValue, repository_of}
use Rattle.core_state.specs.LakeStates.{LakeStateValue, state_of}
use Rattle.core_changes.specs.declared.branch.BranchChange.TheVariants.{Stage}
use Rattle.core_changes.specs.BranchChanges.{branch_after}
use Rattle.core_changes.specs.LakeChanges.{in_branch, with_entry, without_ticket}

-- ---- what is kept

-- a thing of which f makes this
pub record IsMadeOf {X Y : Type 0} (f : X → Y) (o : Option X) (y : Y) : Type 0 where
  pub one : X
  pub is : o ≡ Some one
  pub made : f one ≡ y

pub made_of : {X Y : Type 0} (f : X → Y) (o : Option X) (y : Y) → option_map f o ≡ Some y → IsMadeOf f o y
made_of f (Some x) y is = record { one = x; is = refl; made = cc }
made_of f None y is = absurd cc

-- bytes of a commit of these repositories, or of a file of its map
pub record AreKeptIn (cut : Cut) (repositories : ByteMap RepositoryStateValue) (bytes : List ℕ) : Type 0 where
  pub repo : List ℕ
  pub r : RepositoryStateValue
  pub in_lake : get repositories repo ≡ Some r
  pub id : Digest
  pub commit : CommitRecordValue
  pub in_graph : commit_of r.commits id ≡ Some commit
  pub are : (bytes ≡ commit_spelling commit) ⊎ Contains (files cut (map_of (repository_of r) id)) bytes

-- so they are in the state, and the other way round
pub in_state : (l : LakeStateValue) (bytes : List ℕ) → AreKeptIn l.cut l.repositories bytes → AreKept (state_of l) bytes
in_state l bytes kept = record {
  repo = kept.repo;
  r = repository_of kept.r;
  in_lake = get_map_values repository_of l.repositories kept.repo ∙ ap (option_map repository_of) kept.in_lake;
  id = kept.id;
  commit = kept.commit;
  in_graph = kept.in_graph;
  are = kept.are;
}

pub of_state : (l : LakeStateValue) (bytes : List ℕ) → AreKept (state_of l) bytes → AreKeptIn l.cut l.repositories bytes
of_state l bytes kept =
    let found = made_of repository_of (get l.repositories kept.repo) kept.r (sym (get_map_values repository_of l.repositories kept.repo) ∙ kept.in_lake) in
    record {
      repo = kept.repo;
      r = found.one;
      in_lake = found.is;
      id = kept.id;
      commit = kept.commit;
      in_graph = ap (λ (r : Repository). commit_of r.commits kept.id) found.made ∙ kept.in_graph;
      are = subst (λ (r : Repository). (bytes ≡ commit_spelling kept.commit) ⊎ Contains (files l.cut (map_of r kept.id)) bytes) (sym found.made) kept.are;
    }

-- ---- changes that keep commits and trees

-- the commits of a repository, and their trees
pub record Held : Type 0 where
  pub commits : Graph
  pub trees : ByteMap TreeValue

abbrev pub held : RepositoryStateValue → Held
held r = record { commits = r.commits; trees = r.trees }

-- the map of a commit, of its tree
abbrev held_map : Held → Digest → KeyMapValue
held_map h id = unwrap_or (get (map_values (λ tree. tree.map) h.trees) id.0) empty

-- a repository is changed whose commits and trees stay
pub held_stays : (map : ByteMap RepositoryStateValue) (repo : List ℕ) (change : RepositoryStateValue → RepositoryStateValue)
    → ((r : RepositoryStateValue) → held (change r) ≡ held r) → map_values held (changed_at repo change map) ≡ map_values held map
held_stays map repo change same = by (get map repo) refl
  where
    by : (o : Option RepositoryStateValue) → get map repo ≡ o → map_values held (option_map_or (λ r. insert map repo (change r)) o map) ≡ map_values held map
    by None is = refl
    by (Some r) is =
        map_values_insert held map repo (change r) ∙ ap (insert (map_values held map) repo) (same r)
        ∙ insert_same (map_values held map) repo (held r) (get_map_values held map repo ∙ ap (option_map held) is)

-- a lake whose repositories have the same commits and trees
module _ (l m : LakeStateValue) (same : map_values held m.repositories ≡ map_values held l.repositories) where
  there : (one other : ByteMap RepositoryStateValue) → map_values held one ≡ map_values held other → (repo : List ℕ) (r : RepositoryStateValue)
      → get one repo ≡ Some r → IsMadeOf held (get other repo) (held r)
  there one other same repo r is =
      made_of held (get other repo) (held r)
      (sym (get_map_values held other repo) ∙ ap (λ map. get map repo) (sym same) ∙ get_map_values held one repo ∙ ap (option_map held) is)

  abbrev before : (repo : List ℕ) (r : RepositoryStateValue) → get m.repositories repo ≡ Some r → IsMadeOf held (get l.repositories repo) (held r)
  before = there m.repositories l.repositories same

  -- with the same cut and the same index
  abbrev now : LakeStateValue
  now = record m { cut = l.cut; names = l.names }

  of_held : (id : Digest) (o : Option RepositoryStateValue)
      → option_and_then (λ r. commit_of r.commits id) o ≡ option_and_then (λ h. commit_of h.commits id) (option_map held o)
  of_held id None = refl
  of_held id (Some r) = refl

  found_in : (id : Digest) (map : ByteMap RepositoryStateValue) (repo : List ℕ)
      → option_and_then (λ r. commit_of r.commits id) (get map repo) ≡ option_and_then (λ h. commit_of h.commits id) (get (map_values held map) repo)
  found_in id map repo =
      of_held id (get map repo) ∙ ap (option_and_then (λ (h : Held). commit_of h.commits id)) (sym (get_map_values held map repo))

  -- the same is found by an id
  same_found : (id : Digest) → indexed_commit now id ≡ indexed_commit l id
  same_found id =
      let each = λ (repo : List ℕ). found_in id m.repositories repo
      ∙ ap (λ map. option_and_then (λ (h : Held). commit_of h.commits id) (get map repo)) same ∙ sym (found_in id l.repositories repo) in
      λ i. option_and_then (λ repo. each repo i) (get l.names.homes id.0)

  -- the same is kept
  still_kept : (bytes : List ℕ) → AreKeptIn l.cut l.repositories bytes → AreKeptIn l.cut m.repositories bytes
  still_kept bytes kept =
      let found = there l.repositories m.repositories (sym same) kept.repo kept.r kept.in_lake in
      record {
        repo = kept.repo;
        r = found.one;
        in_lake = found.is;
        id = kept.id;
        commit = kept.commit;
        in_graph = ap (λ (h : Held). commit_of h.commits kept.id) found.made ∙ kept.in_graph;
        are = subst (λ (h : Held). (bytes ≡ commit_spelling kept.commit) ⊎ Contains (files l.cut (held_map h kept.id)) bytes) (sym found.made) kept.are;
      }

  -- the index tells of them
  pub index_stays : HasIndex l → HasIndex now
  index_stays has = record {
    commits = λ repo r id commit is there.
        let found = before repo r is in
        ap (option_map commit_spelling) (same_found id)
        ∙ has.commits repo found.one id commit found.is (ap (λ (h : Held). commit_of h.commits id) found.made ∙ there);
    trees = λ repo r id tree is there.
        let found = before repo r is in
        has.trees repo found.one id tree found.is (ap (λ (h : Held). get h.trees id.0) found.made ∙ there);
    files = λ repo r id bytes is there within.
        let found = before repo r is in
        has.files repo found.one id bytes found.is
        (subst (λ (h : Held). IsSome (commit_of h.commits id)) (sym found.made) there)
        (subst (λ (h : Held). Contains (files l.cut (held_map h id)) bytes) (sym found.made) within);
    named = has.named;
    kept = λ name bytes is. in_state now bytes (still_kept bytes (of_state l bytes (has.kept name bytes is)));
  }

-- a repository of it is changed
pub index_changed : (l m : LakeStateValue) (repo : List ℕ) (change : RepositoryStateValue → RepositoryStateValue)
    → ((r : RepositoryStateValue) → held (change r) ≡ held r)
    → HasIndex l → HasIndex (record m { cut = l.cut; names = l.names; repositories = changed_at repo change l.repositories })
index_changed l m repo change same =
    index_stays l (record m { repositories = changed_at repo change l.repositories }) (held_stays l.repositories repo change same)

-- a change is staged, and the ticket of its number goes
pub index_ticketed : (l : LakeStateValue) (repo name path : List ℕ) (change : Change) (number : Option ℕ)
    → HasIndex l → HasIndex (with_entry (in_branch repo name (branch_after (Stage path change)) (option_map_or (λ n. without_ticket n l) number l)))
index_ticketed l repo name path change None has =
    index_changed l (with_entry l) repo (λ r. record r { branches = changed_at name (branch_after (Stage path change)) r.branches }) (λ r. refl) has
index_ticketed l repo name path change (Some number) has =
    index_changed l (with_entry (without_ticket number l)) repo (λ r. record r { branches = changed_at name (branch_after (Stage path change)) r.branches })
    (λ r. refl) has
