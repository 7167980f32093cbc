-- A repository that was read from tied pairs is sound.
use Rattle.std.proofs.Common.{◌≡◌, ℕ, false, List, Option, Some, None, Ok, IsSome, refl, sym, ap, subst, ◌∙◌}
use Rattle.std.specs.Prelude.{is_some, option_map}
use Rattle.std.specs.Option.{unwrap_or}
use Rattle.std.specs.FinMap.{empty, get}
use Rattle.lake_base.specs.Maps.{HasAscendingKeys}
use Rattle.lake_base.specs.Names.{is_like_id}
use Rattle.lake_base.specs.declared.digest.Digest.{Digest}
use Rattle.lake_values.specs.Ancestry.{commit_of}
use Rattle.lake_values.specs.Commit.{CommitRecordValue}
use Rattle.lake_format.specs.Cutting.{tree_id}
use Rattle.lake_format.specs.Spelling.{file_name}
use Rattle.lake_format.specs.declared.cut.Cut.{Cut}
use Rattle.meta_range.specs.Ranges.{TreeValue, first_file}
use Rattle.meta_range.proofs.LawLemmas.{first_is}
use Rattle.byte_map.specs.Values.{map_values}
use Rattle.byte_map.proofs.ValuesLemmas.{get_map_values}
use Rattle.lake_model.specs.State.{Branch, HasLiveCommit, map_of}
use Rattle.lake_model.specs.Soundness.{IsSoundRepository}
use Rattle.pair_format.specs.declared.pair.Pair.{Pair}
use Rattle.pair_format.specs.declared.stored.Stored.TheVariants as stored
use Rattle.keeper.specs.Keepers.{entries_of}
use Rattle.pair_trees.specs.PairTrees.{tree_named}
use Rattle.pair_trees.specs.Things.{HasLiveCommit as HasLivePair, IsThere, things_of}
use Rattle.pair_trees.proofs.ProvenanceLemmas.{metarange_there, read_cut}
use Rattle.pair_ties.specs.PairTies.{AreTied as AreTiedPairs, IsTiedTag}
use Rattle.core_state.specs.BranchStates.{branch_of}
use Rattle.core_state.specs.RepositoryStates.{RepositoryStateValue, repository_of}
use Rattle.core_state.specs.LakeStates.{LakeStateValue}
use Rattle.core_pairs.specs.LakePairs.{StandsIn}
use Rattle.core_pairs.proofs.ThingLemmas.{IsRecord, branch_opened, closed}
use Rattle.opening_laws.specs.ReadLakes.{IsReadFrom}
use Rattle.opening_laws.proofs.GraphLemmas.{commit_there, commit_tie, graph}
use Rattle.opening_laws.proofs.KeyLemmas.{branch_of_key}
use Rattle.opening_laws.proofs.PairLemmas.{limits, some_is, there_stands}
use Rattle.opening_laws.proofs.TieLemmas.{branch_stands, branch_tie, repository_tie, tie_of}

-- ---- what is there

pub record IsThereSome {X : Type 0} (o : Option X) : Type 0 where
  pub one : X
  pub is : o ≡ Some one

pub some_there : {X : Type 0} (o : Option X) → IsSome o → IsThereSome o
some_there None some = absurd cc
some_there (Some x) some = record { one = x; is = refl }

-- of a map with other values
pub record IsMappedFrom {X Y : Type 0} (f : X → Y) (o : Option X) (y : Y) : Type 0 where
  pub one : X
  pub is : o ≡ Some one
  pub same : f one ≡ y

pub mapped_from : {X Y : Type 0} (f : X → Y) (o : Option X) (y : Y) → option_map f o ≡ Some y → IsMappedFrom f o y
mapped_from f None y e = absurd cc
mapped_from f (Some x) y e = record { one = x; is = refl; same = some_is e }

pub mapped_some : {X Y : Type 0} (f : X → Y) (o : Option X) → IsSome (option_map f o) → IsSome o
mapped_some f None some = absurd cc
mapped_some f (Some x) some = refl

pub some_mapped : {X Y : Type 0} (f : X → Y) (o : Option X) → IsSome o → IsSome (option_map f o)
some_mapped f None some = absurd cc
some_mapped f (Some x) some = refl

-- ---- a repository

module _ (cut : Cut) (pairs : List Pair) (l : LakeStateValue) (ascend : HasAscendingKeys (entries_of pairs)) (tied : AreTiedPairs cut (things_of pairs))
    (read : IsReadFrom cut pairs l) (repo : List ℕ) (r : RepositoryStateValue) (in_lake : get l.repositories repo ≡ Some r) where
  -- a commit of which the pairs say that it isn't expired is live
  live : (id : Digest) → HasLivePair (things_of pairs) repo id → HasLiveCommit (repository_of r) id
  live id has =
      let one = commit_there pairs l ascend read.stand repo r in_lake id false has.commit has.there in
      (ap is_some one.0, one.1)

  default : IsSome (get (map_values branch_of r.branches) r.default_branch)
  default =
      let has = (repository_tie cut pairs l ascend tied read repo r in_lake).default in
      let thing = branch_of_key has.thing repo r.default_branch has.under in
      let there = subst (IsThere (things_of pairs)) thing.is has.there in
      let b = branch_opened l repo r.default_branch (IsRecord thing.version thing.head thing.staging thing.sealed)
      (there_stands pairs l ascend read.stand
      (stored.Branch repo r.default_branch thing.version thing.head thing.staging thing.sealed) (λ file. file) there) in
      let same : b.r ≡ r = some_is (sym b.in_lake ∙ in_lake) in
      let found : get r.branches r.default_branch ≡ Some b.b = subst (λ x. get x.branches r.default_branch ≡ Some b.b) same b.in_it in
      subst IsSome (sym (get_map_values branch_of r.branches r.default_branch ∙ ap (option_map branch_of) found)) refl

  plain_branch : (name : List ℕ) → IsSome (get (map_values branch_of r.branches) name) → is_like_id name ≡ false
  plain_branch name some =
      let b = some_there (get r.branches name) (mapped_some branch_of (get r.branches name) (subst IsSome (get_map_values branch_of r.branches name) some)) in
      (read.stand.spelled (stored.Branch repo name b.one.version b.one.head b.one.staging b.one.sealed)
      (branch_stands cut pairs l ascend tied read repo r in_lake name b.one b.is)).named.1.unlike

  tag_stands : (name : List ℕ) (id : Digest) → get r.tags name ≡ Some id → StandsIn l (stored.Tag repo name id)
  tag_stands name id is = closed (get l.repositories repo) (λ r. get r.tags name ≡ Some id) r in_lake is

  plain_tag : (name : List ℕ) → IsSome (get r.tags name) → is_like_id name ≡ false
  plain_tag name some =
      let tag = some_there (get r.tags name) some in
      (read.stand.spelled (stored.Tag repo name tag.one) (tag_stands name tag.one tag.is)).named.1.unlike

  head : (name : List ℕ) (b : Branch) → get (map_values branch_of r.branches) name ≡ Some b → HasLiveCommit (repository_of r) b.head
  head name b is =
      let from = mapped_from branch_of (get r.branches name) b (sym (get_map_values branch_of r.branches name) ∙ is) in
      subst (λ (b : Branch). HasLiveCommit (repository_of r) b.head) from.same
      (live from.one.head (branch_tie cut pairs l ascend tied read repo r in_lake name from.one from.is).live)

  tagged : (name : List ℕ) (id : Digest) → get r.tags name ≡ Some id → HasLiveCommit (repository_of r) id
  tagged name id is = live id (tag_tie (tie_of cut pairs l ascend tied read (stored.Tag repo name id) (tag_stands name id is)).tie)
    where
      tag_tie : IsTiedTag (things_of pairs) repo id → HasLivePair (things_of pairs) repo id
      tag_tie tie = tie.live

  -- the map of a commit is that of its tree
  module _ (id : Digest) (commit : CommitRecordValue) (is : commit_of r.commits id ≡ Some commit) where
    abbrev pub tree : TreeValue
    tree = (read.trees repo r id commit in_lake is).0

    pub tree_there : get r.trees id.0 ≡ Some tree
    tree_there = (read.trees repo r id commit in_lake is).1.0

    pub tree_read : tree_named cut (things_of pairs) commit ≡ Ok tree
    tree_read = (read.trees repo r id commit in_lake is).1.1

    pub map_is : map_of (repository_of r) id ≡ tree.map
    map_is =
        ap (λ o. unwrap_or o empty) (get_map_values (λ (t : TreeValue). t.map) r.trees id.0 ∙ ap (option_map (λ (t : TreeValue). t.map)) tree_there)

    named_so : commit.meta_range ≡ tree_id l.cut (map_of (repository_of r) id)
    named_so =
        let known = limits pairs l ascend read.stand in
        (metarange_there cut (things_of pairs) known commit tree tree_read).1
        ∙ ap (λ fs. file_name (first_file fs)) (read_cut cut (things_of pairs) known commit tree tree_read)
        ∙ sym (first_is cut tree.map)
        ∙ ap (λ c. tree_id c tree.map) (sym read.cut_is)
        ∙ ap (tree_id l.cut) (sym map_is)

    mapped_so : IsSome (get (map_values (λ (t : TreeValue). t.map) r.trees) id.0)
    mapped_so =
        subst IsSome (sym (get_map_values (λ (t : TreeValue). t.map) r.trees id.0 ∙ ap (option_map (λ (t : TreeValue). t.map)) tree_there)) refl

  mapped : (id : Digest) → IsSome (commit_of r.commits id) → IsSome (get (map_values (λ (t : TreeValue). t.map) r.trees) id.0)
  mapped id some = let commit = some_there (commit_of r.commits id) some in mapped_so id commit.one commit.is

  maps : (id : Digest) → IsSome (get (map_values (λ (t : TreeValue). t.map) r.trees) id.0) → IsSome (commit_of r.commits id)
  maps id some =
      read.only_trees repo r id in_lake
      (mapped_some (λ (t : TreeValue). t.map) (get r.trees id.0) (subst IsSome (get_map_values (λ (t : TreeValue). t.map) r.trees id.0) some))

  pub sound_repository : IsSoundRepository l.cut (repository_of r)
  sound_repository = record {
    default = default;
    plain_branches = plain_branch;
    plain_tags = plain_tag;
    heads = head;
    tagged = tagged;
    graph = graph cut pairs l ascend tied read repo r in_lake;
    ids = λ id commit is. sym (commit_tie cut pairs l ascend tied read repo r in_lake id commit is).named;
    trees = named_so;
    mapped = mapped;
    maps = maps;
    expired = λ id expired. read.only_expired repo r id in_lake expired;
  }
