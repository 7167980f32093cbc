-- The commits of a repository that was read are those that its pairs spell.
use Rattle.std.proofs.Common.{◌≡◌, ℕ, Bool, List, Option, Some, None, IsSome, refl, sym, subst, ◌∙◌}
use Rattle.std.specs.FinMap.{contains_key, get}
use Rattle.lake_base.specs.Maps.{HasAscendingKeys}
use Rattle.lake_base.specs.declared.digest.Digest.{Digest}
use Rattle.lake_values.specs.Ancestry.{IsDue, IsGraph, commit_of, id_of}
use Rattle.lake_values.specs.Commit.{CommitRecordValue}
use Rattle.lake_format.specs.declared.cut.Cut.{Cut}
use Rattle.byte_map.proofs.ByteMapLemmas.{same_maps}
use Rattle.pair_format.specs.declared.key.OwnedKey.TheVariants as key
use Rattle.pair_format.specs.declared.pair.Pair.{Pair}
use Rattle.pair_format.specs.declared.stored.Stored.TheVariants as stored
use Rattle.keeper.specs.Keepers.{entries_of}
use Rattle.pair_trees.specs.Found.{IsOnlyCommit}
use Rattle.pair_trees.specs.Things.{HasKey, IsThere, Things, commits_in, kept_of, things_of}
use Rattle.pair_ties.specs.PairTies.{AreTied as AreTiedPairs, IsTiedCommit}
use Rattle.pair_ties.proofs.DueLemmas.{graph_absent, graph_found}
use Rattle.core_state.specs.RepositoryStates.{RepositoryStateValue}
use Rattle.core_state.specs.LakeStates.{LakeStateValue}
use Rattle.core_pairs.specs.LakePairs.{StandFor, StandsIn}
use Rattle.core_pairs.proofs.ThingLemmas.{HasCommitOf, closed, opened}
use Rattle.opening_laws.specs.ReadLakes.{IsReadFrom}
use Rattle.opening_laws.proofs.KeyLemmas.{commit_of_key}
use Rattle.opening_laws.proofs.PairLemmas.{IsTiedThere, some_is, stands_there, there_stands}
use Rattle.opening_laws.proofs.TieLemmas.{tie_of}

module _ (pairs : List Pair) (l : LakeStateValue) (ascend : HasAscendingKeys (entries_of pairs)) (stand : StandFor (kept_of pairs) l) (repo : List ℕ)
    (r : RepositoryStateValue) (in_lake : get l.repositories repo ≡ Some r) where
  abbrev things : Things
  things = things_of pairs

  -- a commit of the repository stands in the lake
  pub commit_stands : (id : Digest) (commit : CommitRecordValue) → commit_of r.commits id ≡ Some commit
      → StandsIn l (stored.Commit repo id (contains_key r.expired id.0) commit)
  commit_stands id commit is = closed (get l.repositories repo) (HasCommitOf id (contains_key r.expired id.0) commit) r in_lake (is, refl)

  -- a commit that is there is one of the repository
  pub commit_there : (id : Digest) (expired : Bool) (commit : CommitRecordValue) → IsThere things (stored.Commit repo id expired commit)
      → HasCommitOf id expired commit r
  commit_there id expired commit there =
      let one = opened (get l.repositories repo) (HasCommitOf id expired commit)
      (there_stands pairs l ascend stand (stored.Commit repo id expired commit) (λ file. file) there) in
      subst (HasCommitOf id expired commit) (some_is (sym one.is ∙ in_lake)) one.holds

  only_commit : (id : Digest) (commit : CommitRecordValue) → commit_of r.commits id ≡ Some commit
      → IsOnlyCommit things repo id (contains_key r.expired id.0) commit
  only_commit id commit is = record {
    there = stands_there pairs l ascend stand (stored.Commit repo id (contains_key r.expired id.0) commit) (commit_stands id commit is);
    only = λ old other there.
        let one = commit_there id old other there in
        (sym one.1, some_is (sym one.0 ∙ is));
  }

  no_commit : (id : Digest) → commit_of r.commits id ≡ None → HasKey things (key.Commit repo id) → ⊥
  no_commit id none has =
      let one = commit_of_key has.thing repo id has.under in
      absent (commit_there id one.expired one.commit (subst (IsThere things) one.is has.there)).0
    where
      absent : {c : CommitRecordValue} → commit_of r.commits id ≡ Some c → ⊥
      absent is = no (sym is ∙ none)
        where
          no : {c : CommitRecordValue} → Some c ≡ None → ⊥
          no e = cc

  -- by their ids they are the commits that the pairs spell
  pub same_commits : r.commits ≡ commits_in repo things
  same_commits = same_maps r.commits (commits_in repo things) (λ q. by q (get r.commits q) refl)
    where
      by : (q : List ℕ) (o : Option CommitRecordValue) → get r.commits q ≡ o → get r.commits q ≡ get (commits_in repo things) q
      by q None is = is ∙ sym (graph_absent things repo (id_of q) (no_commit (id_of q) is))
      by q (Some commit) is =
          is ∙ sym (graph_found things repo (id_of q) (contains_key r.expired q) commit (only_commit (id_of q) commit is))

module _ (cut : Cut) (pairs : List Pair) (l : LakeStateValue) (ascend : HasAscendingKeys (entries_of pairs)) (tied : AreTiedPairs cut (things_of pairs))
    (read : IsReadFrom cut pairs l) (repo : List ℕ) (r : RepositoryStateValue) (in_lake : get l.repositories repo ≡ Some r) where
  module _ (id : Digest) (commit : CommitRecordValue) (is : commit_of r.commits id ≡ Some commit) where
    pub commit_place : IsTiedThere cut (things_of pairs) (stored.Commit repo id (contains_key r.expired id.0) commit)
    commit_place =
        tie_of cut pairs l ascend tied read (stored.Commit repo id (contains_key r.expired id.0) commit)
        (commit_stands pairs l ascend read.stand repo r in_lake id commit is)

    pub commit_tie : IsTiedCommit (things_of pairs) commit_place.place repo id commit
    commit_tie = commit_place.tie

  -- parents are there, and generations are those due
  pub graph : IsGraph r.commits
  graph id some = by (commit_of r.commits id) refl some
    where
      by : (o : Option CommitRecordValue) → commit_of r.commits id ≡ o → IsSome o → IsDue r.commits id
      by None is some = absurd cc
      by (Some commit) is some = subst (λ g. IsDue g id) (sym (same_commits pairs l ascend read.stand repo r in_lake)) (commit_tie id commit is).due
