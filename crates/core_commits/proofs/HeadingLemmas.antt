-- A commit that stands, and then is the head of a branch: together that is a new head.
use Rattle.std.proofs.Common.{◌≡◌, ℕ, List, refl, ap, ◌∙◌}
use Rattle.std.specs.Prelude.{Option, Some, None}
use Rattle.std.specs.Option.{option_map_or}
use Rattle.std.specs.FinMap.{get, insert}
use Rattle.lake_base.specs.Maps.{ByteMap}
use Rattle.byte_map.proofs.ByteMapLemmas.{get_inserted, insert_over}
use Rattle.lake_model.specs.Parts.{changed_at}
use Rattle.core_state.specs.Counts.{AreFew}
use Rattle.core_state.specs.LakeStates.{LakeStateValue}
use Rattle.core_state.specs.NameIndexes.{NameIndexValue}
use Rattle.core_state.specs.NewCommits.{NewCommit, with_commit, with_names, with_new_head}
use Rattle.core_state.specs.RepositoryStates.{RepositoryStateValue}
use Rattle.core_changes.specs.LakeChanges.{after_head, after_new_head, in_repository}

-- what stands under a name is changed twice
module _ {X : Type 0} (map : ByteMap X) (name : List ℕ) (first second : X → X) where
  twice_by : (o : Option X) → get map name ≡ o
      → changed_at name second (option_map_or (λ x. insert map name (first x)) o map)
      ≡ option_map_or (λ x. insert map name (second (first x))) o map
  twice_by None is = ap (λ o. option_map_or (λ x. insert map name (second x)) o map) is
  twice_by (Some x) is =
      ap (λ o. option_map_or (λ y. insert (insert map name (first x)) name (second y)) o (insert map name (first x)))
      (get_inserted map name (first x)) ∙ insert_over map name (first x) (second (first x))

  pub changed_twice : changed_at name second (changed_at name first map) ≡ changed_at name (λ x. second (first x)) map
  changed_twice = twice_by (get map name) refl

-- the lake with a commit in a repository and with its names, of which the commit becomes the head of a branch
pub head_of_commit : (l : LakeStateValue) (repo branch : List ℕ) (new : NewCommit)
    → after_head repo branch new.id (record (in_repository repo (with_commit new) l) { names = with_names repo new l.names })
    ≡ after_new_head repo branch new l
head_of_commit l repo branch new =
    let repositories = changed_twice l.repositories repo (with_commit new)
    (λ (r : RepositoryStateValue). record r { branches = changed_at branch (with_new_head l.next_version new.id) r.branches }) in
    λ i. record (after_new_head repo branch new l) { repositories = repositories i }

-- with other names a lake has the same counts
pub still_few : (l : LakeStateValue) (names : NameIndexValue) → AreFew l → AreFew (record l { names = names })
still_few l names few = record {
  counted = record {
    references = few.counted.references;
    numbers = few.counted.numbers;
    versions = few.counted.versions;
    tokens = few.counted.tokens;
  };
  room = few.room;
}
