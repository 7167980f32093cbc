-- The index of a lake goes on to tell the kinds of the files that are kept.
use Rattle.std.proofs.Common.{◌≡◌, ◌⊎◌, inl, inr, ℕ, Bool, true, false, List, Option, Some, None, IsSomeAnd, refl, sym, ap, subst, ◌∙◌}
use Rattle.std.specs.Option.{option_map_or}
use Rattle.std.specs.FinMap.{get, insert}
use Rattle.lake_base.specs.Maps.{ByteMap}
use Rattle.lake_values.specs.declared.entry.Change.{Change}
use Rattle.meta_range.specs.Ranges.{TreeValue}
use Rattle.byte_map.proofs.ByteMapLemmas.{get_inserted}
use Rattle.lake_model.specs.Parts.{changed_at}
use Rattle.core_state.specs.RepositoryStates.{RepositoryStateValue}
use Rattle.core_state.specs.declared.file_place.FilePlace.{FilePlace}
use Rattle.core_state.specs.LakeStates.{LakeStateValue}
use Rattle.core_changes.specs.declared.branch.BranchChange.TheVariants as branch
use Rattle.core_changes.specs.BranchChanges.{branch_after}
use Rattle.core_changes.specs.LakeChanges.{in_branch, with_entry, without_ticket}
use Rattle.core_pairs.specs.KeptPlaces.{HasNewPlaces, HasPlaces, IsFileAs, IsPlaceIn}
use Rattle.core_pairs.specs.LakePairs.{IsTreeIn}
use Rattle.core_pairs.proofs.CountsLemmas.{changed_is}
use Rattle.core_pairs.proofs.PlaceLemmas.{decide, get_other}
use Rattle.core_pairs.proofs.ThingLemmas.{closed, opened}

-- a tree of a lake with the files of another one
pub record HasFilesOf (l : LakeStateValue) (tree : TreeValue) : Type 0 where
  pub one : TreeValue
  pub in_lake : IsTreeIn l one
  pub files : one.files ≡ tree.files

-- each tree of a lake has its files in another lake
abbrev pub HasTreesOf : LakeStateValue → LakeStateValue → Type 0
HasTreesOf l m = (tree : TreeValue) → IsTreeIn l tree → HasFilesOf m tree

file_in : (tree other : TreeValue) → other.files ≡ tree.files → (kind : Bool) (bytes : List ℕ) → IsFileAs tree kind bytes → IsFileAs other kind bytes
file_in tree other same true bytes (ranges, is) = (ranges, same ∙ is)
file_in tree other same false bytes (metarange, (ranges, (is, among))) = (metarange, (ranges, (same ∙ is, among)))

-- places stay
pub places_stay : (kept : ByteMap (Option FilePlace)) (l m : LakeStateValue) → HasTreesOf l m → HasPlaces kept l → HasPlaces kept m
places_stay kept l m trees places = record {
  named = places.named;
  told = λ name place is.
      let was = places.told name place is in
      let now = trees was.0 was.1.0 in
      (now.one, (now.in_lake, file_in was.0 now.one now.files place.is_metarange place.bytes was.1.1));
}

-- and those of files of a tree of the lake may be added
pub places_added : (before after : ByteMap (Option FilePlace)) (l m : LakeStateValue) (tree : TreeValue) → HasTreesOf l m → IsTreeIn m tree
    → HasPlaces before l → HasNewPlaces before after tree → HasPlaces after m
places_added before after l m tree trees there places new = record {
  named = new.named;
  told = λ name place is. by name place (new.told name place is);
}
  where
    by : (name : List ℕ) (place : FilePlace) → (get before name ≡ Some (Some place)) ⊎ IsPlaceIn tree place
        → (tree : TreeValue) × (IsTreeIn m tree × IsPlaceIn tree place)
    by name place (inl was) = (places_stay before l m trees places).told name place was
    by name place (inr is) = (tree, (there, is))

-- ---- a repository is changed

module _ (l m : LakeStateValue) (q : List ℕ) (r now : RepositoryStateValue) (in_lake : get l.repositories q ≡ Some r)
    (is : m.repositories ≡ insert l.repositories q now)
    (files : (id : List ℕ) (tree : TreeValue) → get r.trees id ≡ Some tree
    → (other : TreeValue) × ((get now.trees id ≡ Some other) × (other.files ≡ tree.files))) where
  pub changed_trees : HasTreesOf l m
  changed_trees tree (repo, (id, h)) =
      let there = opened (get l.repositories repo) (λ r. get r.trees id ≡ Some tree) h in
      by there.one there.is there.holds (decide repo q)
    where
      by : (x : RepositoryStateValue) → get l.repositories repo ≡ Some x → get x.trees id ≡ Some tree → (repo ≡ q) ⊎ (repo ≡ q → ⊥) → HasFilesOf m tree
      by x at holds (inl same) =
          let both : Some x ≡ Some r = sym at ∙ ap (get l.repositories) same ∙ in_lake in
          let one : x ≡ r = cc in
          let other = files id tree (subst (λ (x : RepositoryStateValue). get x.trees id ≡ Some tree) one holds) in
          record {
            one = other.0;
            in_lake = (
              q,
              (
                id,
                closed (get m.repositories q) (λ r. get r.trees id ≡ Some other.0) now
                    (ap (λ (all : ByteMap RepositoryStateValue). get all q) is ∙ get_inserted l.repositories q now) other.1.0,
              ),
            );
            files = other.1.1;
          }
      by x at holds (inr apart) = record {
        one = tree;
        in_lake = (
          repo,
          (
            id,
            closed (get m.repositories repo) (λ r. get r.trees id ≡ Some tree) x
                (ap (λ (all : ByteMap RepositoryStateValue). get all repo) is ∙ get_other l.repositories q now repo apart ∙ at) holds,
          ),
        );
        files = refl;
      }

-- the same repositories have the same trees
pub same_trees : (l m : LakeStateValue) → m.repositories ≡ l.repositories → HasTreesOf l m
same_trees l m same tree (repo, (id, h)) = record {
  one = tree;
  in_lake = (repo, (id, subst (λ (all : ByteMap RepositoryStateValue). IsSomeAnd (get all repo) (λ r. get r.trees id ≡ Some tree)) (sym same) h));
  files = refl;
}

-- a repository is changed whose trees stay
pub kept_trees : (l m : LakeStateValue) (q : List ℕ) (change : RepositoryStateValue → RepositoryStateValue)
    → ((r : RepositoryStateValue) → (change r).trees ≡ r.trees) → m.repositories ≡ changed_at q change l.repositories → HasTreesOf l m
kept_trees l m q change same is = by (get l.repositories q) refl
  where
    by : (o : Option RepositoryStateValue) → get l.repositories q ≡ o → HasTreesOf l m
    by None none = same_trees l m (is ∙ ap (λ o. option_map_or (λ x. insert l.repositories q (change x)) o l.repositories) none)
    by (Some r) there =
        changed_trees l m q r (change r) there (is ∙ changed_is l.repositories q change r there)
        (λ id tree at. (tree, (ap (λ (trees : ByteMap TreeValue). get trees id) (same r) ∙ at, refl)))

-- a repository is made where none was
pub new_trees : (l m : LakeStateValue) (q : List ℕ) (r : RepositoryStateValue) → get l.repositories q ≡ None → m.repositories ≡ insert l.repositories q r
    → HasTreesOf l m
new_trees l m q r none is tree (repo, (id, h)) =
    let there = opened (get l.repositories repo) (λ r. get r.trees id ≡ Some tree) h in
    by there.one there.is there.holds (decide repo q)
  where
    by : (x : RepositoryStateValue) → get l.repositories repo ≡ Some x → get x.trees id ≡ Some tree → (repo ≡ q) ⊎ (repo ≡ q → ⊥) → HasFilesOf m tree
    by x at holds (inl same) = let both : Some x ≡ None = sym at ∙ ap (get l.repositories) same ∙ none in absurd cc
    by x at holds (inr apart) = record {
      one = tree;
      in_lake = (
        repo,
        (
          id,
          closed (get m.repositories repo) (λ r. get r.trees id ≡ Some tree) x
              (ap (λ (all : ByteMap RepositoryStateValue). get all repo) is ∙ get_other l.repositories q r repo apart ∙ at) holds,
        ),
      );
      files = refl;
    }

-- a tree of a repository of a lake
pub tree_there : (m : LakeStateValue) (q : List ℕ) (r : RepositoryStateValue) (id : List ℕ) (tree : TreeValue) → get m.repositories q ≡ Some r
    → get r.trees id ≡ Some tree → IsTreeIn m tree
tree_there m q r id tree in_lake at = (q, (id, closed (get m.repositories q) (λ r. get r.trees id ≡ Some tree) r in_lake at))

-- a change is staged, and the ticket of its number goes
pub stage_places : (kept : ByteMap (Option FilePlace)) (l : LakeStateValue) (q name path : List ℕ) (change : Change) (o : Option ℕ) → HasPlaces kept l
    → HasPlaces kept (with_entry (in_branch q name (branch_after (branch.Stage path change)) (option_map_or (λ number. without_ticket number l) o l)))
stage_places kept l q name path change None places =
    places_stay kept l _
    (kept_trees l (with_entry (in_branch q name (branch_after (branch.Stage path change)) l)) q
    (λ r. record r { branches = changed_at name (branch_after (branch.Stage path change)) r.branches }) (λ r. refl) refl) places
stage_places kept l q name path change (Some number) places =
    places_stay kept l _
    (kept_trees l (with_entry (in_branch q name (branch_after (branch.Stage path change)) (without_ticket number l))) q
    (λ r. record r { branches = changed_at name (branch_after (branch.Stage path change)) r.branches }) (λ r. refl) refl) places
