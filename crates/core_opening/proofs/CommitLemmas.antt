-- Commits join a lake, with their trees and their names.
use Rattle.std.proofs.Common.{◌≡◌, ◌⊎◌, ◌&&◌, inl, inr, ℕ, Bool, true, false, cond, List, [], ◌∷◌, ◌++◌, Option, Some, None, refl, sym, ap, subst, ◌∙◌}
use Rattle.std.specs.Prelude.{option_map}
use Rattle.std.specs.FinMap.{get, insert}
use Rattle.std.specs.List.{flat_map}
use Rattle.std.specs.Option.{option_map_or}
use Rattle.std.specs.Str.{bytes_eq}
use Rattle.lake_base.specs.Maps.{ByteMap}
use Rattle.lake_base.specs.declared.digest.Digest.{Digest}
use Rattle.lake_values.specs.Commit.{CommitRecordValue}
use Rattle.lake_format.specs.Spelling.{commit_id, file_name}
use Rattle.meta_range.specs.Ranges.{TreeValue}
use Rattle.byte_map.proofs.ByteMapLemmas.{get_insert}
use Rattle.lake_model.specs.Parts.{changed_at}
use Rattle.core_state.specs.NewCommits.{with_files}
use Rattle.core_state.specs.RepositoryStates.{RepositoryStateValue}
use Rattle.core_state.specs.LakeStates.{LakeStateValue}
use Rattle.core_filling.specs.Filling.{CommitRead, with_commits, with_read}
use Rattle.core_filling.specs.Parts.{with_marked_commit}
use Rattle.core_pairs.proofs.StandLemmas.{tied}
use Rattle.core_opening.proofs.PutsLemmas.{put_in, puts, puts_both}

-- a repository with those of these commits that are its own
abbrev pub own : List ℕ → List CommitRead → RepositoryStateValue → RepositoryStateValue
own repo [] r = r
own repo (c ∷ commits) r =
    cond (bytes_eq repo c.repo) (with_marked_commit c.content c.tree c.expired (own repo commits r)) (own repo commits r)

-- ---- repositories

-- what is found under a name after one thing was changed
pub get_changed : {X : Type 0} (m : ByteMap X) (name : List ℕ) (change : X → X) (q : List ℕ)
    → get (changed_at name change m) q ≡ option_map (λ x. cond (bytes_eq q name) (change x) x) (get m q)
get_changed {X} m name change q = by (get m name) refl
  where
    kept : (test : Bool) → bytes_eq q name ≡ test → get m name ≡ None → get m q ≡ option_map (λ x. cond test (change x) x) (get m q)
    kept true e none = let nothing = ap (get m) (tied q name e) ∙ none in nothing ∙ sym (ap (option_map (λ x. change x)) nothing)
    kept false e none = same (get m q)
      where
        same : (o : Option X) → o ≡ option_map (λ x. x) o
        same None = refl
        same (Some x) = refl

    put : (x : X) (test : Bool) → bytes_eq q name ≡ test → get m name ≡ Some x
        → cond test (Some (change x)) (get m q) ≡ option_map (λ x. cond test (change x) x) (get m q)
    put x true e there = sym (ap (option_map (λ x. change x)) (ap (get m) (tied q name e) ∙ there))
    put x false e there = same (get m q)
      where
        same : (o : Option X) → o ≡ option_map (λ x. x) o
        same None = refl
        same (Some x) = refl

    by : (o : Option X) → get m name ≡ o
        → get (option_map_or (λ x. insert m name (change x)) o m) q ≡ option_map (λ x. cond (bytes_eq q name) (change x) x) (get m q)
    by None none = kept (bytes_eq q name) refl none
    by (Some x) there = get_insert m name (change x) q ∙ put x (bytes_eq q name) refl there

map_twice : {X Y Z : Type 0} (f : Y → Z) (g : X → Y) (o : Option X) → option_map f (option_map g o) ≡ option_map (λ x. f (g x)) o
map_twice f g None = refl
map_twice f g (Some x) = refl

map_same : {X : Type 0} (o : Option X) → o ≡ option_map (λ x. x) o
map_same None = refl
map_same (Some x) = refl

-- each repository has its own commits
pub own_commits : (commits : List CommitRead) (l : LakeStateValue) (repo : List ℕ)
    → get (with_commits commits l).repositories repo ≡ option_map (own repo commits) (get l.repositories repo)
own_commits [] l repo = map_same (get l.repositories repo)
own_commits (c ∷ commits) l repo =
    get_changed (with_commits commits l).repositories c.repo (with_marked_commit c.content c.tree c.expired) repo
    ∙ ap (option_map (λ r. cond (bytes_eq repo c.repo) (with_marked_commit c.content c.tree c.expired r) r)) (own_commits commits l repo)
    ∙ map_twice (λ r. cond (bytes_eq repo c.repo) (with_marked_commit c.content c.tree c.expired r) r) (own repo commits) (get l.repositories repo)

-- ---- what a repository has then

-- a repository with these commits
abbrev pub with_graph : RepositoryStateValue → RepositoryStateValue → RepositoryStateValue
with_graph r now = record r { commits = now.commits; trees = now.trees; expired = now.expired }

-- all but its commits is as it was
pub own_same : (repo : List ℕ) (commits : List CommitRead) (r : RepositoryStateValue) → own repo commits r ≡ with_graph r (own repo commits r)
own_same repo [] r = refl
own_same repo (c ∷ commits) r = by (bytes_eq repo c.repo) (own_same repo commits r)
  where
    by : (test : Bool) → own repo commits r ≡ with_graph r (own repo commits r)
        → cond test (with_marked_commit c.content c.tree c.expired (own repo commits r)) (own repo commits r)
        ≡ with_graph r (cond test (with_marked_commit c.content c.tree c.expired (own repo commits r)) (own repo commits r))
    by true rest = ap (with_marked_commit c.content c.tree c.expired) rest
    by false rest = rest

-- what is put under a key, where a test passes
abbrev pub put_if : {X : Type 0} → Bool → List ℕ → X → Option (List ℕ × X)
put_if test k x = cond test (Some (k, x)) None

-- what a commit puts in its repository
abbrev pub commit_put : List ℕ → CommitRead → Option (List ℕ × CommitRecordValue)
commit_put repo c = put_if (bytes_eq repo c.repo) (commit_id c.content).0 c.content

abbrev pub tree_put : List ℕ → CommitRead → Option (List ℕ × TreeValue)
tree_put repo c = put_if (bytes_eq repo c.repo) (commit_id c.content).0 c.tree

abbrev pub dead_if : Bool → Bool → List ℕ → Option (List ℕ × Unit {0})
dead_if test dead k = cond test (put_if dead k tt) None

abbrev pub expired_put : List ℕ → CommitRead → Option (List ℕ × Unit {0})
expired_put repo c = dead_if (bytes_eq repo c.repo) c.expired (commit_id c.content).0

pub own_graph : (repo : List ℕ) (commits : List CommitRead) (r : RepositoryStateValue) → (own repo commits r).commits ≡ puts (commit_put repo) commits r.commits
own_graph repo [] r = refl
own_graph repo (c ∷ commits) r = by (bytes_eq repo c.repo) (own_graph repo commits r)
  where
    by : (test : Bool) → (own repo commits r).commits ≡ puts (commit_put repo) commits r.commits
        → (cond test (with_marked_commit c.content c.tree c.expired (own repo commits r)) (own repo commits r)).commits
        ≡ put_in (put_if test (commit_id c.content).0 c.content) (puts (commit_put repo) commits r.commits)
    by true rest = ap (λ m. insert m (commit_id c.content).0 c.content) rest
    by false rest = rest

pub own_trees : (repo : List ℕ) (commits : List CommitRead) (r : RepositoryStateValue) → (own repo commits r).trees ≡ puts (tree_put repo) commits r.trees
own_trees repo [] r = refl
own_trees repo (c ∷ commits) r = by (bytes_eq repo c.repo) (own_trees repo commits r)
  where
    by : (test : Bool) → (own repo commits r).trees ≡ puts (tree_put repo) commits r.trees
        → (cond test (with_marked_commit c.content c.tree c.expired (own repo commits r)) (own repo commits r)).trees
        ≡ put_in (put_if test (commit_id c.content).0 c.tree) (puts (tree_put repo) commits r.trees)
    by true rest = ap (λ m. insert m (commit_id c.content).0 c.tree) rest
    by false rest = rest

pub own_expired : (repo : List ℕ) (commits : List CommitRead) (r : RepositoryStateValue)
    → (own repo commits r).expired ≡ puts (expired_put repo) commits r.expired
own_expired repo [] r = refl
own_expired repo (c ∷ commits) r = by (bytes_eq repo c.repo) c.expired (own_expired repo commits r)
  where
    by : (test dead : Bool) → (own repo commits r).expired ≡ puts (expired_put repo) commits r.expired
        → (cond test (with_marked_commit c.content c.tree dead (own repo commits r)) (own repo commits r)).expired
        ≡ put_in (dead_if test dead (commit_id c.content).0) (puts (expired_put repo) commits r.expired)
    by true true rest = ap (λ m. insert m (commit_id c.content).0 tt) rest
    by true false rest = rest
    by false dead rest = rest

-- ---- names

abbrev pub home_put : CommitRead → Option (List ℕ × List ℕ)
home_put c = Some ((commit_id c.content).0, c.repo)

abbrev pub file_put : List ℕ → Option (List ℕ × List ℕ)
file_put file = Some ((file_name file).0, file)

abbrev pub files_in : List CommitRead → List (List ℕ)
files_in commits = flat_map (λ c. c.tree.files) commits

pub all_homes : (commits : List CommitRead) (l : LakeStateValue) → (with_commits commits l).names.homes ≡ puts home_put commits l.names.homes
all_homes [] l = refl
all_homes (c ∷ commits) l = ap (λ m. insert m (commit_id c.content).0 c.repo) (all_homes commits l)

named_files : (files : List (List ℕ)) (kept : ByteMap (List ℕ)) → with_files files kept ≡ puts file_put files kept
named_files [] kept = refl
named_files (file ∷ files) kept = ap (λ m. insert m (file_name file).0 file) (named_files files kept)

pub all_files : (commits : List CommitRead) (l : LakeStateValue) → (with_commits commits l).names.files ≡ puts file_put (files_in commits) l.names.files
all_files [] l = refl
all_files (c ∷ commits) l =
    named_files c.tree.files (with_commits commits l).names.files ∙ ap (puts file_put c.tree.files) (all_files commits l)
    ∙ sym (puts_both file_put c.tree.files (files_in commits) l.names.files)

-- ---- the rest of the lake

-- a lake with these repositories and names
abbrev pub with_parts : LakeStateValue → LakeStateValue → LakeStateValue
with_parts l now = record l { repositories = now.repositories; names = now.names }

-- the rest is as it was
pub lake_same : (commits : List CommitRead) (l : LakeStateValue) → with_commits commits l ≡ with_parts l (with_commits commits l)
lake_same [] l = refl
lake_same (c ∷ commits) l = ap (with_read c) (lake_same commits l)
