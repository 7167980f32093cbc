-- What a repository keeps when a new commit becomes the head of its branch: its commits and their maps stay.
use Rattle.std.proofs.Common.{◌≡◌, ℕ, Bool, true, false, cond, ◌⊎◌, refl, sym, ap, subst, ◌∙◌, List, inr}
use Rattle.std.specs.Prelude.{Option, Some}
use Rattle.std.specs.Option.{unwrap_or}
use Rattle.std.specs.Str.{bytes_eq}
use Rattle.std.specs.Cmp.Lexicographic.{same_text}
use Rattle.std.specs.FinMap.{empty, get}
use Rattle.std.specs.List.{Contains}
use Rattle.lake_base.specs.declared.digest.Digest.{Digest}
use Rattle.lake_values.specs.Ancestry.{commit_of}
use Rattle.lake_values.specs.Commit.{CommitRecordValue}
use Rattle.lake_values.specs.KeyMap.{KeyMapValue}
use Rattle.lake_format.specs.Cutting.{files}
use Rattle.lake_format.specs.Spelling.{commit_spelling}
use Rattle.byte_map.proofs.ByteMapLemmas.{get_insert, get_inserted}
use Rattle.byte_map.proofs.ValuesLemmas.{map_values_insert}
use Rattle.lake_model.specs.State.{map_of}
use Rattle.core_state.specs.RepositoryStates.{RepositoryStateValue, repository_of}
use Rattle.core_state.specs.LakeStates.{LakeStateValue}
use Rattle.core_changes.proofs.ChangedLemmas.{same_there}
use Rattle.core_changes.proofs.IndexLemmas.{AreKeptIn}
use Rattle.core_state.specs.NewCommits.{NewCommit}
use Rattle.core_standing.proofs.PlaceLemmas.{IsNewIn, Place, lake_now, repository_now}

-- ids of the same bytes are the same
pub same_id : (id other : Digest) → bytes_eq id.0 other.0 ≡ true → id ≡ other
same_id id other tie = λ i. record { 0 = same_text id.0 other.0 (sym tie) i }

map_or : (test : Bool) (map : KeyMapValue) (o : Option KeyMapValue)
    → unwrap_or (cond test (Some map) o) empty ≡ cond test map (unwrap_or o empty)
map_or true map o = refl
map_or false map o = refl

module _ (l : LakeStateValue) (repo branch : List ℕ) (place : Place l repo branch) (new : NewCommit) where
  -- the commit of an id is the new one, or the one that was
  pub commit_now : (id : Digest)
      → commit_of (repository_now l repo branch place new).commits id
      ≡ cond (bytes_eq id.0 new.id.0) (Some new.content) (commit_of place.r.commits id)
  commit_now id = get_insert place.r.commits new.id.0 new.content id.0

  -- and so is its map
  pub map_now : (id : Digest)
      → map_of (repository_of (repository_now l repo branch place new)) id
      ≡ cond (bytes_eq id.0 new.id.0) new.tree.map (map_of (repository_of place.r) id)
  map_now id =
      ap (λ maps. unwrap_or (get maps id.0) empty) (map_values_insert (λ tree. tree.map) place.r.trees new.id.0 new.tree)
      ∙ ap (λ o. unwrap_or o empty) (get_insert (repository_of place.r).maps new.id.0 new.tree.map id.0)
      ∙ map_or (bytes_eq id.0 new.id.0) new.tree.map (get (repository_of place.r).maps id.0)

  -- the map of the new commit
  pub new_map : map_of (repository_of (repository_now l repo branch place new)) new.id ≡ new.tree.map
  new_map =
      ap (λ maps. unwrap_or (get maps new.id.0) empty) (map_values_insert (λ tree. tree.map) place.r.trees new.id.0 new.tree)
      ∙ ap (λ o. unwrap_or o empty) (get_inserted (repository_of place.r).maps new.id.0 new.tree.map)

  module _ (fresh : IsNewIn l place.r new) (id : Digest) (commit : CommitRecordValue)
      (is : commit_of place.r.commits id ≡ Some commit) where
    commit_by : (test : Bool) → bytes_eq id.0 new.id.0 ≡ test
        → cond test (Some new.content) (commit_of place.r.commits id) ≡ Some commit
    commit_by true tie = ap Some (sym (fresh.same_record commit (ap (commit_of place.r.commits) (sym (same_id id new.id tie)) ∙ is)))
    commit_by false tie = is

    -- a commit that was there is there
    pub commit_stays : commit_of (repository_now l repo branch place new).commits id ≡ Some commit
    commit_stays = commit_now id ∙ commit_by (bytes_eq id.0 new.id.0) refl

    map_by : (test : Bool) → bytes_eq id.0 new.id.0 ≡ test
        → cond test new.tree.map (map_of (repository_of place.r) id) ≡ map_of (repository_of place.r) id
    map_by true tie =
        let same = same_id id new.id tie in
        sym (fresh.same_map commit (ap (commit_of place.r.commits) (sym same) ∙ is)) ∙ ap (map_of (repository_of place.r)) (sym same)
    map_by false tie = refl

    -- with its map
    pub map_stays : map_of (repository_of (repository_now l repo branch place new)) id ≡ map_of (repository_of place.r) id
    map_stays = map_now id ∙ map_by (bytes_eq id.0 new.id.0) refl

  -- ---- what is kept

  -- a file of the new commit's map is kept
  pub file_kept : IsNewIn l place.r new → (bytes : List ℕ) → Contains new.tree.files bytes
      → AreKeptIn l.cut (lake_now l repo branch place new).repositories bytes
  file_kept fresh bytes within = record {
    repo = repo;
    r = repository_now l repo branch place new;
    in_lake = get_inserted l.repositories repo (repository_now l repo branch place new);
    id = new.id;
    commit = new.content;
    in_graph = get_inserted place.r.commits new.id.0 new.content;
    are = inr (subst (λ all. Contains all bytes) (fresh.cut ∙ ap (files l.cut) (sym new_map)) within);
  }

  module _ (fresh : IsNewIn l place.r new) (bytes : List ℕ) where
    kept_by : (q : List ℕ) (r : RepositoryStateValue) → get l.repositories q ≡ Some r
        → (id : Digest) (commit : CommitRecordValue) → commit_of r.commits id ≡ Some commit
        → (bytes ≡ commit_spelling commit) ⊎ Contains (files l.cut (map_of (repository_of r) id)) bytes
        → (test : Bool) → bytes_eq q repo ≡ test → AreKeptIn l.cut (lake_now l repo branch place new).repositories bytes
    kept_by q r is id commit has are true tie =
        let same : place.r ≡ r = (let at = sym place.in_lake ∙ sym (same_there l.repositories repo q tie) ∙ is in cc) in
        let there : commit_of place.r.commits id ≡ Some commit = ap (λ (x : RepositoryStateValue). commit_of x.commits id) same ∙ has in
        let held : (bytes ≡ commit_spelling commit) ⊎ Contains (files l.cut (map_of (repository_of place.r) id)) bytes =
        subst (λ (x : RepositoryStateValue). (bytes ≡ commit_spelling commit) ⊎ Contains (files l.cut (map_of (repository_of x) id)) bytes)
        (sym same) are in
        record {
          repo = q;
          r = repository_now l repo branch place new;
          in_lake = get_insert l.repositories repo (repository_now l repo branch place new) q
              ∙ ap (λ test. cond test (Some (repository_now l repo branch place new)) (get l.repositories q)) tie;
          id = id;
          commit = commit;
          in_graph = commit_stays fresh id commit there;
          are = subst (λ map. (bytes ≡ commit_spelling commit) ⊎ Contains (files l.cut map) bytes)
              (sym (map_stays fresh id commit there)) held;
        }
    kept_by q r is id commit has are false apart = record {
      repo = q;
      r = r;
      in_lake = get_insert l.repositories repo (repository_now l repo branch place new) q
          ∙ ap (λ test. cond test (Some (repository_now l repo branch place new)) (get l.repositories q)) apart ∙ is;
      id = id;
      commit = commit;
      in_graph = has;
      are = are;
    }

    -- what was kept is kept
    pub still_kept : AreKeptIn l.cut l.repositories bytes → AreKeptIn l.cut (lake_now l repo branch place new).repositories bytes
    still_kept kept =
        kept_by kept.repo kept.r kept.in_lake kept.id kept.commit kept.in_graph kept.are (bytes_eq kept.repo repo) refl
