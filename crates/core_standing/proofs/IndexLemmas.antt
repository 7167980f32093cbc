-- The index of a lake tells of a new head's commit and of the files of its tree, and of all that was there.
use Rattle.std.proofs.Common.{◌≡◌, ℕ, Bool, true, false, cond, List, refl, sym, ap, subst, ◌∙◌, inl}
use Rattle.std.specs.Prelude.{Option, Some, None, IsSome, option_map, option_and_then}
use Rattle.std.specs.Str.{bytes_eq}
use Rattle.std.specs.FinMap.{get}
use Rattle.std.specs.List.{Contains}
use Rattle.lake_base.specs.declared.digest.Digest.{Digest}
use Rattle.lake_values.specs.Ancestry.{commit_of, id_of}
use Rattle.lake_values.specs.Commit.{CommitRecordValue}
use Rattle.lake_values.proofs.OrderLemmas.{Contains-first, Contains-later}
use Rattle.lake_format.specs.Cutting.{files}
use Rattle.lake_format.specs.Spelling.{commit_spelling, file_name}
use Rattle.meta_range.specs.Ranges.{TreeValue}
use Rattle.byte_map.proofs.ByteMapLemmas.{get_insert, get_inserted}
use Rattle.byte_map.proofs.ValuesLemmas.{get_map_values}
use Rattle.lake_model.specs.Soundness.{IsSound}
use Rattle.lake_model.specs.State.{HasCommit, map_of}
use Rattle.core_state.specs.Index.{HasIndex, indexed_commit}
use Rattle.core_state.specs.RepositoryStates.{RepositoryStateValue, repository_of}
use Rattle.core_state.specs.LakeStates.{LakeStateValue, state_of}
use Rattle.core_changes.proofs.ChangedLemmas.{all_inserted, same_there}
use Rattle.core_changes.proofs.IndexLemmas.{AreKeptIn, in_state, made_of, of_state}
use Rattle.core_state.specs.NewCommits.{NewCommit}
use Rattle.core_standing.proofs.FileLemmas.{each_found, new_found, old_found, same_file}
use Rattle.core_standing.proofs.KeptLemmas.{commit_now, commit_stays, file_kept, map_now, same_id, still_kept}
use Rattle.core_standing.proofs.PlaceLemmas.{IsNewIn, Place, lake_now, repository_now}

module _ (l : LakeStateValue) (repo branch : List ℕ) (place : Place l repo branch) (new : NewCommit)
    (index : HasIndex l) (sound : IsSound (state_of l)) (fresh : IsNewIn l place.r new) where
  abbrev home : RepositoryStateValue
  home = repository_now l repo branch place new

  abbrev now : LakeStateValue
  now = lake_now l repo branch place new

  -- what holds of the repository with the commit, and of those that were there, holds of each
  each : (P : RepositoryStateValue → Type 0) → P home
      → ((q : List ℕ) (r : RepositoryStateValue) → get l.repositories q ≡ Some r → P r)
      → (q : List ℕ) (r : RepositoryStateValue) → get now.repositories q ≡ Some r → P r
  each P here old = all_inserted (λ q r. P r) l.repositories repo home (λ q tie. here) (λ q r apart is. old q r is)

  -- ---- commits

  -- the commit that a repository, where it is there, has of an id
  abbrev commit_in : Digest → Option RepositoryStateValue → Option CommitRecordValue
  commit_in id o = option_and_then (λ r. commit_of r.commits id) o

  -- the bytes that are found by an id, with a commit there
  there_by : (id : Digest) (q spelling : List ℕ) (test : Bool) → bytes_eq q repo ≡ test
      → option_map commit_spelling (commit_in id (get l.repositories q)) ≡ Some spelling
      → option_map commit_spelling (commit_in id (cond test (Some home) (get l.repositories q))) ≡ Some spelling
  there_by id q spelling true tie is =
      let at : get l.repositories q ≡ Some place.r = same_there l.repositories repo q tie ∙ place.in_lake in
      let one = made_of commit_spelling (commit_of place.r.commits id) spelling
      (ap (λ o. option_map commit_spelling (commit_in id o)) (sym at) ∙ is) in
      ap (option_map commit_spelling) (commit_stays l repo branch place new fresh id one.one one.is) ∙ ap Some one.made
  there_by id q spelling false apart is = is

  -- what was found is found
  still_found : (id : Digest) (o : Option (List ℕ)) (spelling : List ℕ)
      → option_map commit_spelling (option_and_then (λ q. commit_in id (get l.repositories q)) o) ≡ Some spelling
      → option_map commit_spelling (option_and_then (λ q. commit_in id (get now.repositories q)) o) ≡ Some spelling
  still_found id None spelling is = is
  still_found id (Some q) spelling is =
      ap (λ o. option_map commit_spelling (commit_in id o)) (get_insert l.repositories repo home q)
      ∙ there_by id q spelling (bytes_eq q repo) refl is

  -- the new commit is found by its id
  new_there : (id : Digest) → id ≡ new.id → commit_in id (get now.repositories repo) ≡ Some new.content
  new_there id same =
      ap (commit_in id) (get_inserted l.repositories repo home)
      ∙ ap (commit_of home.commits) same ∙ get_inserted place.r.commits new.id.0 new.content

  found_by : (id : Digest) (spelling : List ℕ) (test : Bool) → bytes_eq id.0 new.id.0 ≡ test
      → (test ≡ true → commit_spelling new.content ≡ spelling)
      → (test ≡ false → option_map commit_spelling (indexed_commit l id) ≡ Some spelling)
      → option_map commit_spelling (option_and_then (λ q. commit_in id (get now.repositories q))
      (cond test (Some repo) (get l.names.homes id.0))) ≡ Some spelling
  found_by id spelling true tie here other = ap (option_map commit_spelling) (new_there id (same_id id new.id tie)) ∙ ap Some (here refl)
  found_by id spelling false apart here other = still_found id (get l.names.homes id.0) spelling (other refl)

  -- a commit is found, where the new one of its id has its bytes, and others were found
  is_found : (id : Digest) (spelling : List ℕ)
      → (bytes_eq id.0 new.id.0 ≡ true → commit_spelling new.content ≡ spelling)
      → (bytes_eq id.0 new.id.0 ≡ false → option_map commit_spelling (indexed_commit l id) ≡ Some spelling)
      → option_map commit_spelling (indexed_commit now id) ≡ Some spelling
  is_found id spelling here other =
      ap (λ o. option_map commit_spelling (option_and_then (λ q. commit_in id (get now.repositories q)) o))
      (get_insert l.names.homes new.id.0 repo id.0)
      ∙ found_by id spelling (bytes_eq id.0 new.id.0) refl here other

  -- a commit that was there is found
  old_commit : (q : List ℕ) (r : RepositoryStateValue) → get l.repositories q ≡ Some r → (id : Digest) (commit : CommitRecordValue)
      → commit_of r.commits id ≡ Some commit → option_map commit_spelling (indexed_commit now id) ≡ Some (commit_spelling commit)
  old_commit q r is id commit there =
      let state = get_map_values repository_of l.repositories q ∙ ap (option_map repository_of) is in
      let kept = in_state l (commit_spelling commit)
      (record { repo = q; r = r; in_lake = is; id = id; commit = commit; in_graph = there; are = inl refl }) in
      is_found id (commit_spelling commit)
      (λ tie. fresh.apart (commit_spelling new.content) (commit_spelling commit) (Contains-first _ _) kept
      (sym fresh.id ∙ sym (same_id id new.id tie) ∙ (sound.repositories q (repository_of r) state).ids id commit there))
      (λ apart. index.commits q r id commit is there)

  -- and so is one of the repository that has the new one
  new_commit : (id : Digest) (commit : CommitRecordValue) → commit_of home.commits id ≡ Some commit
      → option_map commit_spelling (indexed_commit now id) ≡ Some (commit_spelling commit)
  new_commit id commit there =
      all_inserted (λ q c. option_map commit_spelling (indexed_commit now (id_of q)) ≡ Some (commit_spelling c))
      place.r.commits new.id.0 new.content
      (λ q tie. is_found (id_of q) (commit_spelling new.content) (λ same. refl) (λ apart. absurd cc))
      (λ q c apart is. old_commit repo place.r place.in_lake (id_of q) c is) id.0 commit there

  -- ---- files

  -- a file that was found is found
  old_file : (name bytes : List ℕ) → get l.names.files name ≡ Some bytes → get now.names.files name ≡ Some bytes
  old_file name bytes is =
      old_found l.names.files new.tree.files name bytes
      (λ file within same. fresh.apart file bytes (Contains-later (commit_spelling new.content) file new.tree.files within)
      (index.kept name bytes is) (ap id_of (same ∙ sym (index.named name bytes is)))) is

  -- a file of the new tree is found
  new_file : (bytes : List ℕ) → Contains new.tree.files bytes → get now.names.files (file_name bytes).0 ≡ Some bytes
  new_file bytes within =
      new_found l.names.files new.tree.files bytes
      (λ file also same. same_file new.tree.files fresh.files_apart file bytes also within (ap id_of same)) within

  file_by : (id : Digest) (bytes : List ℕ) (test : Bool)
      → IsSome (cond test (Some new.content) (commit_of place.r.commits id))
      → Contains (files l.cut (cond test new.tree.map (map_of (repository_of place.r) id))) bytes
      → get now.names.files (file_name bytes).0 ≡ Some bytes
  file_by id bytes true there within = new_file bytes (subst (λ all. Contains all bytes) (sym fresh.cut) within)
  file_by id bytes false there within =
      old_file (file_name bytes).0 bytes (index.files repo place.r id bytes place.in_lake there within)

  -- a file of a commit of the repository that has the new one is found
  home_file : (id : Digest) (bytes : List ℕ) → HasCommit (repository_of home) id
      → Contains (files l.cut (map_of (repository_of home) id)) bytes
      → get now.names.files (file_name bytes).0 ≡ Some bytes
  home_file id bytes there within =
      file_by id bytes (bytes_eq id.0 new.id.0) (subst (λ o. IsSome o) (commit_now l repo branch place new id) there)
      (subst (λ map. Contains (files l.cut map) bytes) (map_now l repo branch place new id) within)

  -- ---- the index

  pub index_has : HasIndex now
  index_has = record {
    commits = λ q r id commit is there.
        each (λ r. (id : Digest) (commit : CommitRecordValue) → commit_of r.commits id ≡ Some commit
        → option_map commit_spelling (indexed_commit now id) ≡ Some (commit_spelling commit)) new_commit old_commit q r is id commit there;
    trees = λ q r id tree is there.
        each (λ r. (id : Digest) (tree : TreeValue) → get r.trees id.0 ≡ Some tree → tree.files ≡ files l.cut tree.map)
        (λ id tree there. all_inserted (λ k t. t.files ≡ files l.cut t.map) place.r.trees new.id.0 new.tree (λ k tie. fresh.cut)
        (λ k t apart has. index.trees repo place.r (id_of k) t place.in_lake has) id.0 tree there)
        (λ q r is id tree there. index.trees q r id tree is there) q r is id tree there;
    files = λ q r id bytes is there within.
        each (λ r. (id : Digest) (bytes : List ℕ) → HasCommit (repository_of r) id
        → Contains (files l.cut (map_of (repository_of r) id)) bytes → get now.names.files (file_name bytes).0 ≡ Some bytes) home_file
        (λ q r is id bytes there within. old_file (file_name bytes).0 bytes (index.files q r id bytes is there within))
        q r is id bytes there within;
    named = each_found l.names.files (λ name bytes. (file_name bytes).0 ≡ name) new.tree.files (λ file within. refl) index.named;
    kept = λ name bytes is.
        in_state now bytes (each_found l.names.files (λ name bytes. AreKeptIn l.cut now.repositories bytes) new.tree.files
        (file_kept l repo branch place new fresh)
        (λ name bytes stands. still_kept l repo branch place new fresh bytes (of_state l bytes (index.kept name bytes stands)))
        name bytes is);
  }
