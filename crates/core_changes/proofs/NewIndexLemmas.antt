-- The index of a lake tells of a new repository's first commit and of the file of its tree.
use Rattle.std.proofs.Common.{◌≡◌, ℕ, Bool, true, false, cond, List, [], refl, sym, ap, subst, ◌∙◌, inl, inr}
use Rattle.std.proofs.lemmas.Slice.Eq.{bytes_eq-Decides}
use Rattle.std.specs.Prelude.{Option, Some, None, option_map, option_and_then}
use Rattle.std.specs.Str.{bytes_eq}
use Rattle.std.specs.Cmp.Lexicographic.{same_text}
use Rattle.std.specs.FinMap.{empty, get, insert}
use Rattle.std.specs.List.{Contains}
use Rattle.lake_base.specs.declared.digest.Digest.{Digest}
use Rattle.lake_values.specs.Ancestry.{commit_of}
use Rattle.lake_values.specs.Commit.{CommitRecordValue}
use Rattle.lake_values.proofs.OrderLemmas.{Contains-first, Contains-later, Contains-nothing, first_or_later}
use Rattle.lake_format.specs.Cutting.{files, tree_id}
use Rattle.lake_format.specs.Spelling.{commit_spelling, file_name}
use Rattle.meta_range.specs.Ranges.{TreeValue, first_file}
use Rattle.byte_map.proofs.ByteMapLemmas.{get_insert, get_inserted}
use Rattle.byte_map.proofs.ValuesLemmas.{get_map_values}
use Rattle.lake_model.specs.Commits.{IsAdmissible, bare_repository, first_draft}
use Rattle.lake_model.specs.Soundness.{IsSound}
use Rattle.lake_model.specs.State.{HasCommit, map_of}
use Rattle.core_state.specs.FirstStates.{first_id, first_record, first_tree}
use Rattle.core_state.specs.Index.{HasIndex, indexed_commit}
use Rattle.core_state.specs.RepositoryStates.{RepositoryStateValue, repository_of}
use Rattle.core_state.specs.LakeStates.{LakeStateValue, state_of}
use Rattle.core_changes.specs.LakeChanges.{after_repository_create}
use Rattle.core_changes.proofs.ChangedLemmas.{all_inserted}
use Rattle.core_changes.proofs.FoundingLemmas.{empty_map, file_named, founded, one_file, only}
use Rattle.core_changes.proofs.IndexLemmas.{AreKeptIn, in_state, of_state}

-- what the lake keeps before a repository of no other's name is made, whose first commit is admissible
pub record AwaitsRepository (l : LakeStateValue) (repo branch : List ℕ) (date : ℕ) : Type 0 where
  pub index : HasIndex l
  pub sound : IsSound (state_of l)
  pub unused : get l.repositories repo ≡ None
  pub admissible : IsAdmissible (state_of l) (bare_repository date branch) (first_draft date)

module _ (l : LakeStateValue) (repo branch : List ℕ) (date : ℕ) (ready : AwaitsRepository l repo branch date) where
  abbrev now : LakeStateValue
  now = after_repository_create repo branch date l

  abbrev id : Digest
  id = first_id l.cut date

  -- the one file
  abbrev file : List ℕ
  file = first_file (files l.cut empty)

  -- ---- no other bytes of their names are kept

  -- of the first commit
  same_commit : (kept : List ℕ) → AreKeptIn l.cut l.repositories kept → id.0 ≡ (file_name kept).0 → commit_spelling (first_record l.cut date) ≡ kept
  unfolding first_id first_record
  same_commit kept are name =
      ready.admissible.apart (commit_spelling (first_record l.cut date)) kept (Contains-first _ _) (in_state l kept are)
      (ap (λ (bytes : List ℕ). record { 0 = bytes }) name)

  -- of the file
  same_file : (kept : List ℕ) → AreKeptIn l.cut l.repositories kept → (tree_id l.cut empty).0 ≡ (file_name kept).0 → file ≡ kept
  unfolding first_record
  same_file kept are name =
      ready.admissible.apart file kept
      (Contains-later _ file (files l.cut empty) (subst (λ fs. Contains fs file) (sym (one_file l.cut)) (Contains-first file [])))
      (in_state l kept are) (ap (λ (bytes : List ℕ). record { 0 = bytes }) (ap (λ (d : Digest). d.0) (file_named l.cut) ∙ name))

  -- ---- commits

  -- the commit that a repository, where it is there, has of an id
  abbrev commit_in : Digest → Option RepositoryStateValue → Option CommitRecordValue
  commit_in i o = option_and_then (λ r. commit_of r.commits i) o

  still_there : (i : Digest) (home : List ℕ) (test : Bool) → bytes_eq home repo ≡ test → (spelling : List ℕ)
      → option_map commit_spelling (commit_in i (get l.repositories home)) ≡ Some spelling
      → option_map commit_spelling (commit_in i (cond test (Some (founded l repo branch date)) (get l.repositories home))) ≡ Some spelling
  still_there i home true tie spelling is =
      let nothing : get l.repositories home ≡ None = ap (get l.repositories) (same_text home repo (sym tie)) ∙ ready.unused in
      absurd (let none = ap (λ o. option_map commit_spelling (commit_in i o)) nothing in cc)
  still_there i home false apart spelling is = is

  -- what was found is found
  still_found : (i : Digest) (o : Option (List ℕ)) (spelling : List ℕ)
      → option_map commit_spelling (option_and_then (λ home. commit_in i (get l.repositories home)) o) ≡ Some spelling
      → option_map commit_spelling (option_and_then (λ home. commit_in i (get now.repositories home)) o) ≡ Some spelling
  still_found i None spelling is = is
  still_found i (Some home) spelling is =
      ap (λ o. option_map commit_spelling (commit_in i o)) (get_insert l.repositories repo (founded l repo branch date) home)
      ∙ still_there i home (bytes_eq home repo) refl spelling is

  -- the first commit is found by its id
  first_found : (i : Digest) → i.0 ≡ id.0 → option_and_then (λ home. commit_in i (get now.repositories home)) (Some repo) ≡ Some (first_record l.cut date)
  first_found i same =
      ap (commit_in i) (get_inserted l.repositories repo (founded l repo branch date))
      ∙ ap (get (insert empty id.0 (first_record l.cut date))) same ∙ get_inserted empty id.0 (first_record l.cut date)

  homes_by : (i : Digest) (test : Bool) → bytes_eq i.0 id.0 ≡ test → (spelling : List ℕ)
      → (test ≡ true → commit_spelling (first_record l.cut date) ≡ spelling)
      → (test ≡ false → option_map commit_spelling (indexed_commit l i) ≡ Some spelling)
      → option_map commit_spelling (option_and_then (λ home. commit_in i (get now.repositories home)) (cond test (Some repo) (get l.names.homes i.0)))
      ≡ Some spelling
  homes_by i true tie spelling first other =
      ap (option_map commit_spelling) (first_found i (same_text i.0 id.0 (sym tie))) ∙ ap Some (first refl)
  homes_by i false apart spelling first other = still_found i (get l.names.homes i.0) spelling (other refl)

  -- a commit is found, where the first one of its id is it, and others were found
  found : (i : Digest) (spelling : List ℕ)
      → (bytes_eq i.0 id.0 ≡ true → commit_spelling (first_record l.cut date) ≡ spelling)
      → (bytes_eq i.0 id.0 ≡ false → option_map commit_spelling (indexed_commit l i) ≡ Some spelling)
      → option_map commit_spelling (indexed_commit now i) ≡ Some spelling
  found i spelling first other =
      ap (λ o. option_map commit_spelling (option_and_then (λ home. commit_in i (get now.repositories home)) o)) (get_insert l.names.homes id.0 repo i.0)
      ∙ homes_by i (bytes_eq i.0 id.0) refl spelling first other

  -- a commit of the new repository is the first one
  new_commit : (i : Digest) (commit : CommitRecordValue) → commit_of (founded l repo branch date).commits i ≡ Some commit
      → option_map commit_spelling (indexed_commit now i) ≡ Some (commit_spelling commit)
  new_commit i commit there =
      let one = only id.0 (first_record l.cut date) i.0 commit there in
      found i (commit_spelling commit) (λ tie. ap commit_spelling one.value)
      (λ apart. absurd (let same : bytes_eq i.0 id.0 ≡ true = (bytes_eq-Decides i.0 id.0).1 one.key in cc))

  -- a commit that was there is found
  old_commit : (q : List ℕ) (r : RepositoryStateValue) → get l.repositories q ≡ Some r → (i : Digest) (commit : CommitRecordValue)
      → commit_of r.commits i ≡ Some commit → option_map commit_spelling (indexed_commit now i) ≡ Some (commit_spelling commit)
  old_commit q r is i commit there =
      let state = get_map_values repository_of l.repositories q ∙ ap (option_map repository_of) is in
      let named = (ready.sound.repositories q (repository_of r) state).ids i commit there in
      found i (commit_spelling commit)
      (λ tie. same_commit (commit_spelling commit)
      (record { repo = q; r = r; in_lake = is; id = i; commit = commit; in_graph = there; are = inl refl })
      (sym (same_text i.0 id.0 (sym tie)) ∙ ap (λ (d : Digest). d.0) named))
      (λ apart. ready.index.commits q r i commit is there)

  -- ---- files

  -- what stands under a name that has its bytes
  files_by : (name bytes : List ℕ) (test : Bool) → (test ≡ true → file ≡ bytes) → (test ≡ false → get l.names.files name ≡ Some bytes)
      → cond test (Some file) (get l.names.files name) ≡ Some bytes
  files_by name bytes true first other = ap Some (first refl)
  files_by name bytes false first other = other refl

  -- a file is found, where the new one of its name is it, and others were found
  file_found : (name bytes : List ℕ) → (bytes_eq name (tree_id l.cut empty).0 ≡ true → file ≡ bytes)
      → (bytes_eq name (tree_id l.cut empty).0 ≡ false → get l.names.files name ≡ Some bytes) → get now.names.files name ≡ Some bytes
  file_found name bytes first other =
      get_insert l.names.files (tree_id l.cut empty).0 file name ∙ files_by name bytes (bytes_eq name (tree_id l.cut empty).0) first other

  -- the one file of the new repository
  one_there : (i : Digest) (bytes : List ℕ) → Contains (files l.cut (map_of (repository_of (founded l repo branch date)) i)) bytes → file ≡ bytes
  one_there i bytes within =
      let none : map_of (repository_of (founded l repo branch date)) i ≡ empty = empty_map l.cut date branch l.next_version l.next_token i in
      elim (first_or_later file bytes [] (subst (λ fs. Contains fs bytes) (ap (files l.cut) none ∙ one_file l.cut) within)) [
        | inl same ↦ same
        | inr nothing ↦ absurd (Contains-nothing bytes nothing)
      ]

  new_file : (i : Digest) (bytes : List ℕ) → Contains (files l.cut (map_of (repository_of (founded l repo branch date)) i)) bytes
      → get now.names.files (file_name bytes).0 ≡ Some bytes
  new_file i bytes within =
      let same = one_there i bytes within in
      file_found (file_name bytes).0 bytes (λ tie. same)
      (λ apart. absurd (let tied : bytes_eq (file_name bytes).0 (tree_id l.cut empty).0 ≡ true =
      (bytes_eq-Decides (file_name bytes).0 (tree_id l.cut empty).0).1
      (ap (λ (b : List ℕ). (file_name b).0) (sym same) ∙ ap (λ (d : Digest). d.0) (file_named l.cut)) in cc))

  -- a file that was found is found
  old_file : (name bytes : List ℕ) → get l.names.files name ≡ Some bytes → get now.names.files name ≡ Some bytes
  old_file name bytes is =
      file_found name bytes
      (λ tie. same_file bytes (of_state l bytes (ready.index.kept name bytes is))
      (sym (same_text name (tree_id l.cut empty).0 (sym tie)) ∙ sym (ready.index.named name bytes is)))
      (λ apart. is)

  -- ---- what is kept

  -- what was there stays
  there_by : (q : List ℕ) (r : RepositoryStateValue) (test : Bool) → bytes_eq q repo ≡ test → get l.repositories q ≡ Some r
      → cond test (Some (founded l repo branch date)) (get l.repositories q) ≡ Some r
  there_by q r true tie is = absurd (let none = ap (get l.repositories) (same_text q repo (sym tie)) ∙ ready.unused in cc)
  there_by q r false apart is = is

  still_kept : (bytes : List ℕ) → AreKeptIn l.cut l.repositories bytes → AreKeptIn now.cut now.repositories bytes
  still_kept bytes kept = record {
    repo = kept.repo;
    r = kept.r;
    in_lake = get_insert l.repositories repo (founded l repo branch date) kept.repo ∙ there_by kept.repo kept.r (bytes_eq kept.repo repo) refl kept.in_lake;
    id = kept.id;
    commit = kept.commit;
    in_graph = kept.in_graph;
    are = kept.are;
  }

  -- the new file is kept
  file_kept : AreKeptIn now.cut now.repositories file
  file_kept = record {
    repo = repo;
    r = founded l repo branch date;
    in_lake = get_inserted l.repositories repo (founded l repo branch date);
    id = id;
    commit = first_record l.cut date;
    in_graph = get_inserted empty id.0 (first_record l.cut date);
    are = inr (subst (λ fs. Contains fs file)
        (sym (ap (files l.cut) (empty_map l.cut date branch l.next_version l.next_token id) ∙ one_file l.cut)) (Contains-first file []));
  }

  -- ---- the index

  new_named : (name bytes : List ℕ) → get now.names.files name ≡ Some bytes → (file_name bytes).0 ≡ name
  new_named =
      all_inserted (λ name bytes. (file_name bytes).0 ≡ name) l.names.files (tree_id l.cut empty).0 file
      (λ name tie. ap (λ (d : Digest). d.0) (file_named l.cut) ∙ sym (same_text name (tree_id l.cut empty).0 (sym tie)))
      (λ name bytes apart is. ready.index.named name bytes is)

  new_kept : (name bytes : List ℕ) → get now.names.files name ≡ Some bytes → AreKeptIn now.cut now.repositories bytes
  new_kept =
      all_inserted (λ name bytes. AreKeptIn now.cut now.repositories bytes) l.names.files (tree_id l.cut empty).0 file
      (λ name tie. file_kept)
      (λ name bytes apart is. still_kept bytes (of_state l bytes (ready.index.kept name bytes is)))

  -- what the index tells of each repository, where it is told of the new one and of those that were there
  each : (P : RepositoryStateValue → Type 0) → P (founded l repo branch date)
      → ((q : List ℕ) (r : RepositoryStateValue) → get l.repositories q ≡ Some r → P r)
      → (q : List ℕ) (r : RepositoryStateValue) → get now.repositories q ≡ Some r → P r
  each P new old = all_inserted (λ q r. P r) l.repositories repo (founded l repo branch date) (λ q tie. new) (λ q r apart is. old q r is)

  pub index_made : HasIndex now
  index_made = record {
    commits = λ q r i commit is there.
        each (λ r. (i : Digest) (commit : CommitRecordValue) → commit_of r.commits i ≡ Some commit
        → option_map commit_spelling (indexed_commit now i) ≡ Some (commit_spelling commit)) new_commit old_commit q r is i commit there;
    trees = λ q r i tree is there.
        each (λ r. (i : Digest) (tree : TreeValue) → get r.trees i.0 ≡ Some tree → tree.files ≡ files l.cut tree.map)
        (λ i tree there. ap (λ (t : TreeValue). t.files) (sym (only id.0 (first_tree l.cut) i.0 tree there).value)
        ∙ ap (λ (t : TreeValue). files l.cut t.map) (only id.0 (first_tree l.cut) i.0 tree there).value)
        (λ q r is i tree there. ready.index.trees q r i tree is there) q r is i tree there;
    files = λ q r i bytes is there within.
        each (λ r. (i : Digest) (bytes : List ℕ) → HasCommit (repository_of r) i → Contains (files l.cut (map_of (repository_of r) i)) bytes
        → get now.names.files (file_name bytes).0 ≡ Some bytes) (λ i bytes there within. new_file i bytes within)
        (λ q r is i bytes there within. old_file (file_name bytes).0 bytes (ready.index.files q r i bytes is there within)) q r is i bytes there within;
    named = new_named;
    kept = λ name bytes is. in_state now bytes (new_kept name bytes is);
  }
