-- The index of a lake that is filled tells of just what is kept.
use Rattle.std.proofs.Common.{◌≡◌, ◌⊎◌, inl, inr, ℕ, List, Option, Some, None, IsSome, refl, sym, ap, subst, ◌∙◌}
use Rattle.std.specs.Prelude.{option_and_then, option_map, unwrap_or}
use Rattle.std.specs.FinMap.{empty, get}
use Rattle.std.specs.List.{Contains}
use Rattle.lake_base.specs.Maps.{ByteMap, byte_order}
use Rattle.lake_base.specs.declared.digest.Digest.{Digest}
use Rattle.lake_values.specs.Ancestry.{commit_of, id_of}
use Rattle.lake_values.specs.Commit.{CommitRecordValue}
use Rattle.lake_values.specs.KeyMap.{KeyMapValue}
use Rattle.lake_format.specs.Cutting.{files}
use Rattle.lake_format.specs.Spelling.{commit_id, commit_spelling, file_name}
use Rattle.lake_format.specs.declared.cut.Cut.{Cut}
use Rattle.meta_range.specs.Ranges.{TreeValue}
use Rattle.byte_map.proofs.ByteMapLemmas.{get_empty}
use Rattle.byte_map.proofs.ValuesLemmas.{get_map_values}
use Rattle.lake_model.specs.Commits.{AreKept}
use Rattle.lake_model.specs.State.{HasCommit, map_of}
use Rattle.pair_format.specs.declared.pair.Pair.{Pair}
use Rattle.pair_trees.specs.Spelled.{AreSpelled}
use Rattle.pair_trees.specs.Things.{IsThere, Things}
use Rattle.pair_trees.proofs.ProvenanceLemmas.{read_cut}
use Rattle.core_state.specs.FilePlaces.{FilePlaceValue}
use Rattle.core_state.specs.Index.{HasIndex, indexed_commit}
use Rattle.core_state.specs.NameIndexes.{NameIndexValue}
use Rattle.core_state.specs.RepositoryStates.{RepositoryStateValue, repository_of}
use Rattle.core_state.specs.LakeStates.{LakeStateValue, state_of}
use Rattle.core_filling.specs.Filling.{CommitRead}
use Rattle.core_filling.specs.NewPlaces.{IsPlaceAmong}
use Rattle.core_pairs.specs.KeptPlaces.{HasPlaces}
use Rattle.core_pairs.specs.LakePairs.{IsTreeIn}
use Rattle.core_pairs.proofs.ThingLemmas.{closed}
use Rattle.opening_parts.specs.Filled.{ArePlacesAmong}
use Rattle.core_opening.proofs.BaseLemmas.{first_thing}
use Rattle.core_opening.proofs.CommitLemmas.{all_files, all_homes, file_put, files_in, home_put}
use Rattle.core_opening.proofs.FilledLemmas.{IsAt, before, lake, own_there, some_is}
use Rattle.core_opening.proofs.OpenedLemmas.{commit_at, cut_so, has_commit, has_tree, tree_of_it}
use Rattle.opening_parts.proofs.PlainLemmas.{before_plain}
use Rattle.core_opening.proofs.PutsLemmas.{HasPut, IsFound, puts, puts_back, puts_some, puts_there}
use Rattle.core_opening.proofs.ReadsLemmas.{AreReads, file_among, file_back, one_content, one_file}
use Rattle.core_opening.proofs.TiesLemmas.{AreReadable}

module _ (cut : Cut) (pairs : List Pair) (things : Things) (spelled : AreSpelled pairs things) (are : AreReadable cut things) (counts : ℕ × ℕ × ℕ)
    (known : IsThere things (first_thing cut counts)) (commits : List CommitRead) (reads : AreReads cut things commits) where
  abbrev filled : LakeStateValue
  filled = lake cut things are counts known commits reads

  -- ---- names

  no_names : {X Y : Type 0} (k : List ℕ) (x : X) → get (empty {X = X} {R = byte_order}) k ≡ Some x → Y
  no_names {X} k x there = let none = get_empty {X = X} k in absurd cc

  homes_are : filled.names.homes ≡ puts home_put commits empty
  homes_are =
      all_homes commits (before cut things are counts known commits reads)
      ∙ ap (λ (n : NameIndexValue). puts home_put commits n.homes) (before_plain cut counts things).names

  files_are : filled.names.files ≡ puts file_put (files_in commits) empty
  files_are =
      all_files commits (before cut things are counts known commits reads)
      ∙ ap (λ (n : NameIndexValue). puts file_put (files_in commits) n.files) (before_plain cut counts things).names

  -- a commit that the index tells of an id
  pub record IsHomed (k home : List ℕ) : Type 0 where
    pub c : CommitRead
    pub among : Contains commits c
    pub at : (commit_id c.content).0 ≡ k
    pub is : c.repo ≡ home

  homed_by : (k home : List ℕ) → (get (empty {X = List ℕ} {R = byte_order}) k ≡ Some home) ⊎ HasPut home_put commits k home → IsHomed k home
  homed_by k home (inl none) = no_names k home none
  homed_by k home (inr put) =
      let h = some_is put.is in
      record {
        c = put.one;
        among = put.among;
        at = ap (λ (p : List ℕ × List ℕ). p.0) h;
        is = ap (λ (p : List ℕ × List ℕ). p.1) h;
      }

  -- ---- commits of the lake

  -- the repository of one of these stands
  its_home : (c : CommitRead) → Contains commits c → (r : RepositoryStateValue) × (get filled.repositories c.repo ≡ Some r)
  its_home c has = own_there cut things are counts known commits reads c has

  at_home : (c : CommitRead) → Contains commits c → IsAt cut things are counts known commits reads c.repo (commit_id c.content).0 c
  at_home c has = record { among = has; home = refl; named = refl }

  indexed : (c : CommitRead) → Contains commits c → (id : Digest) → (commit_id c.content).0 ≡ id.0
      → option_map commit_spelling (indexed_commit filled id) ≡ Some (commit_spelling c.content)
  indexed c has id named =
      let f = puts_some home_put empty commits c id.0 c.repo has (λ i. Some (named i, c.repo)) in
      let h = homed_by id.0 f.x (puts_back home_put empty commits id.0 f.x f.is) in
      let r = its_home h.c h.among in
      let content : h.c.content ≡ c.content =
      one_content cut things are commits reads h.c c h.among has (ap id_of (h.at ∙ sym named)) in
      let told : get filled.names.homes id.0 ≡ Some h.c.repo = ap (λ (m : ByteMap (List ℕ)). get m id.0) homes_are ∙ f.is ∙ ap Some (sym h.is) in
      let found : commit_of r.0.commits id ≡ Some h.c.content =
      ap (λ k. get r.0.commits k) (sym h.at) ∙ has_commit cut pairs things spelled are counts known commits reads h.c.repo r.0 r.1
      (commit_id h.c.content).0 h.c (at_home h.c h.among) in
      ap (λ o. option_map commit_spelling (option_and_then (λ repo. option_and_then (λ (r : RepositoryStateValue). commit_of r.commits id)
      (get filled.repositories repo)) o)) told
      ∙ ap (λ o. option_map commit_spelling (option_and_then (λ (r : RepositoryStateValue). commit_of r.commits id) o)) r.1
      ∙ ap (option_map commit_spelling) found ∙ ap (λ c. Some (commit_spelling c)) content

  -- the files of a tree are those of the cut
  cut_tree : (c : CommitRead) → Contains commits c → c.tree.files ≡ files cut c.tree.map
  cut_tree c has = read_cut cut things are.limits c.content c.tree (reads.each c has).read

  -- ---- files

  one_name : (one other : List ℕ) → Contains (files_in commits) one → Contains (files_in commits) other → (file_name one).0 ≡ (file_name other).0 → one ≡ other
  one_name one other here there same =
      let a = file_back commits one here in
      let b = file_back commits other there in
      one_file cut things are commits reads a.commit b.commit a.among b.among one other a.file b.file (ap id_of same)

  file_found : (bytes : List ℕ) → Contains (files_in commits) bytes → get filled.names.files (file_name bytes).0 ≡ Some bytes
  file_found bytes has =
      ap (λ (m : ByteMap (List ℕ)). get m (file_name bytes).0) files_are
      ∙ puts_there file_put empty (file_name bytes).0 bytes (files_in commits)
      (λ file y among is. sym (ap (λ (p : List ℕ × List ℕ). p.1) (some_is is))
      ∙ one_name file bytes among has (ap (λ (p : List ℕ × List ℕ). p.0) (some_is is)))
      bytes has refl

  -- a file that the index tells of
  pub record IsNamedFile (name bytes : List ℕ) : Type 0 where
    pub among : Contains (files_in commits) bytes
    pub named : (file_name bytes).0 ≡ name

  named_by : (name bytes : List ℕ) → (get (empty {X = List ℕ} {R = byte_order}) name ≡ Some bytes) ⊎ HasPut file_put (files_in commits) name bytes
      → IsNamedFile name bytes
  named_by name bytes (inl none) = no_names name bytes none
  named_by name bytes (inr put) =
      let h = some_is put.is in
      let same : put.one ≡ bytes = ap (λ (p : List ℕ × List ℕ). p.1) h in
      record {
        among = subst (Contains (files_in commits)) same put.among;
        named = ap (λ file. (file_name file).0) (sym same) ∙ ap (λ (p : List ℕ × List ℕ). p.0) h;
      }

  named_file : (name bytes : List ℕ) → get filled.names.files name ≡ Some bytes → IsNamedFile name bytes
  named_file name bytes at =
      named_by name bytes (puts_back file_put empty (files_in commits) name bytes
      (ap (λ (m : ByteMap (List ℕ)). get m name) (sym files_are) ∙ at))

  -- the map of a commit
  map_is : (repo : List ℕ) (r : RepositoryStateValue) → get filled.repositories repo ≡ Some r → (id : Digest) (c : CommitRead)
      → IsAt cut things are counts known commits reads repo id.0 c → map_of (repository_of r) id ≡ c.tree.map
  map_is repo r in_lake id c at =
      ap (λ (o : Option KeyMapValue). unwrap_or o empty) (get_map_values (λ (t : TreeValue). t.map) r.trees id.0
      ∙ ap (option_map (λ (t : TreeValue). t.map)) (has_tree cut pairs things spelled are counts known commits reads repo r in_lake id.0 c at))

  file_of_commit : (repo : List ℕ) (r : RepositoryStateValue) (id : Digest) (bytes : List ℕ) → get filled.repositories repo ≡ Some r
      → (o : Option CommitRecordValue) → commit_of r.commits id ≡ o → IsSome o → Contains (files filled.cut (map_of (repository_of r) id)) bytes
      → get filled.names.files (file_name bytes).0 ≡ Some bytes
  file_of_commit repo r id bytes in_lake None at some has = absurd cc
  file_of_commit repo r id bytes in_lake (Some commit) at some has =
      let f = commit_at cut pairs things spelled are counts known commits reads repo r in_lake id commit at in
      let all : files filled.cut (map_of (repository_of r) id) ≡ f.c.tree.files =
      ap (λ c. files c (map_of (repository_of r) id)) (cut_so cut pairs things spelled are counts known commits reads)
      ∙ ap (files cut) (map_is repo r in_lake id f.c f.at) ∙ sym (cut_tree f.c f.at.among) in
      file_found bytes (file_among commits f.c bytes f.at.among (subst (λ (fs : List (List ℕ)). Contains fs bytes) all has))

  kept_file : (name bytes : List ℕ) → get filled.names.files name ≡ Some bytes → AreKept (state_of filled) bytes
  kept_file name bytes at =
      let n = named_file name bytes at in
      let f = file_back commits bytes n.among in
      let r = its_home f.commit f.among in
      let at_it = at_home f.commit f.among in
      let id = commit_id f.commit.content in
      let all : f.commit.tree.files ≡ files filled.cut (map_of (repository_of r.0) id) =
      cut_tree f.commit f.among ∙ ap (files cut) (sym (map_is f.commit.repo r.0 r.1 id f.commit at_it))
      ∙ ap (λ c. files c (map_of (repository_of r.0) id)) (sym (cut_so cut pairs things spelled are counts known commits reads)) in
      record {
        repo = f.commit.repo;
        r = repository_of r.0;
        in_lake = get_map_values repository_of filled.repositories f.commit.repo ∙ ap (option_map repository_of) r.1;
        id = id;
        commit = f.commit.content;
        in_graph = has_commit cut pairs things spelled are counts known commits reads f.commit.repo r.0 r.1 id.0 f.commit at_it;
        are = inr (subst (λ (fs : List (List ℕ)). Contains fs bytes) all f.file);
      }

  pub has_index : HasIndex filled
  has_index = record {
    commits = λ repo r id commit in_lake at.
        let f = commit_at cut pairs things spelled are counts known commits reads repo r in_lake id commit at in
        indexed f.c f.at.among id f.at.named ∙ ap (λ c. Some (commit_spelling c)) f.is;
    trees = λ repo r id tree in_lake at.
        let f = tree_of_it cut pairs things spelled are counts known commits reads repo r in_lake id.0 tree at in
        subst (λ (t : TreeValue). t.files ≡ files filled.cut t.map) f.is
        (cut_tree f.c f.at.among ∙ ap (λ c. files c f.c.tree.map) (sym (cut_so cut pairs things spelled are counts known commits reads)));
    files = λ repo r id bytes in_lake some has. file_of_commit repo r id bytes in_lake (commit_of r.commits id) refl some has;
    named = λ name bytes at. (named_file name bytes at).named;
    kept = kept_file;
  }

  -- ---- places

  tree_in : (c : CommitRead) → Contains commits c → IsTreeIn filled c.tree
  tree_in c has =
      let r = its_home c has in (
        c.repo,
        (
          (commit_id c.content).0,
          closed (get filled.repositories c.repo) (λ (r : RepositoryStateValue). get r.trees (commit_id c.content).0 ≡ Some c.tree) r.0 r.1
              (has_tree cut pairs things spelled are counts known commits reads c.repo r.0 r.1 (commit_id c.content).0 c (at_home c has)),
        ),
      )

  pub has_places : (kept : ByteMap (Option FilePlaceValue)) → ArePlacesAmong commits kept → HasPlaces kept filled
  has_places kept among = record {
    named = λ name place at. (among name place at).of.named;
    told = λ name place at. let p = among name place at in (p.commit.tree, (tree_in p.commit p.among, p.of.is));
  }
