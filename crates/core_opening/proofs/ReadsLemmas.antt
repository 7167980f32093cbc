-- The commits that are there, with their trees.
use Rattle.std.proofs.Common.{◌≡◌, ◌⊎◌, inl, inr, ℕ, Bool, true, false, List, [], ◌∷◌, ◌++◌, drop, Option, Some, None, Result, Ok, Err, IsOk, refl, sym, ap}
use Rattle.std.proofs.Common.{subst, ◌∙◌}
use Rattle.std.specs.Prelude.{IsPermutation}
use Rattle.std.specs.List.{Contains, flat_map}
use Rattle.std.specs.Option.{option_to_list}
use Rattle.std.proofs.lemmas.List.Elements.{Contains-append_cases, Contains-append_left, Contains-append_right, Contains-push}
use Rattle.lake_base.specs.declared.digest.Digest.{Digest}
use Rattle.lake_values.proofs.OrderLemmas.{Contains-first, Contains-later, Contains-nothing, first_or_later}
use Rattle.lake_values.specs.Commit.{CommitRecordValue}
use Rattle.lake_format.specs.Spelling.{commit_id, file_name}
use Rattle.lake_format.specs.declared.cut.Cut.{Cut}
use Rattle.meta_range.specs.Ranges.{TreeValue, first_file}
use Rattle.meta_range.specs.declared.fault.TreeFault.{TreeFault}
use Rattle.pair_format.specs.declared.key.OwnedKey.TheVariants as key
use Rattle.pair_format.specs.declared.stored.Stored.{Stored}
use Rattle.pair_format.specs.declared.stored.Stored.TheVariants as stored
use Rattle.pair_trees.specs.PairTrees.{tree_named}
use Rattle.pair_trees.specs.Things.{IsThere, Things}
use Rattle.pair_trees.proofs.ProvenanceLemmas.{metarange_there, range_there}
use Rattle.core_filling.specs.Filling.{CommitRead}
use Rattle.opening_parts.specs.Fillings.{from_last, read_in, read_with, reads_of, with_read_of}
use Rattle.core_opening.proofs.CommitLemmas.{files_in}
use Rattle.core_opening.proofs.TiesLemmas.{AreReadable, same_content, same_thing, tie_of}

module _ (cut : Cut) (things : Things) where
  -- one of these things is the commit that was read
  pub record IsReadOf (ts : Things) (c : CommitRead) : Type 0 where
    pub thing : Option Stored
    pub among : Contains ts thing
    pub is : read_in cut things thing ≡ Some c

  option_has : (o : Option CommitRead) (c : CommitRead) → Contains (option_to_list o) c → o ≡ Some c
  option_has None c has = absurd (Contains-nothing c has)
  option_has (Some d) c has = by (first_or_later d c [] has)
    where
      by : (d ≡ c) ⊎ Contains [] c → Some d ≡ Some c
      by (inl same) = ap Some same
      by (inr later) = absurd (Contains-nothing c later)

  has_option : (o : Option CommitRead) (c : CommitRead) → o ≡ Some c → Contains (option_to_list o) c
  has_option o c is = subst (λ o. Contains (option_to_list o) c) (sym is) (Contains-first c [])

  pub reads_back : (ts : Things) (c : CommitRead) → Contains (from_last (with_read_of cut things) ts []) c → IsReadOf ts c
  reads_back [] c has = absurd (Contains-nothing c has)
  reads_back (t ∷ ts) c has =
      by (reads_back ts c) (Contains-append_cases (from_last (with_read_of cut things) ts []) (option_to_list (read_in cut things t)) c has)
    where
      by : (Contains (from_last (with_read_of cut things) ts []) c → IsReadOf ts c)
          → Contains (from_last (with_read_of cut things) ts []) c ⊎ Contains (option_to_list (read_in cut things t)) c → IsReadOf (t ∷ ts) c
      by rest (inl later) =
          let r = rest later in record { thing = r.thing; among = Contains-later t r.thing ts r.among; is = r.is }
      by rest (inr first) = record { thing = t; among = Contains-first t ts; is = option_has (read_in cut things t) c first }

  pub reads_there : (ts : Things) (t : Option Stored) (c : CommitRead) → Contains ts t → read_in cut things t ≡ Some c
      → Contains (from_last (with_read_of cut things) ts []) c
  reads_there [] t c has is = absurd (Contains-nothing t has)
  reads_there (u ∷ ts) t c has is = by (λ later. reads_there ts t c later is) (first_or_later u t ts has)
    where
      by : (Contains ts t → Contains (from_last (with_read_of cut things) ts []) c) → (u ≡ t) ⊎ Contains ts t
          → Contains (from_last (with_read_of cut things) ts [] ++ option_to_list (read_in cut things u)) c
      by rest (inl same) =
          Contains-append_right (from_last (with_read_of cut things) ts []) (option_to_list (read_in cut things u)) c
          (has_option (read_in cut things u) c (ap (read_in cut things) same ∙ is))
      by rest (inr later) = Contains-append_left (from_last (with_read_of cut things) ts []) (option_to_list (read_in cut things u)) c (rest later)

  -- a commit that is there, with its tree
  pub record IsReadCommit (c : CommitRead) : Type 0 where
    pub id : Digest
    pub there : IsThere things (stored.Commit c.repo id c.expired c.content)
    pub read : tree_named cut things c.content ≡ Ok c.tree

  read_is : (repo : List ℕ) (id : Digest) (expired : Bool) (commit : CommitRecordValue) (c : CommitRead)
      → IsThere things (stored.Commit repo id expired commit) → (r : Result TreeValue TreeFault) → tree_named cut things commit ≡ r
      → read_with repo expired commit r ≡ Some c → IsReadCommit c
  read_is repo id expired commit c there (Err fault) is e = absurd cc
  read_is repo id expired commit c there (Ok tree) is e =
      let same : record { repo = repo; content = commit; tree = tree; expired = expired } ≡ c = inside e in
      subst IsReadCommit same (record { id = id; there = there; read = is })
    where
      inside : {x y : CommitRead} → Some x ≡ Some y → x ≡ y
      inside e = cc

  commit_is : (t : Option Stored) (c : CommitRead) → Contains things t → read_in cut things t ≡ Some c → IsReadCommit c
  commit_is None c has is = absurd cc
  commit_is (Some (stored.Commit repo id expired commit)) c has is =
      read_is repo id expired commit c has (tree_named cut things commit) refl is
  commit_is (Some (stored.Repository repo created default_branch settings)) c has is = absurd cc
  commit_is (Some (stored.Branch repo branch version head staging sealed)) c has is = absurd cc
  commit_is (Some (stored.Tag repo tag commit)) c has is = absurd cc
  commit_is (Some (stored.MetaRange name bytes)) c has is = absurd cc
  commit_is (Some (stored.Range name bytes)) c has is = absurd cc
  commit_is (Some (stored.Staged token path change)) c has is = absurd cc
  commit_is (Some (stored.Note repo name text)) c has is = absurd cc
  commit_is (Some (stored.Gone number)) c has is = absurd cc
  commit_is (Some (stored.Counts number version token)) c has is = absurd cc

  pub read_commit : (c : CommitRead) → Contains (reads_of cut things) c → IsReadCommit c
  read_commit c has = let r = reads_back things c has in commit_is r.thing c r.among r.is

-- the commits are those that are there, each with its tree, in some order
pub record AreReads (cut : Cut) (things : Things) (commits : List CommitRead) : Type 0 where
  pub each : (c : CommitRead) → Contains commits c → IsReadCommit cut things c
  pub all : (repo : List ℕ) (id : Digest) (expired : Bool) (commit : CommitRecordValue) (tree : TreeValue)
      → IsThere things (stored.Commit repo id expired commit) → tree_named cut things commit ≡ Ok tree
      → Contains commits (record { repo = repo; content = commit; tree = tree; expired = expired })

module _ (cut : Cut) (things : Things) (are : AreReadable cut things) (commits : List CommitRead) (reads : AreReads cut things commits) where
  -- its id is the SHA-256 of its bytes
  pub id_is : (c : CommitRead) (has : Contains commits c) → commit_id c.content ≡ (reads.each c has).id
  id_is c has =
      (tie_of cut things are.tied (stored.Commit c.repo (reads.each c has).id c.expired c.content) (reads.each c has).there).tie.named

  abbrev done : TreeValue → Result TreeValue TreeFault
  done tree = Ok tree

  ok_same : (x y : TreeValue) → done x ≡ done y → x ≡ y
  ok_same x y e = cc

  -- commits of one id in one repository are one
  pub one_read : (c d : CommitRead) → Contains commits c → Contains commits d → c.repo ≡ d.repo → commit_id c.content ≡ commit_id d.content → c ≡ d
  one_read c d one other home same =
      let a = reads.each c one in
      let b = reads.each d other in
      let ids : a.id ≡ b.id = sym (id_is c one) ∙ same ∙ id_is d other in
      let thing : stored.Commit c.repo a.id c.expired c.content ≡ stored.Commit d.repo b.id d.expired d.content =
      same_thing cut things are (stored.Commit c.repo a.id c.expired c.content) (stored.Commit d.repo b.id d.expired d.content) a.there b.there
      (λ i. key.Commit (home i) (ids i)) in
      let content : c.content ≡ d.content = cc in
      let expired : c.expired ≡ d.expired = cc in
      let tree : c.tree ≡ d.tree = ok_same c.tree d.tree (sym a.read ∙ ap (tree_named cut things) content ∙ b.read) in
      λ i. record { repo = home i; content = content i; tree = tree i; expired = expired i }

  -- and so are their contents, in whatever repositories
  pub one_content : (c d : CommitRead) → Contains commits c → Contains commits d → commit_id c.content ≡ commit_id d.content → c.content ≡ d.content
  one_content c d one other same =
      let a = reads.each c one in
      let b = reads.each d other in
      same_content cut things are a.id c.repo d.repo c.expired d.expired c.content d.content a.there
      (subst (λ (id : Digest). IsThere things (stored.Commit d.repo id d.expired d.content)) (sym (id_is d other) ∙ sym same ∙ id_is c one) b.there)

  -- ---- files

  -- a file of a tree that is read is there
  abbrev pub FileThere : CommitRead → List ℕ → Type 0
  FileThere c bytes =
      (IsThere things (stored.MetaRange (file_name bytes) bytes) × (first_file c.tree.files ≡ bytes))
      ⊎ (IsThere things (stored.Range (file_name bytes) bytes) × Contains (drop 1 c.tree.files) bytes)

  pub file_there : (c : CommitRead) → Contains commits c → (bytes : List ℕ) → Contains c.tree.files bytes → FileThere c bytes
  file_there c has bytes among = by c.tree.files refl among
    where
      read : tree_named cut things c.content ≡ Ok c.tree
      read = (reads.each c has).read

      by_cases : (first : List ℕ) (rest : List (List ℕ)) → c.tree.files ≡ first ∷ rest → (first ≡ bytes) ⊎ Contains rest bytes → FileThere c bytes
      by_cases first rest is (inl same) =
          let there = metarange_there cut things are.limits c.content c.tree read in
          let whole : first_file c.tree.files ≡ bytes = ap first_file is ∙ same in
          inl (
            subst (λ b. IsThere things (stored.MetaRange (file_name b) b)) whole
                (subst (λ n. IsThere things (stored.MetaRange n (first_file c.tree.files))) there.1 there.0),
            whole,
          )
      by_cases first rest is (inr later) =
          let ranges : Contains (drop 1 c.tree.files) bytes = subst (λ (files : List (List ℕ)). Contains (drop 1 files) bytes) (sym is) later in
          inr (range_there cut things are.limits c.content c.tree read bytes ranges, ranges)

      by : (files : List (List ℕ)) → c.tree.files ≡ files → Contains files bytes → FileThere c bytes
      by [] is among = absurd (Contains-nothing bytes among)
      by (first ∷ rest) is among = by_cases first rest is (first_or_later first bytes rest among)

  -- a metarange and a range of one name are one
  mixed : (c d : CommitRead) → Contains commits c → Contains commits d → (bytes other : List ℕ)
      → IsThere things (stored.MetaRange (file_name bytes) bytes) × (first_file c.tree.files ≡ bytes)
      → IsThere things (stored.Range (file_name other) other) × Contains (drop 1 d.tree.files) other → file_name bytes ≡ file_name other → other ≡ bytes
  mixed c d one two bytes other (there, first) (range, among) same =
      let a = reads.each c one in
      let b = reads.each d two in
      (tie_of cut things are.tied (stored.MetaRange (file_name bytes) bytes) there).tie.same d.expired other
      (record {
        repo = c.repo;
        id = a.id;
        expired = c.expired;
        commit = c.content;
        there = a.there;
        tree = c.tree;
        read = a.read;
        first = first;
        named = refl;
      })
      (record { repo = d.repo; id = b.id; commit = d.content; there = b.there; tree = d.tree; read = b.read; among = among; named = sym same })

  -- files of one name are one
  pub one_file : (c d : CommitRead) → Contains commits c → Contains commits d → (bytes other : List ℕ) → Contains c.tree.files bytes
      → Contains d.tree.files other → file_name bytes ≡ file_name other → bytes ≡ other
  one_file c d one two bytes other here there same = by (file_there c one bytes here) (file_there d two other there)
    where
      by : FileThere c bytes → FileThere d other → bytes ≡ other
      by (inl m) (inl n) =
          let is = same_thing cut things are (stored.MetaRange (file_name bytes) bytes) (stored.MetaRange (file_name other) other) m.0 n.0
          (ap (λ (d : Digest). key.MetaRange d) same) in cc
      by (inl m) (inr n) = sym (mixed c d one two bytes other m n same)
      by (inr m) (inl n) = mixed d c two one other bytes n m (sym same)
      by (inr m) (inr n) =
          let is = same_thing cut things are (stored.Range (file_name bytes) bytes) (stored.Range (file_name other) other) m.0 n.0
          (ap (λ (d : Digest). key.Range d) same) in cc

-- ---- files of some commits

-- a commit of these has this file
pub record HasFile (commits : List CommitRead) (bytes : List ℕ) : Type 0 where
  pub commit : CommitRead
  pub among : Contains commits commit
  pub file : Contains commit.tree.files bytes

pub file_back : (commits : List CommitRead) (bytes : List ℕ) → Contains (files_in commits) bytes → HasFile commits bytes
file_back [] bytes has = absurd (Contains-nothing bytes has)
file_back (c ∷ commits) bytes has = by (file_back commits bytes) (Contains-append_cases c.tree.files (files_in commits) bytes has)
  where
    by : (Contains (files_in commits) bytes → HasFile commits bytes) → Contains c.tree.files bytes ⊎ Contains (files_in commits) bytes
        → HasFile (c ∷ commits) bytes
    by rest (inl first) = record { commit = c; among = Contains-first c commits; file = first }
    by rest (inr later) = let r = rest later in record { commit = r.commit; among = Contains-later c r.commit commits r.among; file = r.file }

pub file_among : (commits : List CommitRead) (c : CommitRead) (bytes : List ℕ) → Contains commits c → Contains c.tree.files bytes
    → Contains (files_in commits) bytes
file_among [] c bytes has file = absurd (Contains-nothing c has)
file_among (d ∷ commits) c bytes has file = by (λ later. file_among commits c bytes later file) (first_or_later d c commits has)
  where
    by : (Contains commits c → Contains (files_in commits) bytes) → (d ≡ c) ⊎ Contains commits c → Contains (d.tree.files ++ files_in commits) bytes
    by rest (inl same) =
        Contains-append_left d.tree.files (files_in commits) bytes (subst (λ (e : CommitRead). Contains e.tree.files bytes) (sym same) file)
    by rest (inr later) = Contains-append_right d.tree.files (files_in commits) bytes (rest later)
