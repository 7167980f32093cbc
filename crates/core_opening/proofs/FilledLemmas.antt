-- What stands in a lake that is filled: just what the pairs spell, but for files that no tree needs.
use Rattle.std.proofs.Common.{◌≡◌, ◌⊎◌, inl, inr, ℕ, Bool, true, false, cond, List, [], ◌∷◌, drop, Option, Some, None, IsOk, Result, Ok, Err, refl, sym, ap}
use Rattle.std.proofs.Common.{subst, ◌∙◌}
use Rattle.std.specs.Prelude.{is_some, option_map}
use Rattle.std.specs.FinMap.{contains_key, empty, get}
use Rattle.std.specs.List.{Contains}
use Rattle.std.specs.Str.{bytes_eq}
use Rattle.lake_base.specs.Maps.{ByteMap, byte_order}
use Rattle.lake_base.specs.declared.digest.Digest.{Digest}
use Rattle.lake_values.specs.Ancestry.{commit_of, id_of}
use Rattle.lake_values.specs.Commit.{CommitRecordValue}
use Rattle.lake_format.specs.Spelling.{commit_id, file_name}
use Rattle.lake_format.specs.declared.cut.Cut.{Cut}
use Rattle.meta_range.specs.Ranges.{TreeValue, first_file}
use Rattle.meta_range.specs.declared.fault.TreeFault.{TreeFault}
use Rattle.byte_map.proofs.ByteMapLemmas.{get_empty}
use Rattle.pair_format.specs.declared.key.OwnedKey.TheVariants as key
use Rattle.pair_format.specs.declared.stored.Stored.{Stored}
use Rattle.pair_format.specs.declared.stored.Stored.TheVariants as stored
use Rattle.pair_trees.specs.PairTrees.{tree_named}
use Rattle.pair_trees.specs.Things.{IsThere, Things}
use Rattle.pair_trees.proofs.ProvenanceLemmas.{metarange_there, range_there}
use Rattle.core_state.specs.RepositoryStates.{RepositoryStateValue}
use Rattle.core_state.specs.LakeStates.{LakeStateValue}
use Rattle.core_filling.specs.Filling.{CommitRead, with_commits}
use Rattle.core_pairs.specs.LakePairs.{AreTokensApart, IsFile, IsMetaRangeOf, IsRangeOf, StandsIn}
use Rattle.core_pairs.proofs.StandLemmas.{same_bytes, tied}
use Rattle.core_pairs.proofs.ThingLemmas.{HasCommitOf, IsIn, LakeThing, ThingOf, closed, from_lake, from_repository, into}
use Rattle.opening_parts.specs.Filled.{lake_before}
use Rattle.core_opening.proofs.BaseLemmas.{first_thing, is_base}
use Rattle.core_opening.proofs.BranchLemmas.{HasIt, is_branch, repository_in}
use Rattle.core_opening.proofs.CommitLemmas.{commit_put, expired_put, lake_same, own, own_commits, own_expired, own_graph, own_same, own_trees, tree_put}
use Rattle.core_opening.proofs.CommitLemmas.{with_graph}
use Rattle.core_opening.proofs.CommitLemmas.{dead_if, put_if, with_parts}
use Rattle.opening_parts.proofs.PlainLemmas.{HasNoCommits, before_plain}
use Rattle.core_opening.proofs.PutsLemmas.{HasPut, puts, puts_back, puts_there}
use Rattle.core_opening.proofs.ReadsLemmas.{AreReads, IsReadCommit, id_is, one_read}
use Rattle.core_opening.proofs.RestLemmas.{Plain, is_rest, shows_plain}
use Rattle.core_opening.proofs.TiesLemmas.{AreReadable, same_thing, tie_of}

pub some_is : {X : Type 0} {x y : X} → Some x ≡ Some y → x ≡ y
some_is e = cc

ok_of : (r : Result TreeValue TreeFault) → IsOk r → (tree : TreeValue) × (r ≡ Ok tree)
ok_of (Ok tree) h = (tree, refl)
ok_of (Err fault) h = absurd cc

-- the counts that are there are one
one_counts : (cut : Cut) (things : Things) (are : AreReadable cut things) (counts : ℕ × ℕ × ℕ) → IsThere things (first_thing cut counts)
    → (number version token : ℕ) → IsThere things (stored.Counts number version token) → first_thing cut counts ≡ stored.Counts number version token
one_counts cut things are counts known number version token has =
    same_thing cut things are (first_thing cut counts) (stored.Counts number version token) known has refl

-- all but commits and files
abbrev pub is_plain : Stored → Bool
is_plain (stored.Commit repo id expired commit) = false
is_plain (stored.MetaRange name bytes) = false
is_plain (stored.Range name bytes) = false
is_plain _ = true

-- what a commit puts, where it does
module _ {X : Type 0} (repo : List ℕ) (c : CommitRead) (k : List ℕ) (x y : X) where
  pub chosen : (test : Bool) → bytes_eq repo c.repo ≡ test → put_if test (commit_id c.content).0 x ≡ Some (k, y)
      → (repo ≡ c.repo) × (((commit_id c.content).0 ≡ k) × (x ≡ y))
  chosen true e is = (tied repo c.repo e, (ap (λ (p : List ℕ × X). p.0) (some_is is), ap (λ (p : List ℕ × X). p.1) (some_is is)))
  chosen false e is = absurd cc

module _ (cut : Cut) (things : Things) (are : AreReadable cut things) (counts : ℕ × ℕ × ℕ) (known : IsThere things (first_thing cut counts))
    (commits : List CommitRead) (reads : AreReads cut things commits) where
  abbrev pub before : LakeStateValue
  before = lake_before cut counts things

  abbrev pub lake : LakeStateValue
  lake = with_commits commits before

  -- ---- repositories

  -- a repository of the lake is one of before with its commits
  pub record IsOwn (repo : List ℕ) (r : RepositoryStateValue) : Type 0 where
    pub was : RepositoryStateValue
    pub in_before : get before.repositories repo ≡ Some was
    pub is : own repo commits was ≡ r

  own_of : (repo : List ℕ) (r : RepositoryStateValue) (o : Option RepositoryStateValue) → get before.repositories repo ≡ o
      → option_map (own repo commits) o ≡ Some r → IsOwn repo r
  own_of repo r None at e = absurd cc
  own_of repo r (Some was) at e = record { was = was; in_before = at; is = some_is e }

  pub is_own : (repo : List ℕ) (r : RepositoryStateValue) → get lake.repositories repo ≡ Some r → IsOwn repo r
  is_own repo r at = own_of repo r (get before.repositories repo) refl (sym (own_commits commits before repo) ∙ at)

  pub stays_in : (repo : List ℕ) (was : RepositoryStateValue) → get before.repositories repo ≡ Some was
      → get lake.repositories repo ≡ Some (own repo commits was)
  stays_in repo was at = own_commits commits before repo ∙ ap (option_map (own repo commits)) at

  none_of : (repo : List ℕ) (was : RepositoryStateValue) → get before.repositories repo ≡ Some was → HasNoCommits was
  none_of repo was at = (before_plain cut counts things).none repo was at

  pub graph_is : (repo : List ℕ) (was : RepositoryStateValue) → get before.repositories repo ≡ Some was
      → (own repo commits was).commits ≡ puts (commit_put repo) commits empty
  graph_is repo was at = own_graph repo commits was ∙ ap (puts (commit_put repo) commits) (none_of repo was at).commits

  pub trees_are : (repo : List ℕ) (was : RepositoryStateValue) → get before.repositories repo ≡ Some was
      → (own repo commits was).trees ≡ puts (tree_put repo) commits empty
  trees_are repo was at = own_trees repo commits was ∙ ap (puts (tree_put repo) commits) (none_of repo was at).trees

  pub expired_are : (repo : List ℕ) (was : RepositoryStateValue) → get before.repositories repo ≡ Some was
      → (own repo commits was).expired ≡ puts (expired_put repo) commits empty
  expired_are repo was at = own_expired repo commits was ∙ ap (puts (expired_put repo) commits) (none_of repo was at).expired

  -- ---- commits of a repository

  -- one of the commits, of a repository and an id
  pub record IsAt (repo k : List ℕ) (c : CommitRead) : Type 0 where
    pub among : Contains commits c
    pub home : repo ≡ c.repo
    pub named : (commit_id c.content).0 ≡ k

  pub one_at : (repo k : List ℕ) (c d : CommitRead) → IsAt repo k c → IsAt repo k d → c ≡ d
  one_at repo k c d one other =
      one_read cut things are commits reads c d one.among other.among (sym one.home ∙ other.home) (ap id_of (one.named ∙ sym other.named))

  -- one that is found in a map of a repository
  pub record FoundAt (repo k : List ℕ) {X : Type 0} (part : CommitRead → X) (x : X) : Type 0 where
    pub c : CommitRead
    pub at : IsAt repo k c
    pub is : part c ≡ x

  nothing : {X Y : Type 0} (k : List ℕ) (x : X) → get (empty {X = X} {R = byte_order}) k ≡ Some x → Y
  nothing {X} k x there = let none = get_empty {X = X} k in absurd cc

  module _ {X : Type 0} (part : CommitRead → X) (repo : List ℕ) where
    abbrev part_put : CommitRead → Option (List ℕ × X)
    part_put c = put_if (bytes_eq repo c.repo) (commit_id c.content).0 (part c)

    found_by : (k : List ℕ) (x : X) → (get (puts part_put commits empty) k ≡ Some x)
        → (get (empty {X = X} {R = byte_order}) k ≡ Some x) ⊎ HasPut part_put commits k x
        → FoundAt repo k part x
    found_by k x there (inl none) = nothing k x none
    found_by k x there (inr put) =
        let h = chosen repo put.one k (part put.one) x (bytes_eq repo put.one.repo) refl put.is in
        record { c = put.one; at = record { among = put.among; home = h.0; named = h.1.0 }; is = h.1.1 }

    pub found_part : (k : List ℕ) (x : X) → get (puts part_put commits empty) k ≡ Some x → FoundAt repo k part x
    found_part k x there = found_by k x there (puts_back part_put empty commits k x there)

    puts_it : (k : List ℕ) (c : CommitRead) → IsAt repo k c → part_put c ≡ Some (k, part c)
    puts_it k c at =
        ap (λ b. put_if b (commit_id c.content).0 (part c)) (ap (λ r. bytes_eq repo r) (sym at.home) ∙ same_bytes repo)
        ∙ (λ i. Some (at.named i, part c))

    only_it : (k : List ℕ) (c : CommitRead) → IsAt repo k c → (d : CommitRead) (y : X) → Contains commits d → part_put d ≡ Some (k, y) → y ≡ part c
    only_it k c at d y among is =
        let h = chosen repo d k (part d) y (bytes_eq repo d.repo) refl is in
        sym h.1.1 ∙ ap part (one_at repo k d c (record { among = among; home = h.0; named = h.1.0 }) at)

    pub part_there : (k : List ℕ) (c : CommitRead) → IsAt repo k c → get (puts part_put commits empty) k ≡ Some (part c)
    part_there k c at = puts_there part_put empty k (part c) commits (only_it k c at) c at.among (puts_it k c at)

  -- whether one is expired
  module _ (repo k : List ℕ) where
    dead_by : (c : CommitRead) (test dead : Bool) → bytes_eq repo c.repo ≡ test → c.expired ≡ dead
        → dead_if test dead (commit_id c.content).0 ≡ Some (k, tt)
        → (repo ≡ c.repo) × (((commit_id c.content).0 ≡ k) × (c.expired ≡ true))
    dead_by c true true e d is = (tied repo c.repo e, (ap (λ (p : List ℕ × Unit {0}). p.0) (some_is is), d))
    dead_by c true false e d is = absurd cc
    dead_by c false dead e d is = absurd cc

    pub record IsDead : Type 0 where
      pub c : CommitRead
      pub at : IsAt repo k c
      pub is : c.expired ≡ true

    dead_found : (get (empty {X = Unit {0}} {R = byte_order}) k ≡ Some tt) ⊎ HasPut (expired_put repo) commits k tt → IsDead
    dead_found (inl none) = nothing k tt none
    dead_found (inr put) =
        let h = dead_by put.one (bytes_eq repo put.one.repo) put.one.expired refl refl put.is in
        record { c = put.one; at = record { among = put.among; home = h.0; named = h.1.0 }; is = h.1.1 }

    pub dead_back : get (puts (expired_put repo) commits empty) k ≡ Some tt → IsDead
    dead_back there = dead_found (puts_back (expired_put repo) empty commits k tt there)

    alive : (c : CommitRead) → IsAt repo k c → c.expired ≡ false → (o : Option (Unit {0})) → get (puts (expired_put repo) commits empty) k ≡ o
        → is_some o ≡ false
    alive c at live None there = refl
    alive c at live (Some u) there =
        let d = dead_back there in
        let same = ap (λ (c : CommitRead). c.expired) (one_at repo k d.c c d.at at) in
        absurd cc

    pub expired_is : (c : CommitRead) → IsAt repo k c → contains_key (puts (expired_put repo) commits empty) k ≡ c.expired
    expired_is c at = by c.expired refl
      where
        by : (dead : Bool) → c.expired ≡ dead → contains_key (puts (expired_put repo) commits empty) k ≡ c.expired
        by true dead =
            ap is_some (puts_there (expired_put repo) empty k tt commits (λ d y among is. refl) c at.among
            (ap (λ r. dead_if (bytes_eq repo r) c.expired (commit_id c.content).0) (sym at.home)
            ∙ ap (λ b. dead_if b c.expired (commit_id c.content).0) (same_bytes repo)
            ∙ ap (λ b. put_if b (commit_id c.content).0 tt) dead ∙ (λ i. Some (at.named i, tt))))
            ∙ sym dead
        by false live = alive c at live (get (puts (expired_put repo) commits empty) k) refl ∙ sym live

  -- ---- what stands

  -- of repositories, all but their commits
  same_thing_of : (q : List ℕ) (was : RepositoryStateValue) (now : RepositoryStateValue) (s : Stored) → is_plain s ≡ true
      → ThingOf q (with_graph was now) s → ThingOf q was s
  same_thing_of q was now (stored.Commit repo id expired commit) is h = absurd cc
  same_thing_of q was now (stored.MetaRange name bytes) is h = absurd cc
  same_thing_of q was now (stored.Range name bytes) is h = absurd cc
  same_thing_of q was now s is h = h

  same_thing_in : (q : List ℕ) (was : RepositoryStateValue) (now : RepositoryStateValue) (s : Stored) → is_plain s ≡ true
      → ThingOf q was s → ThingOf q (with_graph was now) s
  same_thing_in q was now (stored.Commit repo id expired commit) is h = absurd cc
  same_thing_in q was now (stored.MetaRange name bytes) is h = absurd cc
  same_thing_in q was now (stored.Range name bytes) is h = absurd cc
  same_thing_in q was now s is h = h

  lake_thing_of : (l now : LakeStateValue) (s : Stored) → LakeThing (with_parts l now) s → LakeThing l s
  lake_thing_of l now (stored.Gone number) h = h
  lake_thing_of l now (stored.Counts number version token) h = h
  lake_thing_of l now s h = absurd h

  lake_thing_in : (l now : LakeStateValue) (s : Stored) → LakeThing l s → LakeThing (with_parts l now) s
  lake_thing_in l now (stored.Gone number) h = h
  lake_thing_in l now (stored.Counts number version token) h = h
  lake_thing_in l now s h = absurd h

  plain_was : (s : Stored) → is_plain s ≡ true → LakeThing lake s ⊎ IsIn lake s → StandsIn before s
  plain_was s is (inl h) = from_lake before s (lake_thing_of before lake s (subst (λ l. LakeThing l s) (lake_same commits before) h))
  plain_was s is (inr i) =
      let o = is_own i.q i.r i.in_lake in
      from_repository before i.q o.was o.in_before s
      (same_thing_of i.q o.was (own i.q commits o.was) s is
      (subst (λ r. ThingOf i.q r s) (sym o.is ∙ own_same i.q commits o.was) i.thing))

  plain_is : (s : Stored) → is_plain s ≡ true → LakeThing before s ⊎ IsIn before s → StandsIn lake s
  plain_is s is (inl h) = from_lake lake s (subst (λ l. LakeThing l s) (sym (lake_same commits before)) (lake_thing_in before lake s h))
  plain_is s is (inr i) =
      from_repository lake i.q (own i.q commits i.r) (stays_in i.q i.r i.in_lake) s
      (subst (λ r. ThingOf i.q r s) (sym (own_same i.q commits i.r)) (same_thing_in i.q i.r (own i.q commits i.r) s is i.thing))

  plain_there : (s : Stored) → Plain cut things are counts s → IsThere things s
  plain_there s (inl (is, has)) = has
  plain_there s (inr (inl (is, has))) = has
  plain_there s (inr (inr (inl (is, has)))) = has
  plain_there s (inr (inr (inr same))) = subst (IsThere things) same known

  there_plain : (s : Stored) → is_plain s ≡ true → IsThere things s → Plain cut things are counts s
  there_plain (stored.Tag repo tag commit) is has = inl (refl, has)
  there_plain (stored.Note repo name text) is has = inl (refl, has)
  there_plain (stored.Staged token path change) is has = inl (refl, has)
  there_plain (stored.Branch repo branch version head staging sealed) is has = inr (inl (refl, has))
  there_plain (stored.Repository repo created default_branch settings) is has = inr (inr (inl (refl, has)))
  there_plain (stored.Gone number) is has = inr (inr (inl (refl, has)))
  there_plain (stored.Counts number version token) is has = inr (inr (inr (one_counts cut things are counts known number version token has)))
  there_plain s is has = absurd cc

  -- ---- commits and files

  commit_there : (repo : List ℕ) (id : Digest) (expired : Bool) (commit : CommitRecordValue) (q : List ℕ) (r : RepositoryStateValue)
      → repo ≡ q → get lake.repositories q ≡ Some r → HasCommitOf id expired commit r → IsThere things (stored.Commit repo id expired commit)
  commit_there repo id expired commit q r home in_lake (there, dead) =
      let o = is_own q r in_lake in
      let graph : r.commits ≡ puts (commit_put q) commits empty = ap (λ (r : RepositoryStateValue). r.commits) (sym o.is) ∙ graph_is q o.was o.in_before in
      let gone : r.expired ≡ puts (expired_put q) commits empty = ap (λ (r : RepositoryStateValue). r.expired) (sym o.is) ∙ expired_are q o.was o.in_before in
      let f = found_part (λ c. c.content) q id.0 commit (ap (λ (m : ByteMap CommitRecordValue). get m id.0) (sym graph) ∙ there) in
      let old : expired ≡ f.c.expired = sym dead ∙ ap (λ (m : ByteMap (Unit {0})). contains_key m id.0) gone ∙ expired_is q id.0 f.c f.at in
      let ids : (reads.each f.c f.at.among).id ≡ id = sym (id_is cut things are commits reads f.c f.at.among) ∙ ap id_of f.at.named in
      subst (IsThere things) (λ i. stored.Commit ((sym f.at.home ∙ sym home) i) (ids i) (sym old i) (f.is i)) (reads.each f.c f.at.among).there

  tree_at : (q : List ℕ) (r : RepositoryStateValue) (k : List ℕ) (tree : TreeValue) → get lake.repositories q ≡ Some r → get r.trees k ≡ Some tree
      → FoundAt q k (λ c. c.tree) tree
  tree_at q r k tree in_lake at =
      let o = is_own q r in_lake in
      let trees : r.trees ≡ puts (tree_put q) commits empty = ap (λ (r : RepositoryStateValue). r.trees) (sym o.is) ∙ trees_are q o.was o.in_before in
      found_part (λ c. c.tree) q k tree (ap (λ (m : ByteMap TreeValue). get m k) (sym trees) ∙ at)

  metarange_in : (name : Digest) (bytes : List ℕ) (q : List ℕ) (r : RepositoryStateValue) (k : List ℕ) (tree : TreeValue) → file_name bytes ≡ name
      → get lake.repositories q ≡ Some r → get r.trees k ≡ Some tree → IsMetaRangeOf tree bytes → IsThere things (stored.MetaRange name bytes)
  metarange_in name bytes q r k tree named in_lake at (ranges, is) =
      let f = tree_at q r k tree in_lake at in
      let h = metarange_there cut things are.limits f.c.content f.c.tree (reads.each f.c f.at.among).read in
      let whole : first_file f.c.tree.files ≡ bytes = ap (λ (t : TreeValue). first_file t.files) f.is ∙ ap first_file is in
      subst (λ n. IsThere things (stored.MetaRange n bytes)) (h.1 ∙ ap file_name whole ∙ named)
      (subst (λ b. IsThere things (stored.MetaRange f.c.content.meta_range b)) whole h.0)

  range_in : (name : Digest) (bytes : List ℕ) (q : List ℕ) (r : RepositoryStateValue) (k : List ℕ) (tree : TreeValue) → file_name bytes ≡ name
      → get lake.repositories q ≡ Some r → get r.trees k ≡ Some tree → IsRangeOf tree bytes → IsThere things (stored.Range name bytes)
  range_in name bytes q r k tree named in_lake at (metarange, (ranges, (is, among))) =
      let f = tree_at q r k tree in_lake at in
      let files : f.c.tree.files ≡ metarange ∷ ranges = ap (λ (t : TreeValue). t.files) f.is ∙ is in
      let has : Contains (drop 1 f.c.tree.files) bytes = subst (λ (files : List (List ℕ)). Contains (drop 1 files) bytes) (sym files) among in
      subst (λ n. IsThere things (stored.Range n bytes)) named
      (range_there cut things are.limits f.c.content f.c.tree (reads.each f.c f.at.among).read bytes has)

  -- what stands in the lake is there
  stood : (s : Stored) → LakeThing lake s ⊎ IsIn lake s → IsThere things s
  stood (stored.Commit repo id expired commit) (inl h) = absurd h
  stood (stored.MetaRange name bytes) (inl h) = absurd h
  stood (stored.Range name bytes) (inl h) = absurd h
  stood (stored.Commit repo id expired commit) (inr i) = commit_there repo id expired commit i.q i.r i.thing.0 i.in_lake i.thing.1
  stood (stored.MetaRange name bytes) (inr i) =
      metarange_in name bytes i.q i.r i.thing.1.1.0.0 i.thing.1.0 i.thing.0 i.in_lake i.thing.1.1.0.1 i.thing.1.1.1
  stood (stored.Range name bytes) (inr i) =
      range_in name bytes i.q i.r i.thing.1.1.0.0 i.thing.1.0 i.thing.0 i.in_lake i.thing.1.1.0.1 i.thing.1.1.1
  stood s h = plain_there s ((shows_plain cut things are counts).0.only s (plain_was s refl h))

  pub there_of : (s : Stored) → StandsIn lake s → IsThere things s
  there_of s h = stood s (into lake s h)

  -- a commit that is there stands
  module _ (repo : List ℕ) (id : Digest) (expired : Bool) (commit : CommitRecordValue) (there : IsThere things (stored.Commit repo id expired commit)) where
    home : HasIt before repo
    home =
        repository_in cut things are counts (Plain cut things are counts) before (shows_plain cut things are counts).0
        (λ s base. inr (inr base)) repo (tie_of cut things are.tied (stored.Commit repo id expired commit) there).tie.repository

    its_read : (tree : TreeValue) × (tree_named cut things commit ≡ Ok tree)
    its_read = ok_of (tree_named cut things commit) (are.read repo id expired commit there)

    abbrev it : CommitRead
    it = record { repo = repo; content = commit; tree = its_read.0; expired = expired }

    it_at : IsAt repo id.0 it
    it_at = record {
      among = reads.all repo id expired commit its_read.0 there its_read.1;
      home = refl;
      named = ap (λ (d : Digest). d.0) (tie_of cut things are.tied (stored.Commit repo id expired commit) there).tie.named;
    }

    commit_stands : StandsIn lake (stored.Commit repo id expired commit)
    commit_stands =
        closed (get lake.repositories repo) (HasCommitOf id expired commit) (own repo commits home.r) (stays_in repo home.r home.in_lake) (
          ap (λ (m : ByteMap CommitRecordValue). get m id.0) (graph_is repo home.r home.in_lake) ∙ part_there (λ c. c.content) repo id.0 it it_at,
          ap (λ (m : ByteMap (Unit {0})). contains_key m id.0) (expired_are repo home.r home.in_lake) ∙ expired_is repo id.0 it it_at,
        )

  -- the repository of one of the commits stands
  pub own_there : (c : CommitRead) → Contains commits c → (r : RepositoryStateValue) × (get lake.repositories c.repo ≡ Some r)
  own_there c has =
      let a = reads.each c has in
      let h = home c.repo a.id c.expired c.content a.there in
      (own c.repo commits h.r, stays_in c.repo h.r h.in_lake)

  -- what is there stands in the lake, or is a file
  pub stands_of : (s : Stored) → IsThere things s → StandsIn lake s ⊎ IsFile s
  stands_of (stored.Commit repo id expired commit) there = inl (commit_stands repo id expired commit there)
  stands_of (stored.MetaRange name bytes) there = inr tt
  stands_of (stored.Range name bytes) there = inr tt
  stands_of s there =
      inl (plain_is s refl (into before s ((shows_plain cut things are counts).0.stands s (there_plain s refl there))))
