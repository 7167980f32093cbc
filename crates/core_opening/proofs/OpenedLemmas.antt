-- A lake that is filled was read from the pairs.
use Rattle.std.proofs.Common.{◌≡◌, ◌⊎◌, inl, inr, ℕ, Bool, true, false, List, [], ◌∷◌, length, Option, Some, None, IsSome, IsSomeAnd, Ok, refl, sym, ap, subst}
use Rattle.std.proofs.Common.{◌∙◌, arith}
use Rattle.std.specs.Prelude.{is_some, option_and_then, option_map}
use Rattle.std.specs.FinMap.{contains_key, empty, get, get-from_sorted}
use Rattle.std.specs.List.{Contains, slice_get}
use Rattle.std.proofs.lemmas.List.{length-map}
use Rattle.std.proofs.lemmas.Option.{slice_get_read, slice_get_within, get_or_from_slice_get}
use Rattle.lake_base.specs.Maps.{ByteMap, byte_order}
use Rattle.lake_base.specs.declared.digest.Digest.{Digest}
use Rattle.lake_values.specs.Ancestry.{commit_of, id_of}
use Rattle.lake_values.specs.Commit.{CommitRecordValue}
use Rattle.lake_format.specs.declared.cut.Cut.{Cut}
use Rattle.meta_range.specs.Ranges.{TreeValue}
use Rattle.branch_record.specs.Record.{is_among}
use Rattle.pair_format.specs.declared.pair.Pair.{Pair}
use Rattle.pair_format.specs.declared.stored.Stored.{Stored}
use Rattle.pair_format.specs.PairSpelling.{key_of, key_spelling, pair_spelling, value_spelling}
use Rattle.keeper.specs.Keepers.{entries_of}
use Rattle.pair_trees.specs.PairTrees.{tree_named}
use Rattle.pair_trees.specs.Spelled.{AreSpelled}
use Rattle.pair_trees.specs.Things.{IsThere, Things, kept_of, thing_at, thing_of}
use Rattle.pair_trees.proofs.ThingsLemmas.{spells_there, there_spells}
use Rattle.pair_ties.specs.PairTies.{IsTied}
use Rattle.core_state.specs.BranchStates.{BranchStateValue, tokens_of}
use Rattle.core_state.specs.RepositoryStates.{RepositoryStateValue}
use Rattle.core_state.specs.LakeStates.{LakeStateValue}
use Rattle.core_filling.specs.Filling.{CommitRead}
use Rattle.core_puts.specs.Puts.{branch_at}
use Rattle.core_pairs.specs.LakePairs.{AreTokensApart, IsFile, IsFilePair, IsPairIn, StandFor, StandsIn, at_rest}
use Rattle.core_pairs.proofs.ApartLemmas.{same_apart}
use Rattle.core_pairs.proofs.StagedLemmas.{own_names}
use Rattle.opening_laws.specs.ReadLakes.{IsReadFrom}
use Rattle.opening_laws.proofs.PairLemmas.{found_of_pair, pair_of_found}
use Rattle.core_opening.proofs.BaseLemmas.{first_thing}
use Rattle.core_opening.proofs.CommitLemmas.{commit_put, expired_put, lake_same, own, own_commits, own_same, tree_put}
use Rattle.core_opening.proofs.FilledLemmas.{FoundAt, IsAt, IsOwn, before, dead_back, expired_are, found_part, graph_is, is_own, lake, part_there, stands_of}
use Rattle.core_opening.proofs.FilledLemmas.{there_of, trees_are}
use Rattle.opening_parts.proofs.PlainLemmas.{before_plain}
use Rattle.core_opening.proofs.PutsLemmas.{puts}
use Rattle.core_opening.proofs.ReadsLemmas.{AreReads}
use Rattle.core_opening.proofs.RestLemmas.{shows_plain}
use Rattle.core_opening.proofs.TiesLemmas.{AreReadable}

module _ (cut : Cut) (pairs : List Pair) (things : Things) (spelled : AreSpelled pairs things) (are : AreReadable cut things) (counts : ℕ × ℕ × ℕ)
    (known : IsThere things (first_thing cut counts)) (commits : List CommitRead) (reads : AreReads cut things commits) where
  abbrev filled : LakeStateValue
  filled = lake cut things are counts known commits reads

  -- ---- the pairs stand for it

  pair_found : (pair : Pair) → Contains pairs pair → get (kept_of pairs) pair.key ≡ Some pair.value
  pair_found pair has = get-from_sorted byte_order (entries_of pairs) pair.key spelled.ascend ∙ found_of_pair pairs pair spelled.ascend has

  -- what is there has its pair
  pair_of : (s : Stored) → IsThere things s → get (kept_of pairs) (key_spelling (key_of s)) ≡ Some (value_spelling s)
  pair_of s there =
      let place = there_spells things s there in
      let at = (spelled.each place.0 s place.1).at in
      pair_found (pair_spelling s) (
        place.0,
        slice_get_within pairs place.0 (pair_spelling s) at,
        get_or_from_slice_get pairs place.0 (pair_spelling s) (pair_spelling s) at,
      )

  -- a pair spells something that is there
  pub record IsSpelling (bytes value : List ℕ) : Type 0 where
    pub s : Stored
    pub there : IsThere things s
    pub key : bytes ≡ key_spelling (key_of s)
    pub is : value ≡ value_spelling s

  spelling_at : (pair : Pair) (n : ℕ) → slice_get pairs n ≡ Some pair → (o : Option Stored) → thing_at things n ≡ o → IsSomeAnd o (IsTied cut things n)
      → IsSpelling pair.key pair.value
  spelling_at pair n here None is tied = absurd tied
  spelling_at pair n here (Some s) is tied =
      let same : pair ≡ pair_spelling s = some_is (sym here ∙ (spelled.each n s is).at) in
      record {
        s = s;
        there = spells_there things n s is;
        key = ap (λ (p : Pair). p.key) same;
        is = ap (λ (p : Pair). p.value) same;
      }
    where
      some_is : {x y : Pair} → Some x ≡ Some y → x ≡ y
      some_is e = cc

  spelling_of : (pair : Pair) → Contains pairs pair → IsSpelling pair.key pair.value
  spelling_of pair has =
      let long : length things ≡ length pairs = ap length spelled.same ∙ length-map pairs thing_of in
      spelling_at pair has.0 (slice_get_read pairs (length pairs) has.0 pair refl has.1 (sym has.2)) (thing_at things has.0) refl
      (are.tied.each has.0 (omega (arith, has.1, long)))

  only_of : (bytes value : List ℕ) (p : IsSpelling bytes value) → StandsIn filled p.s ⊎ IsFile p.s → IsPairIn filled bytes value ⊎ IsFilePair bytes value
  only_of bytes value p (inl stands) = inl (p.s, (stands, (p.key, p.is)))
  only_of bytes value p (inr file) = inr (p.s, (file, (are.limits p.s p.there, (p.key, p.is))))

  stand : StandFor (kept_of pairs) filled
  stand = record {
    spelled = λ s h. are.limits s (there_of cut things are counts known commits reads s h);
    each = λ s h. pair_of s (there_of cut things are counts known commits reads s h);
    only = λ bytes value at.
        let p = spelling_of (record { key = bytes; value = value })
        (pair_of_found pairs bytes value (sym (get-from_sorted byte_order (entries_of pairs) bytes spelled.ascend) ∙ at)) in
        only_of bytes value p (stands_of cut things are counts known commits reads p.s p.there);
  }

  -- ---- its branches

  abbrev first : LakeStateValue
  first = before cut things are counts known commits reads

  same_branch : (q n : List ℕ) → branch_at q n filled ≡ branch_at q n first
  same_branch q n = ap (option_and_then (λ r. get r.branches n)) (own_commits commits first q) ∙ by (get first.repositories q)
    where
      by : (o : Option RepositoryStateValue)
          → option_and_then (λ r. get r.branches n) (option_map (own q commits) o) ≡ option_and_then (λ r. get r.branches n) o
      by None = refl
      by (Some r) = ap (λ (r : RepositoryStateValue). get r.branches n) (own_same q commits r)

  pub tokens_apart : AreTokensApart filled
  tokens_apart = same_apart first filled same_branch (shows_plain cut things are counts).1

  named_so : (repo : List ℕ) (r : RepositoryStateValue) (branch : List ℕ) (b : BranchStateValue) (token : ℕ) → get filled.repositories repo ≡ Some r
      → get r.branches branch ≡ Some b → contains_key b.tokens token ≡ true → is_among (tokens_of b) token ≡ true
  named_so repo r branch b token in_lake in_it uses =
      own_names filled tokens_apart repo r in_lake branch b in_it token uses

  -- ---- the read lake

  rest_of : at_rest filled ≡ filled
  rest_of =
      let p = before_plain cut counts things in
      let same = lake_same commits first in
      λ i. record {
        cut = filled.cut;
        repositories = filled.repositories;
        names = filled.names;
        tickets = (sym p.tickets ∙ ap (λ (l : LakeStateValue). l.tickets) (sym same)) i;
        gone = filled.gone;
        stopped = (sym p.stopped ∙ ap (λ (l : LakeStateValue). l.stopped) (sym same)) i;
        entries = (sym p.entries ∙ ap (λ (l : LakeStateValue). l.entries) (sym same)) i;
        references = (sym p.references ∙ ap (λ (l : LakeStateValue). l.references) (sym same)) i;
        next_number = filled.next_number;
        next_version = filled.next_version;
        next_token = filled.next_token;
      }

  pub cut_so : filled.cut ≡ cut
  cut_so = ap (λ (l : LakeStateValue). l.cut) (lake_same commits first) ∙ (before_plain cut counts things).cut_is

  module _ (repo : List ℕ) (r : RepositoryStateValue) (in_lake : get filled.repositories repo ≡ Some r) where
    its : IsOwn cut things are counts known commits reads repo r
    its = is_own cut things are counts known commits reads repo r in_lake

    graph_so : r.commits ≡ puts (commit_put repo) commits empty
    graph_so = ap (λ (r : RepositoryStateValue). r.commits) (sym its.is) ∙ graph_is cut things are counts known commits reads repo its.was its.in_before

    trees_so : r.trees ≡ puts (tree_put repo) commits empty
    trees_so = ap (λ (r : RepositoryStateValue). r.trees) (sym its.is) ∙ trees_are cut things are counts known commits reads repo its.was its.in_before

    expired_so : r.expired ≡ puts (expired_put repo) commits empty
    expired_so = ap (λ (r : RepositoryStateValue). r.expired) (sym its.is) ∙ expired_are cut things are counts known commits reads repo its.was its.in_before

    -- a commit of the repository is one of these
    pub commit_at : (id : Digest) (commit : CommitRecordValue) → commit_of r.commits id ≡ Some commit
        → FoundAt cut things are counts known commits reads repo id.0 (λ c. c.content) commit
    commit_at id commit at =
        found_part cut things are counts known commits reads (λ c. c.content) repo id.0 commit
        (ap (λ (m : ByteMap CommitRecordValue). get m id.0) (sym graph_so) ∙ at)

    pub tree_of_it : (k : List ℕ) (tree : TreeValue) → get r.trees k ≡ Some tree
        → FoundAt cut things are counts known commits reads repo k (λ c. c.tree) tree
    tree_of_it k tree at =
        found_part cut things are counts known commits reads (λ c. c.tree) repo k tree (ap (λ (m : ByteMap TreeValue). get m k) (sym trees_so) ∙ at)

    -- one of these is a commit of it, with its tree
    pub has_commit : (k : List ℕ) (c : CommitRead) → IsAt cut things are counts known commits reads repo k c → get r.commits k ≡ Some c.content
    has_commit k c at =
        ap (λ (m : ByteMap CommitRecordValue). get m k) graph_so ∙ part_there cut things are counts known commits reads (λ c. c.content) repo k c at

    pub has_tree : (k : List ℕ) (c : CommitRead) → IsAt cut things are counts known commits reads repo k c → get r.trees k ≡ Some c.tree
    has_tree k c at =
        ap (λ (m : ByteMap TreeValue). get m k) trees_so ∙ part_there cut things are counts known commits reads (λ c. c.tree) repo k c at

    trees_of_it : (id : Digest) (commit : CommitRecordValue) → commit_of r.commits id ≡ Some commit
        → (tree : TreeValue) × ((get r.trees id.0 ≡ Some tree) × (tree_named cut things commit ≡ Ok tree))
    trees_of_it id commit at =
        let f = commit_at id commit at in
        (f.c.tree, (has_tree id.0 f.c f.at, ap (tree_named cut things) (sym f.is) ∙ (reads.each f.c f.at.among).read))

    only_tree : (id : Digest) → IsSome (get r.trees id.0) → IsSome (commit_of r.commits id)
    only_tree id some = by (get r.trees id.0) refl some
      where
        by : (o : Option TreeValue) → get r.trees id.0 ≡ o → IsSome o → IsSome (commit_of r.commits id)
        by None at some = absurd cc
        by (Some tree) at some = let f = tree_of_it id.0 tree at in subst IsSome (sym (has_commit id.0 f.c f.at)) refl

    only_dead : (id : Digest) → contains_key r.expired id.0 ≡ true → IsSome (commit_of r.commits id)
    only_dead id dead = by (get r.expired id.0) refl dead
      where
        by : (o : Option (Unit {0})) → get r.expired id.0 ≡ o → is_some o ≡ true → IsSome (commit_of r.commits id)
        by None at dead = absurd cc
        by (Some u) at dead =
            let d = dead_back cut things are counts known commits reads repo id.0 (ap (λ (m : ByteMap (Unit {0})). get m id.0) (sym expired_so) ∙ at) in
            subst IsSome (sym (has_commit id.0 d.c d.at)) refl

  pub read_from : IsReadFrom cut pairs filled
  read_from = record {
    stand = stand;
    rest = rest_of;
    cut_is = cut_so;
    trees = λ repo r id commit in_lake at.
        subst (λ (all : Things). (tree : TreeValue) × ((get r.trees id.0 ≡ Some tree) × (tree_named cut all commit ≡ Ok tree))) spelled.same
        (trees_of_it repo r in_lake id commit at);
    only_trees = λ repo r id in_lake some. only_tree repo r in_lake id some;
    only_expired = λ repo r id in_lake dead. only_dead repo r in_lake id dead;
    named = named_so;
  }
