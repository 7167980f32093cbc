-- The ties of metaranges and ranges.
use Rattle.std.proofs.Common.{◌≡◌, ◌↔◌, ℕ, zero, suc, ◌<◌, Bool, true, false, cond, ◌&&◌, ◌||◌, List, [], ◌∷◌, length, map, get_or, drop, Option, Some, None}
use Rattle.std.proofs.Common.{Result, Ok, Err}
use Rattle.std.proofs.Common.{IfOk, IfSome, not, refl, sym, ap, subst, ◌∙◌, arith}
use Rattle.std.specs.List.{AllByRecursion, Contains, cons_option, list_any, slice_get}
use Rattle.std.specs.Option.{option_map, option_map_or}
use Rattle.std.specs.Result.{result_ok}
use Rattle.std.specs.Str.{bytes_eq}
use Rattle.std.proofs.lemmas.Option.{get_or_from_slice_get, slice_get-get_or, slice_get-map, slice_get_within}
use Rattle.std.proofs.lemmas.Slice.Eq.{bytes_eq-Decides}
use Rattle.lake_base.specs.declared.digest.Digest.{Digest}
use Rattle.lake_values.specs.Ancestry.{same_id}
use Rattle.lake_values.specs.Commit.{CommitRecordValue}
use Rattle.lake_format.specs.Spelling.{file_name}
use Rattle.lake_format.specs.declared.cut.Cut.{Cut}
use Rattle.lake_model.specs.Uncommitted.{own_number}
use Rattle.lake_values.specs.declared.entry.Place.{Place}
use Rattle.lake_values.specs.declared.entry.Place.TheVariants.{Own}
use Rattle.range_file.specs.Rows.{RowValue}
use Rattle.range_file.specs.RangeReading.{range_from}
use Rattle.meta_range.specs.Ranges.{TreeValue, first_file}
use Rattle.meta_range.specs.declared.fault.TreeFault.{TreeFault}
use Rattle.pair_format.specs.declared.stored.Stored.{Stored}
use Rattle.pair_format.specs.declared.stored.Stored.TheVariants as stored
use Rattle.pair_format.specs.PairSpelling.{IsSpelledStored, key_of}
use Rattle.pair_trees.specs.Found.{IsOnlyRange}
use Rattle.pair_ties.specs.PairTies.{IsTiedMetaRange, IsTiedRange}
use Rattle.pair_trees.specs.PairTrees.{IsReadMetaRange, IsReadRange, numbers_in, numbers_of, tree_in, tree_named, trees_of}
use Rattle.pair_trees.specs.Tables.{has_live_range, has_metarange, has_name, has_range, is_live}
use Rattle.pair_ties.specs.Tested.{IsSound, IsSoundNumber}
use Rattle.pair_trees.specs.Things.{IsGivenNumber, IsGone, IsThere, Spells, Things, thing_at}
use Rattle.pair_trees.proofs.ProvenanceLemmas.{metarange_there, range_there}
use Rattle.pair_trees.proofs.TablesLemmas.{id_same}
use Rattle.pair_trees.proofs.ThingsLemmas.{spells_there, there_spells}

-- ---- what some item passes

some_is : {X : Type 0} {x y : X} → Some x ≡ Some y → x ≡ y
some_is e = cc

both_parts : (a b : Bool) → (a && b) ≡ true → (a ≡ true) × (b ≡ true)
both_parts true b e = (refl, e)
both_parts false b e = absurd cc

any_at : {X : Type 0} (test : X → Bool) (xs : List X) (i : ℕ) (x : X) → slice_get xs i ≡ Some x → test x ≡ true → list_any test xs ≡ true
any_at test [] i x here passes = absurd cc
any_at test (y ∷ xs) zero x here passes = ap (λ b. b || list_any test xs) (ap test (some_is here) ∙ passes)
any_at test (y ∷ xs) (suc i) x here passes = ap (λ b. test y || b) (any_at test xs i x here passes) ∙ or_true (test y)
  where
    or_true : (b : Bool) → (b || true) ≡ true
    or_true true = refl
    or_true false = refl

any_place : {X : Type 0} (test : X → Bool) (xs : List X) → list_any test xs ≡ true → (i : ℕ) × (x : X) × (slice_get xs i ≡ Some x) × (test x ≡ true)
any_place test [] e = absurd cc
any_place {X = X} test (y ∷ xs) e = by (any_place test xs) (test y) refl
  where
    by : (list_any test xs ≡ true → (i : ℕ) × (x : X) × (slice_get xs i ≡ Some x) × (test x ≡ true)) → (b : Bool) → test y ≡ b
        → (i : ℕ) × (x : X) × (slice_get (y ∷ xs) i ≡ Some x) × (test x ≡ true)
    by more true is = (0, y, refl, is)
    by more false is = let rest = more (sym (ap (λ b. b || list_any test xs) is) ∙ e) in (suc rest.0, rest.1, rest.2, rest.3)

contains_at : {X : Type 0} (xs : List X) (i : ℕ) (x : X) → slice_get xs i ≡ Some x → Contains xs x
contains_at xs i x here = (i, slice_get_within xs i x here, get_or_from_slice_get xs i x x here)

at_place : {X : Type 0} (xs : List X) (x : X) (has : Contains xs x) → slice_get xs has.0 ≡ Some x
at_place xs x has = slice_get-get_or xs has.0 x has.1 ∙ ap (λ y. Some y) has.2

same_itself : (id : Digest) → same_id id id ≡ true
same_itself id = (bytes_eq-Decides id.0 id.0).1 refl

-- a file of this name is among these
name_among : (name : Digest) (files : List (List ℕ)) (bytes : List ℕ) → Contains files bytes → file_name bytes ≡ name → has_name name files ≡ true
name_among name files bytes has is =
    any_at (λ b. same_id (file_name b) name) files has.0 bytes (at_place files bytes has)
    (subst (λ n. same_id (file_name bytes) n ≡ true) is (same_itself (file_name bytes)))

among_name : (name : Digest) (files : List (List ℕ)) → has_name name files ≡ true → (bytes : List ℕ) × Contains files bytes × (file_name bytes ≡ name)
among_name name files e =
    let place = any_place (λ b. same_id (file_name b) name) files e in
    (place.1, contains_at files place.0 place.1 place.2, id_same (file_name place.1) name place.3)

-- ---- the commit behind what is read of a tree

-- this is a commit whose tree is read
pub record HasTree (cut : Cut) (things : Things) (thing : Option Stored) (tree : TreeValue) : Type 0 where
  pub repo : List ℕ
  pub id : Digest
  pub expired : Bool
  pub commit : CommitRecordValue
  pub is : thing ≡ Some (stored.Commit repo id expired commit)
  pub read : tree_named cut things commit ≡ Ok tree

-- a tree that is read is a commit's
tree_of_commit : (cut : Cut) (things : Things) (thing : Option Stored) (tree : TreeValue) → tree_in cut things thing ≡ Some (Ok tree)
    → HasTree cut things thing tree
tree_of_commit cut things (Some (stored.Commit repo id expired commit)) tree e =
    record { repo = repo; id = id; expired = expired; commit = commit; is = refl; read = some_is e }
tree_of_commit cut things None tree e = absurd cc
tree_of_commit cut things (Some (stored.Repository repo created branch settings)) tree e = absurd cc
tree_of_commit cut things (Some (stored.Branch repo branch version head staging sealed)) tree e = absurd cc
tree_of_commit cut things (Some (stored.Tag repo tag commit)) tree e = absurd cc
tree_of_commit cut things (Some (stored.MetaRange name bytes)) tree e = absurd cc
tree_of_commit cut things (Some (stored.Range name bytes)) tree e = absurd cc
tree_of_commit cut things (Some (stored.Staged token path change)) tree e = absurd cc
tree_of_commit cut things (Some (stored.Note repo name text)) tree e = absurd cc
tree_of_commit cut things (Some (stored.Gone number)) tree e = absurd cc
tree_of_commit cut things (Some (stored.Counts number version token)) tree e = absurd cc

-- what passes a test of trees is a tree that is read
range_tree : (name : Digest) (tree : Option (Result TreeValue TreeFault)) → has_range name tree ≡ true
    → (t : TreeValue) × (tree ≡ Some (Ok t)) × (has_name name (drop 1 t.files) ≡ true)
range_tree name None e = absurd cc
range_tree name (Some (Err fault)) e = absurd cc
range_tree name (Some (Ok t)) e = (t, refl, e)

metarange_tree : (name : Digest) (tree : Option (Result TreeValue TreeFault)) → has_metarange name tree ≡ true
    → (t : TreeValue) × (tree ≡ Some (Ok t)) × (same_id (file_name (first_file t.files)) name ≡ true)
metarange_tree name None e = absurd cc
metarange_tree name (Some (Err fault)) e = absurd cc
metarange_tree name (Some (Ok t)) e = (t, refl, e)

module _ (cut : Cut) (things : Things) where
  trees_are : trees_of cut things ≡ map (tree_in cut things) things
  unfolding trees_of
  trees_are = refl

  -- the thing behind a tree at a place
  thing_behind : (i : ℕ) (tree : Option (Result TreeValue TreeFault)) → slice_get (trees_of cut things) i ≡ Some tree
      → (thing : Option Stored) × (slice_get things i ≡ Some thing) × (tree_in cut things thing ≡ tree)
  thing_behind i tree here =
      by (slice_get things i) refl (sym (slice_get-map (tree_in cut things) things i) ∙ ap (λ l. slice_get l i) (sym trees_are) ∙ here)
    where
      by : (found : Option (Option Stored)) → slice_get things i ≡ found → option_map (tree_in cut things) found ≡ Some tree
          → (thing : Option Stored) × (slice_get things i ≡ Some thing) × (tree_in cut things thing ≡ tree)
      by None is e = absurd cc
      by (Some thing) is e = (thing, is, some_is e)

  -- the tree of a thing that is there
  tree_there : (thing : Option Stored) (has : Contains things thing) → slice_get (trees_of cut things) has.0 ≡ Some (tree_in cut things thing)
  tree_there thing has =
      ap (λ l. slice_get l has.0) trees_are ∙ slice_get-map (tree_in cut things) things has.0 ∙ ap (option_map (tree_in cut things)) (at_place things thing has)

  -- a range that is read is told
  pub range_told : (expired : Bool) (name : Digest) (bytes : List ℕ) → IsReadRange cut things expired name bytes
      → list_any (has_range name) (trees_of cut things) ≡ true
  range_told expired name bytes is =
      let tree = tree_in cut things (Some (stored.Commit is.repo is.id expired is.commit)) in
      any_at (has_range name) (trees_of cut things) is.there.0 tree (tree_there (Some (stored.Commit is.repo is.id expired is.commit)) is.there)
      (ap (λ r. has_range name (Some r)) is.read ∙ name_among name (drop 1 is.tree.files) bytes is.among is.named)

  pub live_told : (name : Digest) (bytes : List ℕ) → IsReadRange cut things false name bytes → list_any (has_live_range cut things name) things ≡ true
  live_told name bytes is =
      any_at (has_live_range cut things name) things is.there.0 (Some (stored.Commit is.repo is.id false is.commit))
      (at_place things (Some (stored.Commit is.repo is.id false is.commit)) is.there)
      (ap (λ r. has_range name (Some r)) is.read ∙ name_among name (drop 1 is.tree.files) bytes is.among is.named)

  pub metarange_told : (name : Digest) (bytes : List ℕ) → IsReadMetaRange cut things name bytes → list_any (has_metarange name) (trees_of cut things) ≡ true
  metarange_told name bytes is =
      let tree = tree_in cut things (Some (stored.Commit is.repo is.id is.expired is.commit)) in
      any_at (has_metarange name) (trees_of cut things) is.there.0 tree (tree_there (Some (stored.Commit is.repo is.id is.expired is.commit)) is.there)
      (ap (λ r. has_metarange name (Some r)) is.read
      ∙ subst (λ n. same_id (file_name (first_file is.tree.files)) n ≡ true) (ap file_name is.first ∙ is.named)
      (same_itself (file_name (first_file is.tree.files))))

  -- one that is told is read
  told_range : (name : Digest) → list_any (has_range name) (trees_of cut things) ≡ true → (expired : Bool) × (bytes : List ℕ)
      × IsReadRange cut things expired name bytes
  told_range name e =
      let place = any_place (has_range name) (trees_of cut things) e in
      let behind = thing_behind place.0 place.1 place.2 in
      let t = range_tree name place.1 place.3 in
      let commit = tree_of_commit cut things behind.0 t.0 (behind.2 ∙ t.1) in
      let file = among_name name (drop 1 t.0.files) t.2 in (
        commit.expired,
        file.0,
        record {
          repo = commit.repo;
          id = commit.id;
          commit = commit.commit;
          there = contains_at things place.0 (Some (stored.Commit commit.repo commit.id commit.expired commit.commit)) (behind.1 ∙ ap (λ x. Some x) commit.is);
          tree = t.0;
          read = commit.read;
          among = file.1;
          named = file.2;
        },
      )

  told_live : (name : Digest) → list_any (has_live_range cut things name) things ≡ true → (bytes : List ℕ) × IsReadRange cut things false name bytes
  told_live name e =
      let place = any_place (has_live_range cut things name) things e in
      let parts = both_parts (is_live place.1) (has_range name (tree_in cut things place.1)) place.3 in
      let t = range_tree name (tree_in cut things place.1) parts.1 in
      let commit = tree_of_commit cut things place.1 t.0 t.1 in
      let file = among_name name (drop 1 t.0.files) t.2 in
      let live : commit.expired ≡ false = lives commit.expired (sym (ap is_live commit.is) ∙ parts.0) in (
        file.0,
        record {
          repo = commit.repo;
          id = commit.id;
          commit = commit.commit;
          there = contains_at things place.0 (Some (stored.Commit commit.repo commit.id false commit.commit))
              (place.2 ∙ ap (λ x. Some x) (commit.is ∙ ap (λ b. Some (stored.Commit commit.repo commit.id b commit.commit)) live));
          tree = t.0;
          read = commit.read;
          among = file.1;
          named = file.2;
        },
      )
    where
      lives : (b : Bool) → cond b false true ≡ true → b ≡ false
      lives true h = absurd cc
      lives false h = refl

  told_metarange : (name : Digest) → list_any (has_metarange name) (trees_of cut things) ≡ true → (bytes : List ℕ) × IsReadMetaRange cut things name bytes
  told_metarange name e =
      let place = any_place (has_metarange name) (trees_of cut things) e in
      let behind = thing_behind place.0 place.1 place.2 in
      let t = metarange_tree name place.1 place.3 in
      let commit = tree_of_commit cut things behind.0 t.0 (behind.2 ∙ t.1) in (
        first_file t.0.files,
        record {
          repo = commit.repo;
          id = commit.id;
          expired = commit.expired;
          commit = commit.commit;
          there = contains_at things place.0 (Some (stored.Commit commit.repo commit.id commit.expired commit.commit)) (behind.1 ∙ ap (λ x. Some x) commit.is);
          tree = t.0;
          read = commit.read;
          first = refl;
          named = id_same (file_name (first_file t.0.files)) name t.2;
        },
      )

  -- ---- the file at the pair

  module _ (limits : (n : ℕ) (s : Stored) → Spells things n s → IsSpelledStored s)
      (apart : (n m : ℕ) (s t : Stored) → Spells things n s → Spells things m t → key_of s ≡ key_of t → n ≡ m) where
    within : (s : Stored) → IsThere things s → IsSpelledStored s
    within s there = let place = there_spells things s there in limits place.0 s place.1

    -- a range that is read is the one that is there
    pub read_range_there : (expired : Bool) (name : Digest) (bytes : List ℕ) → IsReadRange cut things expired name bytes
        → IsThere things (stored.Range name bytes)
    read_range_there expired name bytes is =
        subst (λ n. IsThere things (stored.Range n bytes)) is.named (range_there cut things within is.commit is.tree is.read bytes is.among)

    pub read_metarange_there : (name : Digest) (bytes : List ℕ) → IsReadMetaRange cut things name bytes → IsThere things (stored.MetaRange name bytes)
    read_metarange_there name bytes is =
        let there = metarange_there cut things within is.commit is.tree is.read in
        subst (λ n. IsThere things (stored.MetaRange n bytes)) (there.1 ∙ ap file_name is.first ∙ is.named)
        (subst (λ b. IsThere things (stored.MetaRange is.commit.meta_range b)) is.first there.0)

    one_thing : (s t : Stored) → IsThere things s → IsThere things t → key_of s ≡ key_of t → s ≡ t
    one_thing s t one two same =
        let here = there_spells things s one in
        let there = there_spells things t two in
        some_is (sym here.1 ∙ ap (thing_at things) (apart here.0 there.0 s t here.1 there.1 same) ∙ there.1)

    one_range : (name : Digest) (bytes other : List ℕ) → IsThere things (stored.Range name bytes) → IsThere things (stored.Range name other) → bytes ≡ other
    one_range name bytes other one two = inside (one_thing (stored.Range name bytes) (stored.Range name other) one two refl)
      where
        inside : {x y : List ℕ} → stored.Range name x ≡ stored.Range name y → x ≡ y
        inside h = cc

    one_metarange : (name : Digest) (bytes other : List ℕ) → IsThere things (stored.MetaRange name bytes) → IsThere things (stored.MetaRange name other)
        → bytes ≡ other
    one_metarange name bytes other one two = inside (one_thing (stored.MetaRange name bytes) (stored.MetaRange name other) one two refl)
      where
        inside : {x y : List ℕ} → stored.MetaRange name x ≡ stored.MetaRange name y → x ≡ y
        inside h = cc

    -- ---- ranges

    module _ (at : ℕ) (name : Digest) (bytes : List ℕ) (here : Spells things at (stored.Range name bytes)) where
      told_here : list_any (has_range name) (trees_of cut things) ≡ true → (expired : Bool) × IsReadRange cut things expired name bytes
      told_here e =
          let told = told_range name e in (
            told.0,
            subst (λ b. IsReadRange cut things told.0 name b)
                (one_range name told.1 bytes (read_range_there told.0 name told.1 told.2) (spells_there things at (stored.Range name bytes) here)) told.2,
          )

      live_here : list_any (has_live_range cut things name) things ≡ true → IsReadRange cut things false name bytes
      live_here e =
          let told = told_live name e in
          subst (λ b. IsReadRange cut things false name b)
          (one_range name told.0 bytes (read_range_there false name told.0 told.1) (spells_there things at (stored.Range name bytes) here)) told.1

      -- a range that no tree has is tied
      pub untold_range : list_any (has_range name) (trees_of cut things) ≡ false → IsTiedRange cut things name bytes
      untold_range e = record {
        given = λ expired number is among. absurd (no (sym (range_told expired name bytes is) ∙ e));
        apart = λ number is among gone. no (sym (range_told false name bytes is) ∙ e);
      }
        where
          no : true ≡ false → ⊥
          no h = cc

      -- one whose bytes aren't a range names no number
      pub unread_range : result_ok (range_from bytes) ≡ None → IsTiedRange cut things name bytes
      unfolding numbers_in
      unread_range e = record {
        given = λ expired number is among. absurd (none number among);
        apart = λ number is among gone. none number among;
      }
        where
          none : (number : ℕ) → Contains (numbers_in bytes) number → ⊥
          none number among = let has = subst (λ l. Contains l number) (ap (λ o. option_map_or numbers_of o []) e) among in omega (arith, has.1)

      -- the numbers of rows
      pub sound_numbers : (live : Bool) (rows : List RowValue) → AllByRecursion (λ row. IsSound things live row.1.place) rows
          → (number : ℕ) → Contains (numbers_of rows) number → IsSoundNumber things live number
      sound_numbers live [] all number has = absurd (omega (arith, has.1))
      sound_numbers live (row ∷ rows) all number has = by (sound_numbers live rows all.1 number) (own_number row.1.place) all.0 has.0 has.1 has.2
        where
          by : (Contains (numbers_of rows) number → IsSoundNumber things live number) → (own : Option ℕ) → IfSome own (IsSoundNumber things live) → (k : ℕ)
              → k < length (cons_option own (numbers_of rows))
              → get_or (cons_option own (numbers_of rows)) k number ≡ number → IsSoundNumber things live number
          by more None one k lt is = more (k, lt, is)
          by more (Some n) one zero lt is = subst (IsSoundNumber things live) is one
          by more (Some n) one (suc k) lt is = more (k, omega (arith, lt), is)

      pub numbers_sound : (live : Bool) (rows : List RowValue) → ((number : ℕ) → Contains (numbers_of rows) number → IsSoundNumber things live number)
          → AllByRecursion (λ row. IsSound things live row.1.place) rows
      numbers_sound live [] each = tt
      numbers_sound live (row ∷ rows) each = by (numbers_sound live rows) (own_number row.1.place) each
        where
          by : (((number : ℕ) → Contains (numbers_of rows) number → IsSoundNumber things live number)
              → AllByRecursion (λ row. IsSound things live row.1.place) rows)
              → (own : Option ℕ) → ((number : ℕ) → Contains (cons_option own (numbers_of rows)) number → IsSoundNumber things live number)
              → IfSome own (IsSoundNumber things live) × AllByRecursion (λ row. IsSound things live row.1.place) rows
          by more None each = (tt, more each)
          by more (Some n) each = (
            each n (0, omega arith, refl),
            more (λ number has. each number (suc has.0, omega (arith, has.1), has.2)),
          )

      -- a range that trees have is tied where its numbers are sound
      pub told_tied : (live : Bool) (rows : List RowValue) → result_ok (range_from bytes) ≡ Some rows → list_any (has_range name) (trees_of cut things) ≡ true
          → live ≡ list_any (has_live_range cut things name) things
          → AllByRecursion (λ row. IsSound things live row.1.place) rows ↔ IsTiedRange cut things name bytes
      unfolding numbers_in
      told_tied live rows reads told is =
          let numbers : numbers_in bytes ≡ numbers_of rows = ap (λ o. option_map_or numbers_of o []) reads in (
            λ all. record {
              given = λ expired number read among. (sound_numbers live rows all number (subst (λ l. Contains l number) numbers among)).given;
              apart = λ number read among gone.
                  (sound_numbers live rows all number (subst (λ l. Contains l number) numbers among)).apart (is ∙ live_told name bytes read) gone;
            },
            λ tied. numbers_sound live rows (λ number has.
                let among = subst (λ l. Contains l number) (sym numbers) has in
                let read = told_here told in
                record {
                  given = tied.given read.0 number read.1 among;
                  apart = λ lives gone. tied.apart number (live_here (sym is ∙ lives)) among gone;
                }),
          )

    -- ---- metaranges

    module _ (at : ℕ) (name : Digest) (bytes : List ℕ) (here : Spells things at (stored.MetaRange name bytes)) where
      pub untold_metarange : list_any (has_metarange name) (trees_of cut things) ≡ false → IsTiedMetaRange cut things name bytes
      untold_metarange e = record { same = λ expired other is range. absurd (no (sym (metarange_told name bytes is) ∙ e)) }
        where
          no : true ≡ false → ⊥
          no h = cc

      pub untold_other : list_any (has_range name) (trees_of cut things) ≡ false → IsTiedMetaRange cut things name bytes
      untold_other e = record { same = λ expired other is range. absurd (no (sym (range_told expired name other range) ∙ e)) }
        where
          no : true ≡ false → ⊥
          no h = cc

      -- where there is no such range, none is read
      pub absent_other : ((other : List ℕ) → IsThere things (stored.Range name other) → ⊥) → IsTiedMetaRange cut things name bytes
      absent_other none = record { same = λ expired other is range. absurd (none other (read_range_there expired name other range)) }

      pub told_same : (other : List ℕ) → IsOnlyRange things name other → list_any (has_metarange name) (trees_of cut things) ≡ true
          → list_any (has_range name) (trees_of cut things) ≡ true → (other ≡ bytes) ↔ IsTiedMetaRange cut things name bytes
      told_same other found meta range = (
        λ same. record { same = λ expired file is read. found.only file (read_range_there expired name file read) ∙ same },
        λ tied.
            let metarange = told_metarange name meta in
            let is = subst (λ b. IsReadMetaRange cut things name b)
            (one_metarange name metarange.0 bytes (read_metarange_there name metarange.0 metarange.1)
            (spells_there things at (stored.MetaRange name bytes) here))
            metarange.1 in
            let read = told_range name range in
            let same : read.1 ≡ other = found.only read.1 (read_range_there read.0 name read.1 read.2) in
            sym same ∙ tied.same read.0 read.1 is read.2,
      )

-- ---- answers

-- what is told by one test is told by another that comes to the same
pub iff_ok : {E : Type 0} (P Q : Type 0) → (P ↔ Q) → (r : Result Bool E) → IfOk r (λ b. (b ≡ true) ↔ P) → IfOk r (λ b. (b ≡ true) ↔ Q)
iff_ok P Q same (Ok b) h = (λ e. same.0 (h.0 e), λ q. h.1 (same.1 q))
iff_ok P Q same (Err fault) h = tt

pub surely : (P : Type 0) → P → (true ≡ true) ↔ P
surely P p = (λ e. p, λ q. refl)

-- ---- one number

sound_place : (things : Things) (live b : Bool) (number : ℕ) (digest : Digest) (place : Place) → place ≡ Own number digest
    → (b ≡ true) ↔ IsSoundNumber things live number → (b ≡ true) ↔ IsSound things live place
sound_place things live b number digest place is h = subst (λ p. (b ≡ true) ↔ IsSound things live p) (sym is) h

module _ (things : Things) (live : Bool) (number : ℕ) (digest : Digest) (place : Place) (is : place ≡ Own number digest) where
  pub not_given : (IsGivenNumber things number → ⊥) → (false ≡ true) ↔ IsSound things live place
  not_given never = sound_place things live false number digest place is (λ e. absurd cc, λ sound. absurd (never sound.given))

  pub not_live : IsGivenNumber things number → live ≡ false → (true ≡ true) ↔ IsSound things live place
  not_live given off = sound_place things live true number digest place is (λ e. record { given = given; apart = λ on gone. contra on off }, λ sound. refl)
    where
      contra : {x : Bool} → x ≡ true → x ≡ false → ⊥
      contra x y = cc

  pub not_gone : IsGivenNumber things number → live ≡ true → (has : Bool) → (has ≡ true) ↔ IsGone things number → (not has ≡ true) ↔ IsSound things live place
  not_gone given on true told = sound_place things live false number digest place is (λ e. absurd cc, λ sound. absurd (sound.apart on (told.0 refl)))
  not_gone given on false told = sound_place things live true number digest place is
      (λ e. record { given = given; apart = λ lives gone. contra (told.1 gone) }, λ sound. refl)
    where
      contra : false ≡ true → ⊥
      contra x = cc

-- ---- the same bytes

pub same_bytes : (Q : Type 0) (xs ys : List ℕ) (b : Bool) → b ≡ bytes_eq xs ys → (xs ≡ ys) ↔ Q → (b ≡ true) ↔ Q
same_bytes Q xs ys b is h = (λ e. h.0 ((bytes_eq-Decides xs ys).0 (sym is ∙ e)), λ q. is ∙ (bytes_eq-Decides xs ys).1 (h.1 q))
