-- The commits of a repository that can be read, by their ids, and the generation due.
use Rattle.std.proofs.Common.{◌≡◌, ◌↔◌, ℕ, zero, suc, ◌+◌, ◌<◌, ◌≤◌, max, Bool, true, false, cond, List, [], ◌∷◌, length, map, get_or, take, drop, Option}
use Rattle.std.proofs.Common.{Some, None, IsSome, IsTrue, IfOk, Result, Ok, Err}
use Rattle.std.proofs.Common.{refl, sym, ap, subst, ◌∙◌, arith, add-one, drop-cons}
use Rattle.std.specs.List.{AllByRecursion, Contains, cons_option, filter_map}
use Rattle.std.specs.Option.{option_map, unwrap_or}
use Rattle.std.specs.Ordering.{eq_by_cmp}
use Rattle.std.specs.Str.{bytes_eq}
use Rattle.std.specs.FinMap.{find, get-from_entries}
use Rattle.std.proofs.lemmas.Cmp.{nat_list_cmp_total}
use Rattle.std.proofs.lemmas.List.{drop_all, take_all}
use Rattle.std.proofs.lemmas.List.Elements.{All-from_recursion, All-contains, Contains-get_or, recursion_from_All}
use Rattle.std.proofs.lemmas.Map.Text.{is_eq-slice_cmp}
use Rattle.std.proofs.lemmas.Slice.Eq.{bytes_eq-Decides}
use Rattle.lake_base.specs.declared.digest.Digest.{Digest}
use Rattle.lake_base.specs.Maps.{byte_order}
use Rattle.lake_base.proofs.ListLemmas.{all_more}
use Rattle.lake_values.specs.Ancestry.{Graph, IsDue, commit_of, due_generation, generation, parents, parents_in}
use Rattle.lake_values.specs.Commit.{CommitRecordValue}
use Rattle.pair_format.specs.declared.key.OwnedKey.TheVariants as key
use Rattle.pair_format.specs.declared.stored.Stored.{Stored}
use Rattle.pair_format.specs.declared.stored.Stored.TheVariants as stored
use Rattle.pair_format.specs.PairSpelling.{key_of}
use Rattle.lake_format.specs.Spelling.{commit_id}
use Rattle.pair_trees.specs.Found.{IsOnlyCommit}
use Rattle.pair_ties.specs.OneCommit.{IsOneCommit}
use Rattle.pair_ties.specs.BrokenPairs.{AreRead, IsRightCommit}
use Rattle.pair_trees.proofs.FoundLemmas.{commit_is}
use Rattle.pair_trees.specs.Things.{HasKey, IsThere, Spells, Things, commit_in, commits_in, thing_at}
use Rattle.pair_trees.proofs.ThingsLemmas.{spells_there, there_spells}

some_is : {X : Type 0} {x y : X} → Some x ≡ Some y → x ≡ y
some_is e = cc

later : {X : Type 0} (y : X) (xs : List X) (x : X) → Contains xs x → Contains (y ∷ xs) x
later y xs x has = (suc has.0, omega (arith, has.1), has.2)

-- ---- what is found by an id

abbrev row : Digest × CommitRecordValue → List ℕ × CommitRecordValue
row c = (c.0.0, c.1)

abbrev rows : List ℕ → Things → List (List ℕ × CommitRecordValue)
rows repo things = map row (filter_map (commit_in repo) things)

-- a commit of the repository is its pair's
commit_back : (repo : List ℕ) (thing : Option Stored) (c : Digest × CommitRecordValue) → commit_in repo thing ≡ Some c
    → (expired : Bool) × (thing ≡ Some (stored.Commit repo c.0 expired c.1))
commit_back repo (Some (stored.Commit home id expired commit)) c e = by (bytes_eq home repo) refl e
  where
    by : (b : Bool) → bytes_eq home repo ≡ b → cond b (Some (id, commit)) None ≡ Some c → (old : Bool)
        × (Some (stored.Commit home id expired commit) ≡ Some (stored.Commit repo c.0 old c.1))
    by true same h = (
      expired,
      ap (λ r. Some (stored.Commit r id expired commit)) ((bytes_eq-Decides home repo).0 same)
          ∙ ap (λ (x : Digest × CommitRecordValue). Some (stored.Commit repo x.0 expired x.1)) (some_is h),
    )
    by false apart h = absurd cc
commit_back repo None c e = absurd cc
commit_back repo (Some (stored.Repository home created branch settings)) c e = absurd cc
commit_back repo (Some (stored.Branch home branch version head staging sealed)) c e = absurd cc
commit_back repo (Some (stored.Tag home tag commit)) c e = absurd cc
commit_back repo (Some (stored.MetaRange name bytes)) c e = absurd cc
commit_back repo (Some (stored.Range name bytes)) c e = absurd cc
commit_back repo (Some (stored.Staged token path change)) c e = absurd cc
commit_back repo (Some (stored.Note home name text)) c e = absurd cc
commit_back repo (Some (stored.Gone number)) c e = absurd cc
commit_back repo (Some (stored.Counts number version token)) c e = absurd cc

commit_forth : (repo : List ℕ) (id : Digest) (expired : Bool) (commit : CommitRecordValue) → commit_in repo (Some (stored.Commit repo id expired commit))
    ≡ Some (id, commit)
commit_forth repo id expired commit = ap (λ b. cond b (Some (id, commit)) None) ((bytes_eq-Decides repo repo).1 refl)

id_is : (id : Digest) (bytes : List ℕ) → bytes ≡ id.0 → record { 0 = bytes } ≡ id
id_is id bytes e = λ i. record { 0 = e i }

found_row : (repo : List ℕ) (id : Digest) (commit : CommitRecordValue) (things : Things) → find byte_order id.0 (rows repo things) ≡ Some commit
    → (expired : Bool) × IsThere things (stored.Commit repo id expired commit)
found_row repo id commit [] e = absurd cc
found_row repo id commit (thing ∷ things) e = by (found_row repo id commit things) (commit_in repo thing) refl
  where
    by : (find byte_order id.0 (rows repo things) ≡ Some commit → (expired : Bool) × IsThere things (stored.Commit repo id expired commit))
        → (o : Option (Digest × CommitRecordValue)) → commit_in repo thing ≡ o → (expired : Bool)
        × IsThere (thing ∷ things) (stored.Commit repo id expired commit)
    by more None is =
        let rest = more (sym (ap (λ o. find byte_order id.0 (map row (cons_option o (filter_map (commit_in repo) things)))) is) ∙ e) in
        (rest.0, later thing things (Some (stored.Commit repo id rest.0 commit)) rest.1)
    by more (Some c) is = here (eq_by_cmp byte_order id.0 c.0.0) refl
      where
        whole : find byte_order id.0 (row c ∷ rows repo things) ≡ Some commit
        whole = sym (ap (λ o. find byte_order id.0 (map row (cons_option o (filter_map (commit_in repo) things)))) is) ∙ e

        here : (b : Bool) → eq_by_cmp byte_order id.0 c.0.0 ≡ b → (expired : Bool) × IsThere (thing ∷ things) (stored.Commit repo id expired commit)
        here true same =
            let back = commit_back repo thing c is in
            let value : c.1 ≡ commit = some_is (sym (ap (λ b. cond b (Some c.1) (find byte_order id.0 (rows repo things))) same) ∙ whole) in
            let bytes : id.0 ≡ c.0.0 = (bytes_eq-Decides id.0 c.0.0).0 (sym (is_eq-slice_cmp id.0 c.0.0) ∙ same) in (
              back.0,
              (
                0,
                omega arith,
                back.1 ∙ ap (λ i. Some (stored.Commit repo i back.0 c.1)) (λ i. record { 0 = sym bytes i })
                    ∙ ap (λ v. Some (stored.Commit repo id back.0 v)) value,
              ),
            )
        here false apart =
            let rest = more (sym (ap (λ b. cond b (Some c.1) (find byte_order id.0 (rows repo things))) apart) ∙ whole) in
            (rest.0, later thing things (Some (stored.Commit repo id rest.0 commit)) rest.1)

row_found : (repo : List ℕ) (id : Digest) (expired : Bool) (commit : CommitRecordValue) (things : Things)
    → IsThere things (stored.Commit repo id expired commit)
    → find byte_order id.0 (rows repo things) ≡ None → ⊥
row_found repo id expired commit things has = by things has.0 has.1 has.2
  where
    no : {x : CommitRecordValue} → Some x ≡ None → ⊥
    no h = cc

    by : (things : Things) (k : ℕ) → k < length things → get_or things k (Some (stored.Commit repo id expired commit))
        ≡ Some (stored.Commit repo id expired commit)
        → find byte_order id.0 (rows repo things) ≡ None → ⊥
    by [] k lt is none = omega (arith, lt)
    by (thing ∷ things) zero lt is none =
        let e : commit_in repo thing ≡ Some (id, commit) = ap (commit_in repo) is ∙ commit_forth repo id expired commit in
        let whole : find byte_order id.0 (row (id, commit) ∷ rows repo things) ≡ None =
        sym (ap (λ o. find byte_order id.0 (map row (cons_option o (filter_map (commit_in repo) things)))) e) ∙ none in
        no (sym (ap (λ b. cond b (Some commit) (find byte_order id.0 (rows repo things))) (is_eq-slice_cmp id.0 id.0 ∙ (bytes_eq-Decides id.0 id.0).1 refl))
        ∙ whole)
    by (thing ∷ things) (suc k) lt is none = rest (by things k (omega (arith, lt)) is) (commit_in repo thing) refl
      where
        rest : (find byte_order id.0 (rows repo things) ≡ None → ⊥) → (o : Option (Digest × CommitRecordValue)) → commit_in repo thing ≡ o → ⊥
        rest more None e = more (sym (ap (λ o. find byte_order id.0 (map row (cons_option o (filter_map (commit_in repo) things)))) e) ∙ none)
        rest more (Some c) e =
            more (passed (eq_by_cmp byte_order id.0 c.0.0) (find byte_order id.0 (rows repo things))
            (sym (ap (λ o. find byte_order id.0 (map row (cons_option o (filter_map (commit_in repo) things)))) e) ∙ none))
          where
            passed : (b : Bool) (o : Option CommitRecordValue) → cond b (Some c.1) o ≡ None → o ≡ None
            passed true o h = absurd cc
            passed false o h = h

module _ (things : Things) (repo : List ℕ) (id : Digest) where
  graph_find : commit_of (commits_in repo things) id ≡ find byte_order id.0 (rows repo things)
  unfolding commits_in
  graph_find = get-from_entries nat_list_cmp_total (rows repo things) id.0

  -- the commit of an id is the one that is there
  pub graph_found : (expired : Bool) (commit : CommitRecordValue) → IsOnlyCommit things repo id expired commit → commit_of (commits_in repo things) id
      ≡ Some commit
  graph_found expired commit is = graph_find ∙ by (find byte_order id.0 (rows repo things)) refl
    where
      by : (o : Option CommitRecordValue) → find byte_order id.0 (rows repo things) ≡ o → find byte_order id.0 (rows repo things) ≡ Some commit
      by None e = absurd (row_found repo id expired commit things is.there e)
      by (Some other) e = let there = found_row repo id other things e in e ∙ ap (λ c. Some c) (is.only there.0 other there.1).1

  pub graph_absent : (HasKey things (key.Commit repo id) → ⊥) → commit_of (commits_in repo things) id ≡ None
  graph_absent none = graph_find ∙ by (find byte_order id.0 (rows repo things)) refl
    where
      by : (o : Option CommitRecordValue) → find byte_order id.0 (rows repo things) ≡ o → find byte_order id.0 (rows repo things) ≡ None
      by None e = e
      by (Some other) e =
          let there = found_row repo id other things e in
          absurd (none (record { thing = stored.Commit repo id there.0 other; there = there.1; under = refl }))

  -- a commit that can be read is in the graph, and one in the graph can be read
  pub read_some : HasKey things (key.Commit repo id) → IsSome (commit_of (commits_in repo things) id)
  read_some has = subst IsSome (sym graph_find) (by (find byte_order id.0 (rows repo things)) refl)
    where
      by : (o : Option CommitRecordValue) → find byte_order id.0 (rows repo things) ≡ o → IsSome o
      by None e =
          let is = commit_is has.thing repo id has.under in
          absurd (row_found repo id is.0 is.1 things (subst (IsThere things) is.2 has.there) e)
      by (Some commit) e = refl

  pub some_read : IsSome (commit_of (commits_in repo things) id) → HasKey things (key.Commit repo id)
  some_read some = by (find byte_order id.0 (rows repo things)) refl (subst IsSome graph_find some)
    where
      by : (o : Option CommitRecordValue) → find byte_order id.0 (rows repo things) ≡ o → IsSome o → HasKey things (key.Commit repo id)
      by None e some = absurd cc
      by (Some commit) e some =
          let there = found_row repo id commit things e in
          record { thing = stored.Commit repo id there.0 commit; there = there.1; under = refl }

-- commits that can be read are in the graph, and so back
pub all_some : (things : Things) (repo : List ℕ) (ids : List Digest) → AreRead things repo ids
    → AllByRecursion (λ id. IsSome (commit_of (commits_in repo things) id)) ids
all_some things repo [] read = tt
all_some things repo (id ∷ ids) read = (
  read_some things repo id (read id (0, omega arith, refl)),
  all_some things repo ids (λ other has. read other (later id ids other has)),
)

pub some_all : (things : Things) (repo : List ℕ) (ids : List Digest) → AllByRecursion (λ id. IsSome (commit_of (commits_in repo things) id)) ids
    → AreRead things repo ids
some_all things repo ids all id has = some_read things repo id
    (All-contains (λ i. IsSome (commit_of (commits_in repo things) i)) ids id
    (All-from_recursion (λ i. IsSome (commit_of (commits_in repo things) i)) ids all) has)

-- ---- the generation due

-- the parents so far are there, and the greatest of their generations with that due after the others is the one due
pub record IsDueSoFar (graph : Graph) (all : List Digest) (i due : ℕ) : Type 0 where
  pub whole : AllByRecursion (λ parent. IsSome (commit_of graph parent)) (take i all)
  pub counted : max due (due_generation graph (drop i all)) ≡ due_generation graph all
  pub some : 1 ≤ due

max_first : (a b c : ℕ) → max (max a b) c ≡ max a (max b c)
max_first a b c = omega arith

due_some : (graph : Graph) (ids : List Digest) → 1 ≤ due_generation graph ids
due_some graph [] = omega arith
due_some graph (id ∷ ids) = omega (arith, due_some graph ids)

pub due_first : (graph : Graph) (all : List Digest) → IsDueSoFar graph all 0 1
due_first graph all = record { whole = tt; counted = omega (arith, due_some graph all); some = omega arith }

module _ (graph : Graph) (all : List Digest) (i due : ℕ) (parent : Digest) (lt : i < length all) (is : parent ≡ get_or all i parent)
    (so_far : IsDueSoFar graph all i due) where
  rest : drop i all ≡ parent ∷ drop (i + 1) all
  rest = rw add-one (drop-cons all i parent lt ∙ ap (λ p. p ∷ drop (suc i) all) (sym is))

  module _ (g : ℕ) (found : option_map (λ c. c.generation) (commit_of graph parent) ≡ Some g) where
    generation_is : generation graph parent ≡ g
    unfolding generation
    generation_is = ap (λ o. unwrap_or o 0) found

    there : IsSome (commit_of graph parent)
    there = by (commit_of graph parent) found
      where
        by : (o : Option CommitRecordValue) → option_map (λ c. c.generation) o ≡ Some g → IsSome o
        by None e = absurd cc
        by (Some c) e = refl

    pub due_more : IsDueSoFar graph all (i + 1) (max due (g + 1))
    due_more =
        let e : max due (max (generation graph parent + 1) (due_generation graph (drop (i + 1) all))) ≡ due_generation graph all =
        sym (ap (λ l. max due (due_generation graph l)) rest) ∙ so_far.counted in
        record {
          whole = all_more (λ parent. IsSome (commit_of graph parent)) all i parent lt is so_far.whole there;
          counted = omega (arith, e, generation_is);
          some = omega (arith, so_far.some);
        }

  -- where it isn't there, not all are
  pub not_whole : option_map (λ c. c.generation) (commit_of graph parent) ≡ None → AllByRecursion (λ parent. IsSome (commit_of graph parent)) all → ⊥
  not_whole none each =
      no (commit_of graph parent) none (subst (λ p. IsSome (commit_of graph p)) (sym is)
      (All-from_recursion (λ parent. IsSome (commit_of graph parent)) all each i parent lt))
    where
      no : (o : Option CommitRecordValue) → option_map (λ c. c.generation) o ≡ None → IsSome o → ⊥
      no None e some = absurd cc
      no (Some c) e some = cc

pub due_last : (graph : Graph) (all : List Digest) (i due : ℕ) → length all ≤ i → IsDueSoFar graph all i due
    → AllByRecursion (λ parent. IsSome (commit_of graph parent)) all × (due ≡ due_generation graph all)
due_last graph all i due le so_far =
    let e : max due 1 ≡ due_generation graph all = sym (ap (λ l. max due (due_generation graph l)) (drop_all i all le)) ∙ so_far.counted in
    (subst (AllByRecursion (λ parent. IsSome (commit_of graph parent))) (take_all i all le) so_far.whole, omega (arith, e, so_far.some))

-- ---- a commit that is due

pub is_due : (graph : Graph) (id : Digest) (commit : CommitRecordValue) → commit_of graph id ≡ Some commit
    → (AllByRecursion (λ parent. IsSome (commit_of graph parent)) commit.parents × (commit.generation ≡ due_generation graph commit.parents)) ↔ IsDue graph id
unfolding parents generation
is_due graph id commit is =
    let named : parents graph id ≡ commit.parents = ap parents_in is in
    let own : generation graph id ≡ commit.generation = ap (λ o. unwrap_or (option_map (λ c. c.generation) o) 0) is in (
      λ h. record {
        whole = λ parent among. All-contains (λ p. IsSome (commit_of graph p)) commit.parents parent
            (All-from_recursion (λ p. IsSome (commit_of graph p)) commit.parents h.0) (subst (λ l. Contains l parent) named among);
        counted = own ∙ h.1 ∙ sym (ap (due_generation graph) named);
      },
      λ due. (
        recursion_from_All (λ p. IsSome (commit_of graph p)) commit.parents
            (λ k d lt. due.whole (get_or commit.parents k d) (subst (λ l. Contains l (get_or commit.parents k d)) (sym named) (here commit.parents k d lt))),
        sym own ∙ due.counted ∙ ap (due_generation graph) named,
      ),
    )
  where
    here : (xs : List Digest) (k : ℕ) (d : Digest) → k < length xs → Contains xs (get_or xs k d)
    here xs k d lt = Contains-get_or xs k d lt

-- ---- the commit at a place

-- these parents are there, and the generation is the one due after them
abbrev pub IsDueAfter : List ℕ → Things → List Digest → ℕ → Type 0
IsDueAfter repo things ids own = AllByRecursion (λ parent. IsSome (commit_of (commits_in repo things) parent)) ids
    × (own ≡ due_generation (commits_in repo things) ids)

-- where these parents are there, so it is
abbrev pub IsDueWhereRead : List ℕ → Things → List Digest → ℕ → Type 0
IsDueWhereRead repo things ids own = AllByRecursion (λ parent. IsSome (commit_of (commits_in repo things) parent)) ids
    → own ≡ due_generation (commits_in repo things) ids

-- what is told of the number before it
pub told_due : (repo : List ℕ) (things : Things) (ids : List Digest) (most own : ℕ) → most + 1 ≡ due_generation (commits_in repo things) ids
    → AllByRecursion (λ parent. IsSome (commit_of (commits_in repo things) parent)) ids → (b : Bool) → IsTrue b ↔ (own ≡ most + 1)
    → IsTrue b ↔ IsDueWhereRead repo things ids own
told_due repo things ids most own due all b told = (λ e whole. told.0 e ∙ due, λ h. told.1 (h all ∙ sym due))

module _ (things : Things) (apart : (n m : ℕ) (s t : Stored) → Spells things n s → Spells things m t → key_of s ≡ key_of t → n ≡ m) (at : ℕ) (repo : List ℕ)
    (id : Digest)
    (commit : CommitRecordValue) (here : (expired : Bool) × Spells things at (stored.Commit repo id expired commit)) where
  only_here : IsOnlyCommit things repo id here.0 commit
  only_here = record { there = spells_there things at (stored.Commit repo id here.0 commit) here.1; only = λ old other there. by old other there }
    where
      by : (old : Bool) (other : CommitRecordValue) → IsThere things (stored.Commit repo id old other) → (old ≡ here.0) × (other ≡ commit)
      by old other there =
          let place = there_spells things (stored.Commit repo id old other) there in
          let same = apart place.0 at (stored.Commit repo id old other) (stored.Commit repo id here.0 commit) place.1 here.1 refl in
          let e : stored.Commit repo id old other ≡ stored.Commit repo id here.0 commit = some_is (sym place.1 ∙ ap (thing_at things) same ∙ here.1) in
          (expired_is e, commit_is e)
        where
          expired_is : {a b : List ℕ} {i j : Digest} {c d : Bool} {x y : CommitRecordValue} → stored.Commit a i c x ≡ stored.Commit b j d y → c ≡ d
          expired_is h = cc

          commit_is : {a b : List ℕ} {i j : Digest} {c d : Bool} {x y : CommitRecordValue} → stored.Commit a i c x ≡ stored.Commit b j d y → x ≡ y
          commit_is h = cc

  due_here : IsDueAfter repo things commit.parents commit.generation ↔ IsDue (commits_in repo things) id
  due_here = is_due (commits_in repo things) id commit (graph_found things repo id here.0 commit only_here)

  -- where its parents can be read, it is due: as the graph tells it
  due_same : (AreRead things repo commit.parents → IsDue (commits_in repo things) id) ↔ IsDueWhereRead repo things commit.parents commit.generation
  due_same = (
    λ h all. (due_here.1 (h (some_all things repo commit.parents all))).1,
    λ h read. let all = all_some things repo commit.parents read in due_here.0 (all, h all),
  )

  module _ (ids : List Digest) (own : ℕ) (parents_are : ids ≡ commit.parents) (own_is : own ≡ commit.generation) where
    due_told : (AreRead things repo commit.parents → IsDue (commits_in repo things) id) ↔ IsDueWhereRead repo things ids own
    due_told = subst (λ l. (AreRead things repo commit.parents → IsDue (commits_in repo things) id) ↔ IsDueWhereRead repo things l own) (sym parents_are)
        (subst (λ n. (AreRead things repo commit.parents → IsDue (commits_in repo things) id) ↔ IsDueWhereRead repo things commit.parents n) (sym own_is)
        due_same)

    pub not_due_commit : (b : Bool) → IsTrue b ↔ IsDueWhereRead repo things ids own → b ≡ false → IsTrue false ↔ IsRightCommit things at repo id commit
    not_due_commit b told off = (λ e. absurd (no e), λ right. absurd (no (sym off ∙ told.1 (due_told.0 right.due))))
      where
        no : false ≡ true → ⊥
        no e = cc

    pub right_commit : {E : Type 0} → IsDueWhereRead repo things ids own → (r : Result Bool E)
        → IfOk r (λ named. IsTrue named ↔ ((commit_id commit ≡ id) × IsOneCommit things at id commit))
        → IfOk r (λ right. IsTrue right ↔ IsRightCommit things at repo id commit)
    right_commit due (Ok b) h = (
      λ e. let named = h.0 e in record { due = due_told.1 due; named = named.0; same = named.1 },
      λ right. h.1 (right.named, right.same),
    )
    right_commit due (Err fault) h = tt
