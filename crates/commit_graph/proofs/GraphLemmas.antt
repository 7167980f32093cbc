-- The commits of a graph: their look-ups in the tree that keeps them, and a graph with one commit more.
use Rattle.std.proofs.Common.{◌≡◌, ℕ, suc, ◌+◌, Bool, true, false, cond, List, [], ◌∷◌, ◌++◌, length, Option, Some, None, refl, sym, ap, subst, ◌∙◌}
use Rattle.std.proofs.Common.{map as list_map, arith, Bor, inl, inr, ◌⊎◌, ◌<◌, get_or, drop, add-one, drop-cons, eqb, rules, not, append_assoc}
use Rattle.std.proofs.lemmas.Bool.{cases_Bool, eqb-true}
use Rattle.std.proofs.lemmas.List.{nil_from_length}
use Rattle.std.proofs.lemmas.List.Elements.{All-contains, All-from_recursion}
use Rattle.std.proofs.lemmas.Option.{slice_get-map}
use Rattle.std.specs.Map.Iter.{deref_pair}
use Rattle.lake_base.proofs.MapsLemmas.{same_key, tied, turned}
use Rattle.std.specs.BTreeMap.{insert_entry}
use Rattle.std.specs.Ordering.{match_ordering}
use Rattle.std.specs.declared.cmp.Ordering.TheVariants.{Less, Greater}
use Rattle.commit_graph.specs.Adding.{missing_parent, untimely, clash}
use Rattle.commit_graph.specs.declared.fault.GraphFault.TheVariants.{Generation, NameClash}
use Rattle.lake_format.specs.Spelling.{commit_spelling}
use Rattle.std.proofs.lemmas.Slice.Eq.{bytes_eq-Decides}
use Rattle.std.specs.Str.{bytes_eq}
use Rattle.std.specs.Prelude.{min}
use Rattle.std.proofs.lemmas.Map.Keys.{sorted_head, sorted_tail}
use Rattle.std.specs.Cmp.Lexicographic.{nat_list_cmp_total}
use Rattle.std.specs.Cmp.{eq_by_cmp_equiv}
use Rattle.std.specs.FinMap as tree
use Rattle.std.specs.FinMap.{nat_cmp-IsAntisymmetric, slice_cmp-IsAntisymmetric}
use Rattle.std.specs.FinMap.Entries.{by_order}
use Rattle.std.specs.List.Sorted.{IsStrictlySortedBy}
use Rattle.std.specs.List.{Contains, AllByRecursion, slice_get, find}
use Rattle.std.specs.Map.{lookup}
use Rattle.std.specs.Option.{unwrap_or, option_map, option_copied, IsSome, is_some, is_none}
use Rattle.std.specs.Ordering.{eq_by_cmp}
use Rattle.std.specs.declared.cmp.Ordering.{Ordering}
use Rattle.lake_base.specs.Maps.{byte_order}
use Rattle.lake_base.specs.declared.digest.Digest.{Digest}
use Rattle.lake_values.specs.Commit.{CommitRecordValue}
use Rattle.lake_values.specs.Ancestry.{Graph, graph_of, commit_of, id_of, parents, generation, due_generation, IsDue}
use Rattle.lake_values.proofs.AncestryLemmas.{parents_some, generation_some}
use Rattle.commit_graph.specs.Graphs.{IsNamed, IsSound}

-- ids in the order of a tree's keys
abbrev pub by_id : Digest → Digest → Ordering
by_id id other = byte_order id.0 other.0

abbrev pub Commits : Type 0
Commits = List (Digest × CommitRecordValue)

abbrev pub keyed : Commits → List (List ℕ × CommitRecordValue)
keyed es = list_map (λ e. (e.0.0, e.1)) es

find_lookup : (es : Commits) (id : Digest) → tree.find byte_order id.0 (keyed es) ≡ lookup (eq_by_cmp by_id id) es
find_lookup [] id = refl
find_lookup (e ∷ es) id = ap (cond (eq_by_cmp by_id id e.0) (Some e.1)) (find_lookup es id)

-- what a look-up in the tree finds is the commit
pub commit_from : (es : Commits) (id : Digest) → commit_of (graph_of es) id ≡ lookup (eq_by_cmp by_id id) es
commit_from es id = tree.get-from_entries nat_list_cmp_total (keyed es) id.0 ∙ find_lookup es id

-- a tree that differs from another at one id is its graph with that commit put in
pub insert_from : (es fs : Commits) (id : Digest) (c : CommitRecordValue)
    → ((q : Digest) → lookup (eq_by_cmp by_id q) fs ≡ cond (eq_by_cmp by_id id q) (Some c) (lookup (eq_by_cmp by_id q) es))
    → graph_of fs ≡ tree.insert (graph_of es) id.0 c
insert_from es fs id c h =
    tree.same_map nat_list_cmp_total (slice_cmp-IsAntisymmetric nat_cmp-IsAntisymmetric) _ _
    (λ q. commit_from fs (id_of q)
    ∙ h (id_of q)
    ∙ ap (λ b. cond b (Some c) (lookup (eq_by_cmp by_id (id_of q)) es)) ((eq_by_cmp_equiv nat_list_cmp_total).symm id.0 q)
    ∙ ap (cond (eq_by_cmp byte_order q id.0) (Some c)) (sym (commit_from es (id_of q)))
    ∙ sym (tree.get-insert nat_list_cmp_total (graph_of es) id.0 c q))

-- and one that has nothing at one id is its graph without that commit
pub remove_from : (es fs : Commits) (id : Digest)
    → ((q : Digest) → lookup (eq_by_cmp by_id q) fs ≡ cond (eq_by_cmp by_id id q) None (lookup (eq_by_cmp by_id q) es))
    → graph_of fs ≡ tree.remove (graph_of es) id.0
remove_from es fs id h =
    tree.same_map nat_list_cmp_total (slice_cmp-IsAntisymmetric nat_cmp-IsAntisymmetric) _ _
    (λ q. commit_from fs (id_of q)
    ∙ h (id_of q)
    ∙ ap (λ b. cond b None (lookup (eq_by_cmp by_id (id_of q)) es)) ((eq_by_cmp_equiv nat_list_cmp_total).symm id.0 q)
    ∙ ap (cond (eq_by_cmp byte_order q id.0) None) (sym (commit_from es (id_of q)))
    ∙ sym (tree.get-remove nat_list_cmp_total (graph_of es) id.0 q))

put_below : (e : Digest × CommitRecordValue) (es : Commits) → IsStrictlySortedBy by_id (list_map (λ e. e.0) (e ∷ es))
    → tree.put byte_order e.0.0 e.1 (keyed es) ≡ keyed (e ∷ es)
put_below e [] h = refl
put_below e (f ∷ fs) h =
    ap (λ r. by_order r (keyed (e ∷ f ∷ fs)) ((f.0.0, e.1) ∷ keyed fs) ((f.0.0, f.1) ∷ tree.put byte_order e.0.0 e.1 (keyed fs)))
    (sorted_head by_id e.0 (list_map (λ e. e.0) (f ∷ fs)) h).0

-- the tree's entries are the graph's
pub entries_from : (es : Commits) → IsStrictlySortedBy by_id (list_map (λ e. e.0) es) → tree.entries (graph_of es) ≡ keyed es
entries_from [] h = nil_from_length _ (sym (tree.len-entries tree.empty) ∙ tree.len-empty byte_order CommitRecordValue)
entries_from (e ∷ es) h =
    tree.entries-insert nat_list_cmp_total (graph_of es) e.0.0 e.1
    ∙ ap (tree.put byte_order e.0.0 e.1) (entries_from es (sorted_tail by_id e.0 (list_map (λ e. e.0) es) h))
    ∙ put_below e es h

length_keyed : (es : Commits) → length (keyed es) ≡ length es
length_keyed [] = refl
length_keyed (e ∷ es) = ap suc (length_keyed es)

pub len_from : (es : Commits) → IsStrictlySortedBy by_id (list_map (λ e. e.0) es) → tree.len (graph_of es) ≡ length es
len_from es h = tree.len-entries (graph_of es) ∙ ap length (entries_from es h) ∙ length_keyed es

-- no commits are a graph
pub sound_empty : (es : Commits) → es ≡ [] → IsSound (graph_of es)
sound_empty es none =
    subst (λ es. IsSound (graph_of es)) (sym none) (record { due = λ id some. absurd (nothing id some); names = λ id c e. absurd (not_found id c e) })
  where
    no_commit : (id : Digest) → commit_of (graph_of []) id ≡ None
    no_commit id = commit_from [] id

    not_found : (id : Digest) (c : CommitRecordValue) → commit_of (graph_of []) id ≡ Some c → ⊥
    not_found id c e = cc (no_commit id)

    nothing : (id : Digest) → IsSome (commit_of (graph_of []) id) → ⊥
    nothing id some = cc (ap is_some (no_commit id))

-- the entry at a place
pub at_from : (es : Commits) (place : ℕ) (r : Option (Bor Digest × Bor CommitRecordValue)) → IsStrictlySortedBy by_id (list_map (λ e. e.0) es)
    → option_map deref_pair r ≡ slice_get es place
    → option_map {U = List ℕ × CommitRecordValue} (λ x. (x.0.now.0, x.1.now)) r ≡ slice_get (tree.entries (graph_of es)) place
at_from es place r sorted is =
    shown r ∙ ap (option_map key) is ∙ sym (slice_get-map key es place) ∙ ap (λ l. slice_get l place) (sym (entries_from es sorted))
  where
    key : Digest × CommitRecordValue → List ℕ × CommitRecordValue
    key e = (e.0.0, e.1)

    shown : (r : Option (Bor Digest × Bor CommitRecordValue)) → option_map {U = List ℕ × CommitRecordValue} (λ x. (x.0.now.0, x.1.now)) r
        ≡ option_map {U = List ℕ × CommitRecordValue} (λ e. (e.0.0, e.1)) (option_map deref_pair r)
    shown None = refl
    shown (Some x) = refl

-- ---- a commit more

abbrev AreThere : Graph → List Digest → Type 0
AreThere graph ids = AllByRecursion (λ id. IsSome (commit_of graph id)) ids

-- where none is missing, all are there
all_there : (graph : Graph) (ids : List Digest) → missing_parent graph ids ≡ None → AreThere graph ids
all_there graph [] none = tt
all_there graph (id ∷ ids) none =
    let both = here (commit_of graph id) none in
    (both.0, all_there graph ids both.1)
  where
    here : (o : Option CommitRecordValue) → cond (is_none o) (Some id) (missing_parent graph ids) ≡ None → IsSome o × (missing_parent graph ids ≡ None)
    here None e = absurd cc
    here (Some c) e = (refl, e)

module _ (graph : Graph) (id : Digest) (c : CommitRecordValue) where
  abbrev with : Graph
  with = tree.insert graph id.0 c

  found : (q : Digest) → commit_of with q ≡ cond (eq_by_cmp byte_order q.0 id.0) (Some c) (commit_of graph q)
  found q = tree.get-insert nat_list_cmp_total graph id.0 c q.0

  -- the same id
  same_id : (q : Digest) → eq_by_cmp byte_order q.0 id.0 ≡ true → q ≡ id
  same_id q e = ap id_of (same_key q.0 id.0 (tied (byte_order q.0 id.0) e))

  -- what was there stays
  stays : commit_of graph id ≡ None → (q : Digest) → IsSome (commit_of graph q) → commit_of with q ≡ commit_of graph q
  stays absent q there =
      elim (cases_Bool (eq_by_cmp byte_order q.0 id.0)) [
        | inl e ↦ absurd (cc (ap is_some (ap (commit_of graph) (same_id q e) ∙ absent)))
        | inr e ↦ found q ∙ ap (λ b. cond b (Some c) (commit_of graph q)) e
      ]

  -- what is there now was there, or is the new one
  here : (q : Digest) → (commit_of with q ≡ commit_of graph q) ⊎ ((q ≡ id) × (commit_of with q ≡ Some c))
  here q =
      elim (cases_Bool (eq_by_cmp byte_order q.0 id.0)) [
        | inl e ↦ inr (same_id q e, found q ∙ ap (λ b. cond b (Some c) (commit_of graph q)) e)
        | inr e ↦ inl (found q ∙ ap (λ b. cond b (Some c) (commit_of graph q)) e)
      ]

  still_there : commit_of graph id ≡ None → (q : Digest) → IsSome (commit_of graph q) → IsSome (commit_of with q)
  still_there absent q there = ap is_some (stays absent q there) ∙ there

  due_stays : commit_of graph id ≡ None → (ids : List Digest) → AreThere graph ids → due_generation with ids ≡ due_generation graph ids
  unfolding generation
  due_stays absent [] there = refl
  due_stays absent (q ∷ ids) there =
      let same : generation with q ≡ generation graph q =
      ap (λ o. unwrap_or (option_map (λ (x : CommitRecordValue). x.generation) o) 0) (stays absent q there.0) in
      omega (arith, same, due_stays absent ids there.1)

  -- a commit whose parents were there, and whose generation was due, is so still
  due_of : commit_of graph id ≡ None → (q : Digest) (d : CommitRecordValue) → commit_of with q ≡ Some d → AreThere graph d.parents
      → d.generation ≡ due_generation graph d.parents → IsDue with q
  due_of absent q d is there due =
      let kids : d.parents ≡ parents with q = parents_some with q d (sym is) in
      record {
        whole = λ parent in_it. still_there absent parent (All-contains (λ p. IsSome (commit_of graph p)) d.parents parent
            (All-from_recursion (λ p. IsSome (commit_of graph p)) d.parents there) (subst (λ l. Contains l parent) (sym kids) in_it));
        counted = sym (generation_some with q d (sym is)) ∙ due ∙ sym (due_stays absent d.parents there) ∙ ap (due_generation with) kids;
      }

  pub sound_more : IsSound graph → commit_of graph id ≡ None → IsNamed id c → missing_parent graph c.parents ≡ None
      → c.generation ≡ due_generation graph c.parents → IsSound with
  sound_more sound absent named whole due = record {
    due = λ q some. elim (here q) [
      | inl old ↦ old_due q (commit_of graph q) refl old (ap is_some (sym old) ∙ some)
      | inr new ↦ due_of absent q c new.1 (all_there graph c.parents whole) due
    ];
    names = λ q d is. elim (here q) [
      | inl old ↦ sound.names q d (sym old ∙ is)
      | inr new ↦ subst (λ (x : Digest). IsNamed x d) (sym new.0) (subst (IsNamed id) (the_same c d (sym new.1 ∙ is)) named)
    ];
  }
    where
      some : CommitRecordValue → Option CommitRecordValue
      some x = Some x

      the_same : (a b : CommitRecordValue) → Some a ≡ Some b → a ≡ b
      the_same a b e = cc

      there_by : (ids : List Digest) → ((p : Digest) → Contains ids p → IsSome (commit_of graph p)) → AreThere graph ids
      there_by [] h = tt
      there_by (p ∷ ids) h = (h p (0, omega arith, refl), there_by ids (λ q w. h q (suc w.0, omega (arith, w.1), w.2)))

      old_due : (q : Digest) (o : Option CommitRecordValue) → commit_of graph q ≡ o → commit_of with q ≡ commit_of graph q → IsSome (commit_of graph q)
          → IsDue with q
      old_due q None was old some = absurd (cc (ap is_some was))
      old_due q (Some d) was old some =
          let h = sound.due q some in
          let kids : d.parents ≡ parents graph q = parents_some graph q d (sym was) in
          due_of absent q d (old ∙ was) (there_by d.parents (λ p in_it. h.whole p (subst (λ l. Contains l p) kids in_it)))
          (generation_some graph q d (sym was) ∙ h.counted ∙ ap (due_generation graph) (sym kids))

  -- a commit that is there already changes nothing
  pub same_again : commit_of graph id ≡ Some c → with ≡ graph
  same_again is =
      tree.same_map nat_list_cmp_total (slice_cmp-IsAntisymmetric nat_cmp-IsAntisymmetric) _ _
      (λ q. elim (here (id_of q)) [
        | inl old ↦ old
        | inr new ↦ new.1 ∙ sym (ap (commit_of graph) new.0 ∙ is)
      ])

-- ---- parents that are looked for

-- what a look-up that lends tells
pub none_found : (found : Option (Bor CommitRecordValue)) (o : Option CommitRecordValue) (b : Bool) → option_copied found ≡ o → is_some found ≡ not b
    → b ≡ is_none o
none_found None o true is test = ap is_none is
none_found (Some c) o false is test = ap is_none is
none_found None o false is test = absurd cc
none_found (Some c) o true is test = absurd cc

pub find_next : {X : Type 0} (test : X → Bool) (xs : List X) (i : ℕ) (d : X) → i < length xs
    → find test (drop i xs) ≡ cond (test (get_or xs i d)) (Some (get_or xs i d)) (find test (drop (i + 1) xs))
find_next test xs i d lt =
    let front : drop i xs ≡ get_or xs i d ∷ drop (i + 1) xs = rw (add-one, drop-cons xs i d) refl in
    ap (find test) front

-- ---- a copy, commit by commit

all_at : (P : Digest → Type 0) (xs ys : Commits) (e : Digest × CommitRecordValue) → AllByRecursion P (list_map (λ e. e.0) (xs ++ e ∷ ys)) → P e.0
all_at P [] ys e all = all.0
all_at P (x ∷ xs) ys e all = all_at P xs ys e all.1

-- a commit of the greatest id goes to the end
push_last : (xs ys : Commits) (e : Digest × CommitRecordValue) → IsStrictlySortedBy by_id (list_map (λ e. e.0) (xs ++ e ∷ ys))
    → insert_entry by_id xs e.0 e.1 ≡ xs ++ e ∷ []
push_last [] ys e h = refl
push_last (x ∷ xs) ys e h =
    let ids = list_map (λ (e : Digest × CommitRecordValue). e.0) (xs ++ e ∷ ys) in
    let below = all_at (λ id. by_id x.0 id ≡ Less) xs ys e (sorted_head by_id x.0 ids h) in
    let above : by_id e.0 x.0 ≡ Greater = turned x.0.0 e.0.0 Less below in
    ap (λ r. match_ordering r ((e.0, e.1) ∷ x ∷ xs) ((x.0, e.1) ∷ xs) (x ∷ insert_entry by_id xs e.0 e.1)) above
    ∙ ap (λ l. x ∷ l) (push_last xs ys e (sorted_tail by_id x.0 ids h))

pub copied_more : (all xs ys zs new : Commits) (e : Digest × CommitRecordValue) (c : CommitRecordValue) → IsStrictlySortedBy by_id (list_map (λ e. e.0) all)
    → xs ++ ys ≡ all → ys ≡ e ∷ zs → new ≡ insert_entry by_id xs e.0 c → c ≡ e.1 → new ++ zs ≡ all
copied_more all xs ys zs new e c sorted so_far first put same =
    let whole : xs ++ e ∷ zs ≡ all = ap (λ l. xs ++ l) (sym first) ∙ so_far in
    let pushed : new ≡ xs ++ e ∷ [] =
    put ∙ ap (insert_entry by_id xs e.0) same ∙ push_last xs zs e (subst (λ l. IsStrictlySortedBy by_id (list_map (λ e. e.0) l)) (sym whole) sorted) in
    ap (λ l. l ++ zs) pushed ∙ append_assoc xs (e ∷ []) zs ∙ whole

-- ---- what a test that went well tells

pub no_missing : {A B : Type 0} (f : A → B) (o : Option A) → option_map f o ≡ None → o ≡ None
no_missing f None e = refl
no_missing f (Some x) e = absurd cc

pub timely : (graph : Graph) (c : CommitRecordValue) → untimely graph c ≡ None → c.generation ≡ due_generation graph c.parents
timely graph c e = by (eqb c.generation (due_generation graph c.parents)) refl e
  where
    by : (b : Bool) → eqb c.generation (due_generation graph c.parents) ≡ b
        → cond b None (Some (Generation c.generation (min (due_generation graph c.parents) 18446744073709551615))) ≡ None
        → c.generation ≡ due_generation graph c.parents
    by true is e = eqb-true _ _ is
    by false is e = absurd cc

pub clash_none : (name : Digest) (new : List ℕ) (kept : CommitRecordValue) → clash name new kept ≡ None → commit_spelling kept ≡ new
clash_none name new kept e = by (bytes_eq (commit_spelling kept) new) refl e
  where
    by : (b : Bool) → bytes_eq (commit_spelling kept) new ≡ b → cond b None (Some (NameClash name (commit_spelling kept) new)) ≡ None
        → commit_spelling kept ≡ new
    by true is e = search (rules, bytes_eq-Decides)
    by false is e = absurd cc
