-- The order of the log, the commits of a graph in the order of their ids and in that of the log, and the merge base.
use Rattle.std.proofs.Common.{◌≡◌, ℕ, true, false, Some, None, Option, List, [], ◌∷◌, ◌||◌, map, refl, sym, ap, subst, ◌∙◌}
use Rattle.std.specs.Cmp.{IsTotalOrder}
use Rattle.std.specs.List.{Contains, AllByRecursion, list_any}
use Rattle.std.specs.List.Sorted.{IsStrictlySortedBy}
use Rattle.std.specs.Option.{IsSome, is_some, MatchOption}
use Rattle.std.specs.Ordering.{is_lt, is_eq, eq_by_cmp, nat_cmp, ordering_then}
use Rattle.std.specs.declared.cmp.Ordering.{Ordering}
use Rattle.std.specs.declared.cmp.Ordering.TheVariants.{Less, Equal, Greater}
use Rattle.std.specs.FinMap.{IsAntisymmetric, get, keys, entries, from_entries, get-from_entries, contains_key-keys}
use Rattle.std.specs.FinMap.Entries.{is_some-find}
use Rattle.std.proofs.lemmas.List.Kept.{IsStrictlySortedBy-filter}
use Rattle.std.proofs.lemmas.Cmp.{nat_cmp_total, nat_list_cmp_total, on_total, then_total, back_total, tied_itself}
use Rattle.lake_values.specs.Commit.{CommitRecordValue}
use Rattle.lake_base.specs.Maps.{byte_order}
use Rattle.lake_values.specs.Ancestry.{Graph, commit_of, id_of, id_order, ids, generation, log, log_order, comes_first, IsGraph, IsAncestor, IsCommon}
use Rattle.lake_values.specs.Ancestry.{is_ancestor, ancestors_in_order, base, IsBase}
use Rattle.lake_base.specs.declared.digest.Digest.{Digest}
use Rattle.lake_base.proofs.MapsLemmas.{same_key}
use Rattle.lake_values.proofs.OrderLemmas.{Contains-map, Contains-from_map, Contains-filter, Contains-from_filter, keys_ascend, there_from_key, key_from_there}
use Rattle.lake_values.proofs.OrderLemmas.{find_first, find_none, same_place}
use Rattle.lake_values.proofs.AncestryLemmas.{otherwise, differ, one_id, ancestor_from, ancestor_to}

-- ---- the order of the log

pub log_total : (g : Graph) → IsTotalOrder (log_order g)
log_total g = then_total (on_total (generation g) (back_total nat_cmp_total)) (on_total (λ (id : Digest). id.0) nat_list_cmp_total)

pub then_equal : (o p : Ordering) → ordering_then o p ≡ Equal → p ≡ Equal
then_equal Less p e = cc
then_equal Equal p e = e
then_equal Greater p e = cc

-- byte lists of one place are one
pub bytes_same : IsAntisymmetric byte_order
bytes_same x y e = same_key x y e

pub ids_total : IsTotalOrder id_order
ids_total = on_total (λ (id : Digest). id.0) nat_list_cmp_total

pub ids_same : IsAntisymmetric id_order
ids_same x y e = one_id x y (bytes_same x.0 y.0 e)

-- ids of one place in the log are one
pub log_same : (g : Graph) → IsAntisymmetric (log_order g)
log_same g x y e = one_id x y (bytes_same x.0 y.0 (then_equal _ _ e))

-- ids tie in the log where their bytes do
log_ties : (g : Graph) (x y : Digest) → is_eq (log_order g x y) ≡ is_eq (byte_order x.0 y.0)
log_ties g x y = by (byte_order x.0 y.0) refl (nat_cmp (generation g y) (generation g x)) refl
  where
    by : (o : Ordering) → byte_order x.0 y.0 ≡ o → (r : Ordering) → nat_cmp (generation g y) (generation g x) ≡ r → is_eq (ordering_then r o) ≡ is_eq o
    by Less e Less f = refl
    by Less e Equal f = refl
    by Less e Greater f = refl
    by Greater e Less f = refl
    by Greater e Equal f = refl
    by Greater e Greater f = refl
    by Equal e r f = ap (λ s. is_eq (ordering_then s Equal)) (sym f ∙ level)
      where
        level : nat_cmp (generation g y) (generation g x) ≡ Equal
        level = subst (λ d. nat_cmp (generation g d) (generation g x) ≡ Equal) (one_id x y (bytes_same x.0 y.0 e)) (tied_itself nat_cmp_total (generation g x))

less_when : (r : Ordering) → is_lt r ≡ true → r ≡ Less
less_when Less e = refl
less_when Equal e = cc
less_when Greater e = cc

module _ (g : Graph) where
  pub comes_through : (x y z : Digest) → comes_first g x y ≡ true → comes_first g y z ≡ true → comes_first g x z ≡ true
  comes_through x y z p q = ap is_lt ((log_total g).trans x y z (less_when _ p) (less_when _ q))

  pub not_before_itself : (x : Digest) → comes_first g x x ≡ false
  not_before_itself x = ap is_lt (tied_itself (log_total g) x)

  -- what does not come before the best does not come before what comes before the best
  pub still_after : (x best other : Digest) → comes_first g x best ≡ true → comes_first g other best ≡ false → comes_first g other x ≡ false
  still_after x best other p q = otherwise (comes_first g other x) (λ t. differ (sym (comes_through other x best t p) ∙ q))

-- ---- the commits of a graph

module _ (g : Graph) where
  -- an entry of the graph by its id
  abbrev by_id : List ℕ × CommitRecordValue → Digest × CommitRecordValue
  by_id e = (id_of e.0, e.1)

  abbrev ids_of : List (List ℕ × CommitRecordValue) → List Digest
  ids_of es = map (λ (e : Digest × CommitRecordValue). e.0) (map by_id es)

  any_tie : (q : Digest) (es : List (List ℕ × CommitRecordValue))
      → list_any (eq_by_cmp (log_order g) q) (ids_of es) ≡ list_any (eq_by_cmp byte_order q.0) (map (λ (e : List ℕ × CommitRecordValue). e.0) es)
  any_tie q [] = refl
  any_tie q (e ∷ es) =
      ap (λ b. b || list_any (eq_by_cmp (log_order g) q) (ids_of es)) (log_ties g q (id_of e.0))
      ∙ ap (λ b. is_eq (byte_order q.0 e.0) || b) (any_tie q es)

  -- the log has each commit
  log_there : (q : Digest) → is_some (get (from_entries {R = log_order g} (map by_id (entries g))) q) ≡ is_some (commit_of g q)
  log_there q =
      ap is_some (get-from_entries (log_total g) (map by_id (entries g)) q)
      ∙ is_some-find (log_order g) q (map by_id (entries g))
      ∙ any_tie q (entries g)
      ∙ sym (contains_key-keys g q.0)

  pub log_from : (id : Digest) → Contains (log g) id → IsSome (commit_of g id)
  unfolding log
  log_from id within = sym (log_there id) ∙ there_from_key (log_total g) (log_same g) (from_entries (map by_id (entries g))) id within

  pub log_to : (id : Digest) → IsSome (commit_of g id) → Contains (log g) id
  unfolding log
  log_to id there = key_from_there (log_total g) (log_same g) (from_entries (map by_id (entries g))) id (log_there id ∙ there)

  pub log_ascends : IsStrictlySortedBy (log_order g) (log g)
  unfolding log
  log_ascends = keys_ascend (log_order g) (from_entries (map by_id (entries g)))

  pub ids_from : (id : Digest) → Contains (ids g) id → IsSome (commit_of g id)
  unfolding ids
  ids_from id within =
      let key = Contains-from_map id_of (keys g) id within in
      there_from_key nat_list_cmp_total bytes_same g id.0 (subst (Contains (keys g)) (ap (λ (d : Digest). d.0) key.2) key.1)

  pub ids_to : (id : Digest) → IsSome (commit_of g id) → Contains (ids g) id
  unfolding ids
  ids_to id there = Contains-map id_of (keys g) id.0 (key_from_there nat_list_cmp_total bytes_same g id.0 there)

above_ids : (k : List ℕ) (ks : List (List ℕ)) → AllByRecursion (λ y. byte_order k y ≡ Less) ks
    → AllByRecursion (λ y. id_order (id_of k) y ≡ Less) (map id_of ks)
above_ids k [] all = tt
above_ids k (x ∷ ks) all = (all.0, above_ids k ks all.1)

sorted_ids : (ks : List (List ℕ)) → IsStrictlySortedBy byte_order ks → IsStrictlySortedBy id_order (map id_of ks)
unfolding IsStrictlySortedBy
sorted_ids [] ascend = tt
sorted_ids (k ∷ ks) ascend = (above_ids k ks ascend.0, sorted_ids ks ascend.1)

pub ids_ascend : (g : Graph) → IsStrictlySortedBy id_order (ids g)
unfolding ids
ids_ascend g = sorted_ids (keys g) (keys_ascend byte_order g)

-- ---- the ancestors of a commit

module _ (g : Graph) (graph : IsGraph g) where
  pub ancestors_from : (id old : Digest) → Contains (ancestors_in_order g id) old → IsAncestor g old id
  unfolding ancestors_in_order
  ancestors_from id old within = ancestor_from g graph old id (Contains-from_filter (λ x. is_ancestor g x id) (log g) old within).1

  pub ancestors_to : (id old : Digest) → IsAncestor g old id → Contains (ancestors_in_order g id) old
  unfolding ancestors_in_order
  ancestors_to id old a = Contains-filter (λ x. is_ancestor g x id) (log g) old (log_to g old a.0) (ancestor_to g graph old id a)

pub ancestors_ascend : (g : Graph) (id : Digest) → IsStrictlySortedBy (log_order g) (ancestors_in_order g id)
unfolding ancestors_in_order
ancestors_ascend g id = IsStrictlySortedBy-filter (log_order g) (λ x. is_ancestor g x id) (log g) (log_ascends g)

-- ---- the base as a function

module _ (g : Graph) (graph : IsGraph g) (a b : Digest) where
  -- it is a common ancestor, and the first
  pub base_is : (c : Digest) → base g a b ≡ Some c → IsBase g a b c
  unfolding base
  base_is c is =
      let told = find_first (log_total g) (λ old. is_ancestor g old b) (ancestors_in_order g a) (ancestors_ascend g a) c is in
      record {
        common = (ancestors_from g graph a c told.0, ancestor_from g graph c b told.1);
        first = λ other both. told.2 other (ancestors_to g graph a other both.0) (ancestor_to g graph other b both.1);
      }

  -- none means that there is no common ancestor
  pub base_none : base g a b ≡ None → (id : Digest) → IsCommon g a b id → ⊥
  unfolding base
  base_none is id both =
      find_none (λ old. is_ancestor g old b) (ancestors_in_order g a) is id (ancestors_to g graph a id both.0) (ancestor_to g graph id b both.1)

  -- there is one base at most
  one_base : (c d : Digest) → IsBase g a b c → IsBase g a b d → c ≡ d
  one_base c d x y = same_place (log_total g) (log_same g) c d (y.first c x.common) (x.first d y.common)

  -- the base is what the function gives
  pub base_some : (c : Digest) → IsBase g a b c → base g a b ≡ Some c
  base_some c x = by (base g a b) refl
    where
      by : (o : Option Digest) → base g a b ≡ o → o ≡ Some c
      by (Some d) e = ap Some (one_base d c (base_is d e) x)
      by None e = absurd (base_none e c x.common)

  -- where there is no common ancestor, it gives none
  pub no_base : ((id : Digest) → IsCommon g a b id → ⊥) → base g a b ≡ None
  no_base never = by (base g a b) refl
    where
      by : (o : Option Digest) → base g a b ≡ o → o ≡ None
      by (Some d) e = absurd (never d (base_is d e).common)
      by None e = refl

  -- the answer of a search for it
  pub base_answered : (r : Option Digest) → MatchOption r ((id : Digest) → IsCommon g a b id → ⊥) (IsBase g a b) → r ≡ base g a b
  base_answered None never = sym (no_base never)
  base_answered (Some c) is = sym (base_some c is)
