-- Kept commits as functions tell them, and the list of them.
use Rattle.std.proofs.Common.{◌≡◌, ℕ, ◌⊎◌, inl, inr, ◌&&◌, ◌||◌, not, leb, Bool, true, false, List, Option, Some, None, refl, sym, ap, subst, ◌∙◌}
use Rattle.std.specs.List.{Contains, list_any}
use Rattle.std.specs.List.Sorted.{IsStrictlySortedBy}
use Rattle.std.proofs.lemmas.Bool.{leb-true, le-leb}
use Rattle.std.proofs.lemmas.List.Kept.{IsStrictlySortedBy-filter}
use Rattle.std.proofs.lemmas.Slice.Eq.{bytes_eq-Decides}
use Rattle.lake_values.specs.Ancestry.{Graph, IsGraph, id_order, ids, same_id, date, first_parent, walk}
use Rattle.lake_values.specs.Retention.{cutoff, days_of, IsHead, IsFollower, IsFollowed, IsYoung, IsKeptBy, IsKept, is_id, is_head, is_follower, is_followed}
use Rattle.lake_values.specs.Retention.{is_young, is_kept, kept_ids}
use Rattle.lake_values.specs.Settings.{RulesValue}
use Rattle.lake_base.specs.declared.digest.Digest.{Digest}
use Rattle.lake_values.proofs.AncestryOrderLemmas.{ids_from, ids_to, ids_ascend}
use Rattle.lake_values.proofs.AncestryLemmas.{differ, one_id}
use Rattle.lake_values.proofs.AncestryWalkLemmas.{walk_from, walk_to}
use Rattle.lake_values.proofs.OrderLemmas.{any_from, any_to, Contains-filter, Contains-from_filter}

-- ---- tests

same_from : (a b : Digest) → same_id a b ≡ true → b ≡ a
same_from a b t = sym (one_id a b ((bytes_eq-Decides a.0 b.0).0 t))

same_to : (a b : Digest) → b ≡ a → same_id a b ≡ true
same_to a b e = (bytes_eq-Decides a.0 b.0).1 (ap (λ (d : Digest). d.0) (sym e))

id_from : (id : Digest) (o : Option Digest) → is_id id o ≡ true → o ≡ Some id
id_from id None t = cc
id_from id (Some other) t = ap Some (same_from id other t)

id_to : (id : Digest) (o : Option Digest) → o ≡ Some id → is_id id o ≡ true
id_to id None e = cc
id_to id (Some other) e = same_to id other cc

and_both : (a b : Bool) → (a && b) ≡ true → (a ≡ true) × (b ≡ true)
and_both true b e = (refl, e)
and_both false b e = cc

and_of : (a b : Bool) → a ≡ true → b ≡ true → (a && b) ≡ true
and_of true b p q = q
and_of false b p q = cc

or_cases : (a b : Bool) → (a || b) ≡ true → (a ≡ true) ⊎ (b ≡ true)
or_cases true b e = inl refl
or_cases false b e = inr e

or_first : (a b : Bool) → a ≡ true → (a || b) ≡ true
or_first true b e = refl
or_first false b e = cc

or_second : (a b : Bool) → b ≡ true → (a || b) ≡ true
or_second true b e = refl
or_second false b e = e

not_from : (b : Bool) → not b ≡ true → b ≡ false
not_from true e = cc
not_from false e = refl

not_to : (b : Bool) → (b ≡ true → ⊥) → not b ≡ true
not_to true never = absurd (never refl)
not_to false never = refl

-- ---- heads and tags

head_from : (heads : List (List ℕ × Digest)) (id : Digest) → is_head heads id ≡ true → IsHead heads id
head_from heads id t =
    let some = any_from (λ (head : List ℕ × Digest). same_id id head.1) heads t in
    (some.0.0, subst (λ (d : Digest). Contains heads (some.0.0, d)) (same_from id some.0.1 some.2) some.1)

head_to : (heads : List (List ℕ × Digest)) (id : Digest) → IsHead heads id → is_head heads id ≡ true
head_to heads id h = any_to (λ (head : List ℕ × Digest). same_id id head.1) heads (h.0, id) h.1 (same_to id id refl)

tag_from : (tags : List Digest) (id : Digest) → list_any (same_id id) tags ≡ true → Contains tags id
tag_from tags id t = let some = any_from (same_id id) tags t in subst (Contains tags) (same_from id some.0 some.2) some.1

tag_to : (tags : List Digest) (id : Digest) → Contains tags id → list_any (same_id id) tags ≡ true
tag_to tags id has = any_to (same_id id) tags id has (same_to id id refl)

-- ---- walks

module _ (g : Graph) (graph : IsGraph g) where
  abbrev follows : ℕ → Digest → Digest → Bool
  follows limit id later = is_id id (first_parent g later) && leb limit (date g later)

  follower_from : (head : Digest) (limit : ℕ) (id : Digest) → is_follower g head limit id ≡ true → IsFollower g head limit id
  follower_from head limit id t =
      let some = any_from (follows limit id) (walk g head) t in
      let two = and_both (is_id id (first_parent g some.0)) (leb limit (date g some.0)) some.2 in
      let on = walk_from g head some.0 some.1 in
      record {
        steps = on.0;
        later = some.0;
        stands = on.1;
        follows = id_from id (first_parent g some.0) two.0;
        dated = leb-true limit (date g some.0) two.1;
      }

  follower_to : (head : Digest) (limit : ℕ) (id : Digest) → IsFollower g head limit id → is_follower g head limit id ≡ true
  follower_to head limit id f =
      any_to (follows limit id) (walk g head) f.later (walk_to g graph head f.later (f.steps, f.stands))
      (and_of (is_id id (first_parent g f.later)) (leb limit (date g f.later)) (id_to id (first_parent g f.later) f.follows)
      (le-leb limit (date g f.later) f.dated))

  module _ (heads : List (List ℕ × Digest)) (rules : RulesValue) (now : ℕ) (id : Digest) where
    abbrev on_follower : List ℕ × Digest → Bool
    on_follower head = is_follower g head.1 (cutoff now (days_of rules head.0)) id

    followed_from : is_followed g heads rules now id ≡ true → IsFollowed g heads rules now id
    followed_from t =
        let some = any_from on_follower heads t in
        (some.0, some.1, follower_from some.0.1 (cutoff now (days_of rules some.0.0)) id some.2)

    followed_to : IsFollowed g heads rules now id → is_followed g heads rules now id ≡ true
    followed_to f = any_to on_follower heads f.0 f.1 (follower_to f.0.1 (cutoff now (days_of rules f.0.0)) id f.2)

    abbrev on_walk : List ℕ × Digest → Bool
    on_walk head = list_any (same_id id) (walk g head.1)

    young_from : is_young g heads rules now id ≡ true → IsYoung g heads rules now id
    young_from t =
        let two = and_both (not (list_any on_walk heads)) (leb (cutoff now rules.default_days) (date g id)) t in
        record {
          apart = λ head has on.
              differ (sym (any_to on_walk heads head has (tag_to (walk g head.1) id (walk_to g graph head.1 id on))) ∙ not_from (list_any on_walk heads) two.0);
          dated = leb-true (cutoff now rules.default_days) (date g id) two.1;
        }

    young_to : IsYoung g heads rules now id → is_young g heads rules now id ≡ true
    young_to y =
        and_of (not (list_any on_walk heads)) (leb (cutoff now rules.default_days) (date g id))
        (not_to (list_any on_walk heads)
        (λ t. let some = any_from on_walk heads t in y.apart some.0 some.1 (walk_from g some.0.1 id (tag_from (walk g some.0.1) id some.2))))
        (le-leb (cutoff now rules.default_days) (date g id) y.dated)

  -- ---- kept

  module _ (heads : List (List ℕ × Digest)) (tags : List Digest) (now : ℕ) (id : Digest) where
    by_from : (rules : Option RulesValue) → is_kept g heads tags rules now id ≡ true → IsKeptBy g heads tags rules now id
    by_from None t = tt
    by_from (Some rules) t = elim (or_cases (is_head heads id) _ t) [
      | inl head ↦ inl (head_from heads id head)
      | inr rest ↦ inr (elim (or_cases (list_any (same_id id) tags) _ rest) [
        | inl tag ↦ inl (tag_from tags id tag)
        | inr more ↦ inr (elim (or_cases (is_followed g heads rules now id) _ more) [
          | inl followed ↦ inl (followed_from heads rules now id followed)
          | inr young ↦ inr (young_from heads rules now id young)
        ])
      ])
    ]

    by_to : (rules : Option RulesValue) → IsKeptBy g heads tags rules now id → is_kept g heads tags rules now id ≡ true
    by_to None k = refl
    by_to (Some rules) (inl head) = or_first (is_head heads id) _ (head_to heads id head)
    by_to (Some rules) (inr (inl tag)) = or_second (is_head heads id) _ (or_first (list_any (same_id id) tags) _ (tag_to tags id tag))
    by_to (Some rules) (inr (inr (inl followed))) =
        or_second (is_head heads id) _
        (or_second (list_any (same_id id) tags) _ (or_first (is_followed g heads rules now id) _ (followed_to heads rules now id followed)))
    by_to (Some rules) (inr (inr (inr young))) =
        or_second (is_head heads id) _
        (or_second (list_any (same_id id) tags) _ (or_second (is_followed g heads rules now id) _ (young_to heads rules now id young)))

  module _ (heads : List (List ℕ × Digest)) (tags : List Digest) (rules : Option RulesValue) (now : ℕ) where
    pub kept_from : (id : Digest) → Contains (kept_ids g heads tags rules now) id → IsKept g heads tags rules now id
    unfolding kept_ids
    kept_from id within =
        let two = Contains-from_filter (is_kept g heads tags rules now) (ids g) id within in
        (ids_from g id two.0, by_from heads tags now id rules two.1)

    pub kept_to : (id : Digest) → IsKept g heads tags rules now id → Contains (kept_ids g heads tags rules now) id
    unfolding kept_ids
    kept_to id k = Contains-filter (is_kept g heads tags rules now) (ids g) id (ids_to g id k.0) (by_to heads tags now id rules k.1)

pub kept_ascends : (g : Graph) (heads : List (List ℕ × Digest)) (tags : List Digest) (rules : Option RulesValue) (now : ℕ)
    → IsStrictlySortedBy id_order (kept_ids g heads tags rules now)
unfolding kept_ids
kept_ascends g heads tags rules now = IsStrictlySortedBy-filter id_order (is_kept g heads tags rules now) (ids g) (ids_ascend g)
