-- Places that are put into a front.
use Rattle.std.proofs.Common.{◌≡◌, ℕ, ◌+◌, ◌<◌, ◌⊎◌, inl, inr, List, [], ◌∷◌, ◌++◌, length, get_or, take, refl, sym, subst, ◌∙◌}
use Rattle.std.proofs.lemmas.List.{take_more}
use Rattle.std.proofs.lemmas.List.Elements.{All-contains, All-from_recursion, Contains-append_cases, Contains-append_left, Contains-append_right}
use Rattle.std.specs.BTreeSet.{insert_key}
use Rattle.std.specs.List.{Contains, All}
use Rattle.std.specs.Option.{IsSome}
use Rattle.std.specs.Ordering.{nat_cmp, match_ordering}
use Rattle.std.specs.declared.cmp.Ordering.{Ordering}
use Rattle.std.specs.declared.cmp.Ordering.TheVariants.{Less, Equal, Greater}
use Rattle.lake_base.specs.declared.digest.Digest.{Digest}
use Rattle.lake_values.specs.Ancestry.{Graph, IsGraph, commit_of, id_order, parents}
use Rattle.lake_values.proofs.AncestryOrderLemmas.{ids_same, then_equal}
use Rattle.lake_values.proofs.OrderLemmas.{Contains-first, Contains-later, Contains-nothing, first_or_later}
use Rattle.commit_graph.specs.Fronts.{Place, place_of, IsPlace, IsFront, PutsIn}
use Rattle.commit_graph.proofs.AncestorsLemmas.{by_place, each_of}

-- ---- one more place

put_one : (places : List Place) (place : Place) → (at : Place) × Contains (insert_key by_place places place) at × (at.1 ≡ place.1)
put_one [] place = (place, Contains-first place [], refl)
put_one (other ∷ places) place = by (by_place place other) refl (put_one places place)
  where
    by : (o : Ordering) → by_place place other ≡ o → (at : Place) × Contains (insert_key by_place places place) at × (at.1 ≡ place.1)
        → (at : Place) × Contains (match_ordering o (place ∷ other ∷ places) (other ∷ places) (other ∷ insert_key by_place places place)) at × (at.1 ≡ place.1)
    by Less e rest = (place, Contains-first place (other ∷ places), refl)
    by Equal e rest =
        (other, Contains-first other places, sym (ids_same place.1 other.1 (then_equal (nat_cmp other.0.0 place.0.0) (id_order place.1 other.1) e)))
    by Greater e rest = (rest.0, Contains-later other rest.0 (insert_key by_place places place) rest.1, rest.2)

kept_one : (places : List Place) (place old : Place) → Contains places old → Contains (insert_key by_place places place) old
kept_one [] place old within = absurd (Contains-nothing old within)
kept_one (other ∷ places) place old within = by (by_place place other) (kept_one places place old)
  where
    by : (o : Ordering) → (Contains places old → Contains (insert_key by_place places place) old)
        → Contains (match_ordering o (place ∷ other ∷ places) (other ∷ places) (other ∷ insert_key by_place places place)) old
    by Less rest = Contains-later place old (other ∷ places) within
    by Equal rest = within
    by Greater rest = elim (first_or_later other old places within) [
      | inl same ↦ subst (Contains (other ∷ insert_key by_place places place)) same (Contains-first other (insert_key by_place places place))
      | inr later ↦ Contains-later other old (insert_key by_place places place) (rest later)
    ]

only_one : (places : List Place) (place new : Place) → Contains (insert_key by_place places place) new → (place ≡ new) ⊎ Contains places new
only_one [] place new within = first_or_later place new [] within
only_one (other ∷ places) place new within = by (by_place place other) within (only_one places place new)
  where
    by : (o : Ordering) → Contains (match_ordering o (place ∷ other ∷ places) (other ∷ places) (other ∷ insert_key by_place places place)) new
        → (Contains (insert_key by_place places place) new → (place ≡ new) ⊎ Contains places new) → (place ≡ new) ⊎ Contains (other ∷ places) new
    by Less w rest = first_or_later place new (other ∷ places) w
    by Equal w rest = inr w
    by Greater w rest = elim (first_or_later other new (insert_key by_place places place) w) [
      | inl same ↦ inr (subst (Contains (other ∷ places)) same (Contains-first other places))
      | inr later ↦ elim (rest later) [ inl is ↦ inl is | inr more ↦ inr (Contains-later other new places more) ]
    ]

-- ---- the places of some commits

pub puts_none : (g : Graph) (ids : List Digest) (old : List Place) → PutsIn g (take 0 ids) old old
puts_none g ids old = record {
  kept = λ place within. within;
  put = λ id within. absurd (Contains-nothing id within);
  only = λ place within. inl within;
}

module _ (g : Graph) (ids : List Digest) (old mid : List Place) (i : ℕ) (so_far : PutsIn g (take i ids) old mid) where
  pub puts_more : (d : Digest) (new : List Place) → i < length ids → new ≡ insert_key by_place mid (place_of g (get_or ids i d))
      → PutsIn g (take (i + 1) ids) old new
  puts_more d new lt put =
      let id : Digest = get_or ids i d in
      let front : take (i + 1) ids ≡ take i ids ++ id ∷ [] = take_more ids i d lt in
      subst (λ l. PutsIn g l old new) (sym front) (subst (PutsIn g (take i ids ++ id ∷ []) old) (sym put) (record {
        kept = λ place within. kept_one mid (place_of g id) place (so_far.kept place within);
        put = λ other within. elim (Contains-append_cases (take i ids) (id ∷ []) other within) [
          | inl before ↦ let at = so_far.put other before in (at.0, kept_one mid (place_of g id) at.0 at.1, at.2)
          | inr last ↦ elim (first_or_later id other [] last) [
            | inl same ↦ let at = put_one mid (place_of g id) in (at.0, at.1, at.2 ∙ same)
            | inr none ↦ absurd (Contains-nothing other none)
          ]
        ];
        only = λ place within. elim (only_one mid (place_of g id) place within) [
          | inl this ↦ inr (id, Contains-append_right (take i ids) (id ∷ []) id (Contains-first id []), sym this)
          | inr before ↦ elim (so_far.only place before) [
            | inl first ↦ inl first
            | inr one ↦ inr (one.0, Contains-append_left (take i ids) (id ∷ []) one.0 one.1, one.2)
          ]
        ];
      }))

-- a front stays one where places of commits that are there are put in
pub front_stays : (g : Graph) (ids : List Digest) (old new : List Place) → All (λ id. IsSome (commit_of g id)) ids → PutsIn g ids old new → IsFront g old
    → IsFront g new
front_stays g ids old new there puts front = record {
  due = front.due;
  places = λ place within. elim (puts.only place within) [
    | inl before ↦ front.places place before
    | inr put ↦ subst (IsPlace g) (sym put.2) (record { there = All-contains (λ id. IsSome (commit_of g id)) ids put.0 there put.1; generation = refl })
  ];
}

-- the front of one commit that is there
pub front_starts : (g : Graph) (id : Digest) (front : List Place) → IsGraph g → IsSome (commit_of g id) → front ≡ place_of g id ∷ [] → IsFront g front
front_starts g id front graph there is = subst (IsFront g) (sym is) (record {
  due = graph;
  places = λ place within. elim (first_or_later (place_of g id) place [] within) [
    | inl same ↦ subst (IsPlace g) same (record { there = there; generation = refl })
    | inr none ↦ absurd (Contains-nothing place none)
  ];
})

-- without its first place
pub front_rest : (g : Graph) (place : Place) (rest : List Place) → IsFront g (place ∷ rest) → IsFront g rest
front_rest g place rest front = record { due = front.due; places = λ other within. front.places other (Contains-later place other rest within) }

-- the parents of its first commit are there
pub parents_there : (g : Graph) (place : Place) (rest : List Place) → IsFront g (place ∷ rest) → All (λ id. IsSome (commit_of g id)) (parents g place.1)
parents_there g place rest front =
    let due = front.due place.1 (front.places place (Contains-first place rest)).there in
    All-from_recursion (λ id. IsSome (commit_of g id)) (parents g place.1)
    (each_of (λ id. IsSome (commit_of g id)) (parents g place.1) (λ parent has. due.whole parent has))
