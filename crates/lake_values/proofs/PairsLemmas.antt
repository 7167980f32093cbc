-- Metadata after a pair is set.
use Rattle.std.proofs.Common.{◌≡◌, ℕ, ◌+◌, ◌<◌, ◌≤◌, ◌&&◌, ◌⊎◌, inl, inr, Bool, true, false, cond, List, [], ◌∷◌, length, Some, None, Option, is_some, is_none}
use Rattle.std.proofs.Common.{leb, sym, ap, subst, ◌∙◌, arith}
use Rattle.std.specs.List.{AllByRecursion}
use Rattle.std.specs.declared.cmp.Ordering.TheVariants.{Less, Equal, Greater}
use Rattle.std.proofs.lemmas.Bool.{le-leb, lt-leb}
use Rattle.std.proofs.lemmas.Cmp.{nat_list_cmp_total}
use Rattle.std.proofs.lemmas.List.Elements.{recursion_from_All, All-from_recursion}
use Rattle.std.specs.FinMap.{find, put}
use Rattle.std.specs.FinMap.Entries.{by_order, is_sorted-put, length-put}
use Rattle.lake_base.specs.Maps.{byte_order, HasAscendingKeys, IsAt, IsGap}
use Rattle.lake_values.specs.Pairs.{IsPair, ArePairs, room_fault}
use Rattle.lake_values.specs.declared.pairs.PairsFault.{PairsFault}
use Rattle.lake_values.specs.declared.pairs.PairsFault.TheVariants.{Full}
use Rattle.lake_base.proofs.MapsLemmas.{find_at, find_gap}
pub use Rattle.lake_base.proofs.MapsLemmas.{ascend_from, ascend_to}

each_put : (k v : List ℕ) (es : List (List ℕ × List ℕ)) → AllByRecursion IsPair es → IsPair (k, v) → AllByRecursion IsPair (put byte_order k v es)
each_put k v [] all one = (one, tt)
each_put k v (e ∷ es) all one =
    elim (byte_order k e.0) as (λ r. AllByRecursion IsPair (by_order r ((k, v) ∷ e ∷ es) ((e.0, v) ∷ es) (e ∷ put byte_order k v es))) [
      | Less ↦ (one, all)
      | Equal ↦ (record { key = all.0.key; short_key = all.0.short_key; short_value = one.short_value }, all.1)
      | Greater ↦ (all.0, each_put k v es all.1 one)
    ]

few_put : (b : Bool) (n : ℕ) → n ≤ 64 → (b ≡ true) ⊎ (n < 64) → cond b n (n + 1) ≤ 64
few_put true n h room = h
few_put false n h (inl e) = cc
few_put false n h (inr lt) = omega (arith, lt)

-- a pair is put where its key stands, or there is room
pub put_pairs : (k v : List ℕ) (es : List (List ℕ × List ℕ)) → ArePairs es → IsPair (k, v) → (is_some (find byte_order k es) ≡ true) ⊎ (length es < 64)
    → ArePairs (put byte_order k v es)
put_pairs k v es pairs one room =
    let sorted = ascend_from es pairs.ascending in
    record {
      few = subst (λ n. n ≤ 64) (sym (length-put byte_order nat_list_cmp_total k v es sorted)) (few_put _ (length es) pairs.few room);
      each = All-from_recursion IsPair _ (each_put k v es (recursion_from_All IsPair es pairs.each) one);
      ascending = ascend_to _ (is_sorted-put byte_order nat_list_cmp_total k v es sorted);
    }

fault_of : Bool → Bool → Option PairsFault
fault_of a b = cond (a && b) (Some Full) None

-- where the key stands there is room, and else where fewer than 64 pairs do
pub room_at : (k : List ℕ) (es : List (List ℕ × List ℕ)) (at : ℕ) (d : List ℕ × List ℕ) → HasAscendingKeys es → IsAt es k at → room_fault k es ≡ None
room_at k es at d sorted is = ap (λ f. cond (is_none f && leb 64 (length es)) (Some Full) None) (find_at es k at d sorted is)

pub found_at : (k : List ℕ) (es : List (List ℕ × List ℕ)) (at : ℕ) (d : List ℕ × List ℕ) → HasAscendingKeys es → IsAt es k at
    → is_some (find byte_order k es) ≡ true
found_at k es at d sorted is = ap is_some (find_at es k at d sorted is)

pub no_room : (k : List ℕ) (es : List (List ℕ × List ℕ)) (at : ℕ) → IsGap es k at → 64 ≤ length es → room_fault k es ≡ Some Full
no_room k es at gap le =
    ap (λ f. cond (is_none f && leb 64 (length es)) (Some Full) None) (find_gap es k at gap) ∙ ap (λ b. cond b (Some Full) None) (le-leb 64 (length es) le)

pub room_left : (k : List ℕ) (es : List (List ℕ × List ℕ)) (at : ℕ) → IsGap es k at → length es < 64 → room_fault k es ≡ None
room_left k es at gap lt =
    ap (λ f. cond (is_none f && leb 64 (length es)) (Some Full) None) (find_gap es k at gap) ∙ ap (λ b. cond b (Some Full) None) (lt-leb 64 (length es) lt)
