-- Connections are dealt to listeners one after the other.
use native.Mathlib.Omega.{arith}
use Rattle.std.proofs.Common.{◌≡◌, ℕ, zero, suc, ◌+◌, List, [], ◌∷◌, ◌++◌, Vec, Global, map, drop, flat_map, length, replicate, refl, sym, ap, ◌∙◌}
use Rattle.std.proofs.lemmas.List.Concat.{flat_map-append}
use Rattle.std.proofs.lemmas.List.{append-nil, drop-map, length-map, map-append}
use Rattle.lake_host.specs.Doors.{DoorView, MemoryListenerValue, Opened, opened_at}
use Rattle.memory_machine.specs.HostsInMemory.{connections_in, dealt, first_or_none, fresh_door, fresh_listener, listener_door, opened_afresh}

drop_none : {X : Type 0} (n : ℕ) → drop {A = X} n [] ≡ []
drop_none zero = refl
drop_none (suc n) = refl

drop_one : {X : Type 0} (n : ℕ) (xs : List X) → drop n (drop 1 xs) ≡ drop (suc n) xs
drop_one n [] = drop_none n
drop_one n (x ∷ xs) = refl

drop_again : {X : Type 0} (n : ℕ) (xs : List X) → drop 1 (drop n xs) ≡ drop (suc n) xs
drop_again zero xs = refl
drop_again (suc n) [] = refl
drop_again (suc n) (x ∷ xs) = drop_again n xs

dealt_next : (n : ℕ) (waiting : List (List (List ℕ))) → dealt (suc n) waiting ≡ dealt n waiting ++ first_or_none (drop n waiting) ∷ []
dealt_next zero waiting = refl
dealt_next (suc n) waiting =
    ap (λ r. first_or_none waiting ∷ r)
    (dealt_next n (drop 1 waiting) ∙ ap (λ r. dealt n (drop 1 waiting) ++ first_or_none r ∷ []) (drop_one n waiting))

-- the bytes of those that are left
pub dropped : (n : ℕ) (waiting : List (Vec (Vec ℕ Global) Global)) → connections_in (drop n waiting) ≡ drop n (connections_in waiting)
dropped n waiting = sym (drop-map (λ connections. map (λ bytes. bytes.items) connections.items) n waiting)

-- one listener more
module _ (n : ℕ) (waiting left : List (Vec (Vec ℕ Global) Global)) (so_far : left ≡ drop n waiting) where
  pub deals_one : (before now : List MemoryListenerValue) (connections : List (List ℕ)) (listener : MemoryListenerValue)
      → before ≡ map fresh_listener (dealt n (connections_in waiting)) → connections ≡ first_or_none (connections_in left)
      → listener ≡ fresh_listener connections → now ≡ before ++ listener ∷ [] → now ≡ map fresh_listener (dealt (n + 1) (connections_in waiting))
  deals_one before now connections listener dealt_before next fresh more =
      let all = connections_in waiting in
      let e : n + 1 ≡ suc n = omega arith in
      let first : first_or_none (connections_in left) ≡ first_or_none (drop n all) =
      ap (λ l. first_or_none (connections_in l)) so_far ∙ ap first_or_none (dropped n waiting) in
      more ∙ ap (λ b. b ++ listener ∷ []) dealt_before ∙ ap (λ l. map fresh_listener (dealt n all) ++ l ∷ []) (fresh ∙ ap fresh_listener (next ∙ first))
      ∙ sym (map-append fresh_listener (dealt n all) (first_or_none (drop n all) ∷ []))
      ∙ ap (map fresh_listener) (sym (ap (λ k. dealt k all) e ∙ dealt_next n all))

  pub leaves_others : (now : List (Vec (Vec ℕ Global) Global)) → now ≡ drop 1 left → now ≡ drop (n + 1) waiting
  leaves_others now one =
      let e : suc n ≡ n + 1 = omega arith in
      one ∙ ap (drop 1) so_far ∙ drop_again n waiting ∙ ap (λ k. drop k waiting) e

-- as many listeners are dealt to as there are
pub length-dealt : (n : ℕ) (waiting : List (List (List ℕ))) → length (dealt n waiting) ≡ n
length-dealt zero waiting = refl
length-dealt (suc n) waiting = ap suc (length-dealt n (drop 1 waiting))

fresh_doors : (n : ℕ) (waiting : List (List (List ℕ))) → map listener_door (map fresh_listener (dealt n waiting)) ≡ replicate n fresh_door
fresh_doors zero waiting = refl
fresh_doors (suc n) waiting = ap (λ r. fresh_door ∷ r) (fresh_doors n (drop 1 waiting))

-- listeners that are given afresh at one address, behind those that were
module _ {X : Type 0} (opened : X → List Opened) (before now : List X) (one : X) (more : now ≡ before ++ one ∷ []) (at : List ℕ) (doors : ℕ)
    (afresh : opened one ≡ opened_afresh at doors) where
  flat_more : flat_map opened now ≡ flat_map opened before ++ opened_afresh at doors
  flat_more =
      ap (flat_map opened) more ∙ flat_map-append opened before (one ∷ [])
      ∙ ap (λ (l : List Opened). flat_map opened before ++ l) (append-nil (opened one) ∙ afresh)

  pub opens_fresh : (waiting : List (List (List ℕ))) (listeners : List MemoryListenerValue) → listeners ≡ map fresh_listener (dealt doors waiting)
      → flat_map opened now ≡ flat_map opened before ++ opened_at at (map listener_door listeners)
  opens_fresh waiting listeners fresh =
      flat_more ∙ ap (λ (l : List DoorView). flat_map opened before ++ opened_at at l) (sym (fresh_doors doors waiting) ∙ ap (map listener_door) (sym fresh))

-- as many as were asked for
pub opens_all : (n : ℕ) (waiting : List (List (List ℕ))) (listeners : List MemoryListenerValue) → listeners ≡ map fresh_listener (dealt n waiting)
    → length listeners ≡ n
opens_all n waiting listeners fresh = ap length fresh ∙ length-map (dealt n waiting) fresh_listener ∙ length-dealt n waiting
