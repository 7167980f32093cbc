-- Each step of a turn keeps its rule.
use Rattle.std.proofs.Common.{◌≡◌, ◌≢◌, ◌⊎◌, inl, inr, ⊎_elim, ℕ, zero, suc, ◌<◌, ◌≤◌, List, [], ◌∷◌, ◌++◌, length, set, Bool, true, refl, sym, ap, ◌∙◌, subst}
use Rattle.std.proofs.Common.{arith}
use Rattle.std.proofs.lemmas.List.{append-nil}
use mathlib.Core.Option.{some, some-injective, some-ne-none}
use lib.ListN.{get_elem?}
use Rattle.atomic_table.proofs.Lists.{at_set}
use Rattle.turn_lock.specs.declared.rule.View.{View}
use Rattle.turn_lock.specs.declared.rule.Kin.{Kin}
use Rattle.turn_lock.specs.declared.rule.Stage.{Stage}
use Rattle.turn_lock.specs.declared.rule.Stage.TheVariants.{Away, Holds, Out}
use Rattle.turn_lock.specs.Seats.{by_seat}
use mathlib.Core.List.{IsPrefix}
use Rattle.turn_lock.specs.Rule.{HoldsOfStage, IsKin, Reserves, HoldsOfKin, HoldsOfView, Differ}
use Rattle.turn_lock.proofs.SeatsLemmas.{prefix_grows, prefix_trans, by_seat-append}

module _ {A : Type 0} where
  -- the two cases of a new view at the end of the list
  pub at_end : (vs : List A) (w : A) (j : ℕ) (e : A) → get_elem? (vs ++ w ∷ []) j ≡ some e → (get_elem? vs j ≡ some e) ⊎ ((j ≡ length vs) × (w ≡ e))
  at_end [] w zero e at = inr (refl, some-injective w e at)
  at_end [] w (suc j) e at = absurd (some-ne-none e (sym at))
  at_end (x ∷ xs) w zero e at = inl at
  at_end (x ∷ xs) w (suc j) e at = ⊎_elim inl (λ (t : (j ≡ length xs) × (w ≡ e)). inr (ap suc t.0, t.1)) (at_end xs w j e at)

module _ {E : Type 0} where
  -- a view that is away fits any holder
  pub away_stage : (turn holder : ℕ) (lent : Bool) (log : List E) (j : ℕ) (seen : List E) (stage : Stage) → stage ≡ Away
      → HoldsOfStage turn holder lent log j seen stage
  away_stage turn holder lent log j seen stage e = subst (λ (s : Stage). HoldsOfStage turn holder lent log j seen s) (sym e) tt

  -- only the holder is at work
  pub other_away : (turn holder : ℕ) (lent : Bool) (log : List E) (j : ℕ) (seen : List E) (stage : Stage) → HoldsOfStage turn holder lent log j seen stage
      → j ≢ holder → stage ≡ Away
  other_away turn holder lent log j seen Away f apart = refl
  other_away turn holder lent log j seen Holds f apart = absurd (apart f.0)
  other_away turn holder lent log j seen Out f apart = absurd (apart f.0)

  -- while the turn is free nobody is
  pub free_away : (turn holder : ℕ) (lent : Bool) (log : List E) (j : ℕ) (seen : List E) (stage : Stage) → HoldsOfStage turn holder lent log j seen stage
      → turn ≡ 0 → stage ≡ Away
  free_away turn holder lent log j seen Away f free = refl
  free_away turn holder lent log j seen Holds f free = let one : turn ≡ 1 = f.1 in absurd (omega arith)
  free_away turn holder lent log j seen Out f free = let one : turn ≡ 1 = f.1 in absurd (omega arith)

module _ {O E : Type 0} where
  -- what holds of each living view, after one has changed
  pub each_view_set : (P : ℕ → (View O E) → Type 0) (vs : List (View O E)) (me : ℕ) (w : (View O E)) → (w.living ≡ true → P me w)
      → ((j : ℕ) (d : (View O E)) → j ≢ me → get_elem? vs j ≡ some d → d.living ≡ true → P j d)
      → (j : ℕ) (d : (View O E)) → get_elem? (set vs me w) j ≡ some d → d.living ≡ true → P j d
  each_view_set P vs me w mine others j d at live =
      ⊎_elim
      (λ (t : (j ≡ me) × (w ≡ d)). subst (λ (x : ℕ × (View O E)). P x.0 x.1) (λ i. (sym t.0 i, t.1 i)) (mine (ap (λ (v : (View O E)). v.living) t.1 ∙ live)))
      (λ (t : (j ≢ me) × (get_elem? vs j ≡ some d)). others j d t.0 t.1 live)
      (at_set vs me j w d at)

  -- what holds of each two
  pub differ_set : (Q : (View O E) → (View O E) → Type 0) (vs : List (View O E)) (me : ℕ) (w : (View O E))
      → ((j : ℕ) (e : (View O E)) → j ≢ me → get_elem? vs j ≡ some e → e.living ≡ true → w.living ≡ true → Q w e × Q e w)
      → ((i j : ℕ) (d e : (View O E)) → i ≢ j → get_elem? vs i ≡ some d → get_elem? vs j ≡ some e → d.living ≡ true → e.living ≡ true → Q d e)
      → (i j : ℕ) (d e : (View O E)) → i ≢ j → get_elem? (set vs me w) i ≡ some d → get_elem? (set vs me w) j ≡ some e → d.living ≡ true
      → e.living ≡ true → Q d e
  differ_set Q vs me w mine old i j d e apart at_i at_j live_d live_e =
      ⊎_elim
      (λ (t : (i ≡ me) × (w ≡ d)).
      ⊎_elim
      (λ (u : (j ≡ me) × (w ≡ e)). absurd (apart (t.0 ∙ sym u.0)))
      (λ (u : (j ≢ me) × (get_elem? vs j ≡ some e)).
      subst (λ (v : (View O E)). Q v e) t.1 (mine j e u.0 u.1 live_e (ap (λ (v : (View O E)). v.living) t.1 ∙ live_d)).0)
      (at_set vs me j w e at_j))
      (λ (t : (i ≢ me) × (get_elem? vs i ≡ some d)).
      ⊎_elim
      (λ (u : (j ≡ me) × (w ≡ e)). subst (λ (v : (View O E)). Q d v) u.1 (mine i d t.0 t.1 live_d (ap (λ (v : (View O E)). v.living) u.1 ∙ live_e)).1)
      (λ (u : (j ≢ me) × (get_elem? vs j ≡ some e)). old i j d e apart t.1 u.1 live_d live_e)
      (at_set vs me j w e at_j))
      (at_set vs me i w d at_i)

  -- what holds of each two, after one has changed and another was spent
  pub differ_two : (Q : View O E → View O E → Type 0) (vs : List (View O E)) (me other : ℕ) (w spent : View O E) → (spent.living ≡ true → ⊥)
      → ((j : ℕ) (e : View O E) → j ≢ me → j ≢ other → get_elem? vs j ≡ some e → e.living ≡ true → w.living ≡ true → Q w e × Q e w)
      → ((i j : ℕ) (d e : View O E) → i ≢ j → get_elem? vs i ≡ some d → get_elem? vs j ≡ some e → d.living ≡ true → e.living ≡ true → Q d e)
      → (i j : ℕ) (d e : View O E) → i ≢ j → get_elem? (set (set vs me w) other spent) i ≡ some d → get_elem? (set (set vs me w) other spent) j ≡ some e
      → d.living ≡ true → e.living ≡ true → Q d e
  differ_two Q vs me other w spent dead mine old i j d e apart at_i at_j live_d live_e =
      let alive : (k : ℕ) (v : View O E) → get_elem? (set (set vs me w) other spent) k ≡ some v → v.living ≡ true
      → (k ≢ other) × (get_elem? (set vs me w) k ≡ some v) =
      λ k v at live.
      ⊎_elim
      (λ (t : (k ≡ other) × (spent ≡ v)). absurd (dead (ap (λ (x : View O E). x.living) t.1 ∙ live)))
      (λ (t : (k ≢ other) × (get_elem? (set vs me w) k ≡ some v)). t)
      (at_set (set vs me w) other k spent v at) in
      let a = alive i d at_i live_d in
      let b = alive j e at_j live_e in
      ⊎_elim
      (λ (t : (i ≡ me) × (w ≡ d)).
      ⊎_elim
      (λ (u : (j ≡ me) × (w ≡ e)). absurd (apart (t.0 ∙ sym u.0)))
      (λ (u : (j ≢ me) × (get_elem? vs j ≡ some e)).
      subst (λ (v : View O E). Q v e) t.1 (mine j e u.0 b.0 u.1 live_e (ap (λ (v : View O E). v.living) t.1 ∙ live_d)).0)
      (at_set vs me j w e b.1))
      (λ (t : (i ≢ me) × (get_elem? vs i ≡ some d)).
      ⊎_elim
      (λ (u : (j ≡ me) × (w ≡ e)). subst (λ (v : View O E). Q d v) u.1 (mine i d t.0 a.0 t.1 live_d (ap (λ (v : View O E). v.living) u.1 ∙ live_e)).1)
      (λ (u : (j ≢ me) × (get_elem? vs j ≡ some e)). old i j d e apart t.1 u.1 live_d live_e)
      (at_set vs me j w e b.1))
      (at_set vs me i w d a.1)

  pub each_view_end : (P : ℕ → (View O E) → Type 0) (vs : List (View O E)) (w : (View O E)) → P (length vs) w
      → ((j : ℕ) (d : (View O E)) → get_elem? vs j ≡ some d → d.living ≡ true → P j d)
      → (j : ℕ) (d : (View O E)) → get_elem? (vs ++ w ∷ []) j ≡ some d → d.living ≡ true → P j d
  each_view_end P vs w mine others j d at live =
      ⊎_elim
      (λ (t : get_elem? vs j ≡ some d). others j d t live)
      (λ (t : (j ≡ length vs) × (w ≡ d)). subst (λ (x : ℕ × (View O E)). P x.0 x.1) (λ i. (sym t.0 i, t.1 i)) mine)
      (at_end vs w j d at)

  pub differ_end : (Q : (View O E) → (View O E) → Type 0) (vs : List (View O E)) (w : (View O E))
      → ((j : ℕ) (e : (View O E)) → get_elem? vs j ≡ some e → e.living ≡ true → Q w e × Q e w)
      → ((i j : ℕ) (d e : (View O E)) → i ≢ j → get_elem? vs i ≡ some d → get_elem? vs j ≡ some e → d.living ≡ true → e.living ≡ true → Q d e)
      → (i j : ℕ) (d e : (View O E)) → i ≢ j → get_elem? (vs ++ w ∷ []) i ≡ some d → get_elem? (vs ++ w ∷ []) j ≡ some e → d.living ≡ true
      → e.living ≡ true → Q d e
  differ_end Q vs w mine old i j d e apart at_i at_j live_d live_e =
      ⊎_elim
      (λ (t : get_elem? vs i ≡ some d).
      ⊎_elim
      (λ (u : get_elem? vs j ≡ some e). old i j d e apart t u live_d live_e)
      (λ (u : (j ≡ length vs) × (w ≡ e)). subst (λ (v : (View O E)). Q d v) u.1 (mine i d t live_d).1)
      (at_end vs w j e at_j))
      (λ (t : (i ≡ length vs) × (w ≡ d)).
      ⊎_elim
      (λ (u : get_elem? vs j ≡ some e). subst (λ (v : (View O E)). Q v e) t.1 (mine j e u live_e).0)
      (λ (u : (j ≡ length vs) × (w ≡ e)). absurd (apart (t.0 ∙ sym u.0)))
      (at_end vs w j e at_j))
      (at_end vs w i d at_i)

  module _ (seat_of : E → ℕ) where
    -- a view still fits where the list has grown by entries of other seats
    pub view_stays : (o : O) (log log' added : List E) (seats seats' turn turn' holder holder' : ℕ) (lent lent' : Bool) (j : ℕ) (d : (View O E))
        → HoldsOfView seat_of o log seats turn holder lent j d
        → log' ≡ log ++ added → seats ≤ seats' → by_seat seat_of d.number added ≡ [] → ((n : ℕ) → Reserves d n → by_seat seat_of n added ≡ [])
        → ((k : Kin O E) → IsKin d k → by_seat seat_of k.number added ≡ []) → (d.alone ≡ true → log' ≡ log)
        → HoldsOfStage turn' holder' lent' log' j d.seen d.stage → HoldsOfView seat_of o log' seats' turn' holder' lent' j d
    view_stays o log log' added seats seats' turn turn' holder holder' lent lent' j d f grown more none_own none_kept none_kin same stage =
        let number : d.number < seats = f.drawn in
        let numbers : d.numbers ≤ seats = f.counts in
        let of : (n : ℕ) → by_seat seat_of n added ≡ [] → by_seat seat_of n log' ≡ by_seat seat_of n log =
        λ n z. ap (by_seat seat_of n) grown
        ∙ (by_seat-append seat_of n log added ∙ (ap (λ w. by_seat seat_of n log ++ w) z ∙ append-nil (by_seat seat_of n log))) in
        record {
          same_origin = f.same_origin;
          begins = prefix_grows d.seen log added log' f.begins grown;
          own = of d.number none_own ∙ f.own;
          own_seen = f.own_seen;
          drawn = omega arith;
          counts = omega arith;
          stage = stage;
          kept_back = λ n r. (let below : n < seats = (f.kept_back n r).0 in omega arith, (f.kept_back n r).1, of n (none_kept n r) ∙ (f.kept_back n r).2);
          current = λ alone. f.current alone ∙ sym (same alone);
          before = f.before;
          own_before = f.own_before;
          kin = λ k h.
              let b = f.kin k h in
              let below : k.number < seats = b.0 in (
                omega arith,
                b.1,
                b.2,
                record { same_origin = b.3.same_origin; begins = b.3.begins; own = of k.number (none_kin k h) ∙ b.3.own; own_seen = b.3.own_seen },
              );
          no_clash = f.no_clash;
        }

    -- the same where the list is as it was
    pub view_stays_same : (o : O) (log : List E) (seats seats' turn turn' holder holder' : ℕ) (lent lent' : Bool) (j : ℕ) (d : (View O E))
        → HoldsOfView seat_of o log seats turn holder lent j d
        → seats ≤ seats' → HoldsOfStage turn' holder' lent' log j d.seen d.stage → HoldsOfView seat_of o log seats' turn' holder' lent' j d
    view_stays_same o log seats seats' turn turn' holder holder' lent lent' j d f more stage =
        view_stays o log log [] seats seats' turn turn' holder holder' lent lent' j d f (sym (append-nil log)) more refl (λ n r. refl) (λ k h. refl)
        (λ _. refl) stage

  -- a joined seat's list still begins what its seat has seen, where that has grown
  pub kin_grows : (seat_of : E → ℕ) (o : O) (log seen now : List E) (k : Kin O E) → IsPrefix seen now → HoldsOfKin seat_of o log seen k
      → HoldsOfKin seat_of o log now k
  kin_grows seat_of o log seen now k grown h =
      record { same_origin = h.same_origin; begins = prefix_trans k.seen seen now h.begins grown; own = h.own; own_seen = h.own_seen }

  -- a new view that shows no more than the old one differs from the others as that did
  pub left_as : (d d' e : View O E) → d'.number ≡ d.number → ((n : ℕ) → Reserves d' n → Reserves d n) → ((k : Kin O E) → IsKin d' k → IsKin d k)
      → (d'.alone ≡ true → d.alone ≡ true) → Differ d e → Differ d' e
  left_as d d' e same less kinless alone f = record {
    numbers = λ h. f.numbers (sym same ∙ h);
    kept_back = λ n r. f.kept_back n (less n r);
    both = λ n r. f.both n (less n r);
    kin = λ k h. f.kin k (kinless k h);
    not_alone = λ h. f.not_alone (alone h);
  }

  pub right_as : (e d d' : View O E) → d'.number ≡ d.number → ((n : ℕ) → Reserves d' n → Reserves d n) → Differ e d → Differ e d'
  right_as e d d' same less f = record {
    numbers = λ h. f.numbers (h ∙ same);
    kept_back = λ n r h. f.kept_back n r (h ∙ same);
    both = λ n r q. f.both n r (less n q);
    kin = λ k h. ((λ q. (f.kin k h).0 (q ∙ same)), (λ r. (f.kin k h).1 (less k.number r)));
    not_alone = f.not_alone;
  }

  pub differ_as : (vs : List (View O E)) (me : ℕ) (d w : View O E) → get_elem? vs me ≡ some d → d.living ≡ true → w.number ≡ d.number
      → ((n : ℕ) → Reserves w n → Reserves d n) → ((k : Kin O E) → IsKin w k → IsKin d k) → (w.alone ≡ true → d.alone ≡ true)
      → ((i j : ℕ) (x y : View O E) → i ≢ j → get_elem? vs i ≡ some x → get_elem? vs j ≡ some y → x.living ≡ true → y.living ≡ true → Differ x y)
      → (i j : ℕ) (x y : View O E) → i ≢ j → get_elem? (set vs me w) i ≡ some x → get_elem? (set vs me w) j ≡ some y → x.living ≡ true → y.living ≡ true
      → Differ x y
  differ_as vs me d w at live same less kinless alone old =
      differ_set Differ vs me w
      (λ j e apart at_e live_e _. (
        left_as d w e same less kinless alone (old me j d e (λ h. apart (sym h)) at at_e live live_e),
        right_as e d w same less (old j me e d apart at_e at live_e live),
      ))
      old

pub at_less : {A : Type 0} (l : List A) (i : ℕ) (a : A) → get_elem? l i ≡ some a → i < length l
at_less [] i a e = absurd (some-ne-none a (sym e))
at_less (x ∷ xs) zero a e = omega arith
at_less (x ∷ xs) (suc i) a e = let h = at_less xs i a e in omega arith

pub holds_away : Holds ≢ Away
holds_away e = cc

pub out_away : Out ≢ Away
out_away e = cc

-- an element of two lists put together stands in one of them
pub at_append : {A : Type 0} (xs ys : List A) (i : ℕ) (a : A) → get_elem? (xs ++ ys) i ≡ some a
    → ((k : ℕ) × (get_elem? xs k ≡ some a)) ⊎ ((k : ℕ) × (get_elem? ys k ≡ some a))
at_append [] ys i a e = inr (i, e)
at_append (x ∷ xs) ys zero a e = inl (0, e)
at_append (x ∷ xs) ys (suc i) a e = ⊎_elim (λ (t : (k : ℕ) × (get_elem? xs k ≡ some a)). inl (suc t.0, t.1)) inr (at_append xs ys i a e)

-- and an element of either stands in both
pub at_front : {A : Type 0} (xs ys : List A) (i : ℕ) (a : A) → get_elem? xs i ≡ some a → get_elem? (xs ++ ys) i ≡ some a
at_front [] ys i a e = absurd (some-ne-none a (sym e))
at_front (x ∷ xs) ys zero a e = e
at_front (x ∷ xs) ys (suc i) a e = at_front xs ys i a e

pub at_back : {A : Type 0} (xs ys : List A) (i : ℕ) (a : A) → get_elem? ys i ≡ some a → (k : ℕ) × (get_elem? (xs ++ ys) k ≡ some a)
at_back [] ys i a e = (i, e)
at_back (x ∷ xs) ys i a e = let r = at_back xs ys i a e in (suc r.0, r.1)
