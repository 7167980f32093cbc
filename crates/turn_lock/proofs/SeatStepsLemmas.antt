-- Each step by which seats come and go keeps the rule of a turn.
use Rattle.std.proofs.Common.{inr, inl, ◌⊎◌, ◌≡◌, ◌≢◌, ⊎_elim, ℕ, zero, suc, ◌+◌, ◌<◌, ◌≤◌, eqb, eq-eqb, ne_eqb, List, [], ◌∷◌, ◌++◌, length, get_or, set, Bool}
use Rattle.std.proofs.Common.{true, false, ◌||◌, true≢false, Option, Some, refl, sym, ap, ◌∙◌, subst, arith}
use Rattle.std.specs.List.{All}
use mathlib.Core.Logic.{dite}
use mathlib.Core.Option.{some, none, some-injective, some-ne-none}
use mathlib.Core.Option as maybe
use mathlib.Core.List.{IsPrefix}
use native.Mathlib.Decide.{ℕ_discrete}
use lib.ListN.{get_elem?}
use prog.Atomic.{either}
use Rattle.atomic_table.specs.Table.{Me, step, keeps, stepped, Allows, Splits, Joins, opening, Final, Seen}
use Rattle.atomic_table.proofs.Lists.{at_set, at_longer, set_here, set_else}
use Rattle.turn_lock.specs.declared.rule.View.{View}
use Rattle.turn_lock.specs.declared.rule.Kin.{Kin}
use Rattle.turn_lock.specs.declared.rule.Stage.{Stage}
use Rattle.turn_lock.specs.declared.rule.Stage.TheVariants.{Away, Holds, Out}
use Rattle.turn_lock.specs.Seats.{by_seat, KnowsOwn, Meets}
use Rattle.turn_lock.specs.Rule.{Reserves, IsKin, HoldsOfKin, kin_of, HoldsOfPlace, HoldsOfStage, HoldsOfView, Differ, HoldsOfTurn, first_view, dealer_view}
use Rattle.turn_lock.specs.Rule.{spent_view, left_view, right_view, joined_view, no_turn, seat_value, DrawsNumber, ComparesSeats, IsAfterTry}
use Rattle.turn_lock.proofs.SeatsLemmas.{prefix_self, prefix_trans, longer_either, prefix_longer, by_seat-prefix, by_seat-between, by_seat-below}
use Rattle.turn_lock.proofs.RuleLemmas.{kin_grows, each_view_set, differ_set, each_view_end, differ_end, view_stays_same, away_stage, differ_as, at_less}
use Rattle.turn_lock.proofs.RuleLemmas.{at_append, differ_two}

module _ {S O E : Type 0} where
  kept_views : (m me : Me (Option S) (View O E)) → IsAfterTry m me → (me.0.living ≡ m.0.living) × (me.0.stage ≡ m.0.stage)
  kept_views m me tried =
      ⊎_elim
      (λ (same : me ≡ m). (ap (λ (x : Me (Option S) (View O E)). x.0.living) same, ap (λ (x : Me (Option S) (View O E)). x.0.stage) same))
      (λ (t : (k : ℕ) × (me ≡ (record m.0 { alone = false; numbers = k }, m.1)) × (m.0.numbers ≤ k)).
      (ap (λ (x : Me (Option S) (View O E)). x.0.living) t.1, ap (λ (x : Me (Option S) (View O E)). x.0.stage) t.1))
      tried

module _ {S O E : Type 0} (origin : S → O) (list : S → List E) (seat_of : E → ℕ) where
  -- a stage other than `Out` does not read what the seat has seen
  reads_nothing : (turn holder : ℕ) (lent : Bool) (log : List E) (j : ℕ) (seen now : List E) (stage : Stage) → stage ≢ Out
      → HoldsOfStage turn holder lent log j seen stage → HoldsOfStage turn holder lent log j now stage
  reads_nothing turn holder lent log j seen now Away apart f = tt
  reads_nothing turn holder lent log j seen now Holds apart f = f
  reads_nothing turn holder lent log j seen now Out apart f = absurd (apart refl)

  -- a seat draws the next number, or sees how many are drawn
  pub draws : (slots id old : ℕ) (me : Me (Option S) (View O E)) → me.0.living ≡ true → me.0.stage ≡ Away → old < 4294967295
      → Allows (HoldsOfTurn origin list seat_of) slots id me 2 (λ n. either (eqb n old) (old + 1) n) (DrawsNumber seat_of (step slots 2 old (old + 1) none) me)
  draws slots id old me live away room s r _ at _ =
      let x : ℕ = get_or s.words 2 0 in
      let is : x ≡ r.seats = ap (λ ws. get_or ws 2 0) r.words in
      let f = r.each_view id me.0 at live in
      let counts : me.0.numbers ≤ r.seats = f.counts in
      let number : me.0.number < r.seats = f.drawn in
      let few : r.seats ≤ 4294967295 = r.few in
      dite (ℕ_discrete x old)
      (λ (hit : x ≡ old).
      let w : View O E = record me.0 { alone = false; numbers = x + 1; draws = me.0.draws + 1; from = x; to = x + 1 } in
      let now : r.seats ≡ old = sym is ∙ hit in
      let none_yet : by_seat seat_of x r.log ≡ [] = r.undrawn x (omega arith) in
      let none_seen : by_seat seat_of x me.0.seen ≡ [] = by_seat-prefix seat_of x me.0.seen r.log f.begins none_yet in
      let kept : HoldsOfTurn origin list seat_of (stepped s 2 (old + 1) id me.1 w keeps) = record {
        o = r.o;
        log = r.log;
        turn = r.turn;
        seats = old + 1;
        holder = r.holder;
        lent = r.lent;
        words = ap (λ (ws : List ℕ). set ws 2 (old + 1)) r.words;
        one = r.one;
        few = omega arith;
        home = r.home;
        free = r.free;
        held = λ one. let h = r.held one in (
          h.0,
          set_else s.views id r.holder w (λ (same : r.holder ≡ id). h.3 (let e : h.0
              ≡ me.0 = some-injective h.0 me.0 (sym h.1 ∙ (ap (get_elem? s.views) same ∙ at)) in ap (λ (v : View O E). v.stage) e ∙ away)) ∙ h.1,
          h.2,
          h.3,
        );
        undrawn = λ n above. r.undrawn n (omega arith);
        each_view = each_view_set (HoldsOfView seat_of r.o r.log (old + 1) r.turn r.holder r.lent) s.views id w
            (λ _. record {
              same_origin = f.same_origin;
              begins = f.begins;
              own = f.own;
              own_seen = f.own_seen;
              drawn = omega arith;
              counts = omega arith;
              stage = f.stage;
              kept_back = λ n k. let e : n ≡ x = (let a : x ≤ n = k.0 in let b : n < x + 1 = k.1 in omega arith) in (
                omega arith,
                (λ h. omega arith),
                subst (λ (m : ℕ). by_seat seat_of m r.log ≡ by_seat seat_of m me.0.seen) (sym e) (none_yet ∙ sym none_seen),
              );
              current = λ h. absurd (true≢false (sym h));
              before = f.before;
              own_before = f.own_before;
              kin = λ k h. let b = f.kin k h in let below : k.number < r.seats = b.0 in
                  (omega arith, b.1, (λ v. (let a : x ≤ k.number = v.0 in absurd (omega arith))), b.3);
              no_clash = f.no_clash;
            })
            (λ j d apart there lives. let g = r.each_view j d there lives in
            view_stays_same seat_of r.o r.log r.seats (old + 1) r.turn r.turn r.holder r.holder r.lent r.lent j d g (omega arith) g.stage);
        differ = differ_set Differ s.views id w
            (λ j e apart there lives _.
            let g = r.each_view j e there lives in
            let below : e.number < r.seats = g.drawn in
            let one = r.differ id j me.0 e (λ h. apart (sym h)) at there live lives in
            let two = r.differ j id e me.0 apart there at lives live in (
              record {
                numbers = one.numbers;
                kept_back = λ n k h. (let a : x ≤ n = k.0 in let b : n ≡ e.number = h in omega arith);
                both = λ n k q. (let a : x ≤ n = k.0 in let b : n < r.seats = (g.kept_back n q).0 in absurd (omega arith));
                kin = one.kin;
                not_alone = λ h. absurd (true≢false (sym h));
              },
              record {
                numbers = two.numbers;
                kept_back = two.kept_back;
                both = λ n q k. (let a : x ≤ n = k.0 in let b : n < r.seats = (g.kept_back n q).0 in absurd (omega arith));
                kin = λ k h. ((two.kin k h).0, (λ v. (let a : x ≤ k.number = v.0 in let b : k.number < r.seats = (g.kin k h).0 in omega arith)));
                not_alone = two.not_alone;
              },
            ))
            r.differ;
      } in (
        w,
        keeps,
        tt,
        subst (λ (b : Bool). HoldsOfTurn origin list seat_of (stepped s 2 (either b (old + 1) x) id me.1 w keeps)) (sym (eq-eqb x old hit)) kept,
        (rw (eq-eqb x old hit) (refl, none_seen, omega arith), f.own_seen),
      ))
      (λ (miss : x ≢ old).
      let w : View O E = record me.0 { alone = false; numbers = x } in
      let kept : HoldsOfTurn origin list seat_of (stepped s 2 x id me.1 w keeps) = record {
        o = r.o;
        log = r.log;
        turn = r.turn;
        seats = r.seats;
        holder = r.holder;
        lent = r.lent;
        words = ap (λ (ws : List ℕ). set ws 2 (get_or ws 2 0)) r.words;
        one = r.one;
        few = r.few;
        home = r.home;
        free = r.free;
        held = λ one. let h = r.held one in (
          h.0,
          set_else s.views id r.holder w (λ (same : r.holder ≡ id). h.3 (let e : h.0
              ≡ me.0 = some-injective h.0 me.0 (sym h.1 ∙ (ap (get_elem? s.views) same ∙ at)) in ap (λ (v : View O E). v.stage) e ∙ away)) ∙ h.1,
          h.2,
          h.3,
        );
        undrawn = r.undrawn;
        each_view = each_view_set (HoldsOfView seat_of r.o r.log r.seats r.turn r.holder r.lent) s.views id w
            (λ _. record {
              same_origin = f.same_origin;
              begins = f.begins;
              own = f.own;
              own_seen = f.own_seen;
              drawn = f.drawn;
              counts = omega arith;
              stage = f.stage;
              kept_back = f.kept_back;
              current = λ h. absurd (true≢false (sym h));
              before = f.before;
              own_before = f.own_before;
              kin = f.kin;
              no_clash = f.no_clash;
            })
            (λ j d apart there lives. r.each_view j d there lives);
        differ = differ_as s.views id me.0 w at live refl (λ _ h. h) (λ _ h. h) (λ h. absurd (true≢false (sym h))) r.differ;
      } in (
        w,
        keeps,
        tt,
        subst (λ (b : Bool). HoldsOfTurn origin list seat_of (stepped s 2 (either b (old + 1) x) id me.1 w keeps)) (sym (ne_eqb x old miss)) kept,
        (rw (ne_eqb x old miss) (refl, omega arith, omega arith), f.own_seen),
      ))

  -- the list of views while a seat is split off
  pub splits : (id : ℕ) (d : View O E) → d.living ≡ true → d.stage ≡ Away → d.from < d.to
      → Splits (HoldsOfTurn origin list seat_of) id d (left_view d) (right_view seat_of d)
  splits id d live away some_kept s r at =
      let f = r.each_view id d at live in
      let l : View O E = left_view d in
      let n : View O E = right_view seat_of d in
      let vs : List (View O E) = set s.views id l in
      let first = f.kept_back d.from (omega arith, some_kept) in
      let old_fits : (j : ℕ) (e : View O E) → get_elem? vs j ≡ some e → e.living ≡ true → HoldsOfView seat_of r.o r.log r.seats r.turn r.holder r.lent j e =
      each_view_set (HoldsOfView seat_of r.o r.log r.seats r.turn r.holder r.lent) s.views id l
      (λ _. record {
        same_origin = f.same_origin;
        begins = f.begins;
        own = f.own;
        own_seen = f.own_seen;
        drawn = f.drawn;
        counts = f.counts;
        stage = f.stage;
        kept_back = λ n k. (let a : d.to ≤ n = k.0 in let b : n < d.to = k.1 in absurd (omega arith));
        current = λ h. absurd (true≢false (sym h));
        before = f.before;
        own_before = f.own_before;
        kin = λ k h. (let b = f.kin k h in
            (b.0, b.1, (λ v. (let x : d.to ≤ k.number = v.0 in let y : k.number < d.to = v.1 in omega arith)), b.3));
        no_clash = f.no_clash;
      })
      (λ j e _ there lives. r.each_view j e there lives) in
      let old_differ : (i j : ℕ) (x y : View O E) → i ≢ j → get_elem? vs i ≡ some x → get_elem? vs j ≡ some y → x.living ≡ true → y.living ≡ true → Differ x y =
      differ_as s.views id d l at live refl (λ n k. (let a : d.to ≤ n = k.0 in let b : n < d.to = k.1 in absurd (omega arith))) (λ _ h. h)
      (λ h. absurd (true≢false (sym h))) r.differ in
      record {
        o = r.o;
        log = r.log;
        turn = r.turn;
        seats = r.seats;
        holder = r.holder;
        lent = r.lent;
        words = r.words;
        one = r.one;
        few = r.few;
        home = r.home;
        free = r.free;
        held = λ one. let h = r.held one in
            let apart : r.holder ≢ id =
            λ same. h.3 (let e : h.0 ≡ d = some-injective h.0 d (sym h.1 ∙ (ap (get_elem? s.views) same ∙ at)) in ap (λ (v : View O E). v.stage) e ∙ away) in
            (h.0, at_longer vs (n ∷ []) r.holder h.0 (set_else s.views id r.holder l apart ∙ h.1), h.2, h.3);
        undrawn = r.undrawn;
        each_view = each_view_end (HoldsOfView seat_of r.o r.log r.seats r.turn r.holder r.lent) vs n
            record {
              same_origin = f.same_origin;
              begins = f.begins;
              own = first.2;
              own_seen = refl;
              drawn = first.0;
              counts = f.counts;
              stage = away_stage r.turn r.holder r.lent r.log (length vs) d.seen d.stage away;
              kept_back = λ m k. let a : d.from + 1 ≤ m = k.0 in let b = f.kept_back m (omega arith, k.1) in (b.0, (λ h. omega arith), b.2);
              current = λ h. absurd (true≢false (sym h));
              before = prefix_self d.seen;
              own_before = refl;
              kin = λ k h. absurd (some-ne-none k (sym h.1));
              no_clash = f.no_clash;
            }
            old_fits;
        differ = differ_end Differ vs n
            (λ j e there lives.
            ⊎_elim
            (λ (t : (j ≡ id) × (l ≡ e)). subst (λ (v : View O E). Differ n v × Differ v n) t.1 (
              record {
                numbers = λ h. first.1 h;
                kept_back = λ m k h. (let a : d.from + 1 ≤ m = k.0 in (f.kept_back m (omega arith, k.1)).1 h);
                both = λ m k q. (let a : d.to ≤ m = q.0 in let b : m < d.to = q.1 in omega arith);
                kin = λ k h. absurd (some-ne-none k (sym h.1));
                not_alone = λ h. absurd (true≢false (sym h));
              },
              record {
                numbers = λ h. first.1 (sym h);
                kept_back = λ m k h. (let a : d.to ≤ m = k.0 in let b : m < d.to = k.1 in omega arith);
                both = λ m k q. (let a : d.to ≤ m = k.0 in let b : m < d.to = k.1 in omega arith);
                kin = λ k h. (
                  (λ q. (f.kin k h).2 (let e' : k.number ≡ d.from = q in (omega arith, omega arith))),
                  (λ v. (f.kin k h).2 (let a : d.from + 1 ≤ k.number = v.0 in (omega arith, v.1))),
                );
                not_alone = λ h. absurd (true≢false (sym h));
              },
            ))
            (λ (t : (j ≢ id) × (get_elem? s.views j ≡ some e)).
            let one = r.differ id j d e (λ h. t.0 (sym h)) at t.1 live lives in
            let two = r.differ j id e d t.0 t.1 at lives live in (
              record {
                numbers = one.kept_back d.from (omega arith, some_kept);
                kept_back = λ m k. (let a : d.from + 1 ≤ m = k.0 in one.kept_back m (omega arith, k.1));
                both = λ m k. (let a : d.from + 1 ≤ m = k.0 in one.both m (omega arith, k.1));
                kin = λ k h. absurd (some-ne-none k (sym h.1));
                not_alone = λ h. absurd (true≢false (sym h));
              },
              record {
                numbers = λ h. one.kept_back d.from (omega arith, some_kept) (sym h);
                kept_back = λ m k h. two.both m k (let e' : m ≡ d.from = h in (omega arith, omega arith));
                both = λ m k q. two.both m k (let a : d.from + 1 ≤ m = q.0 in (omega arith, q.1));
                kin = λ k h. (
                  (λ q. (two.kin k h).1 (let e' : k.number ≡ d.from = q in (omega arith, omega arith))),
                  (λ v. (two.kin k h).1 (let a : d.from + 1 ≤ k.number = v.0 in (omega arith, v.1))),
                );
                not_alone = two.not_alone;
              },
            ))
            (at_set s.views id j l e there))
            old_differ;
      }

  -- either of two is true where both are not
  neither : (a b : Bool) → (a ≡ true → ⊥) → (b ≡ true → ⊥) → (a || b) ≡ false
  neither true b p q = absurd (p refl)
  neither false true p q = absurd (q refl)
  neither false false p q = refl

  -- who was joined to two seats that are now one
  kin_joined : (d e : View O E) (k : Kin O E) → IsKin (joined_view d e) k → (k ≡ kin_of e) ⊎ (IsKin e k ⊎ IsKin d k)
  kin_joined d e k h = at_first h.0 h.1
    where
      at_first : (i : ℕ) → get_elem? (kin_of e ∷ (e.kin ++ d.kin)) i ≡ some k → (k ≡ kin_of e) ⊎ (IsKin e k ⊎ IsKin d k)
      at_first zero at = inl (sym (some-injective (kin_of e) k at))
      at_first (suc i) at = inr (at_append e.kin d.kin i k at)

  -- a seat takes in another, which is spent
  pub joins : (id : ℕ) (d : View O E) (other : ℕ) (e : View O E) → d.living ≡ true → d.stage ≢ Out → e.living ≡ true → e.stage ≡ Away
      → Joins (HoldsOfTurn origin list seat_of) id d other e (joined_view d e) spent_view
  joins id d other e live not_out live_e away s r at apart there =
      let f = r.each_view id d at live in
      let both : View O E = joined_view d e in
      let vs : List (View O E) = set s.views id both in
      let at_e : get_elem? s.views other ≡ some e = sym (set_else s.views id other both apart) ∙ there in
      let g = r.each_view other e at_e live_e in
      let one = r.differ id other d e (λ h. apart (sym h)) at at_e live live_e in
      let two = r.differ other id e d apart at_e at live_e live in
      let unreserved : (n : ℕ) → Reserves both n → ⊥ = λ n k. (let a : d.to ≤ n = k.0 in let b : n < d.to = k.1 in omega arith) in
      let grows = prefix_longer d.seen e.seen r.log f.begins g.begins in
      let seen_begins : IsPrefix both.seen r.log = longer_either (λ l. IsPrefix l r.log) d.seen e.seen f.begins g.begins in
      let vs_views : (j : ℕ) (v : View O E) → get_elem? vs j ≡ some v → v.living ≡ true → HoldsOfView seat_of r.o r.log r.seats r.turn r.holder r.lent j v =
      each_view_set (HoldsOfView seat_of r.o r.log r.seats r.turn r.holder r.lent) s.views id both
      (λ _. record {
        same_origin = f.same_origin;
        begins = seen_begins;
        own = f.own;
        own_seen = by_seat-between seat_of d.number d.seen both.seen r.log d.mine grows.0 seen_begins f.own_seen f.own;
        drawn = f.drawn;
        counts = f.counts;
        stage = reads_nothing r.turn r.holder r.lent r.log id d.seen both.seen d.stage not_out f.stage;
        kept_back = λ n k. (let a : d.to ≤ n = k.0 in let b : n < d.to = k.1 in absurd (omega arith));
        current = λ h. absurd (true≢false (sym h));
        before = grows.0;
        own_before = f.own_seen;
        kin = λ k h.
            ⊎_elim
            (λ (t : k ≡ kin_of e). subst (λ (c : Kin O E). (c.number < r.seats) × (c.number ≢ d.number) × (Reserves both c.number → ⊥)
            × HoldsOfKin seat_of r.o r.log both.seen c) (sym t)
            (g.drawn, two.numbers, unreserved e.number, record { same_origin = g.same_origin; begins = grows.1; own = g.own; own_seen = g.own_seen }))
            (λ (t : IsKin e k ⊎ IsKin d k).
            ⊎_elim
            (λ (u : IsKin e k). let b = g.kin k u in (b.0, (two.kin k u).0, unreserved k.number, kin_grows seat_of r.o r.log e.seen both.seen k grows.1 b.3))
            (λ (u : IsKin d k). let b = f.kin k u in (b.0, b.1, unreserved k.number, kin_grows seat_of r.o r.log d.seen both.seen k grows.0 b.3))
            t)
            (kin_joined d e k h);
        no_clash = neither d.alone e.alone one.not_alone two.not_alone;
      })
      (λ j v _ in_it lives. r.each_view j v in_it lives) in
      record {
        o = r.o;
        log = r.log;
        turn = r.turn;
        seats = r.seats;
        holder = r.holder;
        lent = r.lent;
        words = r.words;
        one = r.one;
        few = r.few;
        home = r.home;
        free = r.free;
        held = λ taken.
            let h = r.held taken in
            let not_other : r.holder ≢ other = λ same.
            h.3 (let e' : h.0 ≡ e = some-injective h.0 e (sym h.1 ∙ (ap (get_elem? s.views) same ∙ at_e)) in ap (λ (v : View O E). v.stage) e' ∙ away) in
            dite (ℕ_discrete r.holder id)
            (λ (same : r.holder ≡ id).
            let e' : h.0 ≡ d = some-injective h.0 d (sym h.1 ∙ (ap (get_elem? s.views) same ∙ at)) in (
              both,
              set_else vs other r.holder spent_view not_other ∙ (ap (get_elem? vs) same ∙ set_here s.views id both (at_less s.views id d at)),
              live,
              λ k. h.3 (ap (λ (v : View O E). v.stage) e' ∙ k),
            ))
            (λ (else : r.holder ≢ id). (h.0, set_else vs other r.holder spent_view not_other ∙ (set_else s.views id r.holder both else ∙ h.1), h.2, h.3));
        undrawn = r.undrawn;
        each_view = each_view_set (HoldsOfView seat_of r.o r.log r.seats r.turn r.holder r.lent) vs other spent_view (λ lives. absurd (true≢false (sym lives)))
            (λ j v _ in_it lives. vs_views j v in_it lives);
        differ = differ_two Differ s.views id other both spent_view (λ lives. true≢false (sym lives))
            (λ j v not_me not_other in_it lives _.
            let mine = r.differ id j d v (λ h. not_me (sym h)) at in_it live lives in
            let theirs = r.differ j id v d not_me in_it at lives live in
            let its = r.differ other j e v (λ h. not_other (sym h)) at_e in_it live_e lives in
            let to_it = r.differ j other v e not_other in_it at_e lives live_e in (
              record {
                numbers = mine.numbers;
                kept_back = λ n k. absurd (unreserved n k);
                both = λ n k. absurd (unreserved n k);
                kin = λ k h.
                    ⊎_elim
                    (λ (t : k ≡ kin_of e).
                    subst (λ (c : Kin O E). (c.number ≢ v.number) × (Reserves v c.number → ⊥)) (sym t) (its.numbers, λ q. to_it.kept_back e.number q refl))
                    (λ (t : IsKin e k ⊎ IsKin d k). ⊎_elim (λ (u : IsKin e k). its.kin k u) (λ (u : IsKin d k). mine.kin k u) t)
                    (kin_joined d e k h);
                not_alone = λ h. absurd (true≢false (sym h));
              },
              record {
                numbers = theirs.numbers;
                kept_back = theirs.kept_back;
                both = λ n q k. absurd (unreserved n k);
                kin = λ k h. ((theirs.kin k h).0, unreserved k.number);
                not_alone = theirs.not_alone;
              },
            ))
            r.differ;
      }

  none_either : (a b : Bool) → (a || b) ≡ false → (a ≡ false) × (b ≡ false)
  none_either true b e = absurd (true≢false e)
  none_either false b e = (refl, e)

  -- what a seat tells of the two views that it has of
  TellsJoined : View O E → View O E → View O E → Type 0
  TellsJoined d e v =
      (IsPrefix d.seen v.seen × IsPrefix e.seen v.seen)
      × (KnowsOwn seat_of (seat_value no_turn d) × KnowsOwn seat_of (seat_value no_turn e) × KnowsOwn seat_of (seat_value no_turn v))
      × ((e.origin ≡ d.origin) × (d.alone ≡ false) × (e.alone ≡ false))

  -- what a seat learns that was just joined to another
  pub joined_tells : (d e : View O E) (c : List (ℕ × Option S)) (m m' : Me (Option S) (View O E)) → m ≡ (joined_view d e, c)
      → ComparesSeats seat_of (step 0 1 0 0 none) m 0 m'
      → (IsPrefix d.seen m'.0.seen × IsPrefix e.seen m'.0.seen)
      × (KnowsOwn seat_of (seat_value no_turn d) × KnowsOwn seat_of (seat_value no_turn e) × KnowsOwn seat_of (seat_value no_turn m'.0))
      × ((e.origin ≡ d.origin) × (d.alone ≡ false) × (e.alone ≡ false))
  unfolding TellsJoined
  joined_tells d e c m m' is told =
      let here : ComparesSeats seat_of (step 0 1 0 0 none) (joined_view d e, c) 0 m' =
      subst (λ (x : Me (Option S) (View O E)). ComparesSeats seat_of (step 0 1 0 0 none) x 0 m') is told in
      let other = here.5 (kin_of e) (0, refl) in
      let same : m'.0 ≡ joined_view d e = ap (λ (x : Me (Option S) (View O E)). x.0) here.0 in
      subst (TellsJoined d e) (sym same)
      ((here.2, other.1), (here.3, other.2, here.4), (let apart = none_either d.alone e.alone here.1 in (other.0, apart.0, apart.1)))

  -- a new turn over x, of some seats
  pub opens : (x : S) (seats : ℕ) → 0 < seats → seats ≤ 4294967295 → All (λ e. seat_of e < seats) (list x)
      → HoldsOfTurn origin list seat_of (opening (0 ∷ length (list x) ∷ seats ∷ []) (Some x ∷ []) (first_view origin list seat_of x seats))
  opens x seats some_seat few below = record {
    o = origin x;
    log = list x;
    turn = 0;
    seats = seats;
    holder = 0;
    lent = false;
    words = refl;
    one = omega arith;
    few = few;
    home = (x, refl, refl, refl);
    free = λ _. refl;
    held = λ h. absurd (omega arith);
    undrawn = λ n above. by_seat-below seat_of seats n (list x) below above;
    each_view = only;
    differ = λ i j d e apart at_i at_j _ _. absurd (apart (first i d at_i ∙ sym (first j e at_j)));
  }
    where
      v : View O E
      v = first_view origin list seat_of x seats

      first : (i : ℕ) (d : View O E) → get_elem? (first_view origin list seat_of x seats ∷ []) i ≡ some d → i ≡ 0
      first zero d at = refl
      first (suc i) d at = absurd (some-ne-none d (sym at))

      only : (j : ℕ) (d : View O E) → get_elem? (first_view origin list seat_of x seats ∷ []) j ≡ some d → d.living ≡ true
          → HoldsOfView seat_of (origin x) (list x) seats 0 0 false j d
      only zero d at live =
          subst (HoldsOfView seat_of (origin x) (list x) seats 0 0 false 0) (some-injective (first_view origin list seat_of x seats) d at) record {
            same_origin = refl;
            begins = prefix_self (list x);
            own = refl;
            own_seen = refl;
            drawn = some_seat;
            counts = omega arith;
            stage = tt;
            kept_back = λ n k. let a : 1 ≤ n = k.0 in (k.1, (λ h. (let z : n ≡ 0 = h in omega arith)), refl);
            current = λ _. refl;
            before = prefix_self (list x);
            own_before = refl;
            kin = λ k h. absurd (some-ne-none k (sym h.1));
            no_clash = refl;
          }
      only (suc j) d at live = absurd (some-ne-none d (sym at))

  pub opens_as : (x y : S) (seats n m len : ℕ) (slots : List (Option S)) → slots ≡ Some x ∷ [] → y ≡ x → n ≡ seats → m ≡ seats → len ≡ length (list x)
      → 0 < seats → seats ≤ 4294967295 → All (λ e. seat_of e < seats) (list x)
      → HoldsOfTurn origin list seat_of (opening (0 ∷ len ∷ m ∷ []) slots (first_view origin list seat_of y n))
  opens_as x y seats n m len slots slots_are same n_is m_is len_is some_seat few below =
      subst (λ (t : List ℕ × List (Option S) × View O E). HoldsOfTurn origin list seat_of (opening t.0 t.1 t.2))
      (λ i. (0 ∷ sym len_is i ∷ sym m_is i ∷ [], sym slots_are i, first_view origin list seat_of (sym same i) (sym n_is i)))
      (opens x seats some_seat few below)

  -- at the end, with the turn held by a seat
  pub closes : (id : ℕ) (d : View O E) (ws : List ℕ) (xs : List (Option S)) → d.living ≡ true → d.stage ≡ Holds
      → Final (Seen (HoldsOfTurn origin list seat_of) id d) ws xs
      → (y : S) × (get_elem? xs 0 ≡ some (Some y)) × Meets origin list seat_of (seat_value no_turn d) y
      × ((k : Kin O E) → IsKin d k → HoldsOfKin seat_of (origin y) (list y) (list y) k)
  closes id d ws xs live holding final =
      let s = final.0 in
      let r = final.1.0 in
      let f = r.each_view id d final.1.1 live in
      let mine : (id ≡ r.holder) × (r.turn ≡ 1) × (r.lent ≡ false) =
      subst (λ (t : Stage). HoldsOfStage r.turn r.holder r.lent r.log id d.seen t) holding f.stage in
      let home : HoldsOfPlace origin list r.o r.log false s.homes = subst (λ (b : Bool). HoldsOfPlace origin list r.o r.log b s.homes) mine.2 r.home in
      let begins : IsPrefix d.seen (list home.0) = subst (λ (l : List E). IsPrefix d.seen l) (sym home.3) f.begins in (
        home.0,
        final.4 0 (Some home.0) (ap (λ (hs : List (maybe.Option (Option S))). get_elem? hs 0) home.1),
        record {
          same_origin = f.same_origin ∙ ap Some (sym home.2);
          begins = begins;
          own = ap (by_seat seat_of d.number) home.3 ∙ f.own;
          own_seen = f.own_seen;
          current = λ alone. home.3 ∙ sym (f.current alone);
        },
        λ k h.
            let b = (f.kin k h).3 in
            record {
              same_origin = b.same_origin ∙ ap Some (sym home.2);
              begins = prefix_trans k.seen d.seen (list home.0) b.begins begins;
              own = ap (by_seat seat_of k.number) home.3 ∙ b.own;
              own_seen = b.own_seen;
            },
      )

  pub draws_as : (slots id old : ℕ) (m me : Me (Option S) (View O E)) → IsAfterTry m me → m.0.living ≡ true → m.0.stage ≡ Away → old < 4294967295
      → Allows (HoldsOfTurn origin list seat_of) slots id me 2 (λ n. either (eqb n old) (old + 1) n) (DrawsNumber seat_of (step slots 2 old (old + 1) none) me)
  draws_as slots id old m me tried live away room =
      let kept = kept_views m me tried in
      draws slots id old me (kept.0 ∙ live) (kept.1 ∙ away) room

  -- a seat that has just drawn n may be split
  pub splits_as : (id n : ℕ) (d e : View O E) → e ≡ record d { alone = false; numbers = n + 1; draws = d.draws + 1; from = n; to = n + 1 } → d.living ≡ true
      → d.stage ≡ Away → Splits (HoldsOfTurn origin list seat_of) id e (left_view e) (right_view seat_of e)
  splits_as id n d e is live away =
      subst (λ (v : View O E). Splits (HoldsOfTurn origin list seat_of) id v (left_view v) (right_view seat_of v)) (sym is)
      (splits id record d { alone = false; numbers = n + 1; draws = d.draws + 1; from = n; to = n + 1 } live away (omega arith))

  -- while the seats of a new turn are dealt
  pub splits_dealer : (id : ℕ) (x : S) (seats k : ℕ) (m : Me (Option S) (View O E)) → m ≡ (dealer_view origin list seat_of x seats k, []) → k + 1 < seats
      → Splits (HoldsOfTurn origin list seat_of) id m.0 (left_view m.0) (right_view seat_of m.0)
  splits_dealer id x seats k m is more =
      subst (λ (v : Me (Option S) (View O E)). Splits (HoldsOfTurn origin list seat_of) id v.0 (left_view v.0) (right_view seat_of v.0)) (sym is)
      (splits id (dealer_view origin list seat_of x seats k) refl refl more)
