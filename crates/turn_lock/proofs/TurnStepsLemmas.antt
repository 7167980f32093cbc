-- Each step of a turn keeps its rule.
use Rattle.std.proofs.Common.{◌≡◌, ◌≢◌, ℕ, ◌<◌, eqb, eq-eqb, ne_eqb, List, [], ◌∷◌, ◌++◌, length, get_or, set, Bool, true, false, Option, Some, refl, sym, ap}
use Rattle.std.proofs.Common.{◌∙◌, subst, arith}
use Rattle.std.proofs.lemmas.List.{append-nil}
use Rattle.std.specs.List.{All}
use lib.Seq.{set-get_or}
use mathlib.Core.Logic.{dite}
use mathlib.Core.Option.{some, none}
use mathlib.Core.Option as maybe
use mathlib.Core.List.{IsPrefix}
use native.Mathlib.Decide.{ℕ_discrete}
use lib.ListN.{get_elem?}
use prog.Atomic.{either}
use Rattle.atomic_table.specs.Table.{State, Me, step, keeps, takes, gives, stepped, put_back, rest, Allows}
use Rattle.atomic_table.proofs.Lists.{set_again, set_here}
use Rattle.turn_lock.specs.declared.rule.View.{View}
use Rattle.turn_lock.specs.declared.rule.Stage.{Stage}
use Rattle.turn_lock.specs.declared.rule.Stage.TheVariants.{Away, Holds, Out}
use Rattle.turn_lock.specs.Seats.{by_seat}
use Rattle.turn_lock.specs.Rule.{HoldsOfPlace, HoldsOfStage, HoldsOfView, HoldsOfTurn, view_at, TakesTurn, ReadsHistory, StoresHistory, GivesTurnBack}
use Rattle.turn_lock.specs.Rule.{ComparesSeats}
use Rattle.turn_lock.proofs.SeatsLemmas.{prefix_self, prefix_trans, by_seat-append, by_seat-other}
use Rattle.turn_lock.proofs.RuleLemmas.{kin_grows, each_view_set, view_stays, view_stays_same, away_stage, other_away, free_away, differ_as, at_less}
use Rattle.turn_lock.proofs.RuleLemmas.{holds_away, out_away}

module _ {S O E : Type 0} (origin : S → O) (list : S → List E) (seat_of : E → ℕ) where
  -- a step that changes no word, and the view only in what the rule does not read
  unmoved : (s : State (Option S) (View O E)) (r : HoldsOfTurn origin list seat_of s) (i id : ℕ) (c : List (ℕ × Option S)) (d : View O E)
      → get_elem? s.views id ≡ some d
      → HoldsOfTurn origin list seat_of (stepped s i (get_or s.words i 0) id c d keeps)
  unmoved s r i id c d at =
      subst (λ (x : List ℕ × List (View O E)). HoldsOfTurn origin list seat_of record { words = x.0; homes = s.homes; views = x.1 })
      (λ k. (sym (set-get_or s.words i 0) k, sym (set_again s.views id d at) k)) r

  -- the turn is taken where it is free, and else nothing changes
  pub takes_turn : (slots id : ℕ) (me : Me (Option S) (View O E)) → me.0.living ≡ true → me.0.stage ≡ Away
      → Allows (HoldsOfTurn origin list seat_of) slots id me 0 (λ n. either (eqb n 0) 1 n) (TakesTurn seat_of (step slots 0 0 1 none) me)
  takes_turn slots id me live away s r _ at _ =
      let x : ℕ = get_or s.words 0 0 in
      let is : x ≡ r.turn = ap (λ ws. get_or ws 0 0) r.words in
      let w : View O E = view_at Holds me.0 in
      let own_seen = (r.each_view id me.0 at live).own_seen in
      dite (ℕ_discrete x 0)
      (λ (hit : x ≡ 0).
      let free : r.turn ≡ 0 = sym is ∙ hit in
      let kept : HoldsOfTurn origin list seat_of (stepped s 0 1 id me.1 w keeps) = record {
        o = r.o;
        log = r.log;
        turn = 1;
        seats = r.seats;
        holder = id;
        lent = false;
        words = ap (λ (ws : List ℕ). set ws 0 1) r.words;
        one = omega arith;
        few = r.few;
        home = subst (λ (b : Bool). HoldsOfPlace origin list r.o r.log b s.homes) (r.free free) r.home;
        free = λ _. refl;
        held = λ _. (w, set_here s.views id w (at_less s.views id me.0 at), live, holds_away);
        undrawn = r.undrawn;
        each_view = each_view_set (HoldsOfView seat_of r.o r.log r.seats 1 id false) s.views id w
            (λ _. let f = r.each_view id me.0 at live in
            record {
              same_origin = f.same_origin;
              begins = f.begins;
              own = f.own;
              own_seen = f.own_seen;
              drawn = f.drawn;
              counts = f.counts;
              stage = (
                refl,
                refl,
                refl,
              );
              kept_back = f.kept_back;
              current = f.current;
              before = f.before;
              own_before = f.own_before;
              kin = f.kin;
              no_clash = f.no_clash;
            })
            (λ j d _ there lives. let f = r.each_view j d there lives in
            view_stays_same seat_of r.o r.log r.seats r.seats r.turn 1 r.holder id r.lent false j d f (omega arith)
            (away_stage 1 id false r.log j d.seen d.stage (free_away r.turn r.holder r.lent r.log j d.seen d.stage f.stage free)));
        differ = differ_as s.views id me.0 w at live refl (λ _ h. h) (λ _ h. h) (λ h. h) r.differ;
      } in (
        w,
        keeps,
        tt,
        subst (λ (b : Bool). HoldsOfTurn origin list seat_of (stepped s 0 (either b 1 x) id me.1 w keeps)) (sym (eq-eqb x 0 hit)) kept,
        (rw (eq-eqb x 0 hit) refl, own_seen),
      ))
      (λ (miss : x ≢ 0). (
        me.0,
        keeps,
        tt,
        subst (λ (b : Bool). HoldsOfTurn origin list seat_of (stepped s 0 (either b 1 x) id me.1 me.0 keeps)) (sym (ne_eqb x 0 miss))
            (unmoved s r 0 id me.1 me.0 at),
        (rw (ne_eqb x 0 miss) refl, own_seen),
      ))

  -- while the holder holds the turn, the others are away
  others_away : (s : State (Option S) (View O E)) (r : HoldsOfTurn origin list seat_of s) (id j : ℕ) (d : View O E) → id ≡ r.holder → j ≢ id
      → get_elem? s.views j ≡ some d → d.living ≡ true → d.stage ≡ Away
  others_away s r id j d mine apart at live =
      other_away r.turn r.holder r.lent r.log j d.seen d.stage (r.each_view j d at live).stage (λ h. apart (h ∙ sym mine))

  -- the holder reads the history's word, and the value is lent to it
  pub looks : (slots id : ℕ) (me : Me (Option S) (View O E)) → me.0.living ≡ true → me.0.stage ≡ Holds
      → Allows (HoldsOfTurn origin list seat_of) slots id me 1 (λ n. n) (ReadsHistory origin list seat_of (step slots 1 0 0 none) me)
  looks slots id me live holding s r _ at _ =
      let f = r.each_view id me.0 at live in
      let mine : (id ≡ r.holder) × (r.turn ≡ 1) × (r.lent ≡ false) =
      subst (λ (t : Stage). HoldsOfStage r.turn r.holder r.lent r.log id me.0.seen t) holding f.stage in
      let home : HoldsOfPlace origin list r.o r.log false s.homes = subst (λ (b : Bool). HoldsOfPlace origin list r.o r.log b s.homes) mine.2 r.home in
      let y : S = home.0 in
      let same : list y ≡ r.log = home.3 in
      let grown : IsPrefix me.0.seen (list y) = subst (λ (l : List E). IsPrefix me.0.seen l) (sym same) f.begins in
      let w : View O E = record me.0 { stage = Out; seen = list y } in (
        w,
        takes 0 (Some y),
        ap (λ (hs : List (maybe.Option (Option S))). get_elem? hs 0) home.1,
        record {
          o = r.o;
          log = r.log;
          turn = r.turn;
          seats = r.seats;
          holder = r.holder;
          lent = true;
          words = ap (λ (ws : List ℕ). set ws 1 (get_or ws 1 0)) r.words;
          one = r.one;
          few = r.few;
          home = ap (λ (hs : List (maybe.Option (Option S))). set hs 0 none) home.1;
          free = λ z. (let one : r.turn ≡ 1 = mine.1 in absurd (omega arith));
          held =
              λ _. (w, subst (λ (k : ℕ). get_elem? (set s.views id w) k ≡ some w) mine.0 (set_here s.views id w (at_less s.views id me.0 at)), live, out_away);
          undrawn = r.undrawn;
          each_view = each_view_set (HoldsOfView seat_of r.o r.log r.seats r.turn r.holder true) s.views id w
              (λ _. record {
                same_origin = f.same_origin;
                begins = subst (λ (l : List E). IsPrefix l r.log) (sym same) (prefix_self r.log);
                own = f.own;
                own_seen = ap (by_seat seat_of me.0.number) same ∙ f.own;
                drawn = f.drawn;
                counts = f.counts;
                stage = (mine.0, mine.1, refl, same);
                kept_back = λ n k. let b = f.kept_back n k in (b.0, b.1, ap (by_seat seat_of n) (sym same));
                current = λ _. same;
                before = prefix_trans me.0.before me.0.seen (list y) f.before grown;
                own_before = f.own_before;
                kin = λ k h. let b = f.kin k h in (b.0, b.1, b.2, kin_grows seat_of r.o r.log me.0.seen (list y) k grown b.3);
                no_clash = f.no_clash;
              })
              (λ j d apart there lives. let g = r.each_view j d there lives in
              view_stays_same seat_of r.o r.log r.seats r.seats r.turn r.turn r.holder r.holder r.lent true j d g (omega arith)
              (away_stage r.turn r.holder true r.log j d.seen d.stage (others_away s r id j d mine.0 apart there lives)));
          differ = differ_as s.views id me.0 w at live refl (λ _ h. h) (λ _ h. h) (λ h. h) r.differ;
        },
        (
          y,
          record {
            same_origin = f.same_origin ∙ ap Some (sym home.2);
            begins = grown;
            own = ap (by_seat seat_of me.0.number) same ∙ f.own;
            own_seen = f.own_seen;
            current = λ alone. same ∙ sym (f.current alone);
          },
          refl,
        ),
      )

  -- the holder stores the length of the list that its value now stands for
  pub writes : (slots id new : ℕ) (me : Me (Option S) (View O E)) (now added : List E) → me.0.living ≡ true → me.0.stage ≡ Out → now ≡ me.0.seen ++ added
      → All (λ e. seat_of e ≡ me.0.number) added → new ≡ length now
      → Allows (HoldsOfTurn origin list seat_of) slots id me 1 (λ _. new) (λ _. StoresHistory now seat_of (step slots 1 new 0 none) me new)
  writes slots id new me now added live out grown own_all is_length s r _ at _ =
      let f = r.each_view id me.0 at live in
      let mine : (id ≡ r.holder) × (r.turn ≡ 1) × (r.lent ≡ true) × (me.0.seen ≡ r.log) =
      subst (λ (t : Stage). HoldsOfStage r.turn r.holder r.lent r.log id me.0.seen t) out f.stage in
      let grows : now ≡ r.log ++ added = grown ∙ ap (λ (l : List E). l ++ added) mine.3 in
      let grown_seen : IsPrefix me.0.seen now = (added, sym grown) in
      let w : View O E = record me.0 { seen = now; mine = by_seat seat_of me.0.number now; before = now } in
      let number : me.0.number < r.seats = f.drawn in
      let of : (n : ℕ) → n ≢ me.0.number → by_seat seat_of n now ≡ by_seat seat_of n r.log =
      λ n apart. ap (by_seat seat_of n) grows ∙ (by_seat-append seat_of n r.log added
      ∙ (ap (λ l. by_seat seat_of n r.log ++ l) (by_seat-other seat_of me.0.number n added own_all apart) ∙ append-nil (by_seat seat_of n r.log))) in (
        w,
        keeps,
        tt,
        record {
          o = r.o;
          log = now;
          turn = r.turn;
          seats = r.seats;
          holder = r.holder;
          lent = r.lent;
          words = ap (λ (ws : List ℕ). set ws 1 new) r.words ∙ ap (λ (n : ℕ). r.turn ∷ n ∷ r.seats ∷ []) is_length;
          one = r.one;
          few = r.few;
          home = subst (λ (b : Bool). HoldsOfPlace origin list r.o now b s.homes) (sym mine.2)
              (subst (λ (b : Bool). HoldsOfPlace origin list r.o r.log b s.homes) mine.2 r.home);
          free = r.free;
          held = λ _. (
            w,
            subst (λ (k : ℕ). get_elem? (set s.views id w) k ≡ some w) mine.0 (set_here s.views id w (at_less s.views id me.0 at)),
            live,
            λ h. out_away (sym out ∙ h),
          );
          undrawn = λ n above. of n (λ h. omega arith) ∙ r.undrawn n above;
          each_view = each_view_set (HoldsOfView seat_of r.o now r.seats r.turn r.holder r.lent) s.views id w
              (λ _. record {
                same_origin = f.same_origin;
                begins = prefix_self now;
                own = refl;
                own_seen = refl;
                drawn = f.drawn;
                counts = f.counts;
                stage = subst (λ (t : Stage). HoldsOfStage r.turn r.holder r.lent now id now t) (sym out) (mine.0, mine.1, mine.2, refl);
                kept_back = λ n k. let b = f.kept_back n k in (b.0, b.1, refl);
                current = λ _. refl;
                before = prefix_self now;
                own_before = refl;
                kin = λ k h.
                    let b = f.kin k h in (
                      b.0,
                      b.1,
                      b.2,
                      record {
                        same_origin = b.3.same_origin;
                        begins = prefix_trans k.seen me.0.seen now b.3.begins grown_seen;
                        own = of k.number b.1 ∙ b.3.own;
                        own_seen = b.3.own_seen;
                      },
                    );
                no_clash = f.no_clash;
              })
              (λ j d apart there lives. let g = r.each_view j d there lives in let other = r.differ j id d me.0 apart there at lives live in
              view_stays seat_of r.o r.log now added r.seats r.seats r.turn r.turn r.holder r.holder r.lent r.lent j d g grows (omega arith)
              (by_seat-other seat_of me.0.number d.number added own_all other.numbers)
              (λ n k. by_seat-other seat_of me.0.number n added own_all (other.kept_back n k))
              (λ k h. by_seat-other seat_of me.0.number k.number added own_all (other.kin k h).0)
              (λ alone. absurd (other.not_alone alone))
              (away_stage r.turn r.holder r.lent now j d.seen d.stage (others_away s r id j d mine.0 apart there lives)));
          differ = differ_as s.views id me.0 w at live refl (λ _ h. h) (λ _ h. h) (λ h. h) r.differ;
        },
        refl,
      )

  -- the holder gives the turn back, and the value with it
  pub gives_turn : (slots id : ℕ) (me : Me (Option S) (View O E)) (y : S) → me.0.living ≡ true → me.0.stage ≡ Out → me.1 ≡ (0, Some y) ∷ []
      → me.0.origin ≡ Some (origin y) → list y ≡ me.0.seen
      → Allows (HoldsOfTurn origin list seat_of) slots id me 0 (λ _. 0) (λ _. GivesTurnBack (step slots 0 0 0 none) me 0)
  gives_turn slots id me y live out carried from_o same s r _ at _ =
      let f = r.each_view id me.0 at live in
      let mine : (id ≡ r.holder) × (r.turn ≡ 1) × (r.lent ≡ true) × (me.0.seen ≡ r.log) =
      subst (λ (t : Stage). HoldsOfStage r.turn r.holder r.lent r.log id me.0.seen t) out f.stage in
      let home : s.homes ≡ none ∷ [] = subst (λ (b : Bool). HoldsOfPlace origin list r.o r.log b s.homes) mine.2 r.home in
      let w : View O E = view_at Away me.0 in
      let o_is : origin y ≡ r.o = cc (from_o, f.same_origin) in (
        w,
        gives,
        tt,
        record {
          o = r.o;
          log = r.log;
          turn = 0;
          seats = r.seats;
          holder = r.holder;
          lent = false;
          words = ap (λ (ws : List ℕ). set ws 0 0) r.words;
          one = omega arith;
          few = r.few;
          home = (
            y,
            ap (put_back s.homes) carried ∙ ap (λ (hs : List (maybe.Option (Option S))). set hs 0 (some (Some y))) home,
            o_is,
            same ∙ mine.3,
          );
          free = λ _. refl;
          held = λ z. absurd (omega arith);
          undrawn = r.undrawn;
          each_view = each_view_set (HoldsOfView seat_of r.o r.log r.seats 0 r.holder false) s.views id w
              (λ _. record {
                same_origin = f.same_origin;
                begins = f.begins;
                own = f.own;
                own_seen = f.own_seen;
                drawn = f.drawn;
                counts = f.counts;
                stage = tt;
                kept_back = f.kept_back;
                current = f.current;
                before = f.before;
                own_before = f.own_before;
                kin = f.kin;
                no_clash = f.no_clash;
              })
              (λ j d apart there lives. let g = r.each_view j d there lives in
              view_stays_same seat_of r.o r.log r.seats r.seats r.turn 0 r.holder r.holder r.lent false j d g (omega arith)
              (away_stage 0 r.holder false r.log j d.seen d.stage (others_away s r id j d mine.0 apart there lives)));
          differ = differ_as s.views id me.0 w at live refl (λ _ h. h) (λ _ h. h) (λ h. h) r.differ;
        },
        refl,
      )

  -- a seat learns how the lists begin of the seats that were joined to it
  pub compares : (slots id : ℕ) (me : Me (Option S) (View O E)) → me.0.living ≡ true
      → Allows (HoldsOfTurn origin list seat_of) slots id me 1 (λ n. n) (ComparesSeats seat_of (step slots 1 0 0 none) me)
  compares slots id me live s r _ at _ =
      let f = r.each_view id me.0 at live in (
        me.0,
        keeps,
        tt,
        unmoved s r 1 id me.1 me.0 at,
        (refl, f.no_clash, f.before, f.own_before, f.own_seen, λ k h. let b = (f.kin k h).3 in (b.same_origin ∙ sym f.same_origin, b.begins, b.own_seen)),
      )

  -- the same steps, at a view that is known by an equation
  pub gives_turn_as : (slots id : ℕ) (me : Me (Option S) (View O E)) (d : View O E) (c : List (ℕ × Option S)) (x : ℕ × Option S) (y : S) → c ≡ x ∷ []
      → me ≡ (d, (0, Some y) ∷ rest c) → d.living ≡ true → d.stage ≡ Out → d.origin ≡ Some (origin y) → list y ≡ d.seen
      → Allows (HoldsOfTurn origin list seat_of) slots id me 0 (λ _. 0) (λ _. GivesTurnBack (step slots 0 0 0 none) me 0)
  gives_turn_as slots id me d c x y carried is live out from_o same =
      let is' : me ≡ (d, (0, Some y) ∷ []) = is ∙ ap (λ (l : List (ℕ × Option S)). (d, (0, Some y) ∷ rest l)) carried in
      gives_turn slots id me y (ap (λ (m : Me (Option S) (View O E)). m.0.living) is' ∙ live) (ap (λ (m : Me (Option S) (View O E)). m.0.stage) is' ∙ out)
      (ap (λ (m : Me (Option S) (View O E)). m.1) is') (ap (λ (m : Me (Option S) (View O E)). m.0.origin) is' ∙ from_o)
      (same ∙ sym (ap (λ (m : Me (Option S) (View O E)). m.0.seen) is'))

module _ {S O E : Type 0} where
  -- a seat that took a slot holds it
  pub holding : (me : Me (Option S) (View O E)) (d : View O E) (k : ℕ) (x : Option S) (c : List (ℕ × Option S)) → me ≡ (d, (k, x) ∷ c)
      → me.1 ≡ (k, x) ∷ rest me.1
  holding me d k x c e = subst (λ (m : Me (Option S) (View O E)). m.1 ≡ (k, x) ∷ rest m.1) (sym e) refl
