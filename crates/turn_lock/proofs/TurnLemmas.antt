-- What a seat shows before and after a call, by what its view was at each step.
use Rattle.std.proofs.Common.{zero, suc, ◌≡◌, ℕ, ◌+◌, ◌<◌, List, [], ◌∷◌, ◌++◌, length, true, false, true≢false, Option, Some, refl, sym, ap, ◌∙◌, subst, arith}
use Rattle.std.specs.List.{All}
use mathlib.Core.List.{IsPrefix}
use denote.Ref.{MutBor}
use denote.Param.Members.{Once}
use lib.ListN.{get_elem?}
use mathlib.Core.Option.{some}
use Rattle.atomic_table.specs.Seated.{TableId}
use Rattle.turn_lock.proofs.RuleLemmas.{at_back}
use Rattle.turn_lock.specs.declared.rule.View.{View}
use Rattle.turn_lock.specs.declared.rule.Kin.{Kin}
use Rattle.turn_lock.specs.declared.rule.Stage.TheVariants.{Away, Holds, Out}
use Rattle.turn_lock.specs.Seats.{by_seat, SeatValue, KnowsOwn, Meets, Adds, seat_after, TakesChange, GivesChange}
use Rattle.turn_lock.specs.Rule.{IsKin, HoldsOfKin, kin_of, view_at, no_turn, seat_value, value_of_views, joined_view, IsHolding, IsSameWork, IsJoined}
use Rattle.std.specs.Prelude.{slice_get}
use Rattle.std.proofs.Common.{zero, suc, append_assoc, get_or}
use Rattle.std.specs.List.{remove}
use Rattle.atomic_table.specs.Table.{Me}
use Rattle.turn_lock.proofs.SeatsLemmas.{by_seat-append, by_seat-own, prefix_trans}

module _ {O E : Type 0} where
  -- the only view of a seat is what it shows
  pub shows_view : (s : SeatValue O E) (z : TableId) (views : List (View O E)) (d : View O E) → value_of_views z views ≡ s → views ≡ d ∷ [] → s ≡ seat_value z d
  shows_view s z views d is only = sym is ∙ ap (value_of_views z) only

  -- a seat that has read the list l
  pub seat_read : (s : SeatValue O E) (z z' : TableId) (views views' : List (View O E)) (d a b e : View O E) (l : List E) → value_of_views z views ≡ s
      → views ≡ d ∷ []
      → a ≡ view_at Holds d → b ≡ record a { stage = Out; seen = l } → e ≡ view_at Away b → views' ≡ e ∷ [] → z' ≡ z
      → value_of_views z' views' ≡ seat_after s l s.mine
  seat_read s z z' views views' d a b e l is only took out back only' same =
      let b_is : b ≡ record d { stage = Out; seen = l } = out ∙ ap (λ (v : View O E). record v { stage = Out; seen = l }) took in
      let e_is : e ≡ record d { stage = Away; seen = l } = back ∙ ap (view_at Away) b_is in
      ap (value_of_views z') only' ∙ (ap (λ (t : TableId). seat_value t e) same
      ∙ (ap (seat_value z) e_is ∙ ap (λ (t : SeatValue O E). seat_after t l t.mine) (sym (shows_view s z views d is only))))

  -- a seat that has changed the list to l
  pub seat_changed : (s : SeatValue O E) (z z' : TableId) (views views' : List (View O E)) (d a b c e : View O E) (k l mine : List E)
      → value_of_views z views ≡ s → views ≡ d ∷ []
      → a ≡ view_at Holds d → b ≡ record a { stage = Out; seen = k } → c ≡ record b { seen = l; mine = mine; before = l } → e ≡ view_at Away c → views' ≡ e ∷ []
      → z' ≡ z → value_of_views z' views' ≡ seat_after s l mine
  seat_changed s z z' views views' d a b c e k l mine is only took out wrote back only' same =
      let b_is : b ≡ record d { stage = Out; seen = k } = out ∙ ap (λ (v : View O E). record v { stage = Out; seen = k }) took in
      let c_is : c ≡ record d { stage = Out; seen = l; mine = mine; before = l } =
      wrote ∙ ap (λ (v : View O E). record v { seen = l; mine = mine; before = l }) b_is in
      let e_is : e ≡ record d { stage = Away; seen = l; mine = mine; before = l } = back ∙ ap (view_at Away) c_is in
      ap (value_of_views z') only' ∙ (ap (λ (t : TableId). seat_value t e) same
      ∙ (ap (seat_value z) e_is ∙ ap (λ (t : SeatValue O E). seat_after t l mine) (sym (shows_view s z views d is only))))

module _ {S O E : Type 0} (origin : S → O) (list : S → List E) (seat_of : E → ℕ) where
  -- whichever turn it is
  pub meets_again : (z : TableId) (d : View O E) (y : S) → Meets origin list seat_of (seat_value no_turn d) y → Meets origin list seat_of (seat_value z d) y
  meets_again z d y m = record { same_origin = m.same_origin; begins = m.begins; own = m.own; own_seen = m.own_seen; current = m.current }

  -- a value that met the view meets the seat
  pub seat_meets : (s : SeatValue O E) (z : TableId) (views : List (View O E)) (d a : View O E) (y : S) → value_of_views z views ≡ s → views ≡ d ∷ []
      → a ≡ view_at Holds d
      → Meets origin list seat_of (seat_value no_turn a) y → Meets origin list seat_of s y
  seat_meets s z views d a y is only took met =
      let at_d : Meets origin list seat_of (seat_value no_turn d) y = subst (λ (v : View O E). Meets origin list seat_of (seat_value no_turn v) y) took met in
      let here : Meets origin list seat_of (seat_value z d) y = meets_again z d y at_d in
      subst (λ (t : SeatValue O E). Meets origin list seat_of t y) (sym (shows_view s z views d is only)) here

  -- the entries that were added are the seat's own
  pub adds_mine : (n : ℕ) (x : S) (added mine : List E) (y : S) → by_seat seat_of n (list x) ≡ mine → Adds origin list seat_of n x added y
      → by_seat seat_of n (list y) ≡ mine ++ added
  adds_mine n x added mine y own adds =
      ap (by_seat seat_of n) adds.1
      ∙ (by_seat-append seat_of n (list x) added ∙ (ap (λ l. l ++ by_seat seat_of n added) own ∙ ap (λ l. mine ++ l) (by_seat-own seat_of n added adds.2)))

  -- a seat that has read, and a seat that has changed, has seen just its own entries of its number, before and after
  pub read_own : (s t : SeatValue O E) (x : S) → Meets origin list seat_of s x → t ≡ seat_after s (list x) s.mine → KnowsOwn seat_of s × KnowsOwn seat_of t
  read_own s t x meets is = (meets.own_seen, subst (λ (u : SeatValue O E). KnowsOwn seat_of u) (sym is) meets.own)

  pub change_own : (s t : SeatValue O E) (x : S) (added : List E) (y : S) → Meets origin list seat_of s x → Adds origin list seat_of s.number x added y
      → t ≡ seat_after s (list y) (s.mine ++ added) → KnowsOwn seat_of s × KnowsOwn seat_of t
  change_own s t x added y meets adds is = (
    meets.own_seen,
    subst (λ (u : SeatValue O E). KnowsOwn seat_of u) (sym is) (adds_mine s.number x added s.mine y meets.own adds),
  )

module _ {F S R : Type 0} (g : Once F (MutBor S × (ℕ × Unit {0})) (R × (MutBor S × Unit {0}))) where
  pub takes_at : (f : F) (x : S) (n m : ℕ) → n ≡ m → TakesChange g f x n → TakesChange g f x m
  takes_at f x n m e t = subst (λ (k : ℕ). TakesChange g f x k) e t

  -- what f does to any value it did to this one
  pub gives_values : (f : F) (x : S) (n : ℕ) (r : R) (y : S) (Q : S → R → S → Type 0)
      → ((p q : MutBor S) → g.post f (p, (n, tt)) (r, (q, tt)) → Q p.now r q.now) → GivesChange g f x n r y → Q x r y
  gives_values f x n r y Q each h =
      subst (λ (v : S). Q x r v) h.leaves (subst (λ (v : S). Q v r h.left.now) h.shows (each h.shown h.left h.met))

  pub gives_at : (f : F) (x : S) (n m : ℕ) (r : R) (y : S) → n ≡ m → GivesChange g f x n r y → GivesChange g f x m r y
  gives_at f x n m r y e t = subst (λ (k : ℕ). GivesChange g f x k r y) e t

module _ {O E : Type 0} where
  -- a seat shows the number that it carries
  pub shows_number : (s : SeatValue O E) (z : TableId) (views : List (View O E)) (d : View O E) (n : ℕ) → value_of_views z views ≡ s → views ≡ d ∷ []
      → d.number ≡ n → s.number ≡ n
  shows_number s z views d n is only same = ap (λ (t : SeatValue O E). t.number) (shows_view s z views d is only) ∙ same

  -- and the number that its view has while it is at work
  pub same_number : (s : SeatValue O E) (z : TableId) (views : List (View O E)) (d a b : View O E) (l : List E) → value_of_views z views ≡ s → views ≡ d ∷ []
      → a ≡ view_at Holds d → b ≡ record a { stage = Out; seen = l } → b.number ≡ s.number
  same_number s z views d a b l is only took out =
      ap (λ (v : View O E). v.number) out ∙ (ap (λ (v : View O E). v.number) took ∙ sym (shows_number s z views d d.number is only refl))

  -- one more seat was joined
  pub joined_more : (kin mine now : List (Kin O E)) (k : Kin O E) (items rest done all : List (SeatValue O E)) (s : SeatValue O E) → all ≡ items ++ done
      → items ≡ rest ++ s ∷ [] → now ≡ k ∷ (mine ++ kin) → All (IsJoined kin) done → IsJoined now s
      → (after : List (SeatValue O E)) × (all ≡ rest ++ after) × All (IsJoined now) after
  joined_more kin mine now k items rest done all s are last now_is old here =
      (s ∷ done, are ∙ (ap (λ l. l ++ done) last ∙ append_assoc rest (s ∷ []) done), each)
    where
      still : (a : Kin O E) → (i : ℕ) × (get_elem? kin i ≡ some a) → (i : ℕ) × (get_elem? now i ≡ some a)
      still a t = let r = at_back mine kin t.0 a t.1 in (suc r.0, ap (λ l. get_elem? l (suc r.0)) now_is ∙ r.1)

      each : All (IsJoined now) (s ∷ done)
      each zero d l = here
      each (suc n) d l = let w = old n d (omega arith) in (w.0, still _ w.1)

module _ {S O E : Type 0} where
  pub holding_after : (m m' : Me (Option S) (View O E)) (e : View O E) → m' ≡ (joined_view m.0 e, m.1) → IsHolding m → IsHolding m'
  holding_after m m' e is h = (
    ap (λ (x : Me (Option S) (View O E)). x.0.living) is ∙ h.0,
    ap (λ (x : Me (Option S) (View O E)). x.0.stage) is ∙ h.1,
    ap (λ (x : Me (Option S) (View O E)). x.1) is ∙ h.2,
  )

  pub work_after : (d : View O E) (m m' : Me (Option S) (View O E)) (e : View O E) → m' ≡ (joined_view m.0 e, m.1) → IsSameWork d m.0 → IsSameWork d m'.0
  work_after d m m' e is h = (
    ap (λ (x : Me (Option S) (View O E)). x.0.number) is ∙ h.0,
    ap (λ (x : Me (Option S) (View O E)). x.0.origin) is ∙ h.1,
    ap (λ (x : Me (Option S) (View O E)). x.0.mine) is ∙ h.2,
  )

module _ {O E : Type 0} where
  -- a seat that was joined
  pub was_joined : (e : View O E) (s : SeatValue O E) (z : TableId) (views : List (View O E)) (now others : List (Kin O E)) → value_of_views z views ≡ s
      → views ≡ e ∷ [] → e.alone ≡ false → now ≡ kin_of e ∷ others → IsJoined now s
  was_joined e s z views now others is only beside now_is =
      let here : IsJoined now (seat_value z e) = (beside, (0, ap (λ l. get_elem? l 0) now_is)) in
      subst (λ (t : SeatValue O E). IsJoined now t) (sym (shows_view s z views e is only)) here

module _ {A : Type 0} where
  pub none_left : (xs : List A) → (0 < length xs → ⊥) → xs ≡ []
  none_left [] h = refl
  none_left (x ∷ xs) h = absurd (h (omega arith))

  -- what is at each index, after a push
  pub get_more : (xs : List A) (y : A) (P : ℕ → A) → ((k : ℕ) → k < length xs → slice_get xs k ≡ Some (P k)) → y ≡ P (length xs) → (k : ℕ) → k < length xs + 1
      → slice_get (xs ++ y ∷ []) k ≡ Some (P k)
  get_more [] y P at here zero l = ap Some here
  get_more [] y P at here (suc k) l = absurd (omega arith)
  get_more (x ∷ xs) y P at here zero l = at 0 (omega arith)
  get_more (x ∷ xs) y P at here (suc k) l = get_more xs y (λ n. P (suc n)) (λ n m. at (suc n) (omega arith)) here k (omega arith)

  -- what holds of the first element and of the others holds of each
  pub all_given : (P : A → Type 0) (items : List A) (first : A) (others : List A) → 0 < length items → first ≡ get_or items 0 first → others ≡ remove items 0
      → P first → All P others → All P items
  all_given P [] first others some_item head tail here rest k d l = absurd (omega arith)
  all_given P (x ∷ xs) first others some_item head tail here rest zero d l = subst P head here
  all_given P (x ∷ xs) first others some_item head tail here rest (suc k) d l = subst (All P) tail rest k d (omega arith)

  pub removed_own : (P : A → Type 0) (items : List A) (first : A) (others : List A) → 0 < length items → first ≡ get_or items 0 first → others ≡ remove items 0
      → All P items → P first × All P others
  removed_own P [] first others some_item head tail each = absurd (omega arith)
  removed_own P (x ∷ xs) first others some_item head tail each = (
    subst P (sym head) (each 0 x (omega arith)),
    subst (All P) (sym tail) (λ k d l. each (suc k) d (omega arith)),
  )

module _ {S O E : Type 0} (origin : S → O) (list : S → List E) (seat_of : E → ℕ) where
  -- the value that is handed out, for the seat that took the turn
  pub meets_first : (s : SeatValue O E) (z : TableId) (views : List (View O E)) (d t f : View O E) (y : S) → value_of_views z views ≡ s → views ≡ d ∷ []
      → t ≡ view_at Holds d → KnowsOwn seat_of (seat_value no_turn d) → IsSameWork t f → IsPrefix t.seen f.seen → (t.alone ≡ true → f ≡ t)
      → Meets origin list seat_of (seat_value no_turn f) y → Meets origin list seat_of s y
  meets_first s z views d t f y is only took knows work grown alone met =
      let at_t : Meets origin list seat_of (seat_value z t) y = record {
        same_origin = sym work.1 ∙ met.same_origin;
        begins = prefix_trans t.seen f.seen (list y) grown met.begins;
        own = ap (λ n. by_seat seat_of n (list y)) (sym work.0) ∙ (met.own ∙ work.2);
        own_seen = subst (λ (v : View O E). KnowsOwn seat_of (seat_value no_turn v)) (sym took) knows;
        current = λ h. (let e = alone h in met.current (ap (λ (v : View O E). v.alone) e ∙ h) ∙ ap (λ (v : View O E). v.seen) e);
      } in
      let at_d : Meets origin list seat_of (seat_value z d) y = subst (λ (v : View O E). Meets origin list seat_of (seat_value z v) y) took at_t in
      subst (λ (u : SeatValue O E). Meets origin list seat_of u y) (sym (shows_view s z views d is only)) at_d

  -- and for those that were joined to it
  pub meets_others : (seats : List (SeatValue O E)) (f : View O E) (y : S) → All (IsJoined f.kin) seats
      → ((k : Kin O E) → IsKin f k → HoldsOfKin seat_of (origin y) (list y) (list y) k) → All (λ s. Meets origin list seat_of s y) seats
  meets_others seats f y joined kin k d l =
      let w = joined k d l in
      let h = kin _ w.1 in
      record { same_origin = h.same_origin; begins = h.begins; own = h.own; own_seen = h.own_seen; current = λ a. absurd (true≢false (sym a ∙ w.0)) }
