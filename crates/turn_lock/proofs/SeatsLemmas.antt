-- Beginnings of one list, and the entries of one seat in it.
use Rattle.std.proofs.Common.{◌≡◌, ◌≢◌, ℕ, zero, suc, ◌<◌, ◌≤◌, eqb, eq-eqb, ne_eqb, List, [], ◌∷◌, ◌++◌, length, Bool, true, false, refl, ap, sym, ◌∙◌, arith}
use Rattle.std.proofs.Common.{append_assoc, length-append, cond, Option, Some, None, Result, Ok, Err, MatchResult, get_or}
use Rattle.std.proofs.lemmas.List.{append-nil, append_cancel_left}
use Rattle.std.proofs.lemmas.List.Elements.{filter-append}
use Rattle.std.proofs.Math.Dec.{ltb}
use Rattle.std.proofs.lemmas.Bool.{ltb-true, ltb-false}
use Rattle.std.specs.List.{All}
use Rattle.std.specs.Prelude.{IfSome}
use mathlib.Core.List.{IsPrefix}
use Rattle.turn_lock.specs.Seats.{by_seat, SeatValue, OnlyAdds, with_entry, seat_after, longer_of}

module _ {A : Type 0} where
  pub prefix_self : (xs : List A) → IsPrefix xs xs
  prefix_self xs = ([], append-nil xs)

  pub prefix_nil : (xs : List A) → IsPrefix [] xs
  prefix_nil xs = (xs, refl)

  pub prefix_trans : (xs ys zs : List A) → IsPrefix xs ys → IsPrefix ys zs → IsPrefix xs zs
  prefix_trans xs ys zs p q = (p.0 ++ q.0, sym (append_assoc xs p.0 q.0) ∙ (ap (λ w. w ++ q.0) p.1 ∙ q.1))

  pub prefix_grows : (xs ys added zs : List A) → IsPrefix xs ys → zs ≡ ys ++ added → IsPrefix xs zs
  prefix_grows xs ys added zs p e = prefix_trans xs ys zs p (added, sym e)

  pub prefix_length : (xs ys : List A) → IsPrefix xs ys → length xs ≤ length ys
  prefix_length xs ys p = omega (arith, sym (ap length p.1) ∙ length-append xs p.0)

  -- of two beginnings of one list the shorter begins the longer
  pub prefix_shorter : (xs ys zs : List A) → IsPrefix xs zs → IsPrefix ys zs → length xs ≤ length ys → IsPrefix xs ys
  prefix_shorter [] ys zs p q le = (ys, refl)
  prefix_shorter (x ∷ xs) [] zs p q le = absurd (omega arith)
  prefix_shorter (x ∷ xs) (y ∷ ys) [] p q le = absurd (cc (p.1))
  prefix_shorter (x ∷ xs) (y ∷ ys) (z ∷ zs) p q le =
      let heads : x ≡ y = cc (p.1, q.1) in
      let rest = prefix_shorter xs ys zs (p.0, cc (p.1)) (q.0, cc (q.1)) (omega arith) in
      (rest.0, cc (heads, rest.1))

  append_empty : (xs ys : List A) → xs ++ ys ≡ [] → xs ≡ []
  append_empty [] ys e = refl
  append_empty (x ∷ xs) ys e = absurd (cc)

  -- what is true of both of two lists is true of the longer
  pub longer_either : (F : List A → Type 0) (xs ys : List A) → F xs → F ys → F (longer_of xs ys)
  longer_either F xs ys p q = pick (ltb (length xs) (length ys))
    where
      pick : (b : Bool) → F (cond b ys xs)
      pick true = q
      pick false = p

  -- of two beginnings of one list each begins the longer
  pub prefix_longer : (xs ys zs : List A) → IsPrefix xs zs → IsPrefix ys zs → IsPrefix xs (longer_of xs ys) × IsPrefix ys (longer_of xs ys)
  prefix_longer xs ys zs p q = pick (ltb (length xs) (length ys)) refl
    where
      pick : (b : Bool) → ltb (length xs) (length ys) ≡ b → IsPrefix xs (cond b ys xs) × IsPrefix ys (cond b ys xs)
      pick true is = (let less : length xs < length ys = ltb-true (length xs) (length ys) is in prefix_shorter xs ys zs p q (omega arith), prefix_self ys)
      pick false is = (prefix_self xs, let most : length ys ≤ length xs = ltb-false (length xs) (length ys) is in prefix_shorter ys xs zs q p most)

  -- what was added is what the list has more
  pub adds_only : (xs ys added more : List A) → ys ≡ xs ++ added → ys ≡ xs ++ more → added ≡ more
  adds_only xs ys added more one two = append_cancel_left xs added more (sym one ∙ two)

  -- and nothing, where the list is as it was
  pub adds_nothing : (xs ys added : List A) → ys ≡ xs ++ added → ys ≡ xs → added ≡ []
  adds_nothing xs ys added one same = adds_only xs ys added [] one (same ∙ sym (append-nil xs))

module _ {O E T F : Type 0} where
  -- the seat after a step that adds one entry where it answers Ok, and else nothing
  pub seat_after_step : (r : Result T F) (e : E) (xs ys added : List E) (s t : SeatValue O E) → ys ≡ xs ++ added → t ≡ seat_after s ys (s.mine ++ added)
      → MatchResult r (λ _. ys ≡ xs ++ e ∷ []) (λ _. ys ≡ xs)
      → MatchResult r (λ _. t ≡ seat_after s (xs ++ e ∷ []) (s.mine ++ e ∷ [])) (λ _. t ≡ seat_after s xs s.mine)
  seat_after_step (Ok v) e xs ys added s t adds is one =
      let mine : added ≡ e ∷ [] = adds_only xs ys added (e ∷ []) adds one in
      is ∙ (ap (λ l. seat_after s l (s.mine ++ added)) one ∙ ap (λ l. seat_after s (xs ++ e ∷ []) (s.mine ++ l)) mine)
  seat_after_step (Err f) e xs ys added s t adds is same =
      let none : added ≡ [] = adds_nothing xs ys added adds same in
      is ∙ (ap (λ l. seat_after s l (s.mine ++ added)) same ∙ ap (λ l. seat_after s xs l) (ap (λ l. s.mine ++ l) none ∙ append-nil s.mine))

module _ {O E : Type 0} where
  -- the seat after a step that adds this entry or none
  pub seat_after_entry : (e : Option E) (xs ys added : List E) (s t : SeatValue O E) → ys ≡ xs ++ added → t ≡ seat_after s ys (s.mine ++ added)
      → ys ≡ with_entry xs e
      → t ≡ seat_after s (with_entry xs e) (with_entry s.mine e)
  seat_after_entry (Some a) xs ys added s t adds is one =
      let mine : added ≡ a ∷ [] = adds_only xs ys added (a ∷ []) adds one in
      is ∙ (ap (λ l. seat_after s l (s.mine ++ added)) one ∙ ap (λ l. seat_after s (xs ++ a ∷ []) (s.mine ++ l)) mine)
  seat_after_entry None xs ys added s t adds is same =
      let none : added ≡ [] = adds_nothing xs ys added adds same in
      is ∙ (ap (λ l. seat_after s l (s.mine ++ added)) same ∙ ap (λ l. seat_after s xs l) (ap (λ l. s.mine ++ l) none ∙ append-nil s.mine))

module _ {S O E : Type 0} (origin : S → O) (list : S → List E) (seat_of : E → ℕ) where
  -- a step that adds this entry of its seat or none only adds
  pub entry_only_adds : (n : ℕ) (e : Option E) (x y : S) → origin y ≡ origin x → IfSome e (λ a. seat_of a ≡ n) → list y ≡ with_entry (list x) e
      → OnlyAdds origin list seat_of n x y
  entry_only_adds n (Some a) x y same own one = (a ∷ [], (same, one, each))
    where
      each : (k : ℕ) (d : E) → k < 1 → seat_of (get_or (a ∷ []) k d) ≡ n
      each zero d l = own
      each (suc k) d l = absurd (omega arith)
  entry_only_adds n None x y same own none = ([], (same, none ∙ sym (append-nil (list x)), λ k d l. absurd (omega arith)))

module _ {S O E T F : Type 0} (origin : S → O) (list : S → List E) (seat_of : E → ℕ) where
  -- a step that adds one entry of its seat where it answers Ok, and else nothing, only adds
  pub step_only_adds : (r : Result T F) (n : ℕ) (e : E) (x y : S) → origin y ≡ origin x → seat_of e ≡ n
      → MatchResult r (λ _. list y ≡ list x ++ e ∷ []) (λ _. list y ≡ list x) → OnlyAdds origin list seat_of n x y
  step_only_adds (Ok v) n e x y same own one = (e ∷ [], (same, one, each))
    where
      each : (k : ℕ) (d : E) → k < 1 → seat_of (get_or (e ∷ []) k d) ≡ n
      each zero d l = own
      each (suc k) d l = absurd (omega arith)
  step_only_adds (Err f) n e x y same own none = ([], (same, none ∙ sym (append-nil (list x)), λ k d l. absurd (omega arith)))

module _ {E : Type 0} (seat_of : E → ℕ) where
  pub by_seat-append : (n : ℕ) (xs ys : List E) → by_seat seat_of n (xs ++ ys) ≡ by_seat seat_of n xs ++ by_seat seat_of n ys
  by_seat-append n xs ys = filter-append (λ e. eqb (seat_of e) n) xs ys

  -- a beginning of a list with no entry of n has none
  pub by_seat-prefix : (n : ℕ) (xs ys : List E) → IsPrefix xs ys → by_seat seat_of n ys ≡ [] → by_seat seat_of n xs ≡ []
  by_seat-prefix n xs ys p e = append_empty _ (by_seat seat_of n p.0) (sym (by_seat-append n xs p.0) ∙ (ap (by_seat seat_of n) p.1 ∙ e))

  -- what two lists have of n, all between them has
  pub by_seat-between : (n : ℕ) (xs ys zs mine : List E) → IsPrefix xs ys → IsPrefix ys zs → by_seat seat_of n xs ≡ mine → by_seat seat_of n zs ≡ mine
      → by_seat seat_of n ys ≡ mine
  by_seat-between n xs ys zs mine p q low high =
      let a = by_seat seat_of n p.0 in
      let b = by_seat seat_of n q.0 in
      let at_ys : by_seat seat_of n ys ≡ mine ++ a = sym (ap (by_seat seat_of n) p.1) ∙ (by_seat-append n xs p.0 ∙ ap (λ w. w ++ a) low) in
      let at_zs : by_seat seat_of n zs ≡ mine ++ (a ++ b) =
      sym (ap (by_seat seat_of n) q.1) ∙ (by_seat-append n ys q.0 ∙ (ap (λ w. w ++ b) at_ys ∙ append_assoc mine a b)) in
      let none : a ++ b ≡ [] = append_cancel_left mine (a ++ b) [] (sym at_zs ∙ (high ∙ sym (append-nil mine))) in
      at_ys ∙ (ap (λ w. mine ++ w) (append_empty a b none) ∙ append-nil mine)

  tail_all : (P : E → Type 0) (x : E) (xs : List E) → All P (x ∷ xs) → All P xs
  tail_all P x xs h k d l = h (suc k) d (omega arith)

  head_all : (P : E → Type 0) (x : E) (xs : List E) → All P (x ∷ xs) → P x
  head_all P x xs h = h zero x (omega arith)

  -- entries of n are all that they have of n
  pub by_seat-own : (n : ℕ) (xs : List E) → All (λ e. seat_of e ≡ n) xs → by_seat seat_of n xs ≡ xs
  by_seat-own n [] h = refl
  by_seat-own n (x ∷ xs) h =
      rw (eq-eqb (seat_of x) n (head_all (λ e. seat_of e ≡ n) x xs h)) (ap (λ w. x ∷ w) (by_seat-own n xs (tail_all (λ e. seat_of e ≡ n) x xs h)))

  -- and have none of another number
  pub by_seat-other : (n m : ℕ) (xs : List E) → All (λ e. seat_of e ≡ n) xs → m ≢ n → by_seat seat_of m xs ≡ []
  by_seat-other n m [] h apart = refl
  by_seat-other n m (x ∷ xs) h apart =
      rw (ne_eqb (seat_of x) m (λ e. apart (sym e ∙ head_all (λ e. seat_of e ≡ n) x xs h))) (by_seat-other n m xs (tail_all (λ e. seat_of e ≡ n) x xs h) apart)

  -- entries of numbers below `seats` have none of a number from there on
  pub by_seat-below : (seats m : ℕ) (xs : List E) → All (λ e. seat_of e < seats) xs → seats ≤ m → by_seat seat_of m xs ≡ []
  by_seat-below seats m [] h apart = refl
  by_seat-below seats m (x ∷ xs) h apart =
      let here : seat_of x < seats = head_all (λ e. seat_of e < seats) x xs h in
      let other : seat_of x ≢ m = λ e. omega arith in
      rw (ne_eqb (seat_of x) m other) (by_seat-below seats m xs (tail_all (λ e. seat_of e < seats) x xs h) apart)
