-- Entries that came, points that passed, and the entries and positions of these.
use Rattle.std.proofs.Common.{◌≡◌, ◌≢◌, cond, ℕ, ◌+◌, ◌≤◌, eqb, eq-eqb, ne_eqb, List, [], ◌∷◌, ◌++◌, length, take, drop, Bool, true, false, refl, ap, sym, ◌∙◌}
use Rattle.std.proofs.Common.{arith, append_assoc, length-append, subst}
use Rattle.std.specs.Prelude.{◌&&◌, filter, All, Option, Some, None}
use Rattle.std.proofs.lemmas.List.{append-nil}
use Rattle.std.proofs.lemmas.List.Elements.{All-nil, All-cons, All-head, All-tail, All-append, filter-append}
use Rattle.std.proofs.Math.Seq.{take-append_seam, drop-append_seam}
use Rattle.call_placement.specs.Rules.{Caller, Rules}
use Rattle.call_placement.specs.Points.{HasPassed, replay, AreOfOtherSeats, is_own, AreOfOtherCalls, Came, made, entries_of, HavePassed}
use Rattle.call_placement.specs.Placed.{state_at, StandAt, StandInOrder, Lawful}

module _ {A : Type 0} where
  pub filter_none : (p : A → Bool) (xs : List A) → All (λ x. p x ≡ false) xs → filter p xs ≡ []
  filter_none p [] h = refl
  filter_none p (x ∷ xs) h = rw (All-head (λ y. p y ≡ false) x xs h) (filter_none p xs (All-tail (λ y. p y ≡ false) x xs h))

  pub length_of : (xs ys zs : List A) → zs ≡ xs ++ ys → length zs ≡ length xs + length ys
  length_of xs ys zs is = ap length is ∙ length-append xs ys

  pub length_front : (xs ys zs : List A) → zs ≡ xs ++ ys → length xs ≤ length zs
  length_front xs ys zs is = omega (arith, length_of xs ys zs is)

  -- a front of a list with more behind it
  pub further : (xs ys zs more : List A) (whole : List A) → whole ≡ ys ++ more → ys ≡ xs ++ zs → whole ≡ xs ++ (zs ++ more)
  further xs ys zs more whole is front = is ∙ (ap (λ w. w ++ more) front ∙ append_assoc xs zs more)

  pub take_front : (xs ys whole : List A) → whole ≡ xs ++ ys → take (length xs) whole ≡ xs
  take_front xs ys whole is = ap (take (length xs)) is ∙ take-append_seam xs ys

  pub drop_front : (xs ys whole : List A) → whole ≡ xs ++ ys → drop (length xs) whole ≡ ys
  drop_front xs ys whole is = ap (drop (length xs)) is ∙ drop-append_seam xs ys

module _ {Entry State Operation Request Fixed Point Met Reply : Type 0} (rules : Rules Entry State Operation Request Fixed Point Met Reply) where
  pub replay_append : (state : State) (xs ys : List Entry) → replay rules state (xs ++ ys) ≡ replay rules (replay rules state xs) ys
  replay_append state [] ys = refl
  replay_append state (x ∷ xs) ys = replay_append (rules.after state x) xs ys

  pub stays_shut : Lawful rules → (state : State) (xs : List Entry) → rules.is_shut state ≡ true → rules.is_shut (replay rules state xs) ≡ true
  stays_shut law state [] shut = shut
  stays_shut law state (x ∷ xs) shut = stays_shut law (rules.after state x) xs (law.stays_shut state x shut)

  -- a history that was shut stays so
  pub shut_on : Lawful rules → (opened : State) (xs ys whole : List Entry) → whole ≡ xs ++ ys → rules.is_shut (replay rules opened xs) ≡ true
      → rules.is_shut (replay rules opened whole) ≡ true
  shut_on law opened xs ys whole is shut =
      ap (λ w. rules.is_shut (replay rules opened w)) is ∙ (ap rules.is_shut (replay_append opened xs ys) ∙ stays_shut law (replay rules opened xs) ys shut)

  -- the state where a front ends
  pub state_front : (opened : State) (xs ys whole : List Entry) → whole ≡ xs ++ ys → state_at rules opened whole (length xs) ≡ replay rules opened xs
  state_front opened xs ys whole is = ap (replay rules opened) (take_front xs ys whole is)

  pub stand_front : (xs some ys whole : List Entry) → whole ≡ (xs ++ some) ++ ys → StandAt rules whole (length xs) some
  stand_front xs some ys whole is = (ys, drop_front xs (some ++ ys) whole (is ∙ append_assoc xs some ys))

  -- ---- whose entries these are

  other_own : (by : Caller) (entry : Entry) → (rules.maker entry).seat ≢ by.seat → is_own rules by entry ≡ false
  other_own by entry other = ap (λ b. b && eqb (rules.maker entry).call by.call) (ne_eqb (rules.maker entry).seat by.seat other)

  pub others_apart : (by : Caller) (xs : List Entry) → AreOfOtherSeats rules by.seat xs → AreOfOtherCalls rules by xs
  others_apart by xs others k d lt = other_own by _ (others k d lt)

  pub none_of_others : (by : Caller) (xs : List Entry) → AreOfOtherSeats rules by.seat xs → filter (is_own rules by) xs ≡ []
  none_of_others by xs others = filter_none (is_own rules by) xs (others_apart by xs others)

  made_by : (by : Caller) (entry : Entry) → rules.maker entry ≡ by → is_own rules by entry ≡ true
  made_by by entry is =
      ap (λ b. b && eqb (rules.maker entry).call by.call) (eq-eqb (rules.maker entry).seat by.seat (ap (λ c. c.seat) is))
      ∙ eq-eqb (rules.maker entry).call by.call (ap (λ c. c.call) is)

  pub accepted_own : Lawful rules → (by : Caller) (operation : Operation) → is_own rules by (rules.accepted by operation) ≡ true
  accepted_own law by operation = made_by by _ (law.of_accepted by operation)

  pub faulted_own : Lawful rules → (by : Caller) (operation : Operation) → is_own rules by (rules.faulted by operation) ≡ true
  faulted_own law by operation = made_by by _ (law.of_faulted by operation)

  pub one_own : (by : Caller) (entry : Entry) → is_own rules by entry ≡ true → filter (is_own rules by) (entry ∷ []) ≡ entry ∷ []
  one_own by entry is = rw is refl

  pub made_own : Lawful rules → (by : Caller) (o : Option Operation) → filter (is_own rules by) (made rules by o) ≡ made rules by o
  made_own law by None = refl
  made_own law by (Some operation) = one_own by _ (accepted_own law by operation)

  -- what came, and then entries of the call's own
  pub own_behind : (by : Caller) (others own : List Entry) → AreOfOtherSeats rules by.seat others → filter (is_own rules by) own ≡ own
      → filter (is_own rules by) (others ++ own) ≡ own
  own_behind by others own apart is =
      filter-append (is_own rules by) others own ∙ (ap (λ w. w ++ filter (is_own rules by) own) (none_of_others by others apart) ∙ is)

  -- ---- points

  pub entries_append : (by : Caller) (ps qs : List Point) → entries_of rules by (ps ++ qs) ≡ entries_of rules by ps ++ entries_of rules by qs
  entries_append by [] qs = refl
  entries_append by (p ∷ ps) qs =
      ap (λ w. made rules by (rules.makes p) ++ w) (entries_append by ps qs)
      ∙ sym (append_assoc (made rules by (rules.makes p)) (entries_of rules by ps) (entries_of rules by qs))

  -- what points that passed added, and which of it is the call's own
  abbrev pub Added : Caller → (seen next own : List Entry) → Type 0
  Added by seen next own = (added : List Entry) × (next ≡ seen ++ added) × (filter (is_own rules by) added ≡ own)

  pub added_both : (by : Caller) (seen between next one two : List Entry) → Added by seen between one → Added by between next two
      → Added by seen next (one ++ two)
  added_both by seen between next one two a b = (
    a.0 ++ b.0,
    further seen between a.0 b.0 next b.1 a.1,
    filter-append (is_own rules by) a.0 b.0 ∙ (ap (λ w. w ++ filter (is_own rules by) b.0) a.2 ∙ ap (λ w. one ++ w) b.2),
  )

  pub came_made : (by : Caller) (seen found next own : List Entry) → Came rules by seen found → next ≡ found ++ own
      → filter (is_own rules by) own ≡ own → Added by seen next own
  came_made by seen found next own came is mine =
      (came.0 ++ own, further seen found came.0 own next is came.2, own_behind by came.0 own came.1 mine)

  pub came_added : (by : Caller) (seen found : List Entry) → Came rules by seen found → Added by seen found []
  came_added by seen found came = (came.0, came.2, none_of_others by came.0 came.1)

  pub passed_added : Lawful rules → (opened : State) (by : Caller) (request : Request) (points : List Point) (seen next : List Entry)
      → HavePassed rules opened by request points seen next → Added by seen next (entries_of rules by points)
  passed_added law opened by request [] seen next is = ([], is ∙ sym (append-nil seen), refl)
  passed_added law opened by request (p ∷ ps) seen next walked =
      added_both by seen walked.0 next _ _
      (came_made by seen walked.1.0 walked.0 (made rules by (rules.makes p)) walked.1.1 walked.1.3 (made_own law by (rules.makes p)))
      (passed_added law opened by request ps walked.0 next walked.2)

  -- they stand in order
  pub passed_order : Lawful rules → (opened : State) (by : Caller) (request : Request) (points : List Point) (seen next rest whole : List Entry)
      → HavePassed rules opened by request points seen next → whole ≡ next ++ rest
      → StandInOrder rules opened by request whole (length seen) points (length next)
  passed_order law opened by request [] seen next rest whole is whole_is = ap length is
  passed_order law opened by request (p ∷ ps) seen next rest whole walked whole_is =
      let own = made rules by (rules.makes p) in
      let between = walked.0 in
      let found = walked.1.0 in
      let more = passed_added law opened by request ps between next walked.2 in
      let here : whole ≡ between ++ (more.0 ++ rest) = further between next more.0 rest whole whole_is more.1 in
      let at_found : whole ≡ (found ++ own) ++ (more.0 ++ rest) = here ∙ ap (λ w. w ++ (more.0 ++ rest)) walked.1.3 in (
        length found,
        length_front seen walked.1.1.0 found walked.1.1.2,
        subst (λ s. rules.passes by request p s)
            (sym (state_front opened found (own ++ (more.0 ++ rest)) whole (at_found ∙ append_assoc found own (more.0 ++ rest)))) walked.1.2,
        stand_front found own (more.0 ++ rest) whole at_found,
        subst (λ k. StandInOrder rules opened by request whole k ps (length next)) (length_of found own between walked.1.3)
            (passed_order law opened by request ps between next rest whole walked.2 whole_is),
      )

  -- from an earlier position on
  pub order_from : (opened : State) (by : Caller) (request : Request) (whole : List Entry) (points : List Point) (edge from reached : ℕ) → edge ≤ from
      → StandInOrder rules opened by request whole from points reached → (r : ℕ) × (r ≤ reached) × StandInOrder rules opened by request whole edge points r
  order_from opened by request whole [] edge from reached le order = (edge, omega (arith, order), refl)
  order_from opened by request whole (p ∷ ps) edge from reached le order = (reached, omega arith, (order.0, omega (arith, order.1), order.2, order.3, order.4))

  -- and one point more
  pub order_more : (opened : State) (by : Caller) (request : Request) (whole : List Entry) (points : List Point) (last : Point) (from reached at : ℕ)
      → StandInOrder rules opened by request whole from points reached → reached ≤ at
      → rules.passes by request last (state_at rules opened whole at) → StandAt rules whole at (made rules by (rules.makes last))
      → StandInOrder rules opened by request whole from (points ++ last ∷ []) (at + length (made rules by (rules.makes last)))
  order_more opened by request whole [] last from reached at order le passes stand = (at, omega (arith, order), passes, stand, refl)
  order_more opened by request whole (p ∷ ps) last from reached at order le passes stand =
      (order.0, order.1, order.2, order.3, order_more opened by request whole ps last _ reached at order.4 le passes stand)

  -- ---- what a flow goes by

  pub are_others : (seat : ℕ) (xs : List Entry) → filter (λ entry. eqb (rules.maker entry).seat seat) xs ≡ [] → AreOfOtherSeats rules seat xs
  are_others seat [] none = All-nil (λ entry. (rules.maker entry).seat ≢ seat)
  are_others seat (x ∷ xs) none = pick (eqb (rules.maker x).seat seat) refl none (λ rest. are_others seat xs rest)
    where
      pick : (b : Bool) → eqb (rules.maker x).seat seat ≡ b → cond b (x ∷ filter (λ entry. eqb (rules.maker entry).seat seat) xs)
          (filter (λ entry. eqb (rules.maker entry).seat seat) xs) ≡ []
          → (filter (λ entry. eqb (rules.maker entry).seat seat) xs ≡ [] → AreOfOtherSeats rules seat xs) → AreOfOtherSeats rules seat (x ∷ xs)
      pick true is some others = absurd (cc (some))
      pick false is rest others = All-cons (λ entry. (rules.maker entry).seat ≢ seat) x xs
          (λ same. absurd (cc (is, eq-eqb (rules.maker x).seat seat same))) (others rest)

  pub nothing_came : (by : Caller) (seen : List Entry) → Came rules by seen seen
  nothing_came by seen = ([], All-nil (λ entry. (rules.maker entry).seat ≢ by.seat), sym (append-nil seen))

  pub came_on : (by : Caller) (seen between found : List Entry) → Came rules by seen between → Came rules by between found → Came rules by seen found
  came_on by seen between found a b =
      (a.0 ++ b.0, All-append (λ entry. (rules.maker entry).seat ≢ by.seat) a.0 b.0 a.1 b.1, further seen between a.0 b.0 found b.2 a.2)

  pub one_point_more : (opened : State) (by : Caller) (request : Request) (points : List Point) (point : Point) (seen between next : List Entry)
      → HavePassed rules opened by request points seen between → HasPassed rules opened by request point between next
      → HavePassed rules opened by request (points ++ point ∷ []) seen next
  one_point_more opened by request [] point seen between next walked passed =
      (next, subst (λ w. HasPassed rules opened by request point w next) walked passed, refl)
  one_point_more opened by request (p ∷ ps) point seen between next walked passed =
      (walked.0, walked.1, one_point_more opened by request ps point walked.0 between next walked.2 passed)
