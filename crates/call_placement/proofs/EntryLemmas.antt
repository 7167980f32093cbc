-- The own entries of a placed call, by whether it is done.
use Rattle.std.proofs.Common.{◌≡◌, ◌≢◌, ℕ, ◌+◌, List, [], ◌∷◌, ◌++◌, Bool, true, false, take, refl, ap, sym, ◌∙◌, append_assoc, subst}
use Rattle.std.specs.Prelude.{◌⊎◌, All, Option, Some, None}
use mathlib.Core.Logic.{inl, inr}
use Rattle.std.proofs.lemmas.List.{append-nil}
use Rattle.std.proofs.lemmas.List.Elements.{All-nil, All-cons, All-append}
use Rattle.call_placement.specs.Rules.{Caller, Rules}
use Rattle.call_placement.specs.Points.{made, entries_of}
use Rattle.call_placement.specs.Sessions.{Item}
use Rattle.call_placement.specs.Placed.{own_entries, StandAt, IsSettled, IsDecided, ByCourse, ByRefusal, ByException, ByLateException, ByMemory, ByFault}
use Rattle.call_placement.specs.Placed.{IsPlaced, IsOneMore, LacksLast, TellsDone, TellsFault}
use Rattle.call_placement.proofs.WalkLemmas.{entries_append}

clash : (b : Bool) → b ≡ true → b ≡ false → ⊥
clash b one two = absurd (cc (one, two))

some_left : {A : Type 0} (xs rest : List A) (x : A) → xs ≡ x ∷ rest → xs ≢ []
some_left xs rest x is none = absurd (cc (is, none))

-- the last of some points
last_point : {A : Type 0} (x : A) (xs : List A) → (front : List A) × (last : A) × (x ∷ xs ≡ front ++ last ∷ [])
last_point x [] = ([], x, refl)
last_point x (y ∷ ys) = let s = last_point y ys in (x ∷ s.0, s.1, ap (λ w. x ∷ w) s.2)

rest_nil : {A : Type 0} (xs ys : List A) → xs ++ ys ≡ [] → ys ≡ []
rest_nil [] ys is = is
rest_nil (x ∷ xs) ys is = absurd (cc (is))

module _ {Entry State Operation Request Fixed Point Met Reply : Type 0} (rules : Rules Entry State Operation Request Fixed Point Met Reply)
    (opened : State) (by : Caller) (edge : ℕ) (entries : List Entry) (item : Item Request Met Reply) where
  settled : (passed : List Point) (added : List Entry) → IsSettled rules opened by entries (rules.owed item.request passed) added
      → IsOneMore rules by item.request passed added
  settled passed added (inl none) = inl none.1
  settled passed added (inr (inl gave)) = inr (inl gave)
  settled passed added (inr (inr shut)) = inl shut.0

  -- what stands behind the entries of the points that passed
  pub one_more : (passed left : List Point) (reached : ℕ) (added : List Entry) → IsDecided rules opened by edge entries item passed left reached added
      → IsOneMore rules by item.request passed added
  one_more passed left reached added (ByCourse front last at none nothing is long place answers) = inl nothing
  one_more passed left reached added (ByRefusal point later left_is refuses given) = settled passed added given
  one_more passed left reached added (ByException some cause given) = settled passed added given
  one_more passed left reached added (ByLateException none cause given) = settled passed added given
  one_more passed left reached added (ByMemory want (inl none)) = inl none
  one_more passed left reached added (ByMemory want (inr gave)) = inr (inl gave)
  one_more passed left reached added (ByFault operation at tried fails is stands place) = inr (inr (operation, is))

module _ {Entry State Operation Request Fixed Point Met Reply : Type 0} (rules : Rules Entry State Operation Request Fixed Point Met Reply)
    (tells : TellsDone rules) (opened : State) (by : Caller) (edge : ℕ) (entries : List Entry) (item : Item Request Met Reply) where
  -- a call that is done passed its course, and added no more
  all_passed : (passed left : List Point) (reached : ℕ) (added : List Entry) → IsDecided rules opened by edge entries item passed left reached added
      → rules.is_done item.reply ≡ true → (left ≡ []) × (added ≡ [])
  all_passed passed left reached added (ByCourse front last at none nothing is long place answers) done = (none, nothing)
  all_passed passed left reached added (ByRefusal point later left_is refuses given) done =
      absurd (clash _ done (tells.refused by item.request point _ item.reply refuses))
  all_passed passed left reached added (ByException some cause given) done =
      absurd (clash _ done (tells.excepted by item.request left item.met opened edge _ item.reply cause))
  all_passed passed left reached added (ByLateException none cause given) done =
      absurd (clash _ done (tells.excepted_behind by item.request item.met opened edge _ item.reply cause))
  all_passed passed left reached added (ByMemory want maybe) done = absurd (clash _ done (tells.starved item.reply want))
  all_passed passed left reached added (ByFault operation at tried (inl fails) is stands place) done =
      absurd (clash _ done (tells.failed item.met item.reply fails))
  all_passed passed left reached added (ByFault operation at tried (inr want) is stands place) done =
      absurd (clash _ done (tells.starved item.reply want))

  -- the reply that memory ran out, or one whose cause comes behind the course
  abbrev IsLate : Type 0
  IsLate = rules.is_no_memory item.reply ⊎ rules.excepts_behind by item.request item.met opened edge (take item.position entries) item.reply

  -- of one that isn't, points are left
  lacks : (fixed : Fixed) (passed left : List Point) (reached : ℕ) (added : List Entry) → rules.course item.request fixed ≡ passed ++ left
      → IsDecided rules opened by edge entries item passed left reached added → rules.is_done item.reply ≡ false → (left ≢ []) ⊎ IsLate
  lacks fixed passed left reached added course (ByCourse front last at none nothing is long place answers) undone =
      absurd (clash _ (tells.answered by item.request item.met passed _ item.reply answers) undone)
  lacks fixed passed left reached added course (ByRefusal point later left_is refuses given) undone = inl (some_left left later point left_is)
  lacks fixed passed left reached added course (ByException some cause given) undone = inl some
  lacks fixed passed left reached added course (ByLateException none cause given) undone = inr (inr cause)
  lacks fixed passed left reached added course (ByMemory want maybe) undone = inr (inl want)
  lacks fixed passed left reached added course (ByFault operation at (inl tried) fails is stands place) undone =
      inl (some_left left tried.1 tried.0 tried.2)
  lacks fixed passed [] reached added course (ByFault operation at (inr owes) fails is stands place) undone =
      absurd (cc (owes.0, ap (rules.owed item.request) (sym (course ∙ append-nil passed)), tells.owes_nothing item.request fixed))
  lacks fixed passed (x ∷ xs) reached added course (ByFault operation at (inr owes) fails is stands place) undone = inl (some_left (x ∷ xs) xs x refl)

  -- the rest of a course makes an entry, if the course does
  rest_makes : (fixed : Fixed) (passed left : List Point) → rules.course item.request fixed ≡ passed ++ left → left ≢ []
      → (entries_of rules by left ≢ []) ⊎ (entries_of rules by (rules.course item.request fixed) ≡ [])
  rest_makes fixed passed [] course some = absurd (some refl)
  rest_makes fixed passed (x ∷ xs) course some =
      let s = last_point x xs in
      pick s (tells.last_makes item.request fixed (passed ++ s.0) s.1 (course ∙ (ap (λ w. passed ++ w) s.2 ∙ sym (append_assoc passed s.0 (s.1 ∷ [])))))
    where
      last_entry : (o : Option Operation) → o ≢ None → made rules by o ++ [] ≡ [] → ⊥
      last_entry None some is = some refl
      last_entry (Some operation) some is = absurd (cc (is))

      pick : (s : (front : List Point) × (last : Point) × (x ∷ xs ≡ front ++ last ∷ []))
          → (rules.makes s.1 ≢ None) ⊎ ((c : Caller) → entries_of rules c (rules.course item.request fixed) ≡ [])
          → (entries_of rules by (x ∷ xs) ≢ []) ⊎ (entries_of rules by (rules.course item.request fixed) ≡ [])
      pick s (inl makes) = inl (λ none. last_entry (rules.makes s.1) makes
          (rest_nil (entries_of rules by s.0) _ (sym (entries_append rules by s.0 (s.1 ∷ [])) ∙ (ap (entries_of rules by) (sym s.2) ∙ none))))
      pick s (inr none) = inr (none by)

  pub done_entries : (next : ℕ) (start : List Entry) (p : IsPlaced rules opened by edge next start entries item) → rules.is_done item.reply ≡ true
      → own_entries rules by start entries ≡ entries_of rules by (rules.course item.request p.fixed)
  done_entries next start p done =
      let all = all_passed p.passed p.left p.reached p.added p.decided done in
      p.own ∙ (ap (λ w. entries_of rules by p.passed ++ w) all.1 ∙ (append-nil (entries_of rules by p.passed)
      ∙ ap (entries_of rules by) (sym (p.course ∙ (ap (λ w. p.passed ++ w) all.0 ∙ append-nil p.passed)))))

  pub refused_lacks : (next : ℕ) (start : List Entry) (p : IsPlaced rules opened by edge next start entries item) → rules.is_done item.reply ≡ false
      → LacksLast rules by item.request (rules.course item.request p.fixed) (own_entries rules by start entries) ⊎ IsLate
  refused_lacks next start p undone = pick (lacks p.fixed p.passed p.left p.reached p.added p.course p.decided undone)
    where
      pick : (p.left ≢ []) ⊎ IsLate
          → LacksLast rules by item.request (rules.course item.request p.fixed) (own_entries rules by start entries) ⊎ IsLate
      pick (inr late) = inr late
      pick (inl some) = inl (record {
        passed = p.passed;
        left = p.left;
        parts = p.course;
        some_left = some;
        added = p.added;
        own_is = p.own;
        one_more = one_more rules opened by edge entries item p.passed p.left p.reached p.added p.decided;
        lacks = rest_makes p.fixed p.passed p.left p.course some;
      })

  -- a reply that the store failed has its note
  noted : TellsFault rules → (passed left : List Point) (reached : ℕ) (added : List Entry)
      → IsDecided rules opened by edge entries item passed left reached added
      → rules.store_fails item.met item.reply
      → (operation : Operation) × (at : ℕ) × (item.position ≡ at + 1) × StandAt rules entries at (rules.faulted by operation ∷ [])
      × (added ≡ rules.faulted by operation ∷ [])
  noted fault passed left reached added (ByCourse front last at none nothing is long place answers) fails =
      absurd (clash _ (tells.answered by item.request item.met passed _ item.reply answers) (tells.failed item.met item.reply fails))
  noted fault passed left reached added (ByRefusal point later left_is refuses given) fails =
      absurd (fault.not_refused by item.request point _ item.met item.reply fails refuses)
  noted fault passed left reached added (ByException some cause given) fails =
      absurd (fault.not_excepted by item.request left item.met opened edge _ item.reply fails cause)
  noted fault passed left reached added (ByLateException none cause given) fails =
      absurd (fault.not_excepted_behind by item.request item.met opened edge _ item.reply fails cause)
  noted fault passed left reached added (ByMemory want maybe) fails = absurd (fault.not_starved item.met item.reply fails want)
  noted fault passed left reached added (ByFault operation at tried says is stands place) fails =
      (operation, at, place, subst (λ w. StandAt rules entries at w) is stands, is)

  pub fault_noted : TellsFault rules → (next : ℕ) (start : List Entry) (p : IsPlaced rules opened by edge next start entries item)
      → rules.store_fails item.met item.reply
      → (operation : Operation) × (at : ℕ) × (item.position ≡ at + 1) × StandAt rules entries at (rules.faulted by operation ∷ [])
      × (own_entries rules by start entries ≡ entries_of rules by p.passed ++ rules.faulted by operation ∷ [])
  fault_noted fault next start p fails =
      let n = noted fault p.passed p.left p.reached p.added p.decided fails in
      (n.0, n.1, n.2, n.3, p.own ∙ ap (λ w. entries_of rules by p.passed ++ w) n.4)

module _ {Entry State Operation Request Fixed Point Met Reply : Type 0} (rules : Rules Entry State Operation Request Fixed Point Met Reply)
    (fault : TellsFault rules) (opened : State) (by : Caller) (edge : ℕ) (entries : List Entry) (item : Item Request Met Reply) where
  abbrev IsNoNote : Operation → Entry → Type 0
  IsNoNote operation entry = entry ≢ rules.faulted by operation

  one_accepted : (operation other : Operation) → All (IsNoNote operation) (rules.accepted by other ∷ [])
  one_accepted operation other = All-cons (IsNoNote operation) _ [] (fault.no_note by other operation) (All-nil (IsNoNote operation))

  made_none : (operation : Operation) (o : Option Operation) → All (IsNoNote operation) (made rules by o)
  made_none operation None = All-nil (IsNoNote operation)
  made_none operation (Some other) = one_accepted operation other

  points_none : (operation : Operation) (points : List Point) → All (IsNoNote operation) (entries_of rules by points)
  points_none operation [] = All-nil (IsNoNote operation)
  points_none operation (point ∷ points) =
      All-append (IsNoNote operation) (made rules by (rules.makes point)) (entries_of rules by points) (made_none operation (rules.makes point))
      (points_none operation points)

  given_none : (operation : Operation) (passed : List Point) (added : List Entry)
      → IsSettled rules opened by entries (rules.owed item.request passed) added → All (IsNoNote operation) added
  given_none operation passed added (inl none) = subst (All (IsNoNote operation)) (sym none.1) (All-nil (IsNoNote operation))
  given_none operation passed added (inr (inl gave)) = subst (All (IsNoNote operation)) (sym gave.2) (one_accepted operation gave.0)
  given_none operation passed added (inr (inr shut)) = subst (All (IsNoNote operation)) (sym shut.0) (All-nil (IsNoNote operation))

  added_none : (operation : Operation) (passed left : List Point) (reached : ℕ) (added : List Entry)
      → IsDecided rules opened by edge entries item passed left reached added
      → (rules.store_fails item.met item.reply → ⊥) → (rules.is_no_memory item.reply → ⊥) → All (IsNoNote operation) added
  added_none operation passed left reached added (ByFault other at tried (inl fails) is stands place) no_fault no_want = absurd (no_fault fails)
  added_none operation passed left reached added (ByFault other at tried (inr want) is stands place) no_fault no_want = absurd (no_want want)
  added_none operation passed left reached added (ByMemory want maybe) no_fault no_want = absurd (no_want want)
  added_none operation passed left reached added (ByCourse front last at none nothing is long place answers) no_fault no_want =
      subst (All (IsNoNote operation)) (sym nothing) (All-nil (IsNoNote operation))
  added_none operation passed left reached added (ByRefusal point later left_is refuses given) no_fault no_want = given_none operation passed added given
  added_none operation passed left reached added (ByException some cause given) no_fault no_want = given_none operation passed added given
  added_none operation passed left reached added (ByLateException none cause given) no_fault no_want = given_none operation passed added given

  -- a call that says nothing of a fault has no note
  pub none_noted : (next : ℕ) (start : List Entry) → IsPlaced rules opened by edge next start entries item
      → (rules.store_fails item.met item.reply → ⊥) → (rules.is_no_memory item.reply → ⊥) → (operation : Operation)
      → All (λ entry. entry ≢ rules.faulted by operation) (own_entries rules by start entries)
  none_noted next start p no_fault no_want operation =
      subst (All (IsNoNote operation)) (sym p.own)
      (All-append (IsNoNote operation) (entries_of rules by p.passed) p.added (points_none operation p.passed)
      (added_none operation p.passed p.left p.reached p.added p.decided no_fault no_want))
