-- A call whose seat is alone goes the one-seat course, which has one value.
use Rattle.std.proofs.Common.{◌≡◌, ℕ, List, [], ◌∷◌, ◌++◌, length, Bool, true, false, refl, ap, sym, ◌∙◌, append_assoc, subst}
use Rattle.std.specs.Prelude.{All, Option, Some, None}
use mathlib.Core.Logic.{inl, inr}
use Rattle.std.proofs.lemmas.List.{append-nil, append_cancel_left}
use Rattle.std.proofs.lemmas.List.Elements.{All-nil, All-cons, All-head, All-tail}
use Rattle.call_placement.specs.Rules.{Caller, Rules}
use Rattle.call_placement.specs.Points.{replay, is_own, AreOfOtherCalls, Came, made, entries_of, HavePassed}
use Rattle.call_placement.specs.Served.{ByState, ByCause, ByLateCause, ByMemory, IsOfFault, GivesUp, OwesNothing, GivenUp, Shut, Keeps, Ends, Done, Stopped}
use Rattle.call_placement.specs.Served.{Faulted, Broken, IsServed}
use Rattle.call_placement.specs.Placed.{Lawful}
use Rattle.call_placement.specs.Alone.{Pass, given_up, EndsAlone, DoneAlone, RefusedAlone, GoesAlone, IsPlain, AreOwn}
use Rattle.call_placement.proofs.WalkLemmas.{further, others_apart, passed_added}
use Rattle.call_placement.proofs.PlacedLemmas.{given_front, ends_front}

module _ {A : Type 0} (P : A → Type 0) where
  pub all_front : (xs ys : List A) → All P (xs ++ ys) → All P xs
  all_front [] ys h = All-nil P
  all_front (x ∷ xs) ys h = All-cons P x xs (All-head P x (xs ++ ys) h) (all_front xs ys (All-tail P x (xs ++ ys) h))

  pub all_rest : (xs ys : List A) → All P (xs ++ ys) → All P ys
  all_rest [] ys h = h
  all_rest (x ∷ xs) ys h = all_rest xs ys (All-tail P x (xs ++ ys) h)

clash : (b : Bool) → b ≡ true → b ≡ false → ⊥
clash b one two = absurd (cc (one, two))

module _ {Entry State Operation Request Fixed Point Met Reply : Type 0} (rules : Rules Entry State Operation Request Fixed Point Met Reply) where
  -- of own entries none is another's
  none_came : (by : Caller) (xs : List Entry) → AreOfOtherCalls rules by xs → AreOwn rules by xs → xs ≡ []
  none_came by [] apart own = refl
  none_came by (x ∷ xs) apart own =
      absurd (clash _ (All-head (λ entry. is_own rules by entry ≡ true) x xs own) (All-head (λ entry. is_own rules by entry ≡ false) x xs apart))

  -- what came behind what was seen is the call's own
  abbrev Own : Caller → (seen next : List Entry) → Type 0
  Own by seen next = (added : List Entry) × (next ≡ seen ++ added) × AreOwn rules by added

  own_parts : (by : Caller) (seen between next a b : List Entry) → between ≡ seen ++ a → next ≡ between ++ b → Own by seen next
      → AreOwn rules by a × AreOwn rules by b
  own_parts by seen between next a b one two own =
      let whole : own.0 ≡ a ++ b = append_cancel_left seen own.0 (a ++ b) (sym own.1 ∙ further seen between a b next two one) in
      let all : AreOwn rules by (a ++ b) = subst (λ w. AreOwn rules by w) whole own.2 in
      (all_front (λ entry. is_own rules by entry ≡ true) a b all, all_rest (λ entry. is_own rules by entry ≡ true) a b all)

  none_found : (by : Caller) (seen found next rest : List Entry) → Came rules by seen found → next ≡ found ++ rest → Own by seen next → found ≡ seen
  none_found by seen found next rest came is own =
      let parts = own_parts by seen found next came.0 rest came.2 is own in
      came.2 ∙ (ap (λ w. seen ++ w) (none_came by came.0 (others_apart rules by came.0 came.1) parts.0) ∙ append-nil seen)

  -- points that passed, where nothing of others came
  alone_points : Lawful rules → (opened : State) (by : Caller) (request : Request) (points : List Point) (seen next : List Entry)
      → HavePassed rules opened by request points seen next → Own by seen next
      → Pass rules opened by request points seen × (next ≡ seen ++ entries_of rules by points)
  alone_points law opened by request [] seen next walked own = (tt, walked ∙ sym (append-nil seen))
  alone_points law opened by request (p ∷ ps) seen next walked own =
      let m = made rules by (rules.makes p) in
      let between = walked.0 in
      let found = walked.1.0 in
      let came = walked.1.1 in
      let rest = passed_added rules law opened by request ps between next walked.2 in
      let first : between ≡ seen ++ (came.0 ++ m) = further seen found came.0 m between walked.1.3 came.2 in
      let parts = own_parts by seen between next (came.0 ++ m) rest.0 first rest.1 own in
      let same : found ≡ seen = none_found by seen found between m came walked.1.3 (came.0 ++ m, first, parts.0) in
      let between_is : between ≡ seen ++ m = walked.1.3 ∙ ap (λ w. w ++ m) same in
      let more = alone_points law opened by request ps between next walked.2 (rest.0, rest.1, parts.1) in (
        (
          subst (λ w. rules.passes by request p (replay rules opened w)) same walked.1.2,
          subst (λ w. Pass rules opened by request ps w) between_is more.0,
        ),
        more.1 ∙ (ap (λ w. w ++ entries_of rules by ps) between_is ∙ append_assoc seen m (entries_of rules by ps)),
      )

  -- what it gave up
  alone_given : (opened : State) (by : Caller) (owed : Option Operation) (reply : Reply) (edge : ℕ) (found next more : List Entry)
      → GivesUp rules opened by owed reply found next edge → (rules.is_no_memory reply → ⊥) → next ≡ found ++ more → AreOwn rules by more
      → more ≡ given_up rules by owed (rules.is_shut (replay rules opened found))
  alone_given opened by owed reply edge found next more (OwesNothing none same edge_is) plain is own =
      let nil : more ≡ [] = append_cancel_left found more [] (sym is ∙ (same ∙ sym (append-nil found))) in
      nil ∙ sym (ap (λ o. given_up rules by o (rules.is_shut (replay rules opened found))) none ∙ empty (rules.is_shut (replay rules opened found)))
    where
      empty : (b : Bool) → given_up rules by None b ≡ []
      empty true = refl
      empty false = refl
  alone_given opened by owed reply edge found next more (GivenUp operation seen owes came takes is_next edge_is) plain is own =
      let entry = rules.accepted by operation in
      let same : seen ≡ found = none_found by found seen next (entry ∷ []) came is_next (more, is, own) in
      let one : more ≡ entry ∷ [] = append_cancel_left found more (entry ∷ []) (sym is ∙ (is_next ∙ ap (λ w. w ++ entry ∷ []) same)) in
      one ∙ sym (ap (λ o. given_up rules by o (rules.is_shut (replay rules opened found))) owes
      ∙ ap (λ b. given_up rules by (Some operation) b) (subst (λ w. rules.is_shut (replay rules opened w) ≡ false) same takes))
  alone_given opened by owed reply edge found next more (Shut came shut edge_is) plain is own =
      let same : next ≡ found = none_found by found next next [] came (sym (append-nil next)) (more, is, own) in
      let nil : more ≡ [] = append_cancel_left found more [] (sym is ∙ (same ∙ sym (append-nil found))) in
      nil ∙ sym (ap (λ b. given_up rules by owed b) (subst (λ w. rules.is_shut (replay rules opened w) ≡ true) same shut))
  alone_given opened by owed reply edge found next more (Keeps want same edge_is) plain is own = absurd (plain want)

  no_fault : (opened : State) (by : Caller) (before : List Entry) (request : Request) (met : Met) (reply : Reply)
      → IsPlain rules opened by before request met reply
      → IsOfFault rules met reply → ⊥
  no_fault opened by before request met reply plain (inl fails) = plain.store fails
  no_fault opened by before request met reply plain (inr want) = plain.memory want

  -- how it ended
  alone_end : (opened : State) (by : Caller) (before done : List Entry) (request : Request) (met : Met) (course passed left : List Point) (seen : List Entry)
      (reply : Reply)
      (position edge : ℕ) (next more : List Entry)
      → seen ≡ before ++ done → AreOwn rules by done
      → Ends rules opened by request met (length before) course passed left seen reply position edge next
      → IsPlain rules opened by before request met reply → next ≡ seen ++ more → AreOwn rules by more
      → EndsAlone rules by request met course passed left (replay rules opened seen) reply more
  alone_end opened by before done request met course passed left seen reply position edge next more seen_is done_own
      (Done last found left_is came passes answers is at edge_is) plain
      next_is own =
      let m = made rules by (rules.makes last) in
      let same : found ≡ seen = none_found by seen found next m came is (more, next_is, own) in
      DoneAlone last left_is (subst (λ w. rules.passes by request last (replay rules opened w)) same passes)
      (subst (λ w. rules.answers by request met course (replay rules opened w) reply) same answers)
      (append_cancel_left seen more m (sym next_is ∙ (is ∙ ap (λ w. w ++ m) same)))
  alone_end opened by before done request met course passed left seen reply position edge next more seen_is done_own
      (Stopped found came (ByState point later left_is refuses) at up)
      plain next_is own =
      let front = given_front rules opened by (rules.owed request passed) reply edge found next up in
      let same : found ≡ seen = none_found by seen found next front.0 came front.1 (more, next_is, own) in
      RefusedAlone point later left_is (subst (λ w. rules.refuses by request point (replay rules opened w) reply) same refuses)
      (alone_given opened by (rules.owed request passed) reply edge found next more up plain.memory (next_is ∙ ap (λ w. w ++ more) (sym same)) own
      ∙ ap (λ w. given_up rules by (rules.owed request passed) (rules.is_shut (replay rules opened w))) same)
  alone_end opened by before done request met course passed left seen reply position edge next more seen_is done_own
      (Stopped found came (ByCause some cause) at up) plain next_is own =
      let front = given_front rules opened by (rules.owed request passed) reply edge found next up in
      let same : found ≡ before ++ done = none_found by seen found next front.0 came front.1 (more, next_is, own) ∙ seen_is in
      absurd (plain.cause left done some done_own (subst (λ w. rules.excepts by request left met opened (length before) w reply) same cause))
  alone_end opened by before done request met course passed left seen reply position edge next more seen_is done_own
      (Stopped found came (ByLateCause none cause) at up)
      plain next_is own =
      let front = given_front rules opened by (rules.owed request passed) reply edge found next up in
      let same : found ≡ before ++ done = none_found by seen found next front.0 came front.1 (more, next_is, own) ∙ seen_is in
      absurd (plain.late_cause done done_own (subst (λ w. rules.excepts_behind by request met opened (length before) w reply) same cause))
  alone_end opened by before done request met course passed left seen reply position edge next more seen_is done_own
      (Stopped found came (ByMemory want) at up) plain next_is own =
      absurd (plain.memory want)
  alone_end opened by before done request met course passed left seen reply position edge next more seen_is done_own
      (Faulted point rest operation found left_is makes came passes fails is at edge_is) plain next_is own =
      absurd (no_fault opened by before request met reply plain fails)
  alone_end opened by before done request met course passed left seen reply position edge next more seen_is done_own
      (Broken refusal operation hindered found first hinders owes came takes fails is at edge_is) plain next_is own =
      absurd (no_fault opened by before request met reply plain fails)

  -- A CALL WHOSE SEAT IS ALONE GOES THE ONE-SEAT COURSE, where no exception was met
  pub goes_alone : Lawful rules → (opened : State) (by : Caller) (before after added : List Entry) (request : Request) (met : Met) (reply : Reply)
      (position edge : ℕ)
      → IsServed rules opened by before after request met reply position edge
      → IsPlain rules opened by before request met reply → after ≡ before ++ added → AreOwn rules by added
      → GoesAlone rules opened by before request met reply added
  goes_alone law opened by before after added request met reply position edge s plain after_is own =
      let a = passed_added rules law opened by request s.passed before s.seen s.points in
      let e = ends_front rules opened by request met (length before) (rules.course request s.fixed) s.passed s.left s.seen reply position edge s.next s.ended in
      let behind_seen : after ≡ s.seen ++ (e.0 ++ s.later) = further s.seen s.next e.0 s.later after s.whole e.1 in
      let parts = own_parts by before s.seen after a.0 (e.0 ++ s.later) a.1 behind_seen (added, after_is, own) in
      let p : Entry → Type 0 = λ entry. is_own rules by entry ≡ true in
      let points = alone_points law opened by request s.passed before s.seen s.points (a.0, a.1, parts.0) in
      let none : s.later ≡ [] = none_came by s.later s.apart (all_rest p e.0 s.later parts.1) in
      let ended = alone_end opened by before a.0 request met (rules.course request s.fixed) s.passed s.left s.seen reply position edge s.next e.0
      a.1 parts.0
      s.ended plain e.1 (all_front p e.0 s.later parts.1) in
      record {
        fixed = s.fixed;
        passed = s.passed;
        left = s.left;
        course = s.course;
        points = points.0;
        more = e.0;
        added_is = append_cancel_left before added (entries_of rules by s.passed ++ e.0)
            (sym after_is ∙ (behind_seen ∙ (ap (λ w. s.seen ++ (e.0 ++ w)) none ∙ (ap (λ w. s.seen ++ w) (append-nil e.0)
            ∙ (ap (λ w. w ++ e.0) points.1 ∙ append_assoc before (entries_of rules by s.passed) e.0)))));
        ended = subst (λ w. EndsAlone rules by request met (rules.course request s.fixed) s.passed s.left (replay rules opened w) reply e.0) points.1 ended;
      }
