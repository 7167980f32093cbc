-- A served call is placed.
use Rattle.std.proofs.Common.{◌≡◌, ℕ, ◌+◌, ◌-◌, ◌≤◌, List, [], ◌∷◌, ◌++◌, length, take, drop, true, false, refl, ap, sym, ◌∙◌, arith, append_assoc, subst}
use Rattle.std.specs.Prelude.{◌⊎◌, max, filter, Option, Some}
use mathlib.Core.Logic.{inl, inr}
use Rattle.std.proofs.lemmas.List.{append-nil, take-append-le}
use Rattle.std.proofs.lemmas.List.Elements.{All-take, filter-append}
use Rattle.std.proofs.Math.Seq.{take-append-add}
use Rattle.std.proofs.Math.Nat.{max-le, le-max_right}
use Rattle.call_placement.specs.Rules.{Caller, Rules}
use Rattle.call_placement.specs.Points.{is_own, AreOfOtherCalls, Came, made, entries_of}
use Rattle.call_placement.specs.Served.{Hinders, ByState, ByCause, ByLateCause, ByMemory, IsOfFault, GivesUp, OwesNothing, GivenUp, Shut, Keeps, Ends, Done}
use Rattle.call_placement.specs.Served.{Stopped, Faulted, Broken, IsServed}
use Rattle.call_placement.specs.Sessions.{Item}
use Rattle.call_placement.specs.Placed.{state_at, own_entries, StandAt, StandInOrder, IsSettled, IsTried, IsDecided, ByCourse, ByRefusal, ByException}
use Rattle.call_placement.specs.Placed.{ByLateException, ByFault, ByMemory as ByWant, IsPlaced, Lawful}
use Rattle.call_placement.proofs.WalkLemmas.{came_on, length_of, length_front, further, take_front, drop_front, filter_none, shut_on, state_front, stand_front}
use Rattle.call_placement.proofs.WalkLemmas.{none_of_others, accepted_own, faulted_own, one_own, made_own, entries_append, Added, added_both, came_made}
use Rattle.call_placement.proofs.WalkLemmas.{came_added, passed_added, passed_order, order_from, order_more}

pub max_is : (a b : ℕ) → a ≤ b → max a b ≡ b
max_is a b le = let up : max a b ≤ b = max-le le (omega arith) in omega (arith, up, le-max_right a b)

-- ---- what an end leaves goes on from what was seen

module _ {Entry State Operation Request Fixed Point Met Reply : Type 0} (rules : Rules Entry State Operation Request Fixed Point Met Reply)
    (opened : State) (by : Caller) where
  pub given_front : (owed : Option Operation) (reply : Reply) (edge : ℕ) (found next : List Entry)
      → GivesUp rules opened by owed reply found next edge → (more : List Entry) × (next ≡ found ++ more)
  given_front owed reply edge found next (OwesNothing none same edge_is) = ([], same ∙ sym (append-nil found))
  given_front owed reply edge found next (GivenUp operation seen owes came takes is edge_is) =
      let own = rules.accepted by operation ∷ [] in (came.0 ++ own, further found seen came.0 own next is came.2)
  given_front owed reply edge found next (Shut came shut edge_is) = (came.0, came.2)
  given_front owed reply edge found next (Keeps want same edge_is) = ([], same ∙ sym (append-nil found))

  pub ends_front : (request : Request) (met : Met) (from : ℕ) (course passed left : List Point) (seen : List Entry) (reply : Reply)
      (position edge : ℕ) (next : List Entry)
      → Ends rules opened by request met from course passed left seen reply position edge next → (more : List Entry) × (next ≡ seen ++ more)
  ends_front request met from course passed left seen reply position edge next (Done last found left_is came passes answers is at edge_is) =
      let own = made rules by (rules.makes last) in (came.0 ++ own, further seen found came.0 own next is came.2)
  ends_front request met from course passed left seen reply position edge next (Stopped found came hinders at up) =
      let given = given_front (rules.owed request passed) reply edge found next up in
      (came.0 ++ given.0, further seen found came.0 given.0 next given.1 came.2)
  ends_front request met from course passed left seen reply position edge next
      (Faulted point rest operation found left_is makes came passes fails is at edge_is) =
      let own = rules.faulted by operation ∷ [] in (came.0 ++ own, further seen found came.0 own next is came.2)
  ends_front request met from course passed left seen reply position edge next
      (Broken refusal operation hindered found first hinders owes came takes fails is at edge_is) =
      let own = rules.faulted by operation ∷ [] in
      (first.0 ++ (came.0 ++ own), further seen hindered first.0 (came.0 ++ own) next (further hindered found came.0 own next is came.2) first.2)

-- ---- every end, in the whole of a history

module _ {Entry State Operation Request Fixed Point Met Reply : Type 0} (rules : Rules Entry State Operation Request Fixed Point Met Reply)
    (law : Lawful rules) (opened : State) (by : Caller) (edge : ℕ) (whole : List Entry) (item : Item Request Met Reply) where
  abbrev own : List Entry → List Entry
  own entries = filter (is_own rules by) entries

  -- The next edge is where a front of the history ends that goes on from what was seen. Of what it has more these are the
  -- call's own, and behind it none is. There lies the position, or an entry of its own.
  record Split (seen : List Entry) (next : ℕ) (mine : List Entry) : Type 0 where
    front : List Entry
    tail : List Entry
    rest : List Entry
    front_is : front ≡ seen ++ tail
    whole_is : whole ≡ front ++ rest
    own_is : own tail ≡ mine
    no_more : own rest ≡ []
    next_is : next ≡ length front
    reaches : (next ≡ item.position)
        ⊎ ((at : ℕ) × (next ≡ at + 1) × (entry : Entry) × (is_own rules by entry ≡ true) × StandAt rules whole at (entry ∷ []))

  -- it ends at the position, with these entries of its own
  split_end : (seen next mine later : List Entry) (edge_after : ℕ) → Added rules by seen next mine
      → whole ≡ next ++ later → own later ≡ [] → item.position ≡ length next → edge_after ≡ length next → Split seen edge_after mine
  split_end seen next mine later edge_after added is none at edge_is = record {
    front = next;
    tail = added.0;
    rest = later;
    front_is = added.1;
    whole_is = is;
    own_is = added.2;
    no_more = none;
    next_is = edge_is;
    reaches = inl (edge_is ∙ sym at);
  }

  -- or with one that gives up what is owed
  split_given : (seen found next later : List Entry) (operation : Operation) (edge_after : ℕ) → Came rules by seen found
      → next ≡ found ++ rules.accepted by operation ∷ [] → whole ≡ next ++ later → own later ≡ [] → edge_after ≡ length next
      → Split seen edge_after (rules.accepted by operation ∷ [])
  split_given seen found next later operation edge_after came is whole_is none edge_is =
      let entry = rules.accepted by operation in
      let is_mine = accepted_own rules law by operation in
      let added = came_made rules by seen found next (entry ∷ []) came is (one_own rules by entry is_mine) in
      record {
        front = next;
        tail = added.0;
        rest = later;
        front_is = added.1;
        whole_is = whole_is;
        own_is = added.2;
        no_more = none;
        next_is = edge_is;
        reaches = inr (
          length found,
          edge_is ∙ length_of found (entry ∷ []) next is,
          entry,
          is_mine,
          stand_front rules found (entry ∷ []) later whole (whole_is ∙ ap (λ w. w ++ later) is),
        );
      }

  -- what was seen before may be less, where others' entries came
  split_came : (seen found : List Entry) (next : ℕ) (mine : List Entry) → Came rules by seen found → Split found next mine → Split seen next mine
  split_came seen found next mine came s =
      let tail = added_both rules by seen found s.front [] mine (came_added rules by seen found came) (s.tail, s.front_is, s.own_is) in
      record {
        front = s.front;
        tail = tail.0;
        rest = s.rest;
        front_is = tail.1;
        whole_is = s.whole_is;
        own_is = tail.2;
        no_more = s.no_more;
        next_is = s.next_is;
        reaches = s.reaches;
      }

  abbrev MayGive : Option Operation → List Entry → Type 0
  MayGive owed added = (added ≡ []) ⊎ ((operation : Operation) × (owed ≡ Some operation) × (added ≡ rules.accepted by operation ∷ []))

  -- what a stopped call gave up
  record Given (owed : Option Operation) (next : ℕ) (found : List Entry) : Type 0 where
    added : List Entry
    given : IsSettled rules opened by whole owed added ⊎ rules.is_no_memory item.reply
    maybe : MayGive owed added
    split : Split found next added

  stands : (owed : Option Operation) (next : ℕ) (found rest : List Entry) → whole ≡ found ++ rest → own rest ≡ []
      → item.position ≡ length found → next ≡ length found → (IsSettled rules opened by whole owed [] ⊎ rules.is_no_memory item.reply)
      → Given owed next found
  stands owed next found rest is none at edge_is given =
      record {
        added = [];
        given = given;
        maybe = inl refl;
        split = split_end found found [] rest next ([], sym (append-nil found), refl) is none at edge_is;
      }

  gives : (owed : Option Operation) (next : ℕ) (found left later : List Entry) → GivesUp rules opened by owed item.reply found left next
      → item.position ≡ length found → whole ≡ left ++ later → own later ≡ [] → Given owed next found
  gives owed next found left later (OwesNothing none same edge_is) at is apart =
      stands owed next found later (is ∙ ap (λ w. w ++ later) same) apart at edge_is (inl (inl (none, refl)))
  gives owed next found left later (GivenUp operation seen owes came takes left_is edge_is) at is apart = record {
    added = rules.accepted by operation ∷ [];
    given = inl (inr (inl (operation, owes, refl)));
    maybe = inr (operation, owes, refl);
    split = split_given found seen left later operation next came left_is is apart edge_is;
  }
  gives owed next found left later (Shut came shut edge_is) at is apart =
      stands owed next found (came.0 ++ later) (further found left came.0 later whole is came.2)
      (filter-append (is_own rules by) came.0 later ∙ (ap (λ w. w ++ own later) (none_of_others rules by came.0 came.1) ∙ apart))
      at edge_is (inl (inr (inr (refl, shut_on rules law opened left later whole is shut))))
  gives owed next found left later (Keeps want same edge_is) at is apart =
      stands owed next found later (is ∙ ap (λ w. w ++ later) same) apart at edge_is (inr want)

  -- so its reply was decided
  decides : (from : ℕ) (found rest : List Entry) (passed left : List Point) (reached : ℕ) (added : List Entry)
      → edge ≤ from → whole ≡ found ++ rest → item.position ≡ length found
      → Hinders rules opened by item.request item.met from left found item.reply
      → (IsSettled rules opened by whole (rules.owed item.request passed) added ⊎ rules.is_no_memory item.reply)
      → MayGive (rules.owed item.request passed) added → IsDecided rules opened by edge whole item passed left reached added
  decides from found rest passed left reached added le is at (ByState point later left_is refuses) (inl given) maybe =
      ByRefusal point later left_is
      (subst (λ s. rules.refuses by item.request point s item.reply)
      (sym (ap (λ k. state_at rules opened whole k) at ∙ state_front rules opened found rest whole is)) refuses) given
  decides from found rest passed left reached added le is at (ByCause some cause) (inl given) maybe =
      ByException some
      (law.from_fewer by item.request left item.met opened edge from (take item.position whole) item.reply le
      (subst (λ w. rules.excepts by item.request left item.met opened from w item.reply)
      (sym (ap (λ k. take k whole) at ∙ take_front found rest whole is)) cause)) given
  decides from found rest passed left reached added le is at (ByLateCause none cause) (inl given) maybe =
      ByLateException none
      (law.from_fewer_behind by item.request item.met opened edge from (take item.position whole) item.reply le
      (subst (λ w. rules.excepts_behind by item.request item.met opened from w item.reply)
      (sym (ap (λ k. take k whole) at ∙ take_front found rest whole is)) cause)) given
  decides from found rest passed left reached added le is at (ByMemory want) given maybe = ByWant want maybe
  decides from found rest passed left reached added le is at hinders (inr want) maybe = ByWant want maybe

  -- How a call ended: of its course these points passed, up to a position, and those are left.
  record Ended (course : List Point) (before : List Entry) (seen : List Entry) (next : ℕ) : Type 0 where
    passed : List Point
    left : List Point
    course_is : course ≡ passed ++ left
    reached : ℕ
    points : StandInOrder rules opened by item.request whole edge passed reached
    in_order : reached ≤ item.position
    added : List Entry
    decided : IsDecided rules opened by edge whole item passed left reached added
    mine : List Entry
    split : Split seen next mine
    own_is : before ++ mine ≡ entries_of rules by passed ++ added
    before_position : length seen ≤ item.position
    after_position : item.position ≤ next

  -- the store failed, at an operation that was tried
  failed : (course passed left : List Point) (seen found next later : List Entry) (operation : Operation) (edge_after r : ℕ)
      → course ≡ passed ++ left → r ≤ length seen → StandInOrder rules opened by item.request whole edge passed r
      → Came rules by seen found → IsTried rules by item.request passed left (state_at rules opened whole (length found)) operation
      → IsOfFault rules item.met item.reply → next ≡ found ++ rules.faulted by operation ∷ [] → whole ≡ next ++ later → own later ≡ []
      → item.position ≡ length next → edge_after ≡ length next → Ended course (entries_of rules by passed) seen edge_after
  failed course passed left seen found next later operation edge_after r split le order came tried fails is whole_is apart at edge_is =
      let entry = rules.faulted by operation in
      let added = came_made rules by seen found next (entry ∷ []) came is (one_own rules by entry (faulted_own rules law by operation)) in
      let long : item.position ≡ length found + 1 = at ∙ length_of found (entry ∷ []) next is in
      let seen_le : length seen ≤ length found = length_front seen came.0 found came.2 in
      record {
        passed = passed;
        left = left;
        course_is = split;
        reached = r;
        points = order;
        in_order = omega (arith, long, seen_le);
        added = entry ∷ [];
        decided = ByFault operation (length found) tried fails refl
            (stand_front rules found (entry ∷ []) later whole (whole_is ∙ ap (λ w. w ++ later) is)) long;
        mine = entry ∷ [];
        split = split_end seen next (entry ∷ []) later edge_after added whole_is apart at edge_is;
        own_is = refl;
        before_position = omega (arith, long, seen_le);
        after_position = omega (arith, at, edge_is);
      }

  ended : (from next : ℕ) (course passed left : List Point) (seen behind later : List Entry) (r : ℕ)
      → course ≡ passed ++ left → r ≤ length seen → StandInOrder rules opened by item.request whole edge passed r → edge ≤ from
      → whole ≡ behind ++ later → own later ≡ []
      → Ends rules opened by item.request item.met from course passed left seen item.reply item.position next behind
      → Ended course (entries_of rules by passed) seen next
  ended from next course passed left seen behind later r split le order from_le whole_is apart
      (Done last found left_is came passes answers is at edge_is) =
      let m = made rules by (rules.makes last) in
      let added = came_made rules by seen found behind m came is (made_own rules law by (rules.makes last)) in
      let all : course ≡ passed ++ last ∷ [] = split ∙ ap (λ w. passed ++ w) left_is in
      let here : whole ≡ (found ++ m) ++ later = whole_is ∙ ap (λ w. w ++ later) is in
      let state = sym (state_front rules opened found (m ++ later) whole (here ∙ append_assoc found m later)) in
      let long : item.position ≡ length found + length m = at ∙ length_of found m behind is in
      let seen_le : length seen ≤ length found = length_front seen came.0 found came.2 in
      record {
        passed = passed ++ last ∷ [];
        left = [];
        course_is = all ∙ sym (append-nil (passed ++ last ∷ []));
        reached = length found + length m;
        points = order_more rules opened by item.request whole passed last edge r (length found) order (omega (arith, seen_le))
            (subst (λ s. rules.passes by item.request last s) state passes) (stand_front rules found m later whole here);
        in_order = omega (arith, long);
        added = [];
        decided = ByCourse passed last (length found) refl refl refl refl long
            (subst (λ c. rules.answers by item.request item.met c (state_at rules opened whole (length found)) item.reply) all
            (subst (λ s. rules.answers by item.request item.met course s item.reply) state answers));
        mine = m;
        split = split_end seen behind m later next added whole_is apart at edge_is;
        own_is = ap (λ w. entries_of rules by passed ++ w) (sym (append-nil m))
            ∙ (sym (entries_append rules by passed (last ∷ [])) ∙ sym (append-nil (entries_of rules by (passed ++ last ∷ []))));
        before_position = omega (arith, long, seen_le);
        after_position = omega (arith, at, edge_is);
      }
  ended from next course passed left seen behind later r split le order from_le whole_is apart (Stopped found came hinders at up) =
      let g = gives (rules.owed item.request passed) next found behind later up at whole_is apart in
      let s = g.split in
      let found_is : whole ≡ found ++ (s.tail ++ s.rest) = further found s.front s.tail s.rest whole s.whole_is s.front_is in
      let seen_le : length seen ≤ length found = length_front seen came.0 found came.2 in
      let front_le : length found ≤ length s.front = length_front found s.tail s.front s.front_is in
      record {
        passed = passed;
        left = left;
        course_is = split;
        reached = r;
        points = order;
        in_order = omega (arith, at, seen_le);
        added = g.added;
        decided = decides from found (s.tail ++ s.rest) passed left r g.added from_le found_is at hinders g.given g.maybe;
        mine = g.added;
        split = split_came seen found next g.added came s;
        own_is = refl;
        before_position = omega (arith, at, seen_le);
        after_position = omega (arith, at, front_le, s.next_is);
      }
  ended from next course passed left seen behind later r split le order from_le whole_is apart
      (Faulted point rest operation found left_is makes came passes fails is at edge_is) =
      let entry = rules.faulted by operation in
      let here : whole ≡ found ++ (entry ∷ later) = whole_is ∙ (ap (λ w. w ++ later) is ∙ append_assoc found (entry ∷ []) later) in
      let state = sym (state_front rules opened found (entry ∷ later) whole here) in
      failed course passed left seen found behind later operation next r split le order came
      (inl (point, rest, left_is, makes, subst (λ s. rules.passes by item.request point s) state passes)) fails is whole_is apart at edge_is
  ended from next course passed left seen behind later r split le order from_le whole_is apart
      (Broken refusal operation hindered found first hinders owes came takes fails is at edge_is) =
      let here : whole ≡ found ++ (rules.faulted by operation ∷ later) =
      whole_is ∙ (ap (λ w. w ++ later) is ∙ append_assoc found (rules.faulted by operation ∷ []) later) in
      let state = sym (state_front rules opened found (rules.faulted by operation ∷ later) whole here) in
      failed course passed left seen found behind later operation next r split le order (came_on rules by seen hindered found first came)
      (inr (owes, subst (λ s. rules.is_shut s ≡ false) state takes)) fails is whole_is apart at edge_is

  -- how a served call ended in the whole of what its seat had seen
  walked : (next : ℕ) (before : List Entry) (s : IsServed rules opened by before whole item.request item.met item.reply item.position next)
      → edge ≤ length before → Ended (rules.course item.request s.fixed) (entries_of rules by s.passed) s.seen next
  walked next before s le =
      let course = rules.course item.request s.fixed in
      let front = ends_front rules opened by item.request item.met (length before) course s.passed s.left s.seen item.reply item.position next s.next
      s.ended in
      let here : whole ≡ s.seen ++ (front.0 ++ s.later) = further s.seen s.next front.0 s.later whole s.whole front.1 in
      let order = passed_order rules law opened by item.request s.passed before s.seen (front.0 ++ s.later) whole s.points here in
      let start = order_from rules opened by item.request whole s.passed edge (length before) (length s.seen) le order in
      ended (length before) next course s.passed s.left s.seen s.next s.later start.0
      s.course start.1 start.2 le s.whole (filter_none (is_own rules by) s.later s.apart) s.ended

  -- no entry of the call stands before the edge
  none_before : (start done more before : List Entry) → before ≡ start ++ done → AreOfOtherCalls rules by done
      → length start ≤ edge → edge ≤ length before → whole ≡ before ++ more → own_entries rules by start (take edge whole) ≡ []
  none_before start done more before before_is apart from to is =
      let k = edge - length start in
      let edge_is : edge ≡ length start + k = omega (arith, from) in
      let front : take edge whole ≡ start ++ take k done =
      ap (take edge) is ∙ (take-append-le edge before more to
      ∙ (ap (take edge) before_is ∙ (ap (λ n. take n (start ++ done)) edge_is ∙ take-append-add start done k))) in
      ap own (drop_front start (take k done) (take edge whole) front)
      ∙ filter_none (is_own rules by) (take k done) (All-take (λ entry. is_own rules by entry ≡ false) k done apart)

  -- the next edge lies at the one before or behind it, and not past the end
  pub served_within : (next : ℕ) (before : List Entry)
      → IsServed rules opened by before whole item.request item.met item.reply item.position next → edge ≤ length before
      → (edge ≤ next) × (next ≤ length whole)
  served_within next before s to =
      let e = walked next before s to in
      let a = passed_added rules law opened by item.request s.passed before s.seen s.points in
      let seen_le : length before ≤ length s.seen = length_front before a.0 s.seen a.1 in
      let front_le : length e.split.front ≤ length whole = length_front e.split.front e.split.rest whole e.split.whole_is in
      (omega (arith, e.after_position, to, seen_le, e.before_position), omega (arith, e.split.next_is, front_le))

  -- A SERVED CALL IS PLACED behind an edge that its seat had seen
  pub placed : (next : ℕ) (start done before : List Entry)
      → IsServed rules opened by before whole item.request item.met item.reply item.position next
      → before ≡ start ++ done → AreOfOtherCalls rules by done → length start ≤ edge → edge ≤ length before
      → IsPlaced rules opened by edge next start whole item
  placed next start done before s before_is apart from to =
      let e = walked next before s to in
      let t = e.split in
      let a = passed_added rules law opened by item.request s.passed before s.seen s.points in
      let behind_seen : whole ≡ s.seen ++ (t.tail ++ t.rest) = further s.seen t.front t.tail t.rest whole t.whole_is t.front_is in
      let behind : whole ≡ before ++ (a.0 ++ (t.tail ++ t.rest)) = further before s.seen a.0 (t.tail ++ t.rest) whole behind_seen a.1 in
      let all : whole ≡ start ++ (done ++ (a.0 ++ (t.tail ++ t.rest))) = further start before done (a.0 ++ (t.tail ++ t.rest)) whole behind before_is in
      let p = is_own rules by in
      let within = served_within next before s to in
      let seen_le : length before ≤ length s.seen = length_front before a.0 s.seen a.1 in
      let tail_is : own (t.tail ++ t.rest) ≡ e.mine = filter-append p t.tail t.rest ∙ (ap (λ w. own t.tail ++ w) t.no_more
      ∙ (append-nil (own t.tail) ∙ t.own_is)) in
      record {
        behind = none_before start done (a.0 ++ (t.tail ++ t.rest)) before before_is apart from to behind;
        begins = omega (arith, to, seen_le, e.before_position);
        ends = omega (arith, within.1, e.after_position);
        fixed = s.fixed;
        passed = e.passed;
        left = e.left;
        course = e.course_is;
        reached = e.reached;
        points = e.points;
        in_order = e.in_order;
        added = e.added;
        own = ap own (drop_front start (done ++ (a.0 ++ (t.tail ++ t.rest))) whole all)
            ∙ (filter-append p done (a.0 ++ (t.tail ++ t.rest))
            ∙ (ap (λ w. w ++ own (a.0 ++ (t.tail ++ t.rest))) (filter_none p done apart)
            ∙ (filter-append p a.0 (t.tail ++ t.rest)
            ∙ (ap (λ w. w ++ own (t.tail ++ t.rest)) a.2 ∙ (ap (λ w. entries_of rules by s.passed ++ w) tail_is ∙ e.own_is)))));
        decided = e.decided;
        after_position = e.after_position;
        after_edge = within.0;
        after_own = ap (λ n. own (drop n whole)) t.next_is ∙ (ap own (drop_front t.front t.rest whole t.whole_is) ∙ t.no_more);
        reaches = t.reaches;
      }
