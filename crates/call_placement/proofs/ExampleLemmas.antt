-- The toy's uploads and its session.
use Rattle.std.proofs.Common.{◌≡◌, ℕ, zero, suc, ◌+◌, ◌≤◌, List, [], ◌∷◌, ◌++◌, length, take, drop, take-take, take-append-drop, Bool, true, false, refl, ap}
use Rattle.std.proofs.Common.{sym, ◌∙◌, arith, subst}
use Rattle.std.specs.Prelude.{max}
use mathlib.Core.Logic.{inl}
use Rattle.std.proofs.lemmas.List.{append-nil}
use Rattle.std.proofs.lemmas.List.Elements.{All-nil, All-cons}
use Rattle.call_placement.specs.Rules.{Caller}
use Rattle.call_placement.specs.Points.{AreOfOtherSeats, replay, Came, HavePassed}
use Rattle.call_placement.specs.Served.{ByCause, GivenUp, Done, Stopped as IsStopped, IsServed}
use Rattle.call_placement.specs.Sessions.{caller, AddsOnly, AreServed}
use Rattle.call_placement.specs.Placed.{ArePlaced, Lawful}
use Rattle.call_placement.specs.Examples.{toy_excepts, ToyOperation, TakesNumber, PutsBody, GivesBack, Seals, ToyEntry, ToyState, toy_change, toy_after, Upload}
use Rattle.call_placement.specs.Examples.{Takes, Looks, Puts, Stored, TooManyTries, toy_replay, version_of, toy_rules, TookNumber, Tried, PutBody, GaveBack}
use Rattle.call_placement.specs.Examples.{upload_item, unreadable_item, toy_opened, own_call, other_call, toy_entry, shared_history}
use Rattle.call_placement.proofs.ServedLemmas.{one_more}
use Rattle.call_placement.proofs.WalkLemmas.{nothing_came, came_on, further, take_front}
use Rattle.call_placement.proofs.PlacedLemmas.{max_is, served_within}
use Rattle.call_placement.proofs.SessionLemmas.{are_placed}

-- the rules' replay is the toy's
pub same_replay : (state : ToyState) (entries : List ToyEntry) → replay toy_rules state entries ≡ toy_replay state entries
same_replay state [] = refl
same_replay state (e ∷ es) = same_replay (toy_after state e) es

keeps_stopped : (state : ToyState) (operation : ToyOperation) → state.stopped ≡ true → (toy_change operation state).stopped ≡ true
keeps_stopped state (TakesNumber n) is = is
keeps_stopped state (PutsBody n) is = is
keeps_stopped state (GivesBack n) is = is
keeps_stopped state Seals is = is

stays : (state : ToyState) (by : Caller) (operation : ToyOperation) (fault : Bool) → state.stopped ≡ true
    → (toy_after state (record { by = by; operation = operation; fault = fault })).stopped ≡ true
stays state by operation true is = refl
stays state by operation false is = keeps_stopped state operation is

change_grows : (state : ToyState) (operation : ToyOperation) → state.version ≤ (toy_change operation state).version
change_grows state (TakesNumber n) = omega arith
change_grows state (PutsBody n) = omega arith
change_grows state (GivesBack n) = omega arith
change_grows state Seals = omega arith

after_grows : (state : ToyState) (by : Caller) (operation : ToyOperation) (fault : Bool)
    → state.version ≤ (toy_after state (record { by = by; operation = operation; fault = fault })).version
after_grows state by operation true = omega arith
after_grows state by operation false = change_grows state operation

-- the version never falls
version_grows : (state : ToyState) (xs : List ToyEntry) → state.version ≤ (toy_replay state xs).version
version_grows state [] = omega arith
version_grows state (x ∷ xs) =
    let one = after_grows state x.by x.operation x.fault in
    let rest = version_grows (toy_after state x) xs in omega (arith, one, rest)

version_behind : (state : ToyState) (xs ys : List ToyEntry) → (toy_replay state xs).version ≤ (toy_replay state (xs ++ ys)).version
version_behind state [] ys = version_grows state ys
version_behind state (x ∷ xs) ys = version_behind (toy_after state x) xs ys

version_front : (opened : ToyState) (xs ys whole : List ToyEntry) → whole ≡ xs ++ ys → version_of opened xs ≤ version_of opened whole
version_front opened xs ys whole is = subst (λ w. version_of opened xs ≤ version_of opened w) (sym is) (version_behind opened xs ys)

-- a version is no greater where fewer entries were seen
version_fewer : (opened : ToyState) (fewer from : ℕ) (seen : List ToyEntry) → fewer ≤ from
    → version_of opened (take fewer seen) ≤ version_of opened (take from seen)
version_fewer opened fewer from seen le =
    version_front opened (take fewer seen) (drop fewer (take from seen)) (take from seen)
    (sym (take-append-drop fewer (take from seen)) ∙ ap (λ w. w ++ drop fewer (take from seen)) (take-take fewer from seen le))

pub toy_lawful : Lawful toy_rules
toy_lawful = record {
  of_accepted = λ by operation. refl;
  of_faulted = λ by operation. refl;
  stays_shut = λ state entry is. stays state entry.by entry.operation entry.fault is;
  from_fewer = λ by request left met opened fewer from seen reply le a.
      let less = version_fewer opened fewer from seen le in (a.0, a.1, omega (arith, less, a.2));
  from_fewer_behind = λ by request met opened fewer from seen reply le a. a;
}

-- ---- an upload's steps

module _ (opened : ToyState) (by : Caller) where
  -- tries that added nothing are others' entries that came
  pub tried_came : (tries : ℕ) (seen found : List ToyEntry) → Tried opened by tries seen found → Came toy_rules by seen found
  tried_came zero seen found is = subst (λ w. Came toy_rules by seen w) (sym is) (nothing_came toy_rules by seen)
  tried_came (suc tries) seen found tried = came_on toy_rules by seen tried.0 found tried.1 (tried_came tries tried.0 found tried.3)

  -- and gave as many versions
  tried_versions : (tries : ℕ) (seen found : List ToyEntry) → Tried opened by tries seen found → version_of opened seen + tries ≤ version_of opened found
  tried_versions zero seen found is = let same = ap (λ w. version_of opened w) is in omega (arith, same)
  tried_versions (suc tries) seen found tried = let rest = tried_versions tries tried.0 found tried.3 in omega (arith, rest, tried.2)

  -- the points of an upload that has its number, and looked
  pub looked : (before taken found : List ToyEntry) (number : ℕ) → TookNumber opened by before taken number → Came toy_rules by taken found
      → HavePassed toy_rules opened by Upload (Takes number ∷ Looks ∷ []) before found
  looked before taken found number took came = (
    taken,
    (took.0, took.1, subst (λ s. (s.stopped ≡ false) × (number ≡ s.next)) (sym (same_replay opened took.0)) took.2, took.3),
    (found, (found, came, tt, sym (append-nil found)), refl),
  )

  pub stored : (before taken found after : List ToyEntry) (number tries : ℕ)
      → TookNumber opened by before taken number → Tried opened by tries taken found → PutBody opened by found after number
      → IsServed toy_rules opened by before after Upload 0 (Stored number) (length after) (length after)
  stored before taken found after number tries took tried put = record {
    fixed = number;
    passed = Takes number ∷ Looks ∷ [];
    left = Puts number ∷ [];
    course = refl;
    seen = found;
    points = looked before taken found number took (tried_came tries taken found tried);
    next = after;
    ended = Done (Puts number) put.0 refl put.1 (subst (λ s. s.stopped ≡ false) (sym (same_replay opened put.0)) put.2) (number, refl, refl) put.3 refl refl;
    later = [];
    apart = All-nil _;
    whole = sym (append-nil after);
  }

  -- ---- a call that gave up

  -- behind ten tries they are too many
  pub too_many : (before taken found : List ToyEntry) (number : ℕ) → TookNumber opened by before taken number → Tried opened by 10 taken found
      → toy_excepts (Looks ∷ Puts number ∷ []) opened (length before) found TooManyTries
  too_many before taken found number took tried =
      let came = tried_came 10 taken found tried in
      let entry = toy_rules.accepted by (TakesNumber number) in
      let behind : taken ≡ before ++ (took.1.0 ++ entry ∷ []) = further before took.0 took.1.0 (entry ∷ []) taken took.3 took.1.2 in
      let all : found ≡ before ++ ((took.1.0 ++ entry ∷ []) ++ came.0) = further before taken (took.1.0 ++ entry ∷ []) came.0 found came.2 behind in
      let given = tried_versions 10 taken found tried in
      let grown = version_front opened before (took.1.0 ++ entry ∷ []) taken behind in
      let begun = ap (λ w. version_of opened w) (take_front before ((took.1.0 ++ entry ∷ []) ++ came.0) found all) in
      (refl, refl, omega (arith, given, grown, begun))

  -- its number was taken
  pub taken_passed : (before taken : List ToyEntry) (number : ℕ) → TookNumber opened by before taken number
      → HavePassed toy_rules opened by Upload (Takes number ∷ []) before taken
  taken_passed before taken number took =
      (taken, (took.0, took.1, subst (λ s. (s.stopped ≡ false) × (number ≡ s.next)) (sym (same_replay opened took.0)) took.2, took.3), refl)

  pub gave_up : (before taken found after : List ToyEntry) (number : ℕ)
      → TookNumber opened by before taken number → Tried opened by 10 taken found → GaveBack opened by found after number
      → IsServed toy_rules opened by before after Upload 0 TooManyTries (length found) (length after)
  gave_up before taken found after number took tried gave =
      record {
        fixed = number;
        passed = Takes number ∷ [];
        left = Looks ∷ Puts number ∷ [];
        course = refl;
        seen = taken;
        points = taken_passed before taken number took;
        next = after;
        ended = IsStopped found (tried_came 10 taken found tried) (ByCause (λ none. absurd (cc (none))) (too_many before taken found number took tried)) refl
            (GivenUp (GivesBack number) gave.0 refl gave.1 (subst (λ s. s.stopped ≡ false) (sym (same_replay opened gave.0)) gave.2) gave.3 refl);
        later = [];
        apart = All-nil _;
        whole = sym (append-nil after);
      }

-- ---- a session

pub session : (opened : ToyState) (seat position edge : ℕ) (start after : List ToyEntry) (number : ℕ)
    → IsServed toy_rules opened (caller seat 1) start after Upload 0 (Stored number) position edge
    → AddsOnly toy_rules (caller seat 1) start after
    → ArePlaced toy_rules opened seat 1 (length start) start after (upload_item (Stored number) position ∷ unreadable_item edge ∷ [])
session opened seat position edge start after number served adds =
    let first = upload_item (Stored number) position in
    let within = served_within toy_rules toy_lawful opened (caller seat 1) (length start) after first edge start served (omega arith) in
    let here : max (length start) edge ≡ edge = max_is (length start) edge within.0 in
    let one : AreServed toy_rules opened seat 1 (length start) start (first ∷ []) after (max (length start) edge) =
    one_more toy_rules opened seat 1 (length start) (length start) edge start start after [] first (refl, refl) (served, adds) in
    let two : AreServed toy_rules opened seat 1 (length start) start (first ∷ unreadable_item edge ∷ []) after (max (max (length start) edge) edge) =
    one_more toy_rules opened seat 1 (length start) (max (length start) edge) edge start after after (first ∷ []) (unreadable_item edge) one
    (inl (refl, sym here), refl, refl) in
    are_placed toy_rules toy_lawful opened seat 1 (max (max (length start) edge) edge) start after (first ∷ unreadable_item edge ∷ []) two

-- ---- a history of two seats

two_is_other : (entry : ToyEntry) → entry.by.seat ≡ 2 → AreOfOtherSeats toy_rules 1 (entry ∷ [])
two_is_other entry is = All-cons (λ e. (toy_rules.maker e).seat ≡ 1 → ⊥) entry [] (λ same. absurd (omega (arith, is, same))) (All-nil _)

pub shared : IsServed toy_rules toy_opened own_call [] shared_history Upload 0 (Stored 1) 4 4
shared =
    let others = toy_entry other_call (TakesNumber 0) ∷ [] in
    let taken = others ++ toy_entry own_call (TakesNumber 1) ∷ [] in
    let sealed = taken ++ toy_entry other_call Seals ∷ [] in
    stored toy_opened own_call [] taken taken shared_history 1 0
    (others, (others, two_is_other _ refl, refl), (refl, refl), refl) refl
    (sealed, (toy_entry other_call Seals ∷ [], two_is_other _ refl, refl), refl, refl)
