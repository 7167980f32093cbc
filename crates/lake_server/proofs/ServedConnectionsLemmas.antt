-- Connections that were served one after the other, and what a worker shows then.
use Rattle.std.proofs.Common.{◌≡◌, ◌+◌, ◌<◌, ◌≤◌, ◌≢◌, ℕ, true, false, List, [], ◌∷◌, ◌++◌, map, min, length, take}
use Rattle.std.proofs.Common.{Option, Some, None, IfSome, MatchBool, Result, Ok, Err, is_err, true≢false, refl, sym, ap, subst, ◌∙◌, append_assoc, append-nil}
use Rattle.std.proofs.Common.{arith, length-append}
use Rattle.std.proofs.Math.Seq.{take-append_seam}
use Rattle.std.proofs.lemmas.List.{map-append}
use Rattle.lake_base.specs.Outside.{Rose, last_count}
use Rattle.lake_model.specs.declared.history.HistoryEntry.{HistoryEntry}
use Rattle.lake_session.specs.WholeSessions.{GoesThrough, IsSession}
use Rattle.lake_session.proofs.SeatLemmas.{goes_twice, stays}
use Rattle.lake_server.specs.ServedConnections.{AreFronts, AreSessions, Carried, Connection, HasEnded, HasServed, WorkerView, carried_by, returned_of}
use Rattle.lake_server.specs.ServedConnections.{streams_of}
use Rattle.lake_server.specs.WorkerSteps.{GoesOnCounting, IsFailed, ServesConnection, ServesOrFails}

-- ---- sessions, one after the other

-- their seat went on
pub goes_all : (old now : Carried) (sessions : List Connection) → AreSessions old now sessions → GoesThrough old.seat now.seat
goes_all old now [] chain = subst (GoesThrough old.seat) (ap (λ (c : Carried). c.seat) (sym chain)) (stays old.seat)
goes_all old now (one ∷ others) chain =
    subst (λ seat. GoesThrough seat now.seat) (ap (λ (c : Carried). c.seat) chain.0)
    (goes_twice one.before.seat one.after.seat now.seat chain.1.goes (goes_all (carried_by one.after) now others chain.2))

-- one more
pub chain_more : (old now : Carried) (sessions : List Connection) (one : Connection) → AreSessions old now sessions
    → carried_by one.before ≡ now → IsSession one.before one.after one.report → AreSessions old (carried_by one.after) (sessions ++ one ∷ [])
chain_more old now [] one chain begins session = (begins ∙ chain, session, refl)
chain_more old now (first ∷ others) one chain begins session =
    (chain.0, chain.1, chain_more (carried_by first.after) now others one chain.2 begins session)

front_is : (n : ℕ) (front rest all : List HistoryEntry) → n ≡ length front → all ≡ front ++ rest → front ≡ take n all
front_is n front rest all at is = sym (ap (λ k. take k all) at ∙ ap (take (length front)) is ∙ take-append_seam front rest)

-- what their seat had seen before each and after it
pub fronts_of : (old now : Carried) (sessions : List Connection) → AreSessions old now sessions
    → AreFronts (length old.seat.seen) now.seat.seen sessions
fronts_of old now [] chain = ap (λ (c : Carried). length c.seat.seen) (sym chain)
fronts_of old now (one ∷ others) chain =
    let further : GoesThrough one.after.seat now.seat = goes_all (carried_by one.after) now others chain.2 in
    let all : GoesThrough one.before.seat now.seat = goes_twice one.before.seat one.after.seat now.seat chain.1.goes further in (
      chain.1.from ∙ ap (λ (c : Carried). length c.seat.seen) chain.0,
      front_is one.report.from one.before.seat.seen all.added now.seat.seen chain.1.from all.seen,
      front_is one.report.to one.after.seat.seen further.added now.seat.seen chain.1.to further.seen,
      subst (λ n. AreFronts n now.seat.seen others) (sym chain.1.to) (fronts_of (carried_by one.after) now others chain.2),
    )

-- ---- a worker

-- what is told of these, and one more
pub told_more : {A X : Type 0} (f : X → A) (old now next : Option (List A)) (xs : List X) (x : X)
    → IfSome old (λ before. now ≡ Some (before ++ map f xs)) → IfSome now (λ before. next ≡ Some (before ++ f x ∷ []))
    → IfSome old (λ before. next ≡ Some (before ++ map f (xs ++ x ∷ [])))
told_more f None now next xs x told one = tt
told_more {A} f (Some before) now next xs x told one =
    let here : next ≡ Some ((before ++ map f xs) ++ f x ∷ []) = subst (λ n. IfSome n (λ b. next ≡ Some (b ++ f x ∷ []))) told one in
    here ∙ ap Some (append_assoc before (map f xs) (f x ∷ []) ∙ ap (λ m. before ++ m) (sym (map-append f xs (x ∷ []))))

pub told_none : {A X : Type 0} (f : X → A) (old : Option (List A)) → IfSome old (λ before. old ≡ Some (before ++ map f []))
told_none f None = tt
told_none f (Some before) = sym (ap Some (append-nil before))

-- what came of a connection, by whether it failed
pub serves_at : {T E : Type 0} (old now : WorkerView) (result : Result T E) → is_err result ≡ false → ServesOrFails old now result
    → (one : Connection) × ServesConnection old now one
serves_at old now (Ok served) is serves = serves
serves_at old now (Err failed) is serves = absurd (true≢false is)

pub fails_at : {T E : Type 0} (old now : WorkerView) (result : Result T E) → is_err result ≡ true → ServesOrFails old now result
    → IsFailed old now
fails_at old now (Err failed) is fails = fails
fails_at old now (Ok served) is fails = absurd (true≢false (sym is))

-- so many connections were served so far: at most the worker's number
pub record SoFar (old now : WorkerView) (sessions : List Connection) : Type 0 where
  pub chain : AreSessions old.carried now.carried sessions
  pub accepted : IfSome old.accepted (λ before. now.accepted ≡ Some (before ++ map (λ one. streams_of one.before) sessions))
  pub returned : IfSome old.returned (λ before. now.returned ≡ Some (before ++ map returned_of sessions))
  pub served : now.served ≡ min (length sessions) last_count
  pub few : IfSome old.connections (λ number. length sessions ≤ number)
  pub faults : old.faults ≤ now.faults
  pub connections : now.connections ≡ old.connections
  pub failed : now.failed ≡ false

few_at_first : (connections : Option ℕ) → IfSome connections (λ number. 0 ≤ number)
few_at_first None = tt
few_at_first (Some number) = omega arith

pub begins : (old : WorkerView) → old.served ≡ 0 → old.failed ≡ false → SoFar old old []
begins old served failed = record {
  chain = refl;
  accepted = told_none (λ (one : Connection). streams_of one.before) old.accepted;
  returned = told_none returned_of old.returned;
  served = omega (arith, served);
  few = few_at_first old.connections;
  faults = omega arith;
  connections = refl;
  failed = failed;
}

-- a worker whose number isn't reached has another connection to serve
has_more : (connections : Option ℕ) (count served : ℕ) → served ≡ min count last_count → IfSome connections (λ number. number ≤ last_count)
    → IfSome connections (λ number. count ≤ number) → connections ≢ Some served → IfSome connections (λ number. count < number)
has_more None count served at fits few other = tt
has_more (Some number) count served at fits few other =
    let differ : number ≢ served = λ same. other (ap Some same) in
    omega (arith, at, fits, few, differ)

pub has_more_now : (old now : WorkerView) (sessions : List Connection) → SoFar old now sessions
    → IfSome now.connections (λ number. number ≤ last_count) → now.connections ≢ Some now.served
    → IfSome old.connections (λ number. length sessions < number)
has_more_now old now sessions so fits other =
    has_more old.connections (length sessions) now.served so.served
    (subst (λ c. IfSome c (λ number. number ≤ last_count)) so.connections fits) so.few (λ same. other (so.connections ∙ same))

few_more : (connections : Option ℕ) (count more : ℕ) → more ≡ count + 1 → IfSome connections (λ number. count < number)
    → IfSome connections (λ number. more ≤ number)
few_more None count more at few = tt
few_more (Some number) count more at few = omega (arith, at, few)

-- one connection more was served, and counted
pub one_more : (old now next : WorkerView) (served : ℕ) (sessions : List Connection) (one : Connection) → SoFar old now sessions
    → ServesConnection now next one → GoesOnCounting now next → served ≡ min (next.served + 1) last_count
    → IfSome old.connections (λ number. length sessions < number) → SoFar old (record next { served = served }) (sessions ++ one ∷ [])
one_more old now next served sessions one so serves counting is few =
    let long : length (sessions ++ one ∷ []) ≡ length sessions + 1 = length-append sessions (one ∷ []) in
    record {
      chain = subst (λ c. AreSessions old.carried c (sessions ++ one ∷ [])) (sym serves.leaves)
          (chain_more old.carried now.carried sessions one so.chain serves.begins serves.session);
      accepted = told_more (λ (c : Connection). streams_of c.before) old.accepted now.accepted next.accepted sessions one so.accepted serves.accepted;
      returned = told_more returned_of old.returned now.returned next.returned sessions one so.returned serves.returned;
      served = omega (arith, is, counting.served, so.served, long);
      few = few_more old.connections (length sessions) (length (sessions ++ one ∷ [])) long few;
      faults = omega (arith, so.faults, counting.faults);
      connections = counting.connections ∙ so.connections;
      failed = counting.failed ∙ so.failed;
    }

-- why a worker ended says it of these
over : (old now : WorkerView) (sessions : List Connection) → SoFar old now sessions → HasEnded old now (length sessions) → HasServed old now
over old now sessions so ended = record {
  sessions = sessions;
  chain = so.chain;
  goes = goes_all old.carried now.carried sessions so.chain;
  fronts = fronts_of old.carried now.carried sessions so.chain;
  accepted = so.accepted;
  returned = so.returned;
  served = so.served;
  ended = ended;
  faults = so.faults;
  connections = so.connections;
}

number_is : (connections : Option ℕ) (count served : ℕ) → served ≡ min count last_count → IfSome connections (λ number. count ≤ number)
    → connections ≡ Some served → connections ≡ Some count
number_is connections count served at few is =
    let most : count ≤ served = subst (λ c. IfSome c (λ number. count ≤ number)) is few in
    let same : served ≡ count = omega (arith, at, most) in
    is ∙ ap Some same

-- its number is reached
pub ends_at_number : (old now : WorkerView) (sessions : List Connection) → SoFar old now sessions → now.connections ≡ Some now.served
    → HasServed old now
ends_at_number old now sessions so reached =
    over old now sessions so
    (subst (λ failed. MatchBool failed (Rose old.faults now.faults × IfSome old.connections (λ number. length sessions < number))
    (old.connections ≡ Some (length sessions))) (sym so.failed)
    (number_is old.connections (length sessions) now.served so.served so.few (sym so.connections ∙ reached)))

-- its listener failed it
pub ends_failed : (old now next : WorkerView) (sessions : List Connection) → SoFar old now sessions → IsFailed now next → GoesOnCounting now next
    → IfSome old.connections (λ number. length sessions < number) → HasServed old (record next { failed = true })
ends_failed old now next sessions so fails counting few =
    let rose : Rose old.faults next.faults = λ below. omega (arith, below, so.faults, counting.faults, fails.failed) in
    record {
      sessions = sessions;
      chain = subst (λ c. AreSessions old.carried c sessions) (sym fails.carried) so.chain;
      goes = subst (λ (c : Carried). GoesThrough old.carried.seat c.seat) (sym fails.carried)
          (goes_all old.carried now.carried sessions so.chain);
      fronts = subst (λ (c : Carried). AreFronts (length old.carried.seat.seen) c.seat.seen sessions) (sym fails.carried)
          (fronts_of old.carried now.carried sessions so.chain);
      accepted = subst (λ told. IfSome old.accepted (λ before. told ≡ Some (before ++ map (λ (one : Connection). streams_of one.before) sessions)))
          (sym fails.accepted) so.accepted;
      returned = subst (λ told. IfSome old.returned (λ before. told ≡ Some (before ++ map returned_of sessions))) (sym fails.returned) so.returned;
      served = counting.served ∙ so.served;
      ended = (rose, few);
      faults = omega (arith, so.faults, counting.faults);
      connections = counting.connections ∙ so.connections;
    }
