-- Uploads of the toy that met a fault, were refused, or ran out of memory.
use Rattle.std.proofs.Common.{◌≡◌, ℕ, List, [], ◌∷◌, ◌++◌, length, true, false, refl, ap, sym, ◌∙◌, subst}
use Rattle.std.proofs.lemmas.List.{append-nil}
use Rattle.std.proofs.lemmas.List.Elements.{All-nil}
use Rattle.call_placement.specs.Rules.{Caller}
use Rattle.call_placement.specs.Points.{replay, HavePassed}
use Rattle.call_placement.specs.Served.{IsOfFault, ByState, ByCause, ByMemory, OwesNothing, GivenUp, Shut, Keeps, Ends, Stopped as IsStopped, Faulted, Broken}
use Rattle.call_placement.specs.Served.{IsServed}
use Rattle.call_placement.specs.Examples.{TakesNumber, PutsBody, GivesBack, ToyEntry, ToyState, Upload, ToyPoint, Takes, Looks, Puts, ToyReply, TooManyTries}
use Rattle.call_placement.specs.Examples.{Stopped, NoMemory, upload_course, toy_replay, toy_rules, TookNumber, Tried, PutBody, GaveBack, FoundStopped, Failed}
use Rattle.call_placement.proofs.WalkLemmas.{nothing_came, one_point_more}
use Rattle.call_placement.proofs.ExampleLemmas.{same_replay, tried_came, looked, too_many, taken_passed}

module _ (opened : ToyState) (by : Caller) where
  takes_changes : (found : List ToyEntry) → (toy_replay opened found).stopped ≡ false → (replay toy_rules opened found).stopped ≡ false
  takes_changes found is = subst (λ s. s.stopped ≡ false) (sym (same_replay opened found)) is

  is_stopped : (found : List ToyEntry) → (toy_replay opened found).stopped ≡ true → (replay toy_rules opened found).stopped ≡ true
  is_stopped found is = subst (λ s. s.stopped ≡ true) (sym (same_replay opened found)) is

  -- an upload that ended so, behind these points
  served : (number met : ℕ) (before seen after : List ToyEntry) (passed left : List ToyPoint) (reply : ToyReply) (position next_edge : ℕ)
      → upload_course number ≡ passed ++ left → HavePassed toy_rules opened by Upload passed before seen
      → Ends toy_rules opened by Upload met (length before) (upload_course number) passed left seen reply position next_edge after
      → IsServed toy_rules opened by before after Upload met reply position next_edge
  served number met before seen after passed left reply position next_edge course points ends = record {
    fixed = number;
    passed = passed;
    left = left;
    course = course;
    seen = seen;
    points = points;
    next = after;
    ended = ends;
    later = [];
    apart = All-nil _;
    whole = sym (append-nil after);
  }

  -- ---- faults

  pub fault_ticket : (before after : List ToyEntry) (met number : ℕ) (reply : ToyReply)
      → (f : Failed opened by (TakesNumber number) before after) → (number ≡ (toy_replay opened f.0).next) → IsOfFault toy_rules met reply
      → IsServed toy_rules opened by before after Upload met reply (length after) (length after)
  fault_ticket before after met number reply f fresh says =
      served number met before before after [] (upload_course number) reply (length after) (length after) refl refl
      (Faulted (Takes number) (Looks ∷ Puts number ∷ []) (TakesNumber number) f.0 refl refl f.1
      (takes_changes f.0 f.2, fresh ∙ ap (λ s. s.next) (sym (same_replay opened f.0))) says f.3 refl refl)

  pub fault_put : (before taken after : List ToyEntry) (met number : ℕ) (reply : ToyReply)
      → TookNumber opened by before taken number → Failed opened by (PutsBody number) taken after → IsOfFault toy_rules met reply
      → IsServed toy_rules opened by before after Upload met reply (length after) (length after)
  fault_put before taken after met number reply took f says =
      served number met before taken after (Takes number ∷ Looks ∷ []) (Puts number ∷ []) reply (length after) (length after) refl
      (looked opened by before taken taken number took (nothing_came toy_rules by taken))
      (Faulted (Puts number) [] (PutsBody number) f.0 refl refl f.1 (takes_changes f.0 f.2) says f.3 refl refl)

  pub fault_giving_up : (before taken found after : List ToyEntry) (met number : ℕ) (reply : ToyReply)
      → TookNumber opened by before taken number → Tried opened by 10 taken found
      → Failed opened by (GivesBack number) found after → IsOfFault toy_rules met reply
      → IsServed toy_rules opened by before after Upload met reply (length after) (length after)
  fault_giving_up before taken found after met number reply took tried f says =
      served number met before taken after (Takes number ∷ []) (Looks ∷ Puts number ∷ []) reply (length after) (length after) refl
      (taken_passed opened by before taken number took)
      (Broken TooManyTries (GivesBack number) found f.0 (tried_came opened by 10 taken found tried)
      (ByCause (λ none. absurd (cc (none))) (too_many opened by before taken found number took tried)) refl f.1 (takes_changes f.0 f.2) says f.3 refl refl)

  -- ---- refusals

  pub ends_early : (before found : List ToyEntry) (met : ℕ) → FoundStopped opened by before found
      → IsServed toy_rules opened by before found Upload met Stopped (length found) (length found)
  ends_early before found met f =
      served 0 met before before found [] (upload_course 0) Stopped (length found) (length found) refl refl
      (IsStopped found f.0 (ByState (Takes 0) (Looks ∷ Puts 0 ∷ []) refl (is_stopped found f.1, refl)) refl (OwesNothing refl refl refl))

  pub ends_late : (before taken found : List ToyEntry) (met number : ℕ) → TookNumber opened by before taken number → FoundStopped opened by taken found
      → IsServed toy_rules opened by before found Upload met Stopped (length found) (length found)
  ends_late before taken found met number took f =
      served number met before taken found (Takes number ∷ Looks ∷ []) (Puts number ∷ []) Stopped (length found) (length found) refl
      (looked opened by before taken taken number took (nothing_came toy_rules by taken))
      (IsStopped found f.0 (ByState (Puts number) [] refl (is_stopped found f.1, refl)) refl
      (Shut (nothing_came toy_rules by found) (is_stopped found f.1) refl))

  -- ---- want of memory

  pub ends_memory : (before : List ToyEntry) (met : ℕ)
      → IsServed toy_rules opened by before before Upload met NoMemory (length before) (length before)
  ends_memory before met =
      served 0 met before before before [] (upload_course 0) NoMemory (length before) (length before) refl refl
      (IsStopped before (nothing_came toy_rules by before) (ByMemory refl) refl (OwesNothing refl refl refl))

  pub ends_kept : (before taken : List ToyEntry) (met number : ℕ) → TookNumber opened by before taken number
      → IsServed toy_rules opened by before taken Upload met NoMemory (length taken) (length taken)
  ends_kept before taken met number took =
      served number met before taken taken (Takes number ∷ []) (Looks ∷ Puts number ∷ []) NoMemory (length taken) (length taken) refl
      (taken_passed opened by before taken number took)
      (IsStopped taken (nothing_came toy_rules by taken) (ByMemory refl) refl (Keeps refl refl refl))

  pub ends_gave : (before taken after : List ToyEntry) (met number : ℕ)
      → TookNumber opened by before taken number → GaveBack opened by taken after number
      → IsServed toy_rules opened by before after Upload met NoMemory (length taken) (length after)
  ends_gave before taken after met number took gave =
      served number met before taken after (Takes number ∷ []) (Looks ∷ Puts number ∷ []) NoMemory (length taken) (length after) refl
      (taken_passed opened by before taken number took)
      (IsStopped taken (nothing_came toy_rules by taken) (ByMemory refl) refl
      (GivenUp (GivesBack number) gave.0 refl gave.1 (takes_changes gave.0 gave.2) gave.3 refl))

  pub ends_printing : (before taken after : List ToyEntry) (met number : ℕ)
      → TookNumber opened by before taken number → PutBody opened by taken after number
      → IsServed toy_rules opened by before after Upload met NoMemory (length after) (length after)
  ends_printing before taken after met number took put =
      served number met before after after (upload_course number) [] NoMemory (length after) (length after) refl
      (one_point_more toy_rules opened by Upload (Takes number ∷ Looks ∷ []) (Puts number) before taken after
      (looked opened by before taken taken number took (nothing_came toy_rules by taken)) (put.0, put.1, takes_changes put.0 put.2, put.3))
      (IsStopped after (nothing_came toy_rules by after) (ByMemory refl) refl (OwesNothing refl refl refl))
