-- How a call ends whose points passed so far, and that it is served then.
use Rattle.std.proofs.Common.{◌≡◌, ℕ, false, List, [], ◌∷◌, ◌++◌, length, Option, Some, None, refl, sym, subst}
use Rattle.std.proofs.lemmas.List.{append-nil}
use Rattle.std.proofs.lemmas.List.Elements.{All-nil}
use Rattle.lake_model.specs.declared.history.HistoryEntry.{HistoryEntry}
use Rattle.lake_model.specs.declared.history.Operation.{Operation}
use Rattle.lake_model.specs.State.{State}
use Rattle.lake_model.specs.History.{accepted_entry, after, faulted_entry, replay}
use Rattle.call_placement.specs.Rules.{Caller}
use Rattle.call_placement.specs.Points.{replay as along, Came, HavePassed, made}
use Rattle.call_placement.specs.Served.{IsOfFault, Hinders, GivesUp, Ends, Done, Stopped, Faulted, Broken, IsServed}
use Rattle.call_placement.proofs.WalkLemmas.{nothing_came, came_on, one_point_more}
use Rattle.lake_calls.specs.CallExceptions.{CallMet}
use Rattle.lake_calls.specs.Courses.{CallPoint, Fixed, Makes}
use Rattle.lake_calls.specs.LakeRules.{by_caller, is_closed, lake_rules}
use Rattle.lake_calls.specs.Requests.{CallRequest}
use Rattle.lake_calls.specs.declared.reply.CallReply.{CallReply}

-- the rules' replay is the lake's
pub same_replay : (state : State) (entries : List HistoryEntry) → along lake_rules state entries ≡ replay state entries
same_replay state [] = refl
same_replay state (entry ∷ entries) = same_replay (after state entry) entries

-- what holds of the lake's holds of the rules'
pub moved : (P : State → Type 0) (state : State) (entries : List HistoryEntry) → P (replay state entries) → P (along lake_rules state entries)
moved P state entries = subst P (sym (same_replay state entries))

module _ (opened : State) (by : Caller) (request : CallRequest) where
  -- so far these points of a course passed, and then only others' entries came
  pub record HasReached (points : List CallPoint) (from now : List HistoryEntry) : Type 0 where
    pub seen : List HistoryEntry
    pub passed : HavePassed lake_rules opened by request points from seen
    pub came : Came lake_rules by seen now

  pub reached_nothing : (from : List HistoryEntry) → HasReached [] from from
  reached_nothing from = record { seen = from; passed = refl; came = nothing_came lake_rules by from }

  -- and more of others came
  pub reached_on : (points : List CallPoint) (from now next : List HistoryEntry) → HasReached points from now → Came lake_rules by now next
      → HasReached points from next
  reached_on points from now next reached came =
      record { seen = reached.seen; passed = reached.passed; came = came_on lake_rules by reached.seen now next reached.came came }

  -- and a further point read
  pub reached_reading : (points : List CallPoint) (point : CallPoint) (from now : List HistoryEntry) → HasReached points from now
      → lake_rules.makes point ≡ None → lake_rules.passes by request point (along lake_rules opened now) → HasReached (points ++ point ∷ []) from now
  reached_reading points point from now reached reads passes = record {
    seen = now;
    passed = one_point_more lake_rules opened by request points point from reached.seen now reached.passed
        (now, reached.came, passes, subst (λ o. now ≡ now ++ made lake_rules by o) (sym reads) (sym (append-nil now)));
    came = nothing_came lake_rules by now;
  }

  -- or it made its entry
  pub reached_step : (points : List CallPoint) (operation : Operation) (from found next : List HistoryEntry) → HasReached points from found
      → lake_rules.passes by request (Makes operation) (along lake_rules opened found)
      → next ≡ found ++ accepted_entry (by_caller by) operation ∷ [] → HasReached (points ++ Makes operation ∷ []) from next
  reached_step points operation from found next reached passes is = record {
    seen = next;
    passed = one_point_more lake_rules opened by request points (Makes operation) from reached.seen next reached.passed (found, reached.came, passes, is);
    came = nothing_came lake_rules by next;
  }

  module _ (met : CallMet) (told : CallReply) (fixed : Fixed) (before : List HistoryEntry) where
    served : (passed left : List CallPoint) (seen next : List HistoryEntry) (position next_edge : ℕ) → lake_rules.course request fixed ≡ passed ++ left
        → HavePassed lake_rules opened by request passed before seen
        → Ends lake_rules opened by request met (length before) (lake_rules.course request fixed) passed left seen told position next_edge next
        → IsServed lake_rules opened by before next request met told position next_edge
    served passed left seen next position next_edge course points ends = record {
      fixed = fixed;
      passed = passed;
      left = left;
      course = course;
      seen = seen;
      points = points;
      next = next;
      ended = ends;
      later = [];
      apart = All-nil _;
      whole = sym (append-nil next);
    }

    -- a call of which the last point passes is done
    pub served_done : (passed : List CallPoint) (last : CallPoint) (found next : List HistoryEntry) → lake_rules.course request fixed ≡ passed ++ last ∷ []
        → HasReached passed before found → lake_rules.passes by request last (along lake_rules opened found)
        → lake_rules.answers by request met (lake_rules.course request fixed) (along lake_rules opened found) told
        → next ≡ found ++ made lake_rules by (lake_rules.makes last)
        → IsServed lake_rules opened by before next request met told (length next) (length next)
    served_done passed last found next course reached passes answers is =
        served passed (last ∷ []) reached.seen next (length next) (length next) course reached.passed
        (Done last found refl reached.came passes answers is refl refl)

    -- one that something hinders is refused, once it has given up what it owes
    pub served_stopped : (passed left : List CallPoint) (found next : List HistoryEntry) (next_edge : ℕ) → lake_rules.course request fixed ≡ passed ++ left
        → HasReached passed before found → Hinders lake_rules opened by request met (length before) left found told
        → GivesUp lake_rules opened by (lake_rules.owed request passed) told found next next_edge
        → IsServed lake_rules opened by before next request met told (length found) next_edge
    served_stopped passed left found next next_edge course reached hinders gives =
        served passed left reached.seen next (length found) next_edge course reached.passed (Stopped found reached.came hinders refl gives)

    -- one at whose point the store failed
    pub served_faulted : (passed later : List CallPoint) (point : CallPoint) (operation : Operation) (found next : List HistoryEntry)
        → lake_rules.course request fixed ≡ passed ++ point ∷ later → HasReached passed before found → lake_rules.makes point ≡ Some operation
        → lake_rules.passes by request point (along lake_rules opened found) → IsOfFault lake_rules met told
        → next ≡ found ++ faulted_entry (by_caller by) operation ∷ [] → IsServed lake_rules opened by before next request met told (length next) (length next)
    served_faulted passed later point operation found next course reached makes passes says is =
        served passed (point ∷ later) reached.seen next (length next) (length next) course reached.passed
        (Faulted point later operation found refl makes reached.came passes says is refl refl)

    -- and one that was hindered, and at whose giving up the store failed
    pub served_broken : (refusal : CallReply) (passed left : List CallPoint) (operation : Operation) (hindered found next : List HistoryEntry)
        → lake_rules.course request fixed ≡ passed ++ left → HasReached passed before hindered
        → Hinders lake_rules opened by request met (length before) left hindered refusal → lake_rules.owed request passed ≡ Some operation
        → Came lake_rules by hindered found → is_closed (along lake_rules opened found) ≡ false → IsOfFault lake_rules met told
        → next ≡ found ++ faulted_entry (by_caller by) operation ∷ [] → IsServed lake_rules opened by before next request met told (length next) (length next)
    served_broken refusal passed left operation hindered found next course reached hinders owed came unshut says is =
        served passed left reached.seen next (length next) (length next) course reached.passed
        (Broken refusal operation hindered found reached.came hinders owed came unshut says is refl refl)
