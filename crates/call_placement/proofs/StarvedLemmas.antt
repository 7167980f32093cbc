-- A served call of which it is told in place of its reply that memory ran out.
use Rattle.std.proofs.Common.{◌≡◌, inr, ℕ, List, [], ◌∷◌, ◌++◌, length, Option, refl, sym, ap, ◌∙◌}
use Rattle.std.proofs.lemmas.List.{append-nil}
use Rattle.call_placement.specs.Rules.{Caller, Rules}
use Rattle.call_placement.specs.Served.{Ends, GivesUp, IsServed, OwesNothing, GivenUp, Shut, Keeps}
use Rattle.call_placement.specs.Served.{ByMemory, Done, Stopped, Faulted, Broken}
use Rattle.call_placement.specs.Placed.{TellsDone}
use Rattle.call_placement.proofs.WalkLemmas.{nothing_came, one_point_more}

module _ {Entry State Operation Request Fixed Point Met Reply : Type 0} (rules : Rules Entry State Operation Request Fixed Point Met Reply) where
  -- what it owed is given up as it was
  gives_up_so : (opened : State) (by : Caller) (owed : Option Operation) (reply starved : Reply) (found next : List Entry) (edge : ℕ)
      → rules.is_no_memory starved → GivesUp rules opened by owed reply found next edge → GivesUp rules opened by owed starved found next edge
  gives_up_so opened by owed reply starved found next edge is (OwesNothing none same at) = OwesNothing none same at
  gives_up_so opened by owed reply starved found next edge is (GivenUp operation seen owes came takes stands at) =
      GivenUp operation seen owes came takes stands at
  gives_up_so opened by owed reply starved found next edge is (Shut came shut at) = Shut came shut at
  gives_up_so opened by owed reply starved found next edge is (Keeps memory same at) = Keeps is same at

  module _ (tells : TellsDone rules) (opened : State) (by : Caller) (before after : List Entry) (request : Request) (met : Met) (reply starved : Reply)
      (position edge : ℕ) (is : rules.is_no_memory starved) (s : IsServed rules opened by before after request met reply position edge) where
    -- it ends as it did
    so : Ends rules opened by request met (length before) (rules.course request s.fixed) s.passed s.left s.seen starved position edge s.next
        → IsServed rules opened by before after request met starved position edge
    so ended = record {
      fixed = s.fixed;
      passed = s.passed;
      left = s.left;
      course = s.course;
      seen = s.seen;
      points = s.points;
      next = s.next;
      ended = ended;
      later = s.later;
      apart = s.apart;
      whole = s.whole;
    }

    ends_so : Ends rules opened by request met (length before) (rules.course request s.fixed) s.passed s.left s.seen reply position edge s.next
        → IsServed rules opened by before after request met starved position edge
    -- it was done: its whole course passed, and then memory ran out
    ends_so (Done last found left came passes answers next at at_edge) =
        let course : rules.course request s.fixed ≡ s.passed ++ last ∷ [] = s.course ∙ ap (λ l. s.passed ++ l) left in record {
          fixed = s.fixed;
          passed = s.passed ++ last ∷ [];
          left = [];
          course = course ∙ sym (append-nil (s.passed ++ last ∷ []));
          seen = s.next;
          points = one_point_more rules opened by request s.passed last before s.seen s.next s.points (found, came, passes, next);
          next = s.next;
          ended = Stopped s.next (nothing_came rules by s.next) (ByMemory is) at
              (OwesNothing (sym (ap (rules.owed request) course) ∙ tells.owes_nothing request s.fixed) refl at_edge);
          later = s.later;
          apart = s.apart;
          whole = s.whole;
        }
    ends_so (Stopped found came hinders at gives) =
        so (Stopped found came (ByMemory is) at (gives_up_so opened by (rules.owed request s.passed) reply starved found s.next edge is gives))
    ends_so (Faulted point later operation found left makes came passes says next at at_edge) =
        so (Faulted point later operation found left makes came passes (inr is) next at at_edge)
    ends_so (Broken refusal operation hindered found came hinders owes goes takes says next at at_edge) =
        so (Broken refusal operation hindered found came hinders owes goes takes (inr is) next at at_edge)

    pub starves : IsServed rules opened by before after request met starved position edge
    starves = ends_so s.ended
