-- A served call in a history that goes on, and one more call.
use Rattle.std.proofs.Common.{◌≡◌, ℕ, ◌+◌, List, [], ◌∷◌, ◌++◌, length, false, refl, ap, ◌∙◌, arith, append_assoc, subst}
use Rattle.std.specs.Prelude.{max}
use Rattle.std.proofs.lemmas.List.Elements.{All-append}
use Rattle.call_placement.specs.Rules.{Caller, Rules}
use Rattle.call_placement.specs.Points.{AreOfOtherCalls, is_own}
use Rattle.call_placement.specs.Served.{IsServed}
use Rattle.call_placement.specs.Sessions.{Item, caller, IsItemServed, AreServed}

module _ {Entry State Operation Request Fixed Point Met Reply : Type 0} (rules : Rules Entry State Operation Request Fixed Point Met Reply) where
  pub goes_on : (opened : State) (by : Caller) (before after more : List Entry) (request : Request) (met : Met) (reply : Reply) (position edge : ℕ)
      → IsServed rules opened by before after request met reply position edge → AreOfOtherCalls rules by more
      → IsServed rules opened by before (after ++ more) request met reply position edge
  goes_on opened by before after more request met reply position edge s apart = record {
    fixed = s.fixed;
    passed = s.passed;
    left = s.left;
    course = s.course;
    seen = s.seen;
    points = s.points;
    next = s.next;
    ended = s.ended;
    later = s.later ++ more;
    apart = All-append (λ entry. is_own rules by entry ≡ false) s.later more s.apart apart;
    whole = ap (λ w. w ++ more) s.whole ∙ append_assoc s.next s.later more;
  }

  taken_at : (opened : State) (seat number number' edge edge' : ℕ) (before before' after : List Entry) (item : Item Request Met Reply) (next : ℕ)
      → number ≡ number' → edge ≡ edge' → before ≡ before'
      → IsItemServed rules opened (caller seat number) edge before after item next (rules.form item.request)
      → IsItemServed rules opened (caller seat number') edge' before' after item next (rules.form item.request)
  taken_at opened seat number number' edge edge' before before' after item next one two three taken =
      subst (λ k. IsItemServed rules opened (caller seat k) edge' before' after item next (rules.form item.request)) one
      (subst (λ k. IsItemServed rules opened (caller seat number) k before' after item next (rules.form item.request)) two
      (subst (λ k. IsItemServed rules opened (caller seat number) edge k after item next (rules.form item.request)) three taken))

  pub one_more : (opened : State) (seat number edge last next : ℕ) (before between after : List Entry)
      (items : List (Item Request Met Reply)) (item : Item Request Met Reply)
      → AreServed rules opened seat number edge before items between last
      → IsItemServed rules opened (caller seat (number + length items)) last between after item next (rules.form item.request)
      → AreServed rules opened seat number edge before (items ++ item ∷ []) after (max last next)
  one_more opened seat number edge last next before between after [] item served taken = (
    after,
    next,
    taken_at opened seat (number + 0) number last edge between before after item next (omega arith) served.1 served.0 taken,
    (refl, ap (λ e. max e next) served.1),
  )
  one_more opened seat number edge last next before between after (first ∷ items) item served taken = (
    served.0,
    served.1,
    served.2,
    one_more opened seat (number + 1) (max edge served.1) last next served.0 between after items item served.3
        (taken_at opened seat (number + length (first ∷ items))
        (number + 1 + length items) last last between between after item next (omega arith) refl refl taken),
  )
