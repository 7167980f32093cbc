-- What stands at one place of two courses of a call has one value: one point passes, or one refusal is told.
use Rattle.std.proofs.Common.{◌≡◌, ℕ, List, refl, ap, sym, ◌∙◌, subst}
use Rattle.std.specs.Prelude.{Option, Some, None}
use mathlib.Core.Logic.{inl, inr}
use Rattle.lake_base.specs.declared.digest.Digest.{Digest}
use Rattle.lake_model.specs.declared.fault.StepFault.{StepFault}
use Rattle.lake_model.specs.declared.fault.StepFault.TheVariants.{NameClash}
use Rattle.lake_model.specs.declared.history.Operation.{Operation}
use Rattle.lake_model.specs.declared.reply.Point.{Point}
use Rattle.lake_model.specs.State.{State}
use Rattle.lake_model.specs.HeadRefusals.{ReadingRefusal, Step, Head}
use Rattle.lake_model.specs.Refusals.{Clash, clash_fault, first_cause}
use Rattle.lake_calls.specs.CallRefusals.{CallNames, IsClashOf, IsToldOf, IsToldOfReading, MayFix, PointPasses, PointRefused, StepPasses, StepRefused}
use Rattle.lake_calls.specs.CallRefusals.{chosen_parent, names_of, parent_number, step_causes, told}
use Rattle.lake_calls.specs.Courses.{CallPoint, Answers, Finds, ResolvesSource, ResolvesParent, Looks, Prepares, Makes}
use Rattle.lake_calls.specs.declared.call.Call.{Call}
use Rattle.lake_calls.specs.NoClashes.{AreOneButForClash, TellsClash}
use Rattle.lake_calls.specs.declared.reply.CallReply.{CallReply}
use Rattle.lake_calls.specs.declared.reply.CallReply.TheVariants.{Refused}
use Rattle.lake_calls.specs.declared.reply.Refusal.TheVariants as refusal
use Rattle.lake_calls.proofs.ClashLemmas.{ForOneOrClashes, IsClear, either_cause, same_cause}

-- two points that may stand at one place of two courses of a call
pub record Alike (call : Call) (p q : CallPoint) : Type 0 where
  pub one : (state : State) → PointPasses call p state → PointPasses call q state → p ≡ q
  pub apart : (state : State) (reply : CallReply) → PointPasses call p state → PointRefused call q state reply → ⊥
  pub same : (state : State) → IsClear p state → (a b : CallReply) → PointRefused call p state a → PointRefused call q state b → a ≡ b
  pub like : (state : State) (a b : CallReply) → PointRefused call p state a → PointRefused call q state b → AreOneButForClash a b

-- ---- what is told

told_same : (names : CallNames) (f g : StepFault) (a b : CallReply) → f ≡ g → IsToldOf names f a → IsToldOf names g b → a ≡ b
told_same names f g a b is one two =
    let same : Some one.0 ≡ Some two.0 = sym one.1 ∙ (ap (told names) is ∙ two.1) in cc (same, one.2, two.2)

one_reading : (names : CallNames) (r : ReadingRefusal) (a b : CallReply) → IsToldOfReading names r a → IsToldOfReading names r b → a ≡ b
one_reading names (Step fault) a b one two = told_same names fault fault a b refl one two
one_reading names (Head refused) a b one two = one ∙ sym two

reading_same : (names : CallNames) (r q : ReadingRefusal) (a b : CallReply) → r ≡ q → IsToldOfReading names r a → IsToldOfReading names q b → a ≡ b
reading_same names r q a b is one two = one_reading names q a b (subst (λ w. IsToldOfReading names w a) is one) two

-- ---- steps

module _ (call : Call) (operation : Operation) (state : State) where
  refused_for : (reply : CallReply) → IsClashOf state operation None → (r : StepRefused state call operation reply)
      → first_cause (step_causes state call operation None) ≡ Some r.fault
  refused_for reply none r = same_cause state call operation r.clash none r.is_clash ∙ r.first

  step_apart : (reply : CallReply) → StepPasses state call operation → StepRefused state call operation reply → ⊥
  step_apart reply passes refused =
      let none = passes.none in
      let some = refused_for reply passes.no_clash refused in absurd (cc (none, some))

  step_same : IsClashOf state operation None → (a b : CallReply) → StepRefused state call operation a → StepRefused state call operation b → a ≡ b
  step_same none a b r q =
      let first = refused_for a none r in
      let other = refused_for b none q in
      let faults : r.fault ≡ q.fault = cc (first, other) in told_same (names_of call) r.fault q.fault a b faults r.told_so q.told_so

  -- what is refused for a clash tells of it
  tells : (reply : CallReply) (r : StepRefused state call operation reply) (clash : Clash)
      → first_cause (step_causes state call operation r.clash) ≡ clash_fault (Some clash) → TellsClash reply
  tells reply r clash is =
      let first = r.first in
      let fault : r.fault ≡ NameClash clash.name clash.kept clash.new = cc (first, is) in
      let refused : Some (refusal.NameClash clash.name) ≡ Some r.told_so.0 = sym (ap (told (names_of call)) fault) ∙ r.told_so.1 in
      let same : refusal.NameClash clash.name ≡ r.told_so.0 = cc (refused) in (clash.name, r.told_so.2 ∙ ap Refused (sym same))

  step_like : (a b : CallReply) (r : StepRefused state call operation a) (q : StepRefused state call operation b)
      → ForOneOrClashes state call operation r.clash q.clash → AreOneButForClash a b
  step_like a b r q (inl one) =
      let first = r.first in
      let other = q.first in
      let faults : r.fault ≡ q.fault = cc (first, other, one) in
      inl (told_same (names_of call) r.fault q.fault a b faults r.told_so q.told_so)
  step_like a b r q (inr both) = inr (tells a r both.0 both.2, tells b q both.1 both.3)

-- ---- every point

-- what passes isn't refused
apart : (call : Call) (p : CallPoint) (state : State) (reply : CallReply) → PointPasses call p state → PointRefused call p state reply → ⊥
apart call Answers state reply passes refused = absurd (cc (passes.1, refused.1))
apart call (Finds c) state reply passes (inl refused) = absurd (cc (passes.1, refused.1))
apart call (Finds c) state reply passes (inr refused) = absurd (cc (passes.1, refused.1))
apart call (ResolvesSource commit) state reply passes refused = absurd (cc (passes.1, refused.1))
apart call (ResolvesParent commit parent message) state reply passes (inl refused) = absurd (cc (passes.1, refused.1))
apart call (ResolvesParent commit parent message) state reply passes (inr refused) =
    let point : passes.0 ≡ refused.0 = cc (passes.1, refused.2) in
    let chosen = ap (λ (w : Point). chosen_parent w.parents (parent_number call)) point in absurd (cc (passes.4, refused.3, chosen))
apart call (Looks repo branch) state reply passes refused = absurd (cc (passes, refused.1))
apart call (Prepares repo branch kind about) state reply passes refused = absurd (cc (passes, refused.1))
apart call (Makes operation) state reply passes refused =
    step_apart call operation state reply passes refused

-- and it has one refusal
same : (call : Call) (p : CallPoint) (state : State) → IsClear p state → (a b : CallReply) → PointRefused call p state a → PointRefused call p state b → a ≡ b
same call Answers state clear a b one two =
    let faults : one.0 ≡ two.0 = cc (one.1, two.1) in told_same (names_of call) one.0 two.0 a b faults one.2 two.2
same call (Finds c) state clear a b (inl one) (inl two) =
    let faults : one.0 ≡ two.0 = cc (one.1, two.1) in told_same (names_of call) one.0 two.0 a b faults one.2 two.2
same call (Finds c) state clear a b (inl one) (inr two) = absurd (cc (one.1, two.1))
same call (Finds c) state clear a b (inr one) (inl two) = absurd (cc (one.1, two.1))
same call (Finds c) state clear a b (inr one) (inr two) = cc (one.1, two.1, one.2, two.2)
same call (ResolvesSource commit) state clear a b one two =
    let faults : one.0 ≡ two.0 = cc (one.1, two.1) in told_same (names_of call) one.0 two.0 a b faults one.2 two.2
same call (ResolvesParent commit parent message) state clear a b (inl one) (inl two) =
    let faults : one.0 ≡ two.0 = cc (one.1, two.1) in told_same (names_of call) one.0 two.0 a b faults one.2 two.2
same call (ResolvesParent commit parent message) state clear a b (inl one) (inr two) = absurd (cc (one.1, two.2))
same call (ResolvesParent commit parent message) state clear a b (inr one) (inl two) = absurd (cc (one.2, two.1))
same call (ResolvesParent commit parent message) state clear a b (inr one) (inr two) =
    let point : one.0 ≡ two.0 = cc (one.2, two.2) in
    let chosen = ap (λ (w : Point). chosen_parent w.parents (parent_number call)) point in cc (one.3, two.3, chosen, one.4, two.4)
same call (Looks repo branch) state clear a b one two =
    let faults : one.0 ≡ two.0 = cc (one.1, two.1) in told_same (names_of call) one.0 two.0 a b faults one.2 two.2
same call (Prepares repo branch kind about) state clear a b one two =
    let refusals : one.0 ≡ two.0 = cc (one.1, two.1) in reading_same (names_of call) one.0 two.0 a b refusals one.2 two.2
same call (Makes operation) state clear a b one two =
    step_same call operation state clear a b one two

-- or none but for the clash that is told
alike : (call : Call) (p : CallPoint) (state : State) (a b : CallReply) → PointRefused call p state a → PointRefused call p state b → AreOneButForClash a b
alike call (Makes operation) state a b one two =
    step_like call operation state a b one two (either_cause state call operation one.clash two.clash one.is_clash two.is_clash)
alike call Answers state a b one two = inl (same call Answers state tt a b one two)
alike call (Finds c) state a b one two = inl (same call (Finds c) state tt a b one two)
alike call (ResolvesSource commit) state a b one two = inl (same call (ResolvesSource commit) state tt a b one two)
alike call (ResolvesParent commit parent message) state a b one two = inl (same call (ResolvesParent commit parent message) state tt a b one two)
alike call (Looks repo branch) state a b one two = inl (same call (Looks repo branch) state tt a b one two)
alike call (Prepares repo branch kind about) state a b one two = inl (same call (Prepares repo branch kind about) state tt a b one two)

-- a point is like itself
pub point_alike : (call : Call) (p : CallPoint) → Alike call p p
point_alike call p = record { one = λ state a b. refl; apart = apart call p; same = same call p; like = alike call p }

-- two operations of which a call makes one: the same refuses both, and what passes is one
module _ (call : Call) (one two : Operation) (clashes : (state : State) (clash : Option Clash) → IsClashOf state two clash → IsClashOf state one clash)
    (causes : (state : State) (clash : Option Clash) → first_cause (step_causes state call one clash) ≡ first_cause (step_causes state call two clash))
    (fixes : (state : State) → MayFix state call one → MayFix state call two → one ≡ two) where
  -- what refuses one refuses the other
  other_refused : (state : State) (reply : CallReply) → StepRefused state call two reply → StepRefused state call one reply
  other_refused state reply r = record {
    clash = r.clash;
    is_clash = clashes state r.clash r.is_clash;
    fault = r.fault;
    first = causes state r.clash ∙ r.first;
    told_so = r.told_so;
  }

  pub steps_alike : Alike call (Makes one) (Makes two)
  steps_alike = record {
    one = λ state a b. ap Makes (fixes state a.fixes b.fixes);
    apart = λ state reply a b. step_apart call one state reply a (other_refused state reply b);
    same = λ state none x y a b. step_same call one state none x y a (other_refused state y b);
    like = λ state x y a b. alike call (Makes one) state x y a (other_refused state y b);
  }

-- two readings that resolve what is merged
pub source_alike : (call : Call) (commit other : Digest) → Alike call (ResolvesSource commit) (ResolvesSource other)
source_alike call commit other = record {
  one = λ state a b.
      let points : a.0 ≡ b.0 = cc (a.1, b.1) in
      ap ResolvesSource (sym a.2 ∙ (ap (λ (w : Point). w.commit) points ∙ b.2));
  apart = apart call (ResolvesSource commit);
  same = same call (ResolvesSource commit);
  like = alike call (ResolvesSource commit);
}

-- two readings that resolve what is taken or undone
pub parent_alike : (call : Call) (commit parent : Digest) (message : List ℕ) (commit' parent' : Digest) (message' : List ℕ)
    → Alike call (ResolvesParent commit parent message) (ResolvesParent commit' parent' message')
parent_alike call commit parent message commit' parent' message' = record {
  one = λ state a b.
      let points : a.0 ≡ b.0 = cc (a.1, b.1) in
      let commits : commit ≡ commit' = sym a.2 ∙ (ap (λ (w : Point). w.commit) points ∙ b.2) in
      let messages : message ≡ message' = sym a.3 ∙ (ap (λ (w : Point). w.message) points ∙ b.3) in
      let chosen = ap (λ (w : Point). chosen_parent w.parents (parent_number call)) points in
      let parents : parent ≡ parent' = cc (a.4, b.4, chosen) in
      λ i. ResolvesParent (commits i) (parents i) (messages i);
  apart = apart call (ResolvesParent commit parent message);
  same = same call (ResolvesParent commit parent message);
  like = alike call (ResolvesParent commit parent message);
}
