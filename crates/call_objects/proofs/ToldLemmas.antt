-- The reply to a flow is what its client is told of it, or that memory ran out.
use Rattle.std.proofs.Common.{◌≡◌, inl, inr, Some, sym, ap, ◌∙◌}
use Rattle.lake_model.specs.declared.fault.StepFault.{StepFault}
use Rattle.lake_model.specs.declared.fault.StepFault.TheVariants as step
use Rattle.lake_calls.specs.CallRefusals.{CallNames, IsToldOf}
use Rattle.lake_calls.specs.declared.reply.CallReply.{CallReply}
use Rattle.lake_calls.specs.declared.reply.CallReply.TheVariants as reply
use Rattle.lake_calls.specs.declared.reply.Refusal.{Refusal}
use Rattle.lake_calls.specs.declared.reply.Refusal.TheVariants as refusal
use Rattle.read_flow.specs.WrittenWords.{BlockFault, Damaged, FlowFault, Gone, IsFlowTold, Lost, NoMemory, NoPath, NotHeld, Step, TooManyTries}
use Rattle.call_readings.specs.ToldFaults.{IsFaultTold, IsTextTold}
use Rattle.call_readings.proofs.ToldLemmas.{IsTellable, told_plainly}
use Rattle.call_objects.specs.ToldFlows.{IsFlowReplied}
use Rattle.call_objects.proofs.AnsweredLemmas.{ToldOrStarved}

-- two replies that tell of one fault are equal
one_told : (names : CallNames) (fault : StepFault) (one other : CallReply) → IsToldOf names fault one → IsToldOf names fault other → other ≡ one
one_told names fault one other of_one of_other =
    let both : Some of_one.0 ≡ Some of_other.0 = sym of_one.1 ∙ of_other.1 in
    let same : of_one.0 ≡ of_other.0 = cc (both) in
    of_other.2 ∙ ap reply.Refused (sym same) ∙ sym of_one.2

step_told : (names : CallNames) (fault : StepFault) (one other : CallReply) → IsTellable fault → IsToldOf names fault one → IsFaultTold names fault other
    → ToldOrStarved one other
step_told names fault one other tellable of_one is =
    elim (told_plainly names fault other tellable is) [ inl so ↦ inl (one_told names fault one other of_one so) | inr none ↦ inr none ]

-- a text that is told
text_told : (refused : Refusal) (one other : CallReply) → one ≡ reply.Refused refused → IsTextTold refused other → ToldOrStarved one other
text_told refused one other is (inl so) = inl (so ∙ sym is)
text_told refused one other is (inr none) = inr none

by_step : (names : CallNames) (fault : StepFault) (one other : CallReply) → IsFlowTold names (Step fault) one → IsFaultTold names fault other
    → ToldOrStarved one other
by_step names step.StoreFault one other of_one is = inl (is ∙ sym of_one)
by_step names (step.Changed version settings) one other of_one is = absurd (let none = of_one.1 in cc (none))
by_step names step.NoMemory one other of_one is = absurd (let none = of_one.1 in cc (none))
by_step names fault one other of_one is = step_told names fault one other tt of_one is

-- the reply to a flow's refusal
pub refusal_told : (names : CallNames) (fault : FlowFault) (one other : CallReply) → IsFlowTold names fault one → IsFlowReplied names fault other
    → ToldOrStarved one other
refusal_told names (Step fault) one other of_one is = by_step names fault one other of_one is
refusal_told names (TooManyTries first last) one other of_one is = inl (is ∙ sym of_one)
refusal_told names NoPath one other of_one is = text_told (refusal.NoPath names.path) one other of_one is
refusal_told names (Gone number) one other of_one is = text_told (refusal.Gone names.path) one other of_one is
refusal_told names (NotHeld address) one other of_one is = text_told (refusal.NotHeld names.path) one other of_one is
refusal_told names (Lost number) one other of_one is = text_told (refusal.Lost names.path) one other of_one is
refusal_told names (Damaged named found) one other of_one is = text_told (refusal.Damaged names.path) one other of_one is
refusal_told names BlockFault one other of_one is = inl (is ∙ sym of_one)
refusal_told names NoMemory one other of_one is = inl (is ∙ sym of_one)
