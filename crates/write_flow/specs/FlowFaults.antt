-- How a flow's refusal follows from a step's, and what a client is told of it.
use Rattle.std.specs.Prelude.{◌≡◌}
use Rattle.lake_model.specs.declared.fault.StepFault.{StepFault}
use Rattle.lake_model.specs.declared.fault.StepFault.TheVariants as step
use Rattle.lake_calls.specs.CallRefusals.{CallNames, IsToldOf}
use Rattle.lake_calls.specs.declared.reply.CallReply.{CallReply}
use Rattle.lake_calls.specs.declared.reply.CallReply.TheVariants as reply
use Rattle.lake_calls.specs.declared.reply.Refusal.TheVariants as refusal
use Rattle.write_flow.specs.declared.answer.FlowFault.{FlowFault}
use Rattle.write_flow.specs.declared.answer.FlowFault.TheVariants.{Step, TooManyTries, NoPath, Gone, NotHeld, Lost, Damaged, BlockFault, NoMemory}

-- a step's refusal as a flow answers it: that nothing stands at a path and that memory ran out have answers of their own
abbrev pub fault_of_step : StepFault → FlowFault
fault_of_step step.NoPath = NoPath
fault_of_step step.NoMemory = NoMemory
fault_of_step fault = Step fault

-- what a client is told of a flow that was refused, by what its call names
abbrev pub IsFlowTold : CallNames → FlowFault → CallReply → Type 0
IsFlowTold names (Step step.StoreFault) told = told ≡ reply.Refused refusal.StoreFault
IsFlowTold names (Step fault) told = IsToldOf names fault told
IsFlowTold names (TooManyTries first last) told = told ≡ reply.Refused refusal.TooManyTries
IsFlowTold names NoPath told = told ≡ reply.Refused (refusal.NoPath names.path)
IsFlowTold names (Gone number) told = told ≡ reply.Refused (refusal.Gone names.path)
IsFlowTold names (NotHeld address) told = told ≡ reply.Refused (refusal.NotHeld names.path)
IsFlowTold names (Lost number) told = told ≡ reply.Refused (refusal.Lost names.path)
IsFlowTold names (Damaged named found) told = told ≡ reply.Refused (refusal.Damaged names.path)
IsFlowTold names BlockFault told = told ≡ reply.Refused refusal.BlockFault
IsFlowTold names NoMemory told = told ≡ reply.NoMemory
