-- What is said of flows that write, handed on.
pub use Rattle.write_flow.specs.FlowFaults.{IsFlowTold}
pub use Rattle.write_flow.specs.Uploads.{IsUploadTold}
pub use Rattle.write_flow.specs.WriteFlows.{IsAnswer, IsCopyTold, IsOutcomeTold, NeverFall}
pub use Rattle.write_flow.specs.declared.answer.Done.{Done}
pub use Rattle.write_flow.specs.declared.answer.FlowFault.{FlowFault}
pub use Rattle.write_flow.specs.declared.answer.FlowFault.TheVariants.{BlockFault, Damaged, Gone, Lost, NoMemory, NoPath, NotHeld, Step, TooManyTries}
