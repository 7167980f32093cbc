-- A lake may go from thread to thread where its keeper may.
use denote.RattleType.{RattleType}
use denote.Param.Send.{IsSend, sendable}
use Rattle.std.proofs.Crossing.{crosses}
use Rattle.keeper.specs.declared.keeper.Keeper.{Ghosts}
use Rattle.lake_model.proofs.history.HistoryEntry.TheSendSync as entry
use Rattle.core_state.proofs.lake.LakeState.TheSendSync as state
use Rattle.lake_core.specs.contracts.lake.Lake as lake

-- each of its fields may go to another thread
pub lake_send : (K : RattleType) (g : Ghosts K.Denot) → IsSend K → IsSend (lake.the_row K g)
lake_send K g keeper_send = search (entry.the_send, state.the_field_send, crosses, sendable) depth 20
