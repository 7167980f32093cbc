-- A shared lake is its turn, whose value may go to another thread where its keeper may.
use denote.RattleType.{RattleType}
use denote.Param.Send.{IsSend, IsSync, sendable}
use Rattle.std.proofs.Crossing.{crosses}
use Rattle.keeper.specs.declared.keeper.Keeper.{Ghosts}
use Rattle.lake_core.proofs.SendLemmas.{lake_send}
use Rattle.turn_lock.proofs.turn.Turn.TheSendSync as turn
use Rattle.shared_lake.specs.contracts.shared.Shared as shared

pub shared_send : (K : RattleType) (g : Ghosts K.Denot) → IsSend K → IsSend (shared.the_row K g)
shared_send K g keeper_send = search (turn.the_send, lake_send, crosses, sendable) depth 20

pub shared_sync : (K : RattleType) (g : Ghosts K.Denot) → IsSend K → IsSync (shared.the_row K g)
shared_sync K g keeper_send = search (turn.the_sync, lake_send, crosses, sendable) depth 20
