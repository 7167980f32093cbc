-- The keeper may go to another thread by the bound.
use denote.Exit.{no}
use denote.Param.Send.{arg_send, arg_sync, param_send, param_sync}
use Rattle.shared_lake.proofs.SendLemmas.{shared_send, shared_sync}
use Rattle.shared_lake.proofs.threads.shared_lakes_cross.Goals as goal

pub may_move-requires-send-T : goal.may_move-requires-send-T
may_move-requires-send-T g c κs within = param_send _ _ (arg_send _ no _ (shared_send _ g.K.Keeper c.type_bounds.send-K))

pub may_be_shared-requires-sync-T : goal.may_be_shared-requires-sync-T
may_be_shared-requires-sync-T g c κs within = param_sync _ _ (arg_sync _ no _ (shared_sync _ g.K.Keeper c.type_bounds.send-K))
