-- Each of a lake's fields may go to another thread, its keeper by the bound.
use denote.Exit.{no}
use denote.Param.Send.{param_send, arg_send}
use Rattle.lake_core.proofs.SendLemmas.{lake_send}
use Rattle.lake_core.proofs.threads.lakes_cross.Goals as goal

pub may_move-requires-send-T : goal.may_move-requires-send-T
may_move-requires-send-T g c κs within = param_send _ _ (arg_send _ no _ (lake_send _ g.K.Keeper c.type_bounds.send-K))
