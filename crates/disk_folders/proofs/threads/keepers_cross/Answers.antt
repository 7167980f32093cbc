-- A folder's keeper may go from thread to thread.
use denote.Exit.{no}
use denote.Param.Send.{param_send, arg_send}
use Rattle.disk_folders.proofs.SendLemmas.{pairs_send}
use Rattle.disk_folders.proofs.threads.keepers_cross.Goals as goal

pub may_move-requires-send-T : goal.may_move-requires-send-T
may_move-requires-send-T c κs = param_send _ _ (arg_send _ no _ pairs_send)
