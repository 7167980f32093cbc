-- A folder's keeper may go from thread to thread.
use denote.Exit.{no}
use denote.Param.Send.{param_send, arg_send}
use Rattle.disk_folders.proofs.SendLemmas.{pairs_send}
use Rattle.lakefs.proofs.main.Goals as goal

pub run-status-requires-send-D-Pairs : goal.run-status-requires-send-D-Pairs
run-status-requires-send-D-Pairs g c κs within = param_send _ _ (arg_send _ no _ pairs_send)
