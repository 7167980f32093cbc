use Rattle.session_laws.proofs.HadBytes.{bytes_had}
use Rattle.session_laws.proofs.bytes.law_of_bytes_had.Goals as goal

pub returns : goal.returns
returns c = bytes_had
