use Rattle.std.proofs.lemmas.Map.Keys.{IsStrictlyIncreasing-from_sorted}
use Rattle.folder_blocks.proofs.files.numbers_in.Goals as goal

pub returns : goal.returns
returns g c = rw c.in_ok-ascending.ensures.numbers (IsStrictlyIncreasing-from_sorted _ c.in_ok-ascending.ensures.ordered)
