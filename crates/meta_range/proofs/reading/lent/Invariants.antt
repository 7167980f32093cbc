use Rattle.std.proofs.Common.{◌≡◌, take}
use Rattle.meta_range.proofs.reading.lent.Given as goal

-- the files so far are lent
abbrev pub invariant-loop-file : goal.invariant-loop-file
invariant-loop-file l = l.lent.items ≡ take l.file-index l.files
