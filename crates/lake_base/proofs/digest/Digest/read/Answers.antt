use Rattle.lake_base.proofs.DigestLemmas.{stray_fault, length_fault}
use Rattle.lake_base.proofs.digest.Digest.read.Goals as goal

pub returns-in-Some : goal.returns-in-Some
returns-in-Some c = stray_fault c.args.text.now c.min.result c.in-Some.place c.min.ensures c.in-Some.ensures

pub returns-then-text-ne64 : goal.returns-then-text-ne64
returns-then-text-ne64 c = length_fault c.args.text.now c.min.result c.min.ensures c.in_default.ensures c.if-text-ne64.true
