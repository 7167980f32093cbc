use Rattle.std.proofs.Common.{ap, sym, ◌∙◌}
use Rattle.hex.specs.Hex.{encode_lower}
use Rattle.lake_base.proofs.DigestLemmas.{decoded}
use Rattle.lake_base.proofs.digest.bytes_of.Goals as goal

pub unreachable-requires : goal.unreachable-requires
unreachable-requires c =
    let d = decoded c.args.text.now c.requires.long c.requires.digits in
    let w = rw d.1 at c.in-Err.ensures.value in
    cc w.0

pub returns : goal.returns
returns c =
    let d = decoded c.args.text.now c.requires.long c.requires.digits in
    let w = rw d.1 at c.in-Ok.ensures.value in
    d.2 ∙ ap encode_lower (sym w.1)
