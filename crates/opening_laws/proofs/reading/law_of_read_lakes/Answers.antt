use Rattle.std.proofs.Common.{◌<◌, sym, subst}
use Rattle.opening_laws.proofs.reading.law_of_read_lakes.Goals as goal

pub returns : goal.returns
returns c cut pairs l tied ascend modulus read index =
    let laws = c.laws_of_reading.ensures in
    let fresh = laws.fresh cut pairs l read in
    let ties = c.law_of_ties.ensures l fresh (laws.ties cut pairs l tied ascend read) in
    c.law_of_opening.ensures l (laws.sound cut pairs l tied ascend read) fresh ties.0 ties.1 ties.2 index
    (subst (λ x. 0 < x.modulus) (sym read.cut_is) modulus)
