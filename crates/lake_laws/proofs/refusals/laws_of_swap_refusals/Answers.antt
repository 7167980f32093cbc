use Rattle.lake_model.specs.declared.reply.SwapKind.TheVariants as kind
use Rattle.lake_laws.proofs.SwapRefusalLemmas.{swap_clash_none, swap_none}
use Rattle.lake_laws.proofs.refusals.laws_of_swap_refusals.Goals as goal

pub returns-clause-causes : goal.returns-clause-causes
returns-clause-causes c state given by repo branch kind.Commit about may = swap_none state _ may given repo branch kind.Commit about may.possible
returns-clause-causes c state given by repo branch (kind.Merge source strategy) about may =
    swap_none state _ may given repo branch (kind.Merge source strategy) about may.possible
returns-clause-causes c state given by repo branch (kind.Pick base source strategy) about may =
    swap_none state _ may given repo branch (kind.Pick base source strategy) about may.possible

pub returns-clause-clash : goal.returns-clause-clash
returns-clause-clash c state by repo branch swap about may = swap_clash_none state by.seat repo branch swap about may.possible
