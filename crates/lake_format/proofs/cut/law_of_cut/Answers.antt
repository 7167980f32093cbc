use Rattle.lake_format.proofs.CutLemmas.{ranges_none, ranges_of, first_can, first_longest}
use Rattle.lake_format.proofs.cut.law_of_cut.Goals as goal

pub returns-clause-none : goal.returns-clause-none
returns-clause-none c = ranges_none

pub returns-clause-first : goal.returns-clause-first
returns-clause-first c = ranges_of

pub returns-clause-can : goal.returns-clause-can
returns-clause-can c = first_can

pub returns-clause-longest : goal.returns-clause-longest
returns-clause-longest c = first_longest
