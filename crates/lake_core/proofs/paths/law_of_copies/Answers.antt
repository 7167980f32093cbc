use Rattle.core_causes.specs.Finding.{source_of}
use Rattle.lake_core.proofs.paths.law_of_copies.Goals as goal

pub returns-clause-sound : goal.returns-clause-sound
returns-clause-sound c = c.law_of_present.ensures

pub returns-clause-refused : goal.returns-clause-refused
returns-clause-refused c = c.laws_of_causes.ensures.copy

pub returns-clause-may : goal.returns-clause-may
returns-clause-may c opened history l by repo branch version path e from entry commit stands none finds =
    c.laws_of_writes.ensures.copy opened history l by repo branch version path e (source_of e.name commit) from entry stands none finds.found finds.source
