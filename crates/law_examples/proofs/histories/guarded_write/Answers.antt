use Rattle.std.proofs.Common.{refl}
use Rattle.lake_model.specs.Versions.{fresh_versions}
use Rattle.law_examples.proofs.GuardLemmas.{course, second, late, current, before, later}
use Rattle.law_examples.proofs.VersionsLemmas.{first_version, no_settings}
use Rattle.law_examples.proofs.histories.guarded_write.Goals as goal

pub returns-clause-first : goal.returns-clause-first
returns-clause-first c = first_version

pub returns-clause-settings : goal.returns-clause-settings
returns-clause-settings c = no_settings fresh_versions refl

pub returns-clause-legal : goal.returns-clause-legal
returns-clause-legal c cut = (course cut).legal

pub returns-clause-second : goal.returns-clause-second
returns-clause-second c = second

pub returns-clause-late : goal.returns-clause-late
returns-clause-late c = late

pub returns-clause-current : goal.returns-clause-current
returns-clause-current c = current

pub returns-clause-before : goal.returns-clause-before
returns-clause-before c = before

pub returns-clause-after : goal.returns-clause-after
returns-clause-after c = later
