use Rattle.std.proofs.Common.{sym, ap, ◌∙◌}
use Rattle.std.specs.Option.{is_some}
use Rattle.lake_base.specs.Names.{digest_fault}
use Rattle.lake_laws.proofs.IdTextLemmas.{named_some, named_none}
use Rattle.core_readings.proofs.NamedLemmas.{named_never}
use Rattle.core_readings.proofs.targets.commit_named.Goals as goal

pub returns-in_default : goal.returns-in_default
returns-in_default c =
    named_never c.args.repository.now.graph c.len.ensures.valid c.args.name.now c.in_default.field-0
    (ap digest_fault (sym c.as_slice.ensures.bytes) ∙ c.in_default.ensures)

pub returns-in-Some : goal.returns-in-Some
returns-in-Some c =
    named_some c.args.name.now c.in-Ok.id (ap digest_fault (sym c.as_slice.ensures.bytes) ∙ c.in-Ok.ensures.0)
    (sym c.as_slice.ensures.bytes ∙ c.in-Ok.ensures.1) c.args.repository.now.graph (ap is_some (sym c.in-Some.ensures.found))

pub returns-in-None : goal.returns-in-None
returns-in-None c =
    named_none c.args.name.now c.in-Ok.id (ap digest_fault (sym c.as_slice.ensures.bytes) ∙ c.in-Ok.ensures.0)
    (sym c.as_slice.ensures.bytes ∙ c.in-Ok.ensures.1) c.args.repository.now.graph (λ there. absurd (cc (ap is_some c.in-None.ensures.found ∙ there)))
