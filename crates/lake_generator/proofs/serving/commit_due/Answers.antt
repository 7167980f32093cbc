use Rattle.std.proofs.Common.{[], ◌++◌, ap, sym, subst, ◌∙◌}
use Rattle.std.specs.Prelude.{if◌then◌else◌}
use Rattle.lake_generator.specs.GeneratedLines.{commits_at}
use Rattle.lake_generator.specs.Serving.{Goes}
use Rattle.lake_generator.proofs.serving.commit_due.Goals as goal

pub returns-then-is_due-clause-goes : goal.returns-then-is_due-clause-goes
returns-then-is_due-clause-goes g c =
    λ first before s.
    subst (λ lines. Goes g.L.LineServer.serves first (before ++ lines) c.commit_both.result c.commit_both.new.lines)
    (ap (λ due. if due then commits_at c.args.at else []) (sym c.if-is_due.true ∙ c.is_due.ensures))
    (c.commit_both.ensures.goes first before s)
