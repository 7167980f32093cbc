use Rattle.std.proofs.Common.{ap, sym, subst, ◌∙◌}
use Rattle.std.specs.FinMap.{empty}
use Rattle.lake_values.specs.Reset.{changes_after_reset}
use Rattle.lake_values.specs.declared.commit.ResetWhat.TheVariants.{All}
use Rattle.lake_values.proofs.ResetLemmas.{reset_all}
use Rattle.branch_record.specs.Record.{AreDistinct}
use Rattle.branch_record.specs.Tokens.{with_each}
use Rattle.branch_record.proofs.TokensLemmas.{rest_distinct, changed_alike}
use Rattle.branch_record.proofs.record.BranchRecord.drop_sealed.Goals as goal

pub reset_all-requires : goal.reset_all-requires
reset_all-requires c = subst AreDistinct (sym c.sealed.ensures.tokens) (rest_distinct c.args.self.now.staging c.args.self.now.sealed c.sealed.ensures.distinct)

pub returns-clause-changes : goal.returns-clause-changes
returns-clause-changes c =
    let old = c.args.tokens.now.changes in
    c.reset_all.ensures ∙ ap (λ l. with_each l (changes_after_reset All) old) c.sealed.ensures.tokens
    ∙ changed_alike c.args.self.now.sealed (changes_after_reset All) (λ _. empty) old reset_all
