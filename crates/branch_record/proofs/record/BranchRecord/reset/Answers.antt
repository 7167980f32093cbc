use Rattle.std.proofs.Common.{◌≡◌, ap, sym, subst, ◌∙◌}
use Rattle.lake_values.specs.Reset.{changes_after_reset}
use Rattle.branch_record.specs.Record.{AreDistinct}
use Rattle.branch_record.specs.Tokens.{changes_under, with_changes, with_each}
use Rattle.branch_record.proofs.TokensLemmas.{rest_distinct, first_apart, changed_first}
use Rattle.branch_record.proofs.record.BranchRecord.reset.Goals as goal

pub reset_all-requires : goal.reset_all-requires
reset_all-requires c = subst AreDistinct (sym c.sealed.ensures.tokens) (rest_distinct c.args.self.now.staging c.args.self.now.sealed c.sealed.ensures.distinct)

pub returns : goal.returns
returns c =
    let r = c.args.self.now in
    let f = changes_after_reset c.args.what.now in
    let old = c.args.tokens.now.changes in
    let before : c.reset_all.new.tokens.changes ≡ with_each r.sealed f old = c.reset_all.ensures ∙ ap (λ l. with_each l f old) c.sealed.ensures.tokens in
    c.reset.ensures
    ∙ (λ i. with_changes (before i) (c.staging.ensures.token i) (f (changes_under (before i) (c.staging.ensures.token i))))
    ∙ changed_first f old r.sealed r.staging (first_apart r.staging r.sealed c.sealed.ensures.distinct)
