use Rattle.std.proofs.Common.{◌∷◌, ap, sym, subst, ◌∙◌}
use Rattle.std.specs.FinMap.{entries}
use Rattle.lake_values.specs.KeyMap.{over}
use Rattle.branch_record.specs.Joined.{AreAscending, rows_joined}
use Rattle.branch_record.specs.Overlay.{layers_of}
use Rattle.branch_record.specs.Tokens.{changes_under}
use Rattle.branch_record.proofs.JoinedLemmas.{tokens_ascend, tokens_joined}
use Rattle.branch_record.proofs.LayersLemmas.{layers_next}
use Rattle.branch_record.proofs.record.BranchRecord.walk.Goals as goal

pub invariant_of-result : goal.invariant_of-result
invariant_of-result c =
    subst AreAscending (sym c.in_ok-layers.ensures) (tokens_ascend c.args.tokens.now.changes (c.staging.result ∷ c.sealed.result.now))

pub returns : goal.returns
returns c =
    let tokens = c.args.tokens.now.changes in
    ap rows_joined c.in_ok-layers.ensures
    ∙ ap entries (tokens_joined tokens (c.staging.result ∷ c.sealed.result.now))
    ∙ ap entries (layers_next tokens c.staging.result c.sealed.result.now)
    ∙ (λ i. entries (over (changes_under tokens (c.staging.ensures.token i)) (layers_of tokens (c.sealed.ensures.tokens i))))
