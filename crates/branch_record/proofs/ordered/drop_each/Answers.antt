use Rattle.std.proofs.Common.{◌≡◌, ap, sym, subst, ◌∙◌}
use Rattle.std.specs.FinMap.{from_entries, get-from_entries}
use Rattle.std.proofs.lemmas.Cmp.{nat_list_cmp_total}
use Rattle.lake_base.specs.Maps.{byte_order}
use Rattle.lake_values.specs.Reset.{changes_after_reset}
use Rattle.lake_values.specs.declared.commit.ResetWhat.TheVariants.{Prefix}
use Rattle.branch_record.specs.TokenRows.{IsNoneUnder, IsUnder}
use Rattle.branch_record.proofs.ChangesLemmas.{rows_removed}
use Rattle.branch_record.proofs.PrefixLemmas.{reset_nothing, reset_removed}
use Rattle.branch_record.proofs.ordered.drop_each.Goals as goal

pub loop-first-preserved : goal.loop-first-preserved
loop-first-preserved c =
    let prefix = c.args.prefix.now in
    let rows = c.loop-first.rows in
    let read : c.in_ok-first.first ≡ prefix = c.in_ok-first.ensures.1 ∙ c.as_slice.ensures in
    let under = rw c.in-Some.is at c.in_ok-path.ensures in
    let here : IsUnder prefix rows.entries c.in-Some.path = subst (λ p. IsUnder p rows.entries c.in-Some.path) read under in
    ap (changes_after_reset (Prefix prefix)) (rows_removed rows.entries c.remove-change.new.self.entries c.in-Some.path c.remove-change.ensures.updates.0)
    ∙ reset_removed (Prefix prefix) (from_entries {R = byte_order} rows.entries) c.in-Some.path here.begins
    ∙ c.loop-first.invariant

pub returns-clause-all : goal.returns-clause-all
returns-clause-all c =
    let prefix = c.args.prefix.now in
    let rows = c.loop-first.rows in
    let read : c.in_ok-first.first ≡ prefix = c.in_ok-first.ensures.1 ∙ c.as_slice.ensures in
    let under = rw c.in_default.is at c.in_ok-path.ensures in
    let none : IsNoneUnder prefix rows.entries = subst (λ p. IsNoneUnder p rows.entries) read under in
    sym (reset_nothing (Prefix prefix) (from_entries {R = byte_order} rows.entries) (λ q d. get-from_entries nat_list_cmp_total rows.entries q ∙ none q d))
    ∙ c.loop-first.invariant
