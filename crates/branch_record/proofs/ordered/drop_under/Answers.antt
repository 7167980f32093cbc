use Rattle.std.proofs.Common.{◌≡◌, ap, not, ◌∙◌, rules}
use Rattle.std.specs.Prelude.{nat_eq}
use Rattle.std.specs.List.{filter, starts_with}
use Rattle.std.specs.FinMap.{from_entries}
use Rattle.std.proofs.lemmas.Map.Made.{filter_same_pairs}
use Rattle.lake_base.specs.Maps.{byte_order}
use Rattle.lake_values.specs.declared.commit.ResetWhat.TheVariants.{Prefix}
use Rattle.branch_record.proofs.ChangesLemmas.{rows_reset}
use Rattle.branch_record.proofs.ordered.drop_under.Goals as goal

pub returns-then-is_err : goal.returns-then-is_err
returns-then-is_err c =
    let prefix = c.args.prefix.now in
    let rows = c.drop_each.new.rows.entries in
    let left : c.retain.new.self.entries ≡ filter (λ e. not (starts_with nat_eq e.0 prefix)) rows =
    filter_same_pairs _ (λ e. not (starts_with nat_eq e.0 prefix)) _ (λ k v b w f t. search rules) rows c.retain.new.self.entries c.retain.ensures.filtered in
    ap (from_entries {R = byte_order}) left ∙ rows_reset (Prefix prefix) rows ∙ c.drop_each.ensures.those
