use Rattle.std.proofs.Common.{◌++◌, ap, sym, subst, ◌∙◌}
use Rattle.std.proofs.lemmas.List.{append-nil}
use Rattle.std.specs.FinMap.{entries_sorted, from_sorted}
use Rattle.lake_base.specs.Maps.{byte_order, HasAscendingKeys}
use Rattle.lake_base.proofs.MapsLemmas.{same_again}
use Rattle.branch_record.specs.Tokens.{changes_under}
use Rattle.branch_record.proofs.overlaying.copy_of.Goals as goal

pub from_vec-requires : goal.from_vec-requires
from_vec-requires c = subst HasAscendingKeys (sym (sym (append-nil c.loop-path.rows.items) ∙ ap (λ l. c.loop-path.rows.items ++ l) (sym c.in_default.ensures.0)
    ∙ c.loop-path.invariant)) (entries_sorted (changes_under c.args.tokens.now.changes c.args.token))

pub returns : goal.returns
returns c =
    c.from_vec.ensures ∙ ap (from_sorted {R = byte_order})
    (sym (append-nil c.loop-path.rows.items) ∙ ap (λ l. c.loop-path.rows.items ++ l) (sym c.in_default.ensures.0) ∙ c.loop-path.invariant)
    ∙ same_again (changes_under c.args.tokens.now.changes c.args.token)
