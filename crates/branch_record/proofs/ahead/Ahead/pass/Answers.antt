use Rattle.std.proofs.Common.{◌≡◌, ◌∷◌, true, false, ap, sym, subst, ◌∙◌}
use Rattle.std.specs.Ordering.{is_lt}
use Rattle.lake_base.specs.Maps.{HasAscendingKeys, byte_order}
use Rattle.branch_record.specs.Layers.{rows_ahead}
use Rattle.branch_record.proofs.LayerCursorLemmas.{Row, above_passed, ahead_of, tested}
use Rattle.branch_record.proofs.ahead.Ahead.pass.Goals as goal

pub returns-then-not-is_below-clause-passed : goal.returns-then-not-is_below-clause-passed
returns-then-not-is_below-clause-passed g c =
    let path = c.args.path.now in
    let after = g.C.EntriesLeft.left c.self.inside.after in
    let row : Row = (c.in-Some.first.now, c.in-Some.field-0-1.now) in
    let whole : c.args.self.now ≡ row ∷ after = sym c.self.view_is ∙ ap (λ first. rows_ahead first after) c.in-Some.is in
    let sorted : HasAscendingKeys (row ∷ after) = subst (λ first. HasAscendingKeys (rows_ahead first after)) c.in-Some.is c.self.invariant in
    let at : is_lt (byte_order path row.0) ≡ false =
    tested _ _ path row.0 c.is_below.result false c.as_slice.ensures.bytes c.as_slice-2.ensures.bytes c.is_below.ensures c.if-not-is_below.true in
    ahead_of c.next-self-inside.result after (g.C.EntriesLeft.left c.next-self-inside.new.self) c.next-self-inside.ensures.entry
    ∙ sym (above_passed path c.args.self.now row after false whole sorted c.requires at)

pub returns-else-not-is_below-clause-passed : goal.returns-else-not-is_below-clause-passed
returns-else-not-is_below-clause-passed g c =
    let path = c.args.path.now in
    let after = g.C.EntriesLeft.left c.self.inside.after in
    let row : Row = (c.in-Some.first.now, c.in-Some.field-0-1.now) in
    let whole : c.args.self.now ≡ row ∷ after = sym c.self.view_is ∙ ap (λ first. rows_ahead first after) c.in-Some.is in
    let sorted : HasAscendingKeys (row ∷ after) = subst (λ first. HasAscendingKeys (rows_ahead first after)) c.in-Some.is c.self.invariant in
    let above : is_lt (byte_order path row.0) ≡ true =
    tested _ _ path row.0 c.is_below.result true c.as_slice.ensures.bytes c.as_slice-2.ensures.bytes c.is_below.ensures c.if-not-is_below.false in
    whole ∙ sym (above_passed path c.args.self.now row after true whole sorted c.requires above)
