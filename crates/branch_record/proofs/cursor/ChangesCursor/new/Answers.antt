use Rattle.std.proofs.Common.{Some, sym, subst}
use Rattle.std.specs.Map.Iter.{deref_pair}
use Rattle.std.specs.Option.{option_map}
use Rattle.lake_base.specs.Maps.{HasAscendingKeys}
use Rattle.branch_record.specs.TokenRows.{put_row}
use Rattle.branch_record.proofs.CursorLemmas.{put_ascends}
use Rattle.branch_record.proofs.cursor.ChangesCursor.new.Goals as goal

pub invariant_of-t-5 : goal.invariant_of-t-5
invariant_of-t-5 c =
    let waiting = option_map deref_pair c.args.waiting in
    subst (λ rows. HasAscendingKeys (put_row waiting rows)) (sym c.new.ensures) (put_ascends waiting (Some c.in-Some.changes.now))
