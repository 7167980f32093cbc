use Rattle.std.proofs.Common.{[], sym, ◌∙◌}
use Rattle.std.specs.FinMap.{entries, entries_sorted}
use Rattle.branch_record.proofs.CursorLemmas.{all_from, stands_from}
use Rattle.branch_record.proofs.placed.PlacedCursor.new.Goals as goal

pub invariant_of-result : goal.invariant_of-result
invariant_of-result c =
    let placed = c.args.placed.now in
    stands_from (entries placed) (entries_sorted placed) [] c.next-first.result c.iter-rest.result c.next-first.new.self c.next-first.ensures.steps
    (c.iter-rest.ensures ∙ sym (all_from (entries placed)))
