use Rattle.std.specs.FinMap.{entries, entries_sorted}
use Rattle.std.specs.Map.Iter.{deref_pair}
use Rattle.std.specs.Option.{option_map}
use Rattle.branch_record.proofs.CursorLemmas.{stands_after}
use Rattle.branch_record.proofs.placed.PlacedCursor.pass.Goals as goal

pub invariant_of-self : goal.invariant_of-self
invariant_of-self c =
    let placed = c.self.inside.placed.now in
    stands_after (entries placed) (entries_sorted placed)
    (option_map deref_pair c.self.inside.first) c.next-self-inside.result c.self.inside.rest c.next-self-inside.new.self
    c.next-self-inside.ensures.steps c.self.invariant
