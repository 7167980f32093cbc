use Rattle.turn_lock.proofs.SeatsLemmas.{adds_only, adds_nothing, entry_only_adds, seat_after_entry, seat_after_step, step_only_adds}
use Rattle.turn_lock.proofs.laws.law_of_steps.Goals as goal

pub returns-clause-more : goal.returns-clause-more
returns-clause-more g c n x y added more adds is = adds_only _ _ added more adds.1 is

pub returns-clause-none : goal.returns-clause-none
returns-clause-none g c n x y added adds same = adds_nothing _ _ added adds.1 same

pub returns-clause-one : goal.returns-clause-one
returns-clause-one g c answer x y e added s t adds is one = seat_after_step answer e _ _ added s t adds.1 is one

pub returns-clause-only : goal.returns-clause-only
returns-clause-only g c answer n e x y same own is = step_only_adds g.S.Standing.origin g.S.Standing.list g.S.Standing.seat_of answer n e x y same own is

pub returns-clause-entry : goal.returns-clause-entry
returns-clause-entry g c n e x y same own is = entry_only_adds g.S.Standing.origin g.S.Standing.list g.S.Standing.seat_of n e x y same own is

pub returns-clause-after : goal.returns-clause-after
returns-clause-after g c e x y added s t adds is one = seat_after_entry e _ _ added s t adds.1 is one
