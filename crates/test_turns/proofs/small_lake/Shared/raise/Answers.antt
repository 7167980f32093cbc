use Rattle.std.proofs.Common.{rules, sym, subst, ◌≡◌, ◌≤◌, ◌==◌, Some, map}
use Rattle.std.specs.List.{Contains}
use Rattle.test_turns.specs.SmallLake.{entry_of, raised, state_of}
use Rattle.test_turns.specs.declared.small_lake.By.{By}
use Rattle.test_turns.specs.declared.small_lake.Entry.{Entry}
use Rattle.turn_lock.specs.Seats.{by_seat, with_entry}
use Rattle.turn_lock.proofs.SeatsLemmas.{entry_only_adds, seat_after_entry}
use Rattle.turn_lock.proofs.TurnLemmas.{gives_values}
use Rattle.test_turns.proofs.SmallLakeLemmas.{contains_kept, entry_own}
use Rattle.test_turns.proofs.small_lake.Shared.raise.Goals as goal

pub with_change-requires-clause-callable : goal.with_change-requires-clause-callable
with_change-requires-clause-callable g c x meets stands p is =
    let own : Contains (map (λ (e : Entry). e.number) x.entries) (Some c.args.low) =
    contains_kept (λ (e : Entry). e.by.seat == c.args.seat.now.number) (λ (e : Entry). e.number) x.entries (Some c.args.low)
    (subst (λ l. Contains (map (λ (e : Entry). e.number) l) (Some c.args.low)) (sym meets.own) c.requires.put) in
    let low : c.args.low ≤ (state_of (λ (e : Entry). e.number) p.now.opened p.now.entries).number =
    subst (λ l. c.args.low ≤ (state_of (λ (e : Entry). e.number) l.opened l.entries).number) (sym is) (stands.greatest c.args.low own) in
    let new : Contains (map (λ (e : Entry). e.by.call) (by_seat (λ (e : Entry). e.by.seat) c.args.seat.now.number p.now.entries)) c.args.call → ⊥ =
    subst (λ l. Contains (map (λ (e : Entry). e.by.call) (by_seat (λ (e : Entry). e.by.seat) c.args.seat.now.number l.entries)) c.args.call → ⊥) (sym is)
    (subst (λ l. Contains (map (λ (e : Entry). e.by.call) l) c.args.call → ⊥) (sym meets.own) c.requires.new) in
    search (rules, low, new)

pub with_change-requires-clause-only_adds : goal.with_change-requires-clause-only_adds
with_change-requires-clause-only_adds g c x y a meets found gives left =
    let by : By = record { seat = c.args.seat.now.number; call = c.args.call } in
    let number = raised (state_of (λ (e : Entry). e.number) x.opened x.entries) c.args.low in
    let did : (y.opened ≡ x.opened) × (y.entries ≡ with_entry x.entries (entry_of by number c.args.remark a)) =
    gives_values _ _ x c.args.seat.now.number a y
    (λ v r w. (w.opened ≡ v.opened)
    × (w.entries ≡ with_entry v.entries (entry_of by (raised (state_of (λ (e : Entry). e.number) v.opened v.entries) c.args.low) c.args.remark r)))
    (λ p q met. search rules) gives in
    entry_only_adds (λ l. l.opened) (λ l. l.entries)
    (λ e. e.by.seat) c.args.seat.now.number (entry_of by number c.args.remark a) x y did.0 (entry_own by number c.args.remark a) did.1

pub returns : goal.returns
returns g c =
    let r = c.with_change.ensures.change in
    let answer = c.with_change.result in
    let by : By = record { seat = c.args.seat.now.number; call = c.args.call } in
    let entry = entry_of by (raised (state_of (λ (e : Entry). e.number) r.0.opened r.0.entries) c.args.low) c.args.remark answer in
    let added : r.1.entries ≡ with_entry r.0.entries entry =
    gives_values _ _ r.0 c.args.seat.now.number answer r.1
    (λ x a y. y.entries ≡ with_entry x.entries (entry_of by (raised (state_of (λ (e : Entry). e.number) x.opened x.entries) c.args.low) c.args.remark a))
    (λ p q met. search rules) r.4 in (
      r.0.opened,
      r.0.entries,
      r.3.same_origin,
      r.3.begins,
      seat_after_entry entry r.0.entries r.1.entries r.2 c.args.seat.now c.with_change.new.seat r.5.1 r.6 added,
    )
