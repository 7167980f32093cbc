use Rattle.std.proofs.Common.{rules, ◌≡◌}
use Rattle.test_turns.specs.SmallLake.{Gives, entry_of, state_of, put_reply}
use Rattle.test_turns.specs.declared.small_lake.By.{By}
use Rattle.test_turns.specs.declared.small_lake.Entry.{Entry}
use Rattle.turn_lock.specs.Seats.{with_entry}
use Rattle.turn_lock.proofs.SeatsLemmas.{entry_only_adds, seat_after_entry}
use Rattle.turn_lock.proofs.TurnLemmas.{gives_values}
use Rattle.test_turns.proofs.SmallLakeLemmas.{entry_own}
use Rattle.test_turns.proofs.small_lake.Shared.put.Goals as goal

pub with_change-requires-clause-only_adds : goal.with_change-requires-clause-only_adds
with_change-requires-clause-only_adds g c x y a meets found gives left =
    let by : By = record { seat = c.args.seat.now.number; call = c.args.call } in
    let did : (y.opened ≡ x.opened) × (y.entries ≡ with_entry x.entries (entry_of by c.args.number c.args.remark a)) =
    gives_values _ _ x c.args.seat.now.number a y
    (λ v r w. (w.opened ≡ v.opened) × (w.entries ≡ with_entry v.entries (entry_of by c.args.number c.args.remark r)))
    (λ p q met. search rules) gives in
    entry_only_adds (λ l. l.opened) (λ l. l.entries)
    (λ e. e.by.seat) c.args.seat.now.number (entry_of by c.args.number c.args.remark a) x y did.0 (entry_own by c.args.number c.args.remark a) did.1

pub returns : goal.returns
returns g c =
    let r = c.with_change.ensures.change in
    let answer = c.with_change.result in
    let by : By = record { seat = c.args.seat.now.number; call = c.args.call } in
    let entry = entry_of by c.args.number c.args.remark answer in
    let added : r.1.entries ≡ with_entry r.0.entries entry =
    gives_values _ _ r.0 c.args.seat.now.number answer r.1
    (λ x a y. y.entries ≡ with_entry x.entries (entry_of by c.args.number c.args.remark a))
    (λ p q met. search rules) r.4 in
    let reply : Gives answer (put_reply (state_of (λ (e : Entry). e.number) r.0.opened r.0.entries) c.args.version) =
    gives_values _ _ r.0 c.args.seat.now.number answer r.1
    (λ x a y. Gives a (put_reply (state_of (λ (e : Entry). e.number) x.opened x.entries) c.args.version))
    (λ p q met. search rules) r.4 in (
      r.0.opened,
      r.0.entries,
      r.3.same_origin,
      r.3.begins,
      reply,
      seat_after_entry entry r.0.entries r.1.entries r.2 c.args.seat.now c.with_change.new.seat r.5.1 r.6 added,
    )
