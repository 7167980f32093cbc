-- A seat, and the bodies that its store holds, over one more call.
use Rattle.std.proofs.Common.{◌≡◌, ◌⊎◌, inl, inr, ℕ, List, [], ◌++◌, All, Option, Some, refl, sym, ap, subst, ◌∙◌, append_assoc, append-nil}
use Rattle.std.specs.Option.{unwrap_or}
use Rattle.std.proofs.lemmas.List.Elements.{All-append, All-nil}
use Rattle.block_store.specs.Blocks.{HeldObjects}
use Rattle.lake_model.specs.declared.history.HistoryEntry.{HistoryEntry}
use Rattle.lake_model.specs.History.{IsLegal}
use Rattle.lake_model.specs.Soundness.{IsSound}
use Rattle.lake_core.specs.declared.standing.LakeOrigin.{LakeOrigin}
use Rattle.lake_api.specs.AnswerWords.{KeepsFitting, LakeSeat, SeesOwn, opened_state}
use Rattle.turn_lock.specs.Seats.{seat_after}
use Rattle.lake_session.specs.SessionViews.{Moves}
use Rattle.lake_session.specs.WholeSessions.{GoesThrough}

-- a seat has one origin
pub one_origin : (one other : LakeOrigin) → Some one ≡ Some other → one ≡ other
one_origin one other is = ap (λ o. unwrap_or o one) is

-- nothing changed
pub stays : (seat : LakeSeat) → GoesThrough seat seat
stays seat = record {
  turn = refl;
  seat = refl;
  added = [];
  seen = sym (append-nil seat.seen);
  alone = λ alone. All-nil (λ (e : HistoryEntry). e.by.seat ≡ seat.number);
  legal = λ origin from. inl (refl, refl);
}

-- a seat that went on, and then went on
module _ (old mid now : LakeSeat) (first : GoesThrough old mid) (next : GoesThrough mid now) where
  -- what it has seen is legal from a sound state, and has just its own entries
  abbrev Knows : LakeOrigin → LakeSeat → Type 0
  Knows origin seat = IsSound (opened_state origin) × IsLegal (opened_state origin) seat.seen × SeesOwn seat

  unmoved : next.added ≡ [] → now.mine ≡ mid.mine → now ≡ mid
  unmoved none mine =
      next.seat ∙ ap (λ seen. seat_after mid seen now.mine) (next.seen ∙ ap (λ l. mid.seen ++ l) none ∙ append-nil mid.seen)
      ∙ ap (λ m. seat_after mid mid.seen m) mine

  legal_twice : (origin : LakeOrigin) → ((first.added ≡ []) × (mid.mine ≡ old.mine)) ⊎ Knows origin mid
      → ((next.added ≡ []) × (now.mine ≡ mid.mine)) ⊎ Knows origin now
      → ((first.added ++ next.added ≡ []) × (now.mine ≡ old.mine)) ⊎ Knows origin now
  legal_twice origin one (inr knows) = inr knows
  legal_twice origin (inl (none, mine)) (inl (nothing, mine_still)) = inl (ap (λ l. l ++ next.added) none ∙ nothing, mine_still ∙ mine)
  legal_twice origin (inr knows) (inl (nothing, mine_still)) = inr (subst (Knows origin) (sym (unmoved nothing mine_still)) knows)

  pub goes_twice : GoesThrough old now
  goes_twice = record {
    turn = next.turn ∙ first.turn;
    seat = next.seat ∙ ap (λ (s : LakeSeat). seat_after s now.seen now.mine) first.seat;
    added = first.added ++ next.added;
    seen = next.seen ∙ ap (λ seen. seen ++ next.added) first.seen ∙ append_assoc old.seen first.added next.added;
    alone = λ alone. All-append (λ (e : HistoryEntry). e.by.seat ≡ old.number) first.added next.added (first.alone alone)
        (subst (λ n. All (λ (e : HistoryEntry). e.by.seat ≡ n) next.added) (ap (λ (s : LakeSeat). s.number) first.seat)
        (next.alone (ap (λ (s : LakeSeat). s.alone) first.seat ∙ alone)));
    legal = λ origin from. legal_twice origin (first.legal origin from) (next.legal origin (ap (λ (s : LakeSeat). s.origin) first.seat ∙ from));
  }

-- a call more
pub goes_further : (number : ℕ) (old now next : LakeSeat) → GoesThrough old now → Moves number now next → GoesThrough old next
goes_further number old now next goes (inl same) = subst (GoesThrough old) (sym same) goes
goes_further number old now next goes (inr (origin, on, turn)) =
    goes_twice old now next goes
    (record {
      turn = turn;
      seat = on.seat;
      added = on.added;
      seen = on.seen;
      alone = on.alone;
      legal = λ other from. inr (
          let one : origin ≡ other = one_origin origin other (sym on.from ∙ from) in (
            subst (λ o. IsSound (opened_state o)) one on.sound,
            subst (λ o. IsLegal (opened_state o) next.seen) one on.legal,
            on.own,
          ));
    })

-- a seat that moved has its number, its origin and its turn still, and is alone still where it was
pub moved_origin : (number : ℕ) (old now : LakeSeat) → Moves number old now → now.origin ≡ old.origin
moved_origin number old now (inl same) = ap (λ (s : LakeSeat). s.origin) same
moved_origin number old now (inr moves) = ap (λ (s : LakeSeat). s.origin) moves.1.seat

-- what a seat that moved has seen begins with what it had seen
pub seen_more : (number : ℕ) (old now : LakeSeat) → Moves number old now → (added : List HistoryEntry) × (now.seen ≡ old.seen ++ added)
seen_more number old now (inl same) = ([], ap (λ (s : LakeSeat). s.seen) same ∙ sym (append-nil old.seen))
seen_more number old now (inr moves) = (moves.1.added, moves.1.seen)

-- bodies that fitted fit behind one call and then another
pub fits_further : (old now next : LakeSeat) (held held_now held_next : Option HeldObjects) → now.alone ≡ old.alone → now.origin ≡ old.origin
    → KeepsFitting old now held held_now → KeepsFitting now next held_now held_next → KeepsFitting old next held held_next
fits_further old now next held held_now held_next alone_is origin_is first then_kept origin objects alone from is fits =
    let one = first origin objects alone from is fits in
    then_kept origin one.0 (alone_is ∙ alone) (origin_is ∙ from) one.1 one.2

pub fits_at_first : (seat : LakeSeat) (held : Option HeldObjects) → KeepsFitting seat seat held held
fits_at_first seat held origin objects alone from is fits = (objects, is, fits)
