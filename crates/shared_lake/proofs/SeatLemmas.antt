-- What a seat finds at a lake, and what a step leaves it.
use Rattle.std.proofs.Common.{◌≡◌, ◌≢◌, ◌==◌, ℕ, eq-eqb, true≢false, Bool, true, false, cond, List, [], ◌∷◌, ◌++◌, Option, Some, None, Result, Ok, Err}
use Rattle.std.proofs.Common.{refl, sym, ap, subst, ◌∙◌}
use Rattle.std.proofs.lemmas.List.{append-nil, append_cancel_left}
use Rattle.std.proofs.lemmas.List.Elements.{All-cons, All-nil}
use Rattle.std.specs.List.{All, filter}
use Rattle.std.specs.Prelude.{IfSome, IsSomeAnd}
use denote.Ref.{MutBor}
use denote.Param.Members.{Once}
use Rattle.lake_model.specs.declared.fault.StepFault.{StepFault}
use Rattle.lake_model.specs.declared.fault.StepFault.TheVariants.{StoreFault, NoMemory}
use Rattle.lake_model.specs.declared.history.By.{By}
use Rattle.lake_model.specs.declared.history.HistoryEntry.{HistoryEntry}
use Rattle.core_puts.specs.KeeperViews.{KeeperView}
use Rattle.core_puts.specs.KeptChanges.{Making, Parts}
use Rattle.lake_core.specs.declared.standing.LakeOrigin.{LakeOrigin}
use Rattle.lake_core.specs.Lakes.{Holds, LakeValue}
use Rattle.lake_core.specs.Leaving.{Leaves}
use Rattle.turn_lock.specs.Seats.{Adds, GivesChange, Meets, OnlyAdds, SeatValue, by_seat, seat_after, with_entry}
use Rattle.turn_lock.proofs.SeatsLemmas.{by_seat-append, entry_only_adds, seat_after_entry}
use Rattle.shared_lake.specs.SeatSteps.{Finds, IsChanged, IsRead, LakeSeat, SeesOwn, added_by, origin_of}

abbrev seat_of : HistoryEntry → ℕ
seat_of e = e.by.seat

others_of : (n : ℕ) (x : HistoryEntry) (xs : List HistoryEntry)
    → (filter (λ (e : HistoryEntry). e.by.seat == n) xs ≡ [] → All (λ (e : HistoryEntry). e.by.seat ≢ n) xs)
    → (b : Bool) → (x.by.seat == n) ≡ b
    → cond b (x ∷ filter (λ (e : HistoryEntry). e.by.seat == n) xs) (filter (λ (e : HistoryEntry). e.by.seat == n) xs) ≡ []
    → All (λ (e : HistoryEntry). e.by.seat ≢ n) (x ∷ xs)
others_of n x xs rest true is none = absurd cc
others_of n x xs rest false is none =
    All-cons (λ (e : HistoryEntry). e.by.seat ≢ n) x xs (λ same. true≢false (sym (eq-eqb x.by.seat n same) ∙ is)) (rest none)

-- entries of which none is of a seat are all others'
others_only : (n : ℕ) (xs : List HistoryEntry) → by_seat (λ (e : HistoryEntry). e.by.seat) n xs ≡ [] → All (λ (e : HistoryEntry). e.by.seat ≢ n) xs
others_only n [] none = All-nil (λ (e : HistoryEntry). e.by.seat ≢ n)
others_only n (x ∷ xs) none = others_of n x xs (λ same. others_only n xs same) (x.by.seat == n) refl none

module _ {K : Type 0} (view : KeeperView K) (seat : LakeSeat) (x : LakeValue K) where
  -- what a seat meets it finds
  pub finds_met : Meets (origin_of view) (λ (l : LakeValue K). l.history) seat_of seat x → Holds view x → Finds view seat x
  finds_met meets holds =
      let others = meets.begins.0 in
      let all : seat.seen ++ others ≡ x.history = meets.begins.1 in
      let of = by_seat seat_of seat.number in
      let grown : seat.mine ++ of others ≡ seat.mine ++ [] =
      ap (λ l. l ++ of others) (sym meets.own_seen)
      ∙ (sym (by_seat-append seat_of seat.number seat.seen others) ∙ (ap of all ∙ (meets.own ∙ sym (append-nil seat.mine)))) in
      let none : of others ≡ [] = append_cancel_left seat.mine (of others) [] grown in
      record {
        origin = meets.same_origin;
        holds = holds;
        others = others;
        begins = sym all;
        are_others = others_only seat.number others none;
        alone = λ alone. append_cancel_left seat.seen others [] (all ∙ meets.current alone ∙ sym (append-nil seat.seen));
        own = meets.own_seen;
      }

  -- a reading of what a seat met
  pub read_met : (new : LakeSeat) (Answers : LakeValue K → Type 0) → Meets (origin_of view) (λ (l : LakeValue K). l.history) seat_of seat x → Holds view x
      → Answers x → new ≡ seat_after seat x.history seat.mine → SeesOwn new → IsRead view seat new Answers
  read_met new Answers meets holds answer after own =
      record { found = x; finds = finds_met meets holds; answer = answer; seat = after; own = own }

same_parts : {K : Type 0} (p q : Parts K) → q ≡ p → q.history ≡ p.history
same_parts p q same = ap (λ r. r.history) same

-- an entry that a change adds is of its seat
own_entry : {X : Type 0} (by : By) (made : Option Making) (answer : Result X StepFault) → IfSome (added_by by made answer) (λ (e : HistoryEntry).
    e.by.seat ≡ by.seat)
own_entry by (Some made) (Ok v) = refl
own_entry by (Some made) (Err StoreFault) = refl
own_entry by (Some made) (Err _) = tt
own_entry by None (Ok v) = tt
own_entry by None (Err StoreFault) = tt
own_entry by None (Err _) = tt

module _ {K X : Type 0} (view : KeeperView K) (by : By) (x y : LakeValue K) where
  -- what a step leaves is the history with its entry behind it
  left_history : (made : Option Making) (answer : Result X StepFault) → Leaves view by made answer x y
      → y.history ≡ with_entry x.history (added_by by made answer)
  left_history (Some made) (Ok v) left = left.1.history
  left_history None (Ok v) left = absurd left.1
  left_history (Some made) (Err StoreFault) left = left.1.history
  left_history None (Err StoreFault) left = absurd left.1
  left_history (Some made) (Err NoMemory) left = left.1.history
  left_history None (Err NoMemory) left = left.1.history
  left_history (Some made) (Err _) left = same_parts _ _ left.1
  left_history None (Err _) left = same_parts _ _ left.1

  same_origin : (made : Option Making) (answer : Result X StepFault) → Leaves view by made answer x y → origin_of view y ≡ origin_of view x
  same_origin made answer left =
      ap (λ (o : _). record { opened = o; faults = view.faults y.first }) left.0.opened
      ∙ ap (λ (f : K). record { opened = x.opened; faults = view.faults f }) left.0.first

  -- so a step only adds an entry of its seat
  pub adds_left : (made : Option Making) (answer : Result X StepFault) → Leaves view by made answer x y
      → OnlyAdds (origin_of view) (λ (l : LakeValue K). l.history) seat_of by.seat x y
  adds_left made answer left =
      entry_only_adds (origin_of view) (λ (l : LakeValue K). l.history) seat_of by.seat (added_by by made answer) x y
      (same_origin made answer left) (own_entry by made answer) (left_history made answer left)

  -- a change of what a seat met
  pub changed_met : (old new : LakeSeat) (making : LakeValue K → Option Making) (Answers : LakeValue K → Type 0) (answer : Result X StepFault)
      (added : List HistoryEntry) → Meets (origin_of view) (λ (l : LakeValue K). l.history) seat_of old x → Holds view x → Holds view y
      → Answers x → Leaves view by (making x) answer x y → y.history ≡ x.history ++ added
      → new ≡ seat_after old y.history (old.mine ++ added) → SeesOwn new
      → IsChanged view by old new making Answers answer
  changed_met old new making Answers answer added meets found left told leaves adds after own =
      let history = left_history (making x) answer leaves in
      record {
        found = x;
        left = y;
        finds = finds_met view old x meets found;
        answer = told;
        leaves = leaves;
        holds = left;
        history = history;
        seat = seat_after_entry (added_by by (making x) answer) x.history y.history added old new adds after history
            ∙ ap (λ l. seat_after old l (with_entry old.mine (added_by by (making x) answer))) (sym history);
        own = own;
      }
