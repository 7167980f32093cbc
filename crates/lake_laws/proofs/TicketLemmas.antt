-- The ticket of a seat stays until an entry of that seat ends it.
use Rattle.std.proofs.Common.{◌≡◌, ◌<◌, ℕ, Bool, true, false, cond, List, [], ◌∷◌, ◌++◌, refl, sym, ap, ◌∙◌, inr, arith}
use Rattle.std.specs.Prelude.{All, IfSome, Option, Some, None}
use Rattle.std.specs.FinMap.{get, get-insert, get-remove, nat_cmp-IsAntisymmetric}
use Rattle.std.specs.Ordering.{nat_cmp, eq_by_cmp}
use Rattle.std.specs.Cmp.{Equal-is, nat_cmp_total}
use Rattle.std.proofs.lemmas.List.Elements.{All-head, All-tail}
use Rattle.lake_model.specs.declared.history.EntryKind.{EntryKind}
use Rattle.lake_model.specs.declared.history.EntryKind.TheVariants.{Accepted, Faulted}
use Rattle.lake_model.specs.declared.history.HistoryEntry.{HistoryEntry}
use Rattle.lake_model.specs.declared.history.Operation.{Operation}
use Rattle.lake_model.specs.declared.history.Operation.TheVariants.{TicketTake, TicketDrop, Stage, Expire}
use Rattle.lake_model.specs.declared.history.RepositoryCommit.{RepositoryCommit}
use Rattle.lake_model.specs.State.{State}
use Rattle.lake_model.specs.History.{IsLegal, IsPossible, after, after_kind, after_operation, operation_of, replay}
use Rattle.lake_model.specs.Parts.{in_repository}
use Rattle.lake_model.specs.Removal.{after_expire, with_expired}
use Rattle.lake_model.specs.Soundness.{IsSound}
use Rattle.lake_model.specs.Uncommitted.{HasTicket, after_ticket_drop, after_ticket_take, put_number, without_ticket}
use Rattle.lake_laws.specs.OtherSeats.{AreOfOtherSeats}
use Rattle.lake_laws.specs.TicketEnds.{EndsTicket, LeavesTicket}
use Rattle.lake_laws.proofs.HistoryLemmas.{at_end, legal_before, legal_behind}
use Rattle.lake_laws.proofs.LookupLemmas.{one_value, some_is}
use Rattle.lake_laws.proofs.NamingLemmas.{next_after}
use Rattle.lake_laws.proofs.SoundnessLemmas.{IsSound-replay}

-- numbers that tie are one
same_number : (q number : ℕ) → eq_by_cmp nat_cmp q number ≡ true → q ≡ number
same_number q number tie = nat_cmp-IsAntisymmetric q number ((Equal-is (nat_cmp q number)).0 tie)

tickets_expire : (commits : List RepositoryCommit) (state : State) → (after_expire commits state).tickets ≡ state.tickets
tickets_expire [] state = refl
tickets_expire (one ∷ commits) state = tickets_expire commits (in_repository one.repo (with_expired one.commit) state)

module _ (seat number : ℕ) where
  -- a new ticket is of another number
  kept_by_take : (state : State) (other taken : ℕ) → taken ≡ state.next_number → number < state.next_number → HasTicket state seat number
      → HasTicket (after_ticket_take other taken state) seat number
  kept_by_take state other taken next below has =
      get-insert nat_cmp_total state.tickets taken other number ∙ still (eq_by_cmp nat_cmp number taken) refl
    where
      still : (tie : Bool) → eq_by_cmp nat_cmp number taken ≡ tie → cond tie (Some other) (get state.tickets number) ≡ Some seat
      still true tie = let same = same_number number taken tie in absurd (omega arith)
      still false tie = has

  -- a ticket goes that is of another number, or of another seat, which has none of this number
  kept_by_drop : (state : State) (other dropped : ℕ) → HasTicket state other dropped → (other ≡ seat → dropped ≡ number → ⊥) → HasTicket state seat number
      → HasTicket (after_ticket_drop dropped state) seat number
  kept_by_drop state other dropped may leaves has =
      get-remove nat_cmp_total state.tickets dropped number ∙ still (eq_by_cmp nat_cmp number dropped) refl
    where
      still : (tie : Bool) → eq_by_cmp nat_cmp number dropped ≡ tie → cond tie None (get state.tickets number) ≡ Some seat
      still true tie =
          let same = same_number number dropped tie in
          let whose : get state.tickets number ≡ Some other = ap (get state.tickets) same ∙ may in
          absurd (leaves (one_value (get state.tickets number) other seat whose has) (sym same))
      still false tie = has

  kept_without : (state : State) (other : ℕ) (o : Option ℕ) → IfSome o (HasTicket state other) → (other ≡ seat → o ≡ Some number → ⊥)
      → HasTicket state seat number → HasTicket (without_ticket o state) seat number
  kept_without state other None may leaves has = has
  kept_without state other (Some own) may leaves has = kept_by_drop state other own may (λ is same. leaves is (ap Some same)) has

  kept_by_operation : (state : State) (other : ℕ) (operation : Operation) → number < state.next_number → IsPossible state other operation
      → (other ≡ seat → EndsTicket number operation → ⊥) → HasTicket state seat number
      → HasTicket (after_operation other operation state) seat number
  kept_by_operation state other (TicketTake repo branch taken) below may leaves has = kept_by_take state other taken may.1 below has
  kept_by_operation state other (TicketDrop dropped) below may leaves has = kept_by_drop state other dropped may leaves has
  kept_by_operation state other (Stage repo branch path change) below may leaves has =
      kept_without state other (put_number change) may.1 leaves has
  kept_by_operation state other (Expire now commits) below may leaves has = ap (λ tickets. get tickets number) (tickets_expire commits state) ∙ has
  kept_by_operation state other _ below may leaves has = has

  kept_by_kind : (state : State) (other : ℕ) (kind : EntryKind) → number < state.next_number → IsPossible state other (operation_of kind)
      → (other ≡ seat → (operation : Operation) → kind ≡ Accepted operation → EndsTicket number operation → ⊥) → HasTicket state seat number
      → HasTicket (after_kind other kind state) seat number
  kept_by_kind state other (Accepted operation) below may leaves has =
      kept_by_operation state other operation below may (λ own. leaves own operation refl) has
  kept_by_kind state other (Faulted operation) below may leaves has = has

  kept_along : (state : State) (entries : List HistoryEntry) → number < state.next_number → IsLegal state entries → All (LeavesTicket seat number) entries
      → HasTicket state seat number → HasTicket (replay state entries) seat number
  kept_along state [] below legal leaves has = has
  kept_along state (entry ∷ entries) below legal leaves has =
      let rises = next_after state entry legal.0 in
      kept_along (after state entry) entries (omega arith) legal.1 (All-tail (LeavesTicket seat number) entry entries leaves)
      (kept_by_kind state entry.by.seat entry.kind below legal.0.possible (All-head (LeavesTicket seat number) entry entries leaves) has)

  -- the ticket is there at a later position, where no entry of the seat between ended it
  pub ticket_kept : (state : State) (seen history more : List HistoryEntry) → IsSound state → seen ≡ history ++ more → IsLegal state seen
      → HasTicket (replay state history) seat number → All (LeavesTicket seat number) more → HasTicket (replay state seen) seat number
  ticket_kept state seen history more sound is legal has leaves =
      let there = replay state history in
      let still = IsSound-replay state history sound (legal_before state seen history more is legal) in
      let below = still.named number (inr (some_is (get there.tickets number) seat has)) in
      at_end state seen history more is (λ s. HasTicket s seat number)
      (kept_along there more below (legal_behind state seen history more is legal) leaves has)

  -- so where all of them are of other seats
  pub ticket_left : (state : State) (seen history more : List HistoryEntry) → IsSound state → seen ≡ history ++ more → IsLegal state seen
      → HasTicket (replay state history) seat number → AreOfOtherSeats seat more → HasTicket (replay state seen) seat number
  ticket_left state seen history more sound is legal has others =
      ticket_kept state seen history more sound is legal has (λ k d within own. absurd (others k d within own))
