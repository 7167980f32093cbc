-- Histories in two parts, and what stays over a history.
use Rattle.std.proofs.Common.{◌≡◌, List, [], ◌∷◌, ◌++◌, refl, sym, ap, subst, ◌∙◌}
use Rattle.lake_model.specs.declared.history.By.{By}
use Rattle.lake_model.specs.declared.history.EntryKind.TheVariants.{Faulted}
use Rattle.lake_model.specs.declared.history.HistoryEntry.{HistoryEntry}
use Rattle.lake_model.specs.declared.history.Operation.{Operation}
use Rattle.lake_model.specs.State.{State}
use Rattle.lake_model.specs.History.{Allows, IsLegal, after, replay}

-- the later entries of a legal history are legal where the earlier ones lead
pub IsLegal-later : (state : State) (first later : List HistoryEntry) → IsLegal state (first ++ later) → IsLegal (replay state first) later
IsLegal-later state [] later legal = legal
IsLegal-later state (entry ∷ first) later legal = IsLegal-later (after state entry) first later legal.1

-- the earlier ones are legal
pub IsLegal-earlier : (state : State) (first later : List HistoryEntry) → IsLegal state (first ++ later) → IsLegal state first
IsLegal-earlier state [] later legal = tt
IsLegal-earlier state (entry ∷ first) later legal = (legal.0, IsLegal-earlier (after state entry) first later legal.1)

-- and are replayed from there
pub replay-append : (state : State) (first later : List HistoryEntry) → replay state (first ++ later) ≡ replay (replay state first) later
replay-append state [] later = refl
replay-append state (entry ∷ first) later = replay-append (after state entry) first later

-- no entry may come after a fault
pub after_fault_none : (state : State) (by : By) (tried : Operation) (later : List HistoryEntry)
    → IsLegal state (record { by = by; kind = Faulted tried } ∷ later) → later ≡ []
after_fault_none state by tried [] legal = refl
after_fault_none state by tried (entry ∷ later) legal = let running = legal.1.0.running in absurd cc

-- what an entry that may come next keeps is kept by a legal history
pub kept-replay : (P : State → Type 0) (entries : List HistoryEntry) (state : State)
    → ((s : State) (entry : HistoryEntry) → Allows s entry → P s → P (after s entry)) → IsLegal state entries → P state
    → P (replay state entries)
kept-replay P [] state keeps legal holds = holds
kept-replay P (entry ∷ entries) state keeps legal holds =
    kept-replay P entries (after state entry) keeps legal.1 (keeps state entry legal.0 holds)

-- a position of a history: what stands before it, and what comes after it
module _ (state : State) (seen history more : List HistoryEntry) (is : seen ≡ history ++ more) where
  pub legal_before : IsLegal state seen → IsLegal state history
  legal_before legal = IsLegal-earlier state history more (subst (IsLegal state) is legal)

  pub legal_behind : IsLegal state seen → IsLegal (replay state history) more
  legal_behind legal = IsLegal-later state history more (subst (IsLegal state) is legal)

  pub replay_behind : replay state seen ≡ replay (replay state history) more
  replay_behind = ap (replay state) is ∙ replay-append state history more

  -- what holds where the later entries lead from the position holds at the end
  pub at_end : (P : State → Type 0) → P (replay (replay state history) more) → P (replay state seen)
  at_end P holds = subst P (sym replay_behind) holds

  pub from_end : (P : State → Type 0) → P (replay state seen) → P (replay (replay state history) more)
  from_end P holds = subst P replay_behind holds
