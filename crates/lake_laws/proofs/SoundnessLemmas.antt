-- A legal entry keeps a lake sound, and so do legal entries one after the other.
use Rattle.std.proofs.Common.{List, [], ◌∷◌, ℕ, sym, subst}
use Rattle.lake_format.specs.declared.cut.Cut.{Cut}
use Rattle.lake_model.specs.declared.history.HistoryEntry.{HistoryEntry}
use Rattle.lake_model.specs.State.{State}
use Rattle.lake_model.specs.History.{Allows, IsLegal, after, replay}
use Rattle.lake_model.specs.Naming.{IsGarbage}
use Rattle.lake_model.specs.Soundness.{IsSound, IsSoundRepository, fresh}
use Rattle.lake_laws.proofs.NamingLemmas.{garbage_after, numbers_after, numbers_fresh}
use Rattle.lake_laws.proofs.RepositoryLemmas.{cut_after, repositories_after, repositories_fresh}

-- one entry
pub IsSound-after : (state : State) (entry : HistoryEntry) → IsSound state → Allows state entry → IsSound (after state entry)
IsSound-after state entry sound allows =
    let numbers = numbers_after state entry sound allows in
    record {
      repositories = λ name r is. subst (λ cut. IsSoundRepository cut r) (sym (cut_after state entry)) (repositories_after state entry sound allows name r is);
      named = numbers.0;
      gone = numbers.1;
      apart = numbers.2;
    }

-- a fresh lake is sound
pub IsSound-fresh : (cut : Cut) → IsSound (fresh cut)
IsSound-fresh cut =
    let numbers = numbers_fresh cut in
    record { repositories = repositories_fresh cut; named = numbers.0; gone = numbers.1; apart = numbers.2 }

-- what follows by legal entries is sound
pub IsSound-replay : (state : State) (entries : List HistoryEntry) → IsSound state → IsLegal state entries → IsSound (replay state entries)
IsSound-replay state [] sound legal = sound
IsSound-replay state (entry ∷ entries) sound legal = IsSound-replay (after state entry) entries (IsSound-after state entry sound legal.0) legal.1

-- garbage stays garbage while legal entries follow
pub garbage_replay : (state : State) (entries : List HistoryEntry) (number : ℕ) → IsSound state → IsLegal state entries → IsGarbage state number
    → IsGarbage (replay state entries) number
garbage_replay state [] number sound legal garbage = garbage
garbage_replay state (entry ∷ entries) number sound legal garbage =
    garbage_replay (after state entry) entries number (IsSound-after state entry sound legal.0) legal.1 (garbage_after state entry number sound legal.0 garbage)
