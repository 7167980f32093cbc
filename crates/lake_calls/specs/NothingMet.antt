-- Calls that met nothing: none of them has an exception.
use Rattle.std.specs.Prelude.{◌≡◌, ◌<◌, ℕ, List, ◌∷◌, Some, drop}
use Rattle.lake_model.specs.declared.history.HistoryEntry.{HistoryEntry}
use Rattle.lake_model.specs.State.{State}
use Rattle.lake_laws.specs.VersionGivers.{count_of, of_other_seat}
use Rattle.lake_calls.specs.CallExceptions.{CallMet, Guard, IsDamaged, gives_guarded, last_guard}
use Rattle.lake_calls.specs.Courses.{CallPoint, Finds}
use Rattle.lake_calls.specs.OutsideCounts.{CountedNothing}
use Rattle.lake_calls.specs.declared.objects.ReadCall.{ReadCall}

-- no count rose in the call, and the bytes that it got fit the entry that it finds
pub record MeetsNothing (left : List CallPoint) (met : CallMet) (opened : State) (seen : List HistoryEntry) : Type 0 where
  pub counted : CountedNothing met
  pub fits : (c : ReadCall) (points : List CallPoint) → left ≡ Finds c ∷ points → IsDamaged c met opened seen → ⊥

-- behind what was seen before the call other seats made fewer than ten entries that gave a version which its last step is guarded by
abbrev pub GaveFew : (seat : ℕ) (left : List CallPoint) (from : ℕ) (seen : List HistoryEntry) → Type 0
GaveFew seat left from seen =
    (guard : Guard) → last_guard left ≡ Some guard → count_of (of_other_seat seat (gives_guarded guard)) (drop from seen) < 10
