-- What holds of a lake that stands for its history.
use Rattle.std.proofs.Common.{◌≡◌, ◌+◌, ℕ, List, [], ◌∷◌, length, refl, sym, ap, subst, ◌∙◌, arith}
use Rattle.std.specs.Prelude.{Option, Some, None, IsSome, option_map}
use Rattle.std.specs.FinMap.{get}
use Rattle.byte_map.proofs.ValuesLemmas.{get_map_values}
use Rattle.lake_model.specs.declared.history.HistoryEntry.{HistoryEntry}
use Rattle.lake_model.specs.State.{Repository, State}
use Rattle.lake_model.specs.History.{IsLegal, after, replay}
use Rattle.lake_model.specs.Soundness.{IsSound}
use Rattle.core_state.specs.RepositoryStates.{repository_of}
use Rattle.core_state.specs.LakeStates.{LakeStateValue, state_of}
use Rattle.core_standing.specs.Standing.{Stands}

-- what follows a sound state by a legal history is sound, so the present state is
pub present_sound : ((state : State) (entries : List HistoryEntry) → IsSound state → IsLegal state entries → IsSound (replay state entries))
    → (opened : LakeStateValue) (history : List HistoryEntry) (present : LakeStateValue)
    → Stands opened history present → IsSound (state_of present)
present_sound stays opened history present stands =
    subst IsSound stands.replayed (stays (state_of opened) history stands.sound stands.legal)

-- each entry counts one
entries_replayed : (state : State) (history : List HistoryEntry) → (replay state history).entries ≡ state.entries + length history
entries_replayed state [] = omega arith
entries_replayed state (entry ∷ later) = let rest = entries_replayed (after state entry) later in omega arith

-- the present counts those of its history
pub present_entries : (opened : LakeStateValue) (history : List HistoryEntry) (present : LakeStateValue)
    → Stands opened history present → present.entries ≡ length history
present_entries opened history present stands =
    let counted = entries_replayed (state_of opened) history in
    let same = ap (λ (s : State). s.entries) stands.replayed in
    let none = stands.fresh_start.entries in
    omega arith

some_before : {X Y : Type 0} (f : X → Y) (o : Option X) (y : Y) → option_map f o ≡ Some y → IsSome o
some_before f (Some x) y is = refl
some_before f None y is = absurd cc

-- a repository that the state has is there
pub is_there : (l : LakeStateValue) (repo : List ℕ) (r : Repository) → get (state_of l).repositories repo ≡ Some r → IsSome (get l.repositories repo)
is_there l repo r is =
    some_before repository_of (get l.repositories repo) r (sym (get_map_values repository_of l.repositories repo) ∙ is)

none_before : {X Y : Type 0} (f : X → Y) (o : Option X) → option_map f o ≡ None → o ≡ None
none_before f (Some x) is = absurd cc
none_before f None is = refl

-- a repository that the state doesn't have isn't there
pub isnt_there : (l : LakeStateValue) (repo : List ℕ) → get (state_of l).repositories repo ≡ None → get l.repositories repo ≡ None
isnt_there l repo is =
    none_before repository_of (get l.repositories repo) (sym (get_map_values repository_of l.repositories repo) ∙ is)
