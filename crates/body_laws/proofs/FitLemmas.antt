-- Bodies fit a state where each entry that it names has its body.
use Rattle.std.proofs.Common.{◌≡◌, ◌<◌, ℕ, List, [], ◌∷◌, Some, ◌∙◌, inl, inr}
use Rattle.std.specs.Prelude.{All}
use Rattle.std.proofs.lemmas.List.Elements.{All-head, All-tail}
use Rattle.lake_values.specs.Entry.{EntryValue}
use Rattle.lake_values.specs.declared.entry.Change.TheVariants.{Put, Delete}
use Rattle.lake_values.specs.declared.entry.Place.{Place}
use Rattle.lake_values.specs.declared.entry.Place.TheVariants.{Own, External}
use Rattle.lake_model.specs.declared.history.EntryKind.{EntryKind}
use Rattle.lake_model.specs.declared.history.EntryKind.TheVariants.{Accepted, Faulted}
use Rattle.lake_model.specs.declared.history.HistoryEntry.{HistoryEntry}
use Rattle.lake_model.specs.declared.history.Operation.{Operation}
use Rattle.lake_model.specs.declared.history.Operation.TheVariants.{Stage}
use Rattle.lake_model.specs.State.{State}
use Rattle.lake_model.specs.History.{Allows, IsLegal, after, replay}
use Rattle.lake_model.specs.Soundness.{IsSound}
use Rattle.lake_model.specs.Uncommitted.{own_number}
use Rattle.lake_laws.specs.LiveNumbers.{IsLive}
use Rattle.lake_laws.proofs.SoundnessLemmas.{IsSound-after}
use Rattle.lake_calls.specs.CallExceptions.{number_at}
use Rattle.lake_calls.specs.HeldBodies.{FitsState, HoldsBody}
use Rattle.body_laws.specs.BodyChanges.{Bodies, KeepsLive, KindHolds, OperationHolds, StagesHeld}
use Rattle.body_laws.proofs.KeptEntryLemmas.{AllLive, StagesAnew, Stages, all_after}

-- ---- as what holds of each entry

pub all_fit : (state : State) (held : Bodies) → FitsState state held → AllLive (HoldsBody held) state
all_fit state held fits name r there = record {
  committed = λ id live path entry is. fits.committed name r id path entry there live is;
  uncommitted = λ branch b at. (
    λ path entry is. fits.uncommitted name r branch b path entry there at (inl is),
    λ path entry is. fits.uncommitted name r branch b path entry there at (inr is),
  );
}

fit_all : (state : State) (held : Bodies) → AllLive (HoldsBody held) state → FitsState state held
fit_all state held all = record {
  committed = λ repo r id path entry there live is. (all repo r there).committed id live path entry is;
  uncommitted = λ repo r branch b path entry there at put. elim put [
    | inl sealed ↦ ((all repo r there).uncommitted branch b at).0 path entry sealed
    | inr staged ↦ ((all repo r there).uncommitted branch b at).1 path entry staged
  ];
}

-- ---- entries

stages_of : (held : Bodies) (operation : Operation) → OperationHolds held operation → Stages (HoldsBody held) operation
stages_of held (Stage repo branch path (Put entry)) is = is
stages_of held (Stage repo branch path Delete) is = tt
stages_of held operation is = tt

anew_of : (held : Bodies) (kind : EntryKind) → KindHolds held kind → StagesAnew (HoldsBody held) kind
anew_of held (Accepted operation) is = stages_of held operation is
anew_of held (Faulted operation) is = tt

pub fits_after : (state : State) (entry : HistoryEntry) (held : Bodies) → IsSound state → Allows state entry → StagesHeld held entry → FitsState state held
    → FitsState (after state entry) held
fits_after state entry held sound may new fits =
    fit_all (after state entry) held
    (all_after (HoldsBody held) state entry sound may (anew_of held entry.kind new) (all_fit state held fits))

pub fits_along : (state : State) (entries : List HistoryEntry) (held : Bodies) → IsSound state → IsLegal state entries → All (StagesHeld held) entries
    → FitsState state held → FitsState (replay state entries) held
fits_along state [] held sound legal new fits = fits
fits_along state (entry ∷ entries) held sound legal new fits =
    fits_along (after state entry) entries held (IsSound-after state entry sound legal.0) legal.1 (All-tail (StagesHeld held) entry entries new)
    (fits_after state entry held sound legal.0 (All-head (StagesHeld held) entry entries new) fits)

-- ---- other bodies

pub same_number : (place : Place) (number : ℕ) → number_at place ≡ Some number → own_number place ≡ Some number
same_number (Own own digest) number is = is
same_number (External at checksum) number is = is

holds_on : (state : State) (held now : Bodies) (entry : EntryValue) → KeepsLive state held now
    → ((number : ℕ) → own_number entry.place ≡ Some number → IsLive state number) → HoldsBody held entry → HoldsBody now entry
holds_on state held now entry keeps live holds number own =
    let had = holds number own in (had.0, keeps number (live number (same_number entry.place number own)) ∙ had.1, had.2)

pub fits_kept : (state : State) (held now : Bodies) → KeepsLive state held now → FitsState state held → FitsState state now
fits_kept state held now keeps fits = record {
  committed = λ repo r id path entry there live is. holds_on state held now entry keeps
      (λ number own. record {
        name = repo;
        repository = r;
        stands = there;
        names = inl (record { id = id; live = live; names = record { path = path; entry = entry; stands = is; names = own } });
      })
      (fits.committed repo r id path entry there live is);
  uncommitted = λ repo r branch b path entry there at put. holds_on state held now entry keeps
      (λ number own. record {
        name = repo;
        repository = r;
        stands = there;
        names = inr (record {
          name = branch;
          branch = b;
          stands = at;
          names = elim put [
            | inl sealed ↦ inl (record { path = path; change = Put entry; stands = sealed; names = own })
            | inr staged ↦ inr (record { path = path; change = Put entry; stands = staged; names = own })
          ];
        });
      })
      (fits.uncommitted repo r branch b path entry there at put);
}

-- a number that is live was given out
pub kept_given : (state : State) (held now : Bodies) → IsSound state → ((number : ℕ) → number < state.next_number → now number ≡ held number)
    → KeepsLive state held now
kept_given state held now sound keeps number live = keeps number (sound.named number (inl live))

pub fits_over : (state : State) (entries : List HistoryEntry) (held now : Bodies) → IsSound state → IsLegal state entries → KeepsLive state held now
    → All (StagesHeld now) entries → FitsState state held → FitsState (replay state entries) now
fits_over state entries held now sound legal keeps new fits =
    fits_along state entries now sound legal new (fits_kept state held now keeps fits)
