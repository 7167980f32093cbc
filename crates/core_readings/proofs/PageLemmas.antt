-- Which map a page is one of.
use Rattle.std.proofs.Common.{◌≡◌, ◌∙◌, ℕ, false, List, ap}
use Rattle.std.specs.FinMap.{entries}
use Rattle.lake_base.specs.declared.digest.Digest.{Digest}
use Rattle.lake_values.specs.Entry.{EntryValue}
use Rattle.lake_values.specs.KeyMap.{KeyMapValue, apply}
use Rattle.lake_values.proofs.KeyMapLemmas.{apply_over}
use Rattle.branch_record.specs.Overlay.{overlay_of, sealed_changes, staged_changes}
use Rattle.lake_model.specs.State.{Repository, map_of, now_map}
use Rattle.core_state.specs.declared.branch.BranchState.{BranchState}
use Rattle.core_readings.proofs.PlacesLemmas.{branch_at}

-- rows of the changes of a branch over its head's map are those of what is read on it now
pub rows_now : (r : Repository) (b : BranchState) (head : Digest) (map : KeyMapValue) (rows : List (List ℕ × EntryValue)) → head ≡ b.record.head
    → map ≡ map_of r head → rows ≡ entries (apply (overlay_of b.record b.tokens.changes false) map) → rows ≡ entries (now_map r (branch_at b))
rows_now r b head map rows at under is =
    is
    ∙ ap entries (apply_over (staged_changes b.record b.tokens.changes) (sealed_changes b.record b.tokens.changes) map)
    ∙ ap (λ map. entries (apply (staged_changes b.record b.tokens.changes) (apply (sealed_changes b.record b.tokens.changes) map)))
    (under ∙ ap (map_of r) at)
