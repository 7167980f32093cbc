-- What is told of a commit, of an object, and of names.
use Rattle.std.proofs.Common.{◌≡◌, ℕ, cond, List, [], ◌∷◌, Some, refl, sym, ap, ◌∙◌}
use Rattle.std.specs.Option.{is_some}
use Rattle.std.specs.Ordering.{eq_by_cmp, nat_cmp}
use Rattle.std.specs.Map.{lookup}
use Rattle.std.specs.BTreeMap.{is_at}
use Rattle.std.specs.FinMap.{contains_key, find, from_entries, get-from_entries}
use Rattle.std.proofs.lemmas.Cmp.{nat_cmp_total}

find_lookup : {X : Type 0} (rows : List (ℕ × X)) (n : ℕ) → find nat_cmp n rows ≡ lookup (is_at (nat_cmp n)) rows
find_lookup [] n = refl
find_lookup (row ∷ rows) n = ap (cond (eq_by_cmp nat_cmp n row.0) (Some row.1)) (find_lookup rows n)

-- a number is among the keys of rows where it is one of their map
pub contains_rows : {X : Type 0} (rows : List (ℕ × X)) (n : ℕ) → is_some (lookup (is_at (nat_cmp n)) rows) ≡ contains_key (from_entries {R = nat_cmp} rows) n
contains_rows rows n = ap is_some (sym (get-from_entries nat_cmp_total rows n ∙ find_lookup rows n))
