-- The days of the first rule of a name.
use Rattle.std.proofs.Common.{◌≡◌, ℕ, ◌<◌, ◌≤◌, arith, true, false, List, ◌∷◌, [], length, get_or, sym, ap, subst, refl, ◌∙◌}
use Rattle.std.specs.List.{AllWithin}
use Rattle.std.specs.Str.{bytes_eq}
use Rattle.std.proofs.lemmas.List.Recursion.{found_at, found_nowhere}
use Rattle.lake_values.specs.Retention.{days_in}
use Rattle.lake_values.specs.declared.settings.BranchDays.{BranchDays}

-- no number is below 0
zero_least : (k : ℕ) → 0 ≤ k
zero_least k = omega arith

-- the days of the first rule of the name
pub days_found : (otherwise : ℕ) (rules : List BranchDays) (branch : List ℕ) (i : ℕ) (rule : BranchDays) → i < length rules → rule ≡ get_or rules i rule
    → AllWithin (λ other. bytes_eq other.branch branch ≡ false) rules 0 i → bytes_eq rule.branch branch ≡ true → rule.days ≡ days_in otherwise rules branch
days_found otherwise rules branch i rule within is before here =
    ap (λ (r : BranchDays). r.days) is
    ∙ sym (found_at (λ rs. days_in otherwise rs branch) (λ r. bytes_eq r.branch branch) (λ r. r.days) otherwise refl (λ _ _. refl) rules i rule within
    (λ k below. before k rule (zero_least k) below) (subst (λ (r : BranchDays). bytes_eq r.branch branch ≡ true) is here))

-- the default days where no rule has the name
pub days_otherwise : (otherwise : ℕ) (rules : List BranchDays) (branch : List ℕ)
    → AllWithin (λ other. bytes_eq other.branch branch ≡ false) rules 0 (length rules) → otherwise ≡ days_in otherwise rules branch
days_otherwise otherwise [] branch none = refl
days_otherwise otherwise (rule ∷ rules) branch none =
    sym (found_nowhere (λ rs. days_in otherwise rs branch) (λ r. bytes_eq r.branch branch) (λ r. r.days) otherwise refl (λ _ _. refl) (rule ∷ rules) rule
    (λ k below. none k rule (zero_least k) below))
