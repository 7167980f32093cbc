-- A clock over requests: it told its readings before where it tells them, and goes on telling them.
use Rattle.std.proofs.Common.{◌≡◌, ◌++◌, ◌<◌, ◌+◌, List, ℕ, Option, Some, None, IfSome, IsSome, length, length-append, true≢false, refl, sym, ap, ◌∙◌, arith}
use Rattle.lake_base.specs.Outside.{last_count}
use Rattle.lake_session.specs.SessionItems.{KeepsTelling}

pub clock_told : (readings before : Option (List ℕ)) → IfSome readings (λ _. IsSome before)
    → IfSome readings (λ _. (was : List ℕ) × (before ≡ Some was))
clock_told None before told = tt
clock_told (Some readings) None told = absurd (true≢false (sym told))
clock_told (Some readings) (Some was) told = (was, refl)

-- at first
pub keeps_none : (readings : Option (List ℕ)) → KeepsTelling 0 readings readings
keeps_none None = tt
keeps_none (Some readings) = λ few. refl

-- and behind one reading more than it has taken
pub keeps_more : (first between next : Option (List ℕ)) (taken : List ℕ) (count : ℕ) → count ≡ length taken
    → IfSome between (λ now. (before : List ℕ) × (first ≡ Some before) × (now ≡ before ++ taken))
    → KeepsTelling count first between → KeepsTelling 1 between next → KeepsTelling (count + 1) first next
keeps_more None between next taken count is told keeps one = tt
keeps_more (Some readings) None next taken count is told keeps one = λ few.
    let fewer : length readings + count < last_count = omega (arith, few) in
    absurd (true≢false (sym (keeps fewer)))
keeps_more (Some readings) (Some now) next taken count is (before, was, whole) keeps one = λ few.
    let same : before ≡ readings = cc (sym was) in
    let long : length now ≡ length before + length taken = ap length whole ∙ length-append before taken in
    one (omega (arith, few, long, ap length same, is))
