-- A clock that stands still gives one moment, and tells what it gave.
use Rattle.std.proofs.Common.{◌≡◌, ◌<◌, ◌≤◌, ◌+◌, ◌++◌, ◌∷◌, [], ℕ, zero, suc, Bool, true, false, List, length, Option, Some, None, IfSome, All, ◌∙◌, ap}
use Rattle.std.proofs.Common.{sym, subst, arith}
use Rattle.std.proofs.lemmas.List.Elements.{All-replicate, All-tail}
use Rattle.std.specs.Prelude.{replicate, nat_lt, if◌then◌else◌}
use Rattle.lake_base.specs.Clocks.{FixedClockValue, fixed_readings}
use Rattle.lake_base.specs.Outside.{last_count}
use Rattle.lake_batch.specs.Batches.{AreAtMoment}
use Rattle.lake_batch.specs.CommandWords.{CommandView}
use Rattle.lake_batch.proofs.SeatLemmas.{Grew, Passes, TellsOn}

abbrev first_of : List ℕ → ℕ
first_of [] = 0
first_of (x ∷ xs) = x

-- a still clock that had given this moment, and tells its readings, gave no other
still_moments : (moment : ℕ) (clock : FixedClockValue) → Grew (Some (moment ∷ [])) (fixed_readings clock)
    → IfSome (fixed_readings clock) (λ readings. All (λ reading. reading ≡ moment) readings)
still_moments moment clock = by_count (nat_lt clock.given last_count) clock.given
  where
    by_count : (told : Bool) (given : ℕ) → Grew (Some (moment ∷ [])) (if told then Some (replicate given clock.at) else None)
        → IfSome (if told then Some (replicate given clock.at) else None) (λ readings. All (λ reading. reading ≡ moment) readings)
    by_count false given grew = tt
    by_count true zero (before, more, is, whole) =
        let one : before ≡ moment ∷ [] = cc in
        let never : [] ≡ moment ∷ more = whole ∙ ap (λ (l : List ℕ). l ++ more) one in
        absurd cc
    by_count true (suc given) (before, more, is, whole) =
        let one : before ≡ moment ∷ [] = cc in
        All-replicate (λ reading. reading ≡ moment) (suc given) clock.at (ap first_of (whole ∙ ap (λ (l : List ℕ). l ++ more) one))

-- ALL REQUESTS WERE MADE AT ITS MOMENT, where it was read once before them, and can count them
pub at_its_moment : (moment most : ℕ) (clock : FixedClockValue) (begin end : CommandView) → begin.lake.readings ≡ Some (moment ∷ [])
    → end.lake.readings ≡ fixed_readings clock → Passes most begin.lake end.lake → most + 1 < last_count → AreAtMoment moment begin end
at_its_moment moment most clock begin end begins reads passes few =
    let of_moment : List ℕ → Type 0 = λ readings. All (λ reading. reading ≡ moment) readings in
    let grew : Grew (Some (moment ∷ [])) end.lake.readings = subst (λ (old : Option (List ℕ)). Grew old end.lake.readings) begins passes.grew in
    let tells : TellsOn most (Some (moment ∷ [])) end.lake.readings =
    subst (λ (old : Option (List ℕ)). TellsOn most old end.lake.readings) begins passes.tells in
    let told : (readings : List ℕ) × (end.lake.readings ≡ Some readings) × (length readings ≤ 1 + most) = tells (omega (arith, few)) in
    let parts : (before more : List ℕ) × (Some (moment ∷ []) ≡ Some before) × (told.0 ≡ before ++ more) =
    subst (λ (now : Option (List ℕ)). Grew (Some (moment ∷ [])) now) told.1 grew in
    let one : parts.0 ≡ moment ∷ [] = cc (sym parts.2) in
    let ends : end.lake.readings ≡ Some (moment ∷ parts.1) = told.1 ∙ ap Some (parts.3 ∙ ap (λ (l : List ℕ). l ++ parts.1) one) in
    let all : of_moment (moment ∷ parts.1) =
    subst (λ (now : Option (List ℕ)). IfSome now of_moment) (sym reads ∙ ends)
    (still_moments moment clock (subst (λ (now : Option (List ℕ)). Grew (Some (moment ∷ [])) now) reads grew)) in
    record { begins = begins; taken = parts.1; ends = ends; still = All-tail (λ reading. reading ≡ moment) moment parts.1 all }
