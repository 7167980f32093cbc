-- The first failure that names puts.
use Rattle.std.proofs.Common.{◌≡◌, ℕ, suc, ◌+◌, ◌<◌, Bool, List, length, drop, get_or, drop-cons, sym, ap, ◌∙◌, arith}
use Rattle.std.specs.Option.{option_or}
use Rattle.keeper.specs.declared.memory.KeeperFail.{KeeperFail}
use Rattle.std.specs.List.{list_any}
use Rattle.lake_base.specs.Memory.{next_count}
use Rattle.keeper.specs.FailingKeepers.{is_load, is_load_to_fail, landing, first_landing}

-- what is left begins with the failure at a place
pub landing_at : (number : ℕ) (fails : List KeeperFail) (i : ℕ) (x : KeeperFail) → i < length fails → x ≡ get_or fails i x
    → first_landing number (drop i fails) ≡ option_or (landing number x) (first_landing number (drop (i + 1) fails))
landing_at number fails i x lt is =
    ap (first_landing number) (drop-cons fails i x lt)
    ∙ ap (λ y. option_or (landing number y) (first_landing number (drop (suc i) fails))) (sym is)
    ∙ (let next : suc i ≡ i + 1 = omega arith in ap (λ k. option_or (landing number x) (first_landing number (drop k fails))) next)

-- whether a load is to fail is whether one of its number is found
pub listed : (fails items : List KeeperFail) (loads number : ℕ) (found : Bool) → found ≡ list_any (is_load number) items → items ≡ fails
    → number ≡ next_count loads → is_load_to_fail fails loads ≡ found
listed fails items loads number found is same count = sym (is ∙ (λ i. list_any (is_load (count i)) (same i)))
