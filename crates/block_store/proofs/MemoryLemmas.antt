-- Whether a call is listed.
use Rattle.std.proofs.Common.{◌≡◌, ℕ, Bool, List, sym, ◌∙◌}
use Rattle.std.specs.List.{list_any}
use Rattle.lake_base.specs.Memory.{next_count}
use Rattle.block_store.specs.declared.memory.BlockFail.{BlockFail}

-- whether a call is to fail is whether one of its number is found
pub listed : (is_call : ℕ → BlockFail → Bool) (fails items : List BlockFail) (calls number : ℕ) (found : Bool)
    → found ≡ list_any (is_call number) items → items ≡ fails → number ≡ next_count calls → list_any (is_call (next_count calls)) fails ≡ found
listed is_call fails items calls number found is same count = sym (is ∙ (λ i. list_any (is_call (count i)) (same i)))
