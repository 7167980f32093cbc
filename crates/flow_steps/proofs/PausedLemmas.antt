-- How often a pause was called.
use Rattle.std.proofs.Common.{◌≡◌, ◌+◌, ◌≤◌, ℕ, zero, suc, Option, option_map, refl, sym, ap, ◌∙◌, arith}
use Rattle.lake_base.specs.Memory.{next_count}
use Rattle.flow_steps.specs.Retries.{HasPaused, called_more}

none_more : (n : ℕ) → 0 + n ≡ n
none_more n = omega arith

one_more : (m n : ℕ) → suc m + n ≡ suc (m + n)
one_more m n = omega arith

called_sum : (m n : ℕ) (before : Option ℕ) → called_more (m + n) before ≡ called_more n (called_more m before)
called_sum zero n before = ap (λ k. called_more k before) (none_more n)
called_sum (suc m) n before = ap (λ k. called_more k before) (one_more m n) ∙ called_sum m n (option_map next_count before)

-- it wasn't called
pub paused_not : (now : Option ℕ) → HasPaused 1 0 now now
paused_not now = record { times = 0; few = omega arith; enough = omega arith; called = refl }

-- it was, once
pub paused_once : (changed : ℕ) (before now : Option ℕ) → changed ≤ 1 → now ≡ option_map next_count before → HasPaused 1 changed before now
paused_once changed before now few is = record { times = 1; few = omega arith; enough = few; called = is }

-- and then it was called more
pub paused_more : (most changed more other : ℕ) (before between now : Option ℕ) → HasPaused most changed before between → HasPaused more other between now
    → HasPaused (most + more) (changed + other) before now
paused_more most changed more other before between now one two = record {
  times = one.times + two.times;
  few = omega (arith, one.few, two.few);
  enough = omega (arith, one.enough, two.enough);
  called = two.called ∙ ap (called_more two.times) one.called ∙ sym (called_sum one.times two.times before);
}

-- that is within more
pub paused_within : (most changed more other : ℕ) (before now : Option ℕ) → most ≤ more → other ≤ changed → HasPaused most changed before now
    → HasPaused more other before now
paused_within most changed more other before now few fewer paused =
    record { times = paused.times; few = omega (arith, few, paused.few); enough = omega (arith, fewer, paused.enough); called = paused.called }
