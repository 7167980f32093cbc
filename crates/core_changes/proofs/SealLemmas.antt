-- A branch after a seal.
use Rattle.std.proofs.Common.{◌≡◌, ℕ, Bool, true, false, cond, ◌<◌, ◌∷◌, arith, refl}
use Rattle.std.specs.Prelude.{Result, Ok, Err, IsOk, OnOk}
use Rattle.std.specs.FinMap.{contains_key}
use Rattle.branch_record.specs.Record.{is_among, record_after_seal}
use Rattle.core_state.specs.declared.branch.BranchState.{BranchState}
use Rattle.core_state.specs.BranchStates.{BranchStateValue, branch_value, tokens_of}
use Rattle.core_changes.specs.declared.branch.BranchChange.TheVariants.{Seal}
use Rattle.core_changes.specs.BranchChanges.{IsUnused, branch_after}
use Rattle.core_changes.specs.FreshTokens.{HasTokensBelow}

-- what holds where a call wasn't refused, of a call that can't be refused
pub where_ok : {T E P : Type 0} (r : Result T E) → IsOk r → OnOk r P → P
where_ok (Ok x) ok p = p
where_ok (Err e) ok p = absurd cc

-- its record was sealed, and was given a version
pub sealed_branch : (b : BranchState) (fresh version spare : ℕ)
    → branch_value (record { «record» = record (record_after_seal b.record b.tokens.changes fresh) { version = version; spare = spare }; tokens = b.tokens })
    ≡ branch_after (Seal fresh version) (branch_value b)
unfolding record_after_seal
sealed_branch b fresh version spare =
    elim (contains_key b.tokens.changes b.record.staging) as (λ there.
    branch_value (record {
      «record» = record (cond there (record b.record { staging = fresh; sealed = b.record.staging ∷ b.record.sealed }) b.record) {
        version = version;
        spare = spare;
      };
      tokens = b.tokens;
    })
    ≡ record (cond there (record (branch_value b) { staging = fresh; sealed = b.record.staging ∷ b.record.sealed }) (branch_value b)) { version = version })
    [ true ↦ refl | false ↦ refl ]

-- the next token is unused, where every token of the branch is below it
pub next_unused : (next : ℕ) (b : BranchStateValue) → HasTokensBelow next b → IsUnused b next
next_unused next b h = record { unnamed = above (is_among (tokens_of b) next) (h.named next); empty = above (contains_key b.tokens next) (h.used next) }
  where
    above : (there : Bool) → (there ≡ true → next < next) → there ≡ false
    above true low = absurd (omega (arith, low refl))
    above false low = refl
