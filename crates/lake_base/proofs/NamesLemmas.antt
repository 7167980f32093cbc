-- Names are texts: each byte that may stand in one is below 128.
use Rattle.std.proofs.Common.{◌≡◌, ℕ, zero, suc, ◌+◌, ◌<◌, ◌≤◌, Bool, true, false, not, cond, List, [], ◌∷◌, length, position, Option, Some, None, option_map}
use Rattle.std.proofs.Common.{refl, arith}
use Rattle.std.specs.List.{AllByRecursion, position_or_len}
use Rattle.std.specs.Str.{IsAscii, is_utf8}
use Rattle.std.proofs.lemmas.Bool.{ltb-false}
use Rattle.std.proofs.lemmas.Bool.Decides.{nat_tests}
use Rattle.std.proofs.lemmas.Str.{IsUtf8-from_ascii, is_utf8-from_IsUtf8}
use Rattle.lake_base.specs.Names.{bad_byte, begins_repo, continues_repo, begins_ref, continues_ref}
use Rattle.lake_base.specs.declared.names.NameFault.TheVariants.{BadByte}

stray_step : (p : ℕ → Bool) (c : ℕ) (s : List ℕ) → (length s ≤ position_or_len (λ byte. not (p byte)) s → AllByRecursion (λ k. p k ≡ true) s)
    → (b : Bool) → p c ≡ b
    → suc (length s) ≤ cond (not (not b)) (1 + position_or_len (λ byte. not (p byte)) s) 0 → AllByRecursion (λ k. p k ≡ true) (c ∷ s)
stray_step p c s rest true e le = (e, rest (omega (arith, le)))
stray_step p c s rest false e le = absurd (omega (arith, le))

no_stray : (p : ℕ → Bool) (s : List ℕ) → length s ≤ position_or_len (λ byte. not (p byte)) s → AllByRecursion (λ c. p c ≡ true) s
no_stray p [] h = tt
no_stray p (c ∷ s) h = stray_step p c s (no_stray p s) (p c) refl h

none_found : (b : Bool) (n : ℕ) → cond b (Some n) None ≡ None → b ≡ false
none_found true n e = absurd cc
none_found false n e = refl

-- where no byte fails a test, all pass it
pub all_pass : (p : ℕ → Bool) (s : List ℕ) → position (λ byte. not (p byte)) s ≡ None → AllByRecursion (λ c. p c ≡ true) s
all_pass p s h = no_stray p s (ltb-false _ _ (none_found _ (position_or_len (λ byte. not (p byte)) s) h))

below : (p : ℕ → Bool) → ((c : ℕ) → p c ≡ true → c < 128) → (s : List ℕ) → AllByRecursion (λ c. p c ≡ true) s → IsAscii s
below p small [] all i = omega arith
below p small (c ∷ s) all zero = small c all.0
below p small (c ∷ s) all (suc i) = below p small s all.1 i

no_fault : (o : Option ℕ) → option_map (λ at. BadByte (at + 1)) o ≡ None → o ≡ None
no_fault None e = refl
no_fault (Some at) e = absurd cc

named_parts : (p : ℕ → Bool) (b : Bool) (o : Option ℕ) → cond b (option_map (λ at. BadByte (at + 1)) o) (Some (BadByte 0)) ≡ None → (b ≡ true) × (o ≡ None)
named_parts p true o e = (refl, no_fault o e)
named_parts p false o e = absurd cc

named : (first others : ℕ → Bool) → ((c : ℕ) → first c ≡ true → c < 128) → ((c : ℕ) → others c ≡ true → c < 128) → (bytes : List ℕ)
    → bad_byte first others bytes ≡ None → IsAscii bytes
named first others small smalls [] e i = omega arith
named first others small smalls (c ∷ s) e zero =
    small c (named_parts first (first c) (position (λ byte. not (others byte)) s) e).0
named first others small smalls (c ∷ s) e (suc i) =
    below others smalls s (all_pass others s (named_parts first (first c) (position (λ byte. not (others byte)) s) e).1) i

text_of : (bytes : List ℕ) → IsAscii bytes → is_utf8 bytes ≡ true
text_of bytes h = is_utf8-from_IsUtf8 bytes (IsUtf8-from_ascii bytes h)

repo_begins : (c : ℕ) → begins_repo c ≡ true → c < 128
repo_begins c h = grind (arith, nat_tests, h)

repo_goes_on : (c : ℕ) → continues_repo c ≡ true → c < 128
repo_goes_on c h = grind (arith, nat_tests, h)

ref_begins : (c : ℕ) → begins_ref c ≡ true → c < 128
ref_begins c h = grind (arith, nat_tests, h)

ref_goes_on : (c : ℕ) → continues_ref c ≡ true → c < 128
ref_goes_on c h = grind (arith, nat_tests, h)

-- the name of a repository is a text
pub repo_text : (bytes : List ℕ) → bad_byte begins_repo continues_repo bytes ≡ None → is_utf8 bytes ≡ true
repo_text bytes e = text_of bytes (named begins_repo continues_repo repo_begins repo_goes_on bytes e)

-- the name of a branch or a tag is a text
pub ref_text : (bytes : List ℕ) → bad_byte begins_ref continues_ref bytes ≡ None → is_utf8 bytes ≡ true
ref_text bytes e = text_of bytes (named begins_ref continues_ref ref_begins ref_goes_on bytes e)
