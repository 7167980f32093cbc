-- Which names a pattern matches, by its first byte.
use Rattle.std.proofs.Common.{◌≡◌, ℕ, zero, suc, ◌≤◌, Bool, true, false, cond, List, [], ◌∷◌, length, drop, ◌||◌, ◌&&◌, refl, sym, ap, ◌∙◌, arith}
use Rattle.std.specs.Bool.{◌==◌}
use Rattle.std.specs.List.{list_any}
use Rattle.std.proofs.lemmas.Bool.Decides.{Decides-eqb}
use Rattle.lake_values.specs.HookDecisions.{suffixes, begins_with_byte, matches}
use Rattle.lake_values.proofs.AncestryLemmas.{otherwise}

-- ---- what is left of a name

some_end : (p : List ℕ → Bool) (name : List ℕ) (k : ℕ) → k ≤ length name → p (drop k name) ≡ true → list_any p (suffixes name) ≡ true
some_end p [] zero le e = ap (λ b. b || false) e
some_end p [] (suc k) le e = absurd (omega arith)
some_end p (c ∷ name) zero le e = ap (λ b. b || list_any p (suffixes name)) e
some_end p (c ∷ name) (suc k) le e = ap (λ b. p (c ∷ name) || b) (some_end p name k (omega arith) e) ∙ last (p (c ∷ name))
  where
    last : (b : Bool) → b || true ≡ true
    last true = refl
    last false = refl

no_end : (p : List ℕ → Bool) (name : List ℕ) → ((k : ℕ) → k ≤ length name → p (drop k name) ≡ false) → list_any p (suffixes name) ≡ false
no_end p [] none = ap (λ b. b || false) (none 0 (omega arith))
no_end p (c ∷ name) none = ap (λ b. b || list_any p (suffixes name)) (none 0 (omega arith)) ∙ no_end p name (λ k le. none (suc k) (omega arith))

-- ---- a pattern

on_star : (byte : ℕ) (rest name : List ℕ) → byte ≡ 42 → matches (byte ∷ rest) name ≡ list_any (matches rest) (suffixes name)
unfolding matches
on_star byte rest name e = ap (λ b. cond b (list_any (matches rest) (suffixes name)) (begins_with_byte byte (matches rest) name)) ((Decides-eqb byte 42).1 e)

on_byte : (byte : ℕ) (rest name : List ℕ) → (byte ≡ 42 → ⊥) → matches (byte ∷ rest) name ≡ begins_with_byte byte (matches rest) name
unfolding matches
on_byte byte rest name ne = ap (λ b. cond b (list_any (matches rest) (suffixes name)) (begins_with_byte byte (matches rest) name))
    (otherwise (byte == 42) (λ t. ne ((Decides-eqb byte 42).0 t)))

-- the end of a pattern
pub nothing_left : (pattern name : List ℕ) (r : Bool) → length pattern ≡ 0 → r ≡ (length name == 0) → r ≡ matches pattern name
unfolding matches
nothing_left [] [] r e is = is
nothing_left [] (c ∷ name) r e is = is ∙ otherwise (suc (length name) == 0) (λ t. never ((Decides-eqb (suc (length name)) 0).0 t))
  where
    never : suc (length name) ≡ 0 → ⊥
    never e = omega arith
nothing_left (byte ∷ pattern) name r e is = absurd (omega arith)

-- a pattern that begins with this byte
module _ (pattern rest : List ℕ) (byte : ℕ) (is : pattern ≡ byte ∷ rest) where
  pub star_found : (name : List ℕ) (k : ℕ) → byte ≡ 42 → k ≤ length name → matches rest (drop k name) ≡ true → true ≡ matches pattern name
  star_found name k star le e = sym (ap (λ p. matches p name) is ∙ on_star byte rest name star ∙ some_end (matches rest) name k le e)

  pub star_never : (name : List ℕ) → byte ≡ 42 → ((k : ℕ) → k ≤ length name → matches rest (drop k name) ≡ false) → false ≡ matches pattern name
  star_never name star none = sym (ap (λ p. matches p name) is ∙ on_star byte rest name star ∙ no_end (matches rest) name none)

  pub byte_there : (name left : List ℕ) (c : ℕ) (r : Bool) → (byte ≡ 42 → ⊥) → name ≡ c ∷ left → c ≡ byte → r ≡ matches rest left → r ≡ matches pattern name
  byte_there name left c r ne begin same e =
      e ∙ sym (ap (λ p. matches p name) is ∙ on_byte byte rest name ne ∙ ap (begins_with_byte byte (matches rest)) begin
      ∙ ap (λ b. b && matches rest left) ((Decides-eqb c byte).1 same))

  pub byte_other : (name left : List ℕ) (c : ℕ) → (byte ≡ 42 → ⊥) → name ≡ c ∷ left → (c ≡ byte → ⊥) → (c == byte) ≡ matches pattern name
  byte_other name left c ne begin other =
      otherwise (c == byte) (λ t. other ((Decides-eqb c byte).0 t))
      ∙ sym (ap (λ p. matches p name) is ∙ on_byte byte rest name ne ∙ ap (begins_with_byte byte (matches rest)) begin
      ∙ ap (λ b. b && matches rest left) (otherwise (c == byte) (λ t. other ((Decides-eqb c byte).0 t))))

  pub byte_missing : (name : List ℕ) → (byte ≡ 42 → ⊥) → length name ≡ 0 → false ≡ matches pattern name
  byte_missing [] ne e = sym (ap (λ p. matches p []) is ∙ on_byte byte rest [] ne)
  byte_missing (c ∷ name) ne e = absurd (omega arith)
