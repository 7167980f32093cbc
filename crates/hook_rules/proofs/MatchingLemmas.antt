-- Steps of a match: what is left to do after each, and how little.
use Rattle.std.proofs.Common.{Option, Some, None, IfSome, Bor, MatchOption, ◌≡◌, ℕ, suc, ◌+◌, ◌*◌, ◌<◌, ◌≤◌, Bool, true, false, cond, List, [], ◌∷◌, length}
use Rattle.std.proofs.Common.{◌||◌, ◌&&◌, refl, sym, ap, ◌∙◌, arith, mul-le-mul_right}
use Rattle.std.specs.Bool.{◌==◌}
use Rattle.std.specs.List.{list_all}
use Rattle.std.proofs.lemmas.Bool.Decides.{Decides-eqb}
use Rattle.lake_values.specs.HookDecisions.{begins_with_byte, matches}
use Rattle.hook_rules.specs.Matching.{matches_later, matches_after_one, matches_again, outcome, plain_bytes, star_bytes, HasPassed, IsWalk, Leads}
use Rattle.hook_rules.specs.declared.pattern.Star.{Star}
use Rattle.hook_rules.specs.declared.pattern.Walk.{Walk}

-- ---- tests

or_left : (a b : Bool) → a ≡ true → a || b ≡ true
or_left a b e = ap (λ x. x || b) e

or_right : (a b : Bool) → b ≡ true → a || b ≡ true
or_right true b e = refl
or_right false b e = e

or_cases : (a b c : Bool) → a || b ≡ true → (a ≡ true → c ≡ true) → (b ≡ true → c ≡ true) → c ≡ true
or_cases true b c e f g = f refl
or_cases false b c e f g = g e

-- what follows from the other adds nothing
pub absorbed : (a b : Bool) → (b ≡ true → a ≡ true) → a || b ≡ a
absorbed true b f = refl
absorbed false true f = sym (f refl)
absorbed false false f = refl

-- ---- a pattern, by its first byte

pub on_star : (byte : ℕ) (rest name : List ℕ) → byte ≡ 42 → matches (byte ∷ rest) name ≡ matches_later rest name
unfolding matches
on_star byte rest name e = ap (λ b. cond b (matches_later rest name) (begins_with_byte byte (matches rest) name)) ((Decides-eqb byte 42).1 e)

otherwise : (b : Bool) → (b ≡ true → ⊥) → b ≡ false
otherwise true never = absurd (never refl)
otherwise false never = refl

differ : (a b : ℕ) → (a ≡ b → ⊥) → (a == b) ≡ false
differ a b ne = otherwise (a == b) (λ t. ne ((Decides-eqb a b).0 t))

pub on_byte : (byte : ℕ) (rest name : List ℕ) → (byte ≡ 42 → ⊥) → matches (byte ∷ rest) name ≡ begins_with_byte byte (matches rest) name
unfolding matches
on_byte byte rest name ne = ap (λ b. cond b (matches_later rest name) (begins_with_byte byte (matches rest) name)) (differ byte 42 ne)

-- ---- what is left of a name

later_split : (pattern name : List ℕ) → matches_later pattern name ≡ matches pattern name || matches_after_one pattern name
later_split pattern [] = refl
later_split pattern (c ∷ name) = refl

later_here : (pattern name : List ℕ) → matches pattern name ≡ true → matches_later pattern name ≡ true
later_here pattern name e = later_split pattern name ∙ or_left _ _ e

later_tail : (pattern name : List ℕ) (c : ℕ) → matches_later pattern name ≡ true → matches_later pattern (c ∷ name) ≡ true
later_tail pattern name c e = or_right (matches pattern (c ∷ name)) _ e

later_star : (byte : ℕ) (rest name : List ℕ) → byte ≡ 42 → matches_later (byte ∷ rest) name ≡ true → matches_later rest name ≡ true
later_star byte rest [] star e = or_cases (matches (byte ∷ rest) []) false _ e (λ t. sym (on_star byte rest [] star) ∙ t) (λ f. absurd (cc))
later_star byte rest (c ∷ name) star e =
    or_cases (matches (byte ∷ rest) (c ∷ name)) (matches_later (byte ∷ rest) name) _ e (λ t. sym (on_star byte rest (c ∷ name) star) ∙ t)
    (λ t. later_tail rest name c (later_star byte rest name star t))

and_right : (a b : Bool) → a && b ≡ true → b ≡ true
and_right true b e = e
and_right false b e = absurd (cc)

byte_matched : (byte c : ℕ) (rest name : List ℕ) → (byte ≡ 42 → ⊥) → matches (byte ∷ rest) (c ∷ name) ≡ true → matches rest name ≡ true
byte_matched byte c rest name ne e = and_right (c == byte) (matches rest name) (sym (on_byte byte rest (c ∷ name) ne) ∙ e)

later_rest : (byte : ℕ) (rest name : List ℕ) → (byte ≡ 42 → ⊥) → matches_later (byte ∷ rest) name ≡ true → matches_later rest name ≡ true
later_rest byte rest [] ne e =
    or_cases (matches (byte ∷ rest) []) false _ e (λ t. let never : false ≡ true = sym (on_byte byte rest [] ne) ∙ t in absurd (cc)) (λ f. absurd (cc))
later_rest byte rest (c ∷ name) ne e =
    or_cases (matches (byte ∷ rest) (c ∷ name))
    (matches_later (byte ∷ rest) name) _ e (λ t. later_tail rest name c (later_here rest name (byte_matched byte c rest name ne t)))
    (λ t. later_tail rest name c (later_rest byte rest name ne t))

later_byte : (byte c : ℕ) (rest name : List ℕ) → (byte ≡ 42 → ⊥) → matches_later (byte ∷ rest) (c ∷ name) ≡ true → matches_later rest name ≡ true
later_byte byte c rest name ne e =
    or_cases (matches (byte ∷ rest) (c ∷ name)) (matches_later (byte ∷ rest) name) _ e (λ t. later_here rest name (byte_matched byte c rest name ne t))
    (λ t. later_rest byte rest name ne t)

after_one_later : (pattern name : List ℕ) → matches_after_one pattern name ≡ true → matches_later pattern name ≡ true
after_one_later pattern name e = later_split pattern name ∙ or_right (matches pattern name) _ e

-- ---- steps

fewer_steps : (less more most left : ℕ) → less ≤ more → less * most + left < more * most + suc left
fewer_steps less more most left le = omega (arith, mul-le-mul_right {m = less} {n = more} most le)

star_same : (byte : ℕ) (pattern rest name : List ℕ) (again : Bool) → byte ≡ 42 → pattern ≡ byte ∷ rest → (again ≡ true → matches_later pattern name ≡ true)
    → matches rest name || matches_after_one rest name ≡ matches pattern name || again
star_same byte pattern rest name again star begins later =
    let whole : matches pattern name ≡ matches_later rest name = ap (λ p. matches p name) begins ∙ on_star byte rest name star in
    sym (later_split rest name) ∙ sym whole
    ∙ sym (absorbed (matches pattern name) again (λ t. whole ∙ later_star byte rest name star (sym (ap (λ p. matches_later p name) begins) ∙ later t)))

byte_same : (byte c : ℕ) (pattern rest name left : List ℕ) → (byte ≡ 42 → ⊥) → byte ≡ c → pattern ≡ byte ∷ rest → name ≡ c ∷ left
    → matches rest left ≡ matches pattern name
byte_same byte c pattern rest name left ne same begins is =
    sym (ap (λ p. matches p name) begins ∙ ap (matches (byte ∷ rest)) is ∙ on_byte byte rest (c ∷ left) ne
    ∙ ap (λ b. b && matches rest left) ((Decides-eqb c byte).1 (sym same)))

pub byte_other : (byte c : ℕ) (pattern rest name left : List ℕ) → (byte ≡ 42 → ⊥) → (byte ≡ c → ⊥) → pattern ≡ byte ∷ rest → name ≡ c ∷ left
    → matches pattern name ≡ false
byte_other byte c pattern rest name left ne other begins is =
    ap (λ p. matches p name) begins ∙ ap (matches (byte ∷ rest)) is ∙ on_byte byte rest (c ∷ left) ne
    ∙ ap (λ b. b && matches rest left) (differ c byte (λ e. other (sym e)))

pub none_other : (c : ℕ) (pattern name left : List ℕ) → length pattern ≡ 0 → name ≡ c ∷ left → matches pattern name ≡ false
unfolding matches
none_other c [] name left e is = ap (matches []) is
none_other c (byte ∷ pattern) name left e is = absurd (omega arith)

-- a star is no plain byte
plain_star : (byte : ℕ) (rest : List ℕ) → byte ≡ 42 → plain_bytes (byte ∷ rest) ≡ plain_bytes rest
plain_star byte rest e = ap (λ b. cond b (plain_bytes rest) (plain_bytes rest + 1)) ((Decides-eqb byte 42).1 e)

-- another byte is one
plain_byte : (byte : ℕ) (rest : List ℕ) → (byte ≡ 42 → ⊥) → plain_bytes (byte ∷ rest) ≡ plain_bytes rest + 1
plain_byte byte rest ne = ap (λ b. cond b (plain_bytes rest) (plain_bytes rest + 1)) (differ byte 42 ne)

-- a plain byte more is passed
passed : (most : ℕ) (left rest : List ℕ) (star : Option Star) → length left ≡ suc (length rest) → plain_bytes left ≡ plain_bytes rest + 1
    → IfSome star (HasPassed most left) → IfSome star (HasPassed most rest)
passed most left rest None longer plain was = was
passed most left rest (Some star) longer plain was = record { plain = omega (arith, longer, plain, was.plain); few = was.few }

module _ (most longest : ℕ) (walk : Walk) (going : IsWalk most longest walk) where
  -- a step over a star
  pub over_star : (byte : ℕ) (rest : Bor (List ℕ)) → walk.pattern.now ≡ byte ∷ rest.now → byte ≡ 42
      → Leads most longest walk (outcome walk) (record { pattern = rest; name = walk.name; star = Some (record { pattern = rest; name = walk.name }) })
  over_star byte rest begins star =
      let longer : length walk.pattern.now ≡ suc (length rest.now) = ap length begins in
      let plain : plain_bytes walk.pattern.now ≡ plain_bytes rest.now = ap plain_bytes begins ∙ plain_star byte rest.now star in
      let short : plain_bytes rest.now < most = omega (arith, plain, going.pattern) in
      record {
        same = star_same byte walk.pattern.now rest.now walk.name.now (matches_again walk.star) star begins going.later;
        going = record {
          later = after_one_later rest.now walk.name.now;
          name = omega arith;
          pattern = short;
          star = record { plain = refl; few = short };
        };
        fewer = rw longer (fewer_steps (length walk.name.now) (star_bytes longest walk.star) most (length rest.now) going.name);
      }

  -- a step over the same byte in both
  pub over_byte : (byte c : ℕ) (rest left : Bor (List ℕ)) → walk.pattern.now ≡ byte ∷ rest.now → walk.name.now ≡ c ∷ left.now → (byte ≡ 42 → ⊥) → byte ≡ c
      → Leads most longest walk (outcome walk) (record { pattern = rest; name = left; star = walk.star })
  over_byte byte c rest left begins is ne same =
      let longer : length walk.pattern.now ≡ suc (length rest.now) = ap length begins in
      let named : length walk.name.now ≡ suc (length left.now) = ap length is in
      let plain : plain_bytes walk.pattern.now ≡ plain_bytes rest.now + 1 = ap plain_bytes begins ∙ plain_byte byte rest.now ne in
      record {
        same = ap (λ b. b || matches_again walk.star) (byte_same byte c walk.pattern.now rest.now walk.name.now left.now ne same begins is);
        going = record {
          later = λ t. later_byte byte c rest.now left.now ne
              (sym (ap (λ p. matches_later p walk.name.now) begins ∙ ap (matches_later (byte ∷ rest.now)) is) ∙ going.later t);
          name = omega (arith, named, going.name);
          pattern = omega (arith, plain, going.pattern);
          star = passed most walk.pattern.now rest.now walk.star longer plain going.star;
        };
        fewer = rw longer (fewer_steps (star_bytes longest walk.star) (star_bytes longest walk.star) most (length rest.now) (omega arith));
      }

  -- a step back, where the pattern doesn't match
  pub back : (r : Option Walk) → matches walk.pattern.now walk.name.now ≡ false
      → MatchOption r (matches_again walk.star ≡ false) (Leads most longest walk (matches_again walk.star))
      → MatchOption r (outcome walk ≡ false) (Leads most longest walk (outcome walk))
  back r other leads =
      let same : outcome walk ≡ matches_again walk.star = ap (λ b. b || matches_again walk.star) other in
      rw same leads

-- ---- the end

or_none : (b : Bool) → b || false ≡ b
or_none true = refl
or_none false = refl

star_or_not : (byte : ℕ) (pattern : List ℕ) (b stars : Bool) → stars ≡ matches pattern []
    → b && stars ≡ cond b (matches_later pattern []) (begins_with_byte byte (matches pattern) [])
star_or_not byte pattern true stars e = e ∙ sym (or_none (matches pattern []))
star_or_not byte pattern false stars e = refl

pub all_stars : (pattern : List ℕ) → list_all (λ byte. byte == 42) pattern ≡ matches pattern []
unfolding matches
all_stars [] = refl
all_stars (byte ∷ pattern) = star_or_not byte pattern (byte == 42) (list_all (λ byte. byte == 42) pattern) (all_stars pattern)

pub at_end : (most longest : ℕ) (walk : Walk) → IsWalk most longest walk → length walk.name.now ≡ 0
    → list_all (λ byte. byte == 42) walk.pattern.now ≡ outcome walk
at_end most longest walk going none = ended walk.pattern.now walk.name.now (matches_again walk.star) none going.later
  where
    ended : (pattern name : List ℕ) (again : Bool) → length name ≡ 0 → (again ≡ true → matches_later pattern name ≡ true)
        → list_all (λ byte. byte == 42) pattern ≡ matches pattern name || again
    ended pattern [] again none later = all_stars pattern ∙ sym (absorbed (matches pattern []) again (λ t. sym (or_none (matches pattern [])) ∙ later t))
    ended pattern (c ∷ name) again none later = absurd (omega arith)

-- ---- the whole

-- a walk over this pattern and this name, whose outcome is theirs
pub record IsUnderWay (pattern name : List ℕ) (walk : Walk) : Type 0 where
  pub same : outcome walk ≡ matches pattern name
  pub going : IsWalk (plain_bytes pattern + 1) (length name) walk
