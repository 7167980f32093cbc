-- What is left to do of the match of a pattern and a name.
use Rattle.std.specs.Prelude.{◌≡◌, ◌+◌, ◌*◌, ◌≤◌, ◌<◌, ◌||◌, ◌==◌, if◌then◌else◌, ℕ, Bool, true, false, List, [], ◌∷◌, length, Option, Some, None, IfSome}
use Rattle.std.specs.List.{list_any}
use Rattle.lake_values.specs.HookDecisions.{matches, suffixes}
use Rattle.hook_rules.specs.declared.pattern.Star.{Star}
use Rattle.hook_rules.specs.declared.pattern.Walk.{Walk}

-- whether a pattern matches what is left of a name after any number of its bytes
abbrev pub matches_later : List ℕ → List ℕ → Bool
matches_later pattern name = list_any (matches pattern) (suffixes name)

-- after one byte or more
abbrev pub matches_after_one : List ℕ → List ℕ → Bool
matches_after_one pattern [] = false
matches_after_one pattern (byte ∷ name) = matches_later pattern name

-- whether the pattern matches if the last star stands for more bytes than now
abbrev pub matches_again : Option Star → Bool
matches_again None = false
matches_again (Some star) = matches_after_one star.pattern.now star.name.now

-- whether the walk ends in a match
abbrev pub outcome : Walk → Bool
outcome walk = matches walk.pattern.now walk.name.now || matches_again walk.star

-- how many bytes the last star may stand for
abbrev pub star_bytes : ℕ → Option Star → ℕ
star_bytes longest None = longest
star_bytes longest (Some star) = length star.name.now

-- how many bytes of a pattern are no star
abbrev pub plain_bytes : List ℕ → ℕ
plain_bytes [] = 0
plain_bytes (byte ∷ pattern) = if byte == 42 then plain_bytes pattern else plain_bytes pattern + 1

-- the most steps that are left: for each byte that the last star may stand for fewer than `most`, and the pattern
abbrev pub steps_left : ℕ → ℕ → Walk → ℕ
steps_left most longest walk = star_bytes longest walk.star * most + length walk.pattern.now

-- behind a star, what was passed of its pattern before what is left are plain bytes
pub record HasPassed (most : ℕ) (left : List ℕ) (star : Star) : Type 0 where
  pub plain : length star.pattern.now + plain_bytes left ≡ length left + plain_bytes star.pattern.now
  pub few : plain_bytes star.pattern.now < most

-- a walk over a pattern with fewer plain bytes than `most` and a name of this length: if the last star can stand for more, what
-- is left of the pattern matches later too; behind the last star plain bytes alone were passed
pub record IsWalk (most longest : ℕ) (walk : Walk) : Type 0 where
  pub later : matches_again walk.star ≡ true → matches_later walk.pattern.now walk.name.now ≡ true
  pub name : length walk.name.now ≤ star_bytes longest walk.star
  pub pattern : plain_bytes walk.pattern.now < most
  pub star : IfSome walk.star (HasPassed most walk.pattern.now)

-- a step leads on: the outcome stays, and fewer steps are left
pub record Leads (most longest : ℕ) (walk : Walk) (due : Bool) (next : Walk) : Type 0 where
  pub same : outcome next ≡ due
  pub going : IsWalk most longest next
  pub fewer : steps_left most longest next < steps_left most longest walk
