-- The settings of a repository, and their limits.
use Rattle.std.specs.Prelude.{◌≡◌, ◌≤◌, ◌==◌, ◌||◌, ℕ, Bool, true, List, length}
use Rattle.std.specs.List.{AllByRecursion}
use Rattle.lake_base.specs.Names.{is_digit, is_lower, is_upper}
use Rattle.lake_values.specs.declared.settings.BranchDays.{BranchDays}
use Rattle.lake_values.specs.declared.settings.Deny.{Deny}
use Rattle.lake_values.specs.declared.settings.Deny.TheVariants.{RequireMeta, DenyPrefix, MaxSize, MaxChanges}
use Rattle.lake_values.specs.declared.settings.HookRule.{HookRule}

-- how long commits are kept, as contracts see it
pub record RulesValue : Type 0 where
  pub default_days : ℕ
  pub branches : List BranchDays

-- from 1 to 36,500 days
pub record AreDays (days : ℕ) : Type 0 where
  pub some : 1 ≤ days
  pub few : days ≤ 36500

-- the limits of retention: days in their range, and at most 256 branches with days of their own
pub record IsRetention (default_days : ℕ) (branches : List BranchDays) : Type 0 where
  pub days : AreDays default_days
  pub few : length branches ≤ 256
  pub each : AllByRecursion (λ rule. AreDays rule.days) branches

-- a byte of a pattern: a letter, a digit, an underscore, a star or a hyphen
abbrev pub is_pattern_byte : ℕ → Bool
is_pattern_byte byte = is_lower byte || is_upper byte || is_digit byte || (byte == 95) || (byte == 42) || (byte == 45)

-- 1 to 255 bytes of these
pub record IsPattern (pattern : List ℕ) : Type 0 where
  pub some : 1 ≤ length pattern
  pub few : length pattern ≤ 255
  pub bytes : AllByRecursion (λ byte. is_pattern_byte byte ≡ true) pattern

-- at most 256 patterns of protected branches
pub record IsProtection (patterns : List (List ℕ)) : Type 0 where
  pub few : length patterns ≤ 256
  pub each : AllByRecursion IsPattern patterns

-- a key of 1 to 128 bytes, or a prefix of 1 to 1,024
abbrev pub IsDeny : Deny → Type 0
IsDeny (RequireMeta key) = (1 ≤ length key) × (length key ≤ 128)
IsDeny (DenyPrefix prefix) = (1 ≤ length prefix) × (length prefix ≤ 1024)
IsDeny (MaxSize bytes) = Unit {0}
IsDeny (MaxChanges count) = Unit {0}

-- at most 256 hook rules
pub record AreHooks (rules : List HookRule) : Type 0 where
  pub few : length rules ≤ 256
  pub each : AllByRecursion (λ rule. IsPattern rule.branch × IsDeny rule.deny) rules
