-- What the settings of a repository refuse: protected branches, and hooks (this project's profile). The changes of
-- a commit are the paths at which its map differs from the head's, each put or deleted (`differences` of `KeyMap`).
use Rattle.std.specs.Prelude.{◌==◌, ◌&&◌, false, true, ℕ, Bool, List, [], ◌∷◌, nat_eq, nat_lt, is_none, position, Option, if◌then◌else◌}
use Rattle.std.specs.List.{list_any, starts_with}
use Rattle.std.specs.FinMap.{find, entries, len}
use Rattle.lake_values.specs.KeyMap.{ChangesValue}
use Rattle.lake_base.specs.Maps.{byte_order}
use Rattle.lake_values.specs.declared.entry.Change.{Change}
use Rattle.lake_values.specs.declared.entry.Change.TheVariants.{Put, Delete}
use Rattle.lake_values.specs.declared.settings.Deny.{Deny}
use Rattle.lake_values.specs.declared.settings.Deny.TheVariants.{RequireMeta, DenyPrefix, MaxSize, MaxChanges}
use Rattle.lake_values.specs.declared.settings.HookRule.{HookRule}

-- what is left after any number of bytes, none and all included
abbrev pub suffixes : List ℕ → List (List ℕ)
suffixes [] = [] ∷ []
suffixes (byte ∷ bytes) = (byte ∷ bytes) ∷ suffixes bytes

-- a byte of a pattern other than the star stands for itself
abbrev pub begins_with_byte : ℕ → (List ℕ → Bool) → List ℕ → Bool
begins_with_byte byte rest [] = false
begins_with_byte byte rest (c ∷ name) = (c == byte) && rest name

-- whether a pattern matches a name: a star (42) stands for any bytes, none included
unfoldable pub matches : List ℕ → List ℕ → Bool
matches [] [] = true
matches [] (c ∷ name) = false
matches (byte ∷ pattern) name =
    if byte == 42 then list_any (matches pattern) (suffixes name) else begins_with_byte byte (matches pattern) name

-- the first pattern that matches a branch
abbrev pub protecting_pattern : List (List ℕ) → List ℕ → Option ℕ
protecting_pattern patterns branch = position (λ pattern. matches pattern branch) patterns

-- an entry of more than so many bytes is put
abbrev pub puts_more : ℕ → Change → Bool
puts_more bytes (Put entry) = nat_lt bytes entry.size
puts_more bytes Delete = false

-- what a rule denies, of a commit with this metadata and these changes
abbrev pub forbids : Deny → List (List ℕ × List ℕ) → ChangesValue → Bool
forbids (RequireMeta key) metadata changes = is_none (find byte_order key metadata)
forbids (DenyPrefix prefix) metadata changes = list_any (λ change. starts_with nat_eq change.0 prefix) (entries changes)
forbids (MaxSize bytes) metadata changes = list_any (λ change. puts_more bytes change.1) (entries changes)
forbids (MaxChanges count) metadata changes = nat_lt count (len changes)

-- a rule whose pattern matches the branch, and that denies
abbrev pub denies : List ℕ → List (List ℕ × List ℕ) → ChangesValue → HookRule → Bool
denies branch metadata changes rule = matches rule.branch branch && forbids rule.deny metadata changes

-- the first rule that denies
abbrev pub denying_rule : List HookRule → List ℕ → List (List ℕ × List ℕ) → ChangesValue → Option ℕ
denying_rule rules branch metadata changes = position (denies branch metadata changes) rules
