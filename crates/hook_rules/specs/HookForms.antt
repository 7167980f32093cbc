-- What hooks and protection are as JSON (this project's profile): how they are read, and what is kept of them.
use Rattle.std.specs.Prelude.{◌<◌, ◌^◌, ℕ, List, map, codes, if◌then◌else◌, Option, Some, None, option_map, option_and_then, Result, Ok}
use Rattle.std.specs.List.{list_all}
use Rattle.std.specs.Str.{bytes_eq}
use Rattle.serde_json.specs.Data.{Data, string, number, unsigned, array, object, member, no_members}
use Rattle.serde_json.specs.Find.{as_str}
use Rattle.serde_json.specs.View.{items_of}
use Rattle.serde_json.specs.Written.{compact_text}
use Rattle.lake_values.specs.Settings.{is_pattern_byte}
use Rattle.lake_values.specs.declared.settings.Deny.{Deny}
use Rattle.lake_values.specs.declared.settings.Deny.TheVariants.{RequireMeta, DenyPrefix, MaxSize, MaxChanges}
use Rattle.lake_values.specs.declared.settings.HookRule.{HookRule}
use Rattle.setting_forms.specs.Forms.{in_turn, option_filter, text_within, whole_number, field_of, object_of, rules_of}
use Rattle.setting_forms.specs.declared.fault.RuleFault.{RuleFault}
use Rattle.hook_rules.specs.declared.hook_type.HookType.{HookType}
use Rattle.hook_rules.specs.declared.hook_type.HookType.TheVariants as hook

-- a pattern: 1 to 255 bytes of `[A-Za-z0-9_*-]`
abbrev pub pattern : Data → Option (List ℕ)
pattern value = option_filter (list_all is_pattern_byte) (text_within 1 255 value)

-- ---- protection

-- a rule of protection: an object with a pattern
abbrev pub pattern_of : ℕ → Data → Result (List ℕ) RuleFault
pattern_of rule value = in_turn (object_of rule value) (field_of pattern (codes "pattern") rule)

-- protection: a list of such rules
abbrev pub protection_of : Data → Result (List (List ℕ)) RuleFault
protection_of = rules_of pattern_of

-- what is kept of a pattern
abbrev pub pattern_data : List ℕ → Data
pattern_data text = object (member (codes "pattern") (string text) no_members)

-- what is kept of protection
abbrev pub protection_data : List (List ℕ) → Data
protection_data patterns = array (items_of (map pattern_data patterns))

-- the text of what is kept
abbrev pub protection_text : List (List ℕ) → List ℕ
protection_text patterns = compact_text (protection_data patterns)

-- ---- hooks

-- the names of the types
abbrev pub type_name : HookType → List ℕ
type_name hook.RequireMeta = codes "require_meta"
type_name hook.DenyPrefix = codes "deny_prefix"
type_name hook.MaxSize = codes "max_size"
type_name hook.MaxChanges = codes "max_changes"

-- the type of this name
abbrev pub type_named : List ℕ → Option HookType
type_named name =
    if bytes_eq name (codes "require_meta") then Some hook.RequireMeta
    else if bytes_eq name (codes "deny_prefix") then Some hook.DenyPrefix
    else if bytes_eq name (codes "max_size") then Some hook.MaxSize
    else if bytes_eq name (codes "max_changes") then Some hook.MaxChanges
    else None

-- a text that names a type
abbrev pub hook_type : Data → Option HookType
hook_type value = option_and_then type_named (as_str value)

-- the name of the one field that a type asks for
abbrev pub field_name : HookType → List ℕ
field_name hook.RequireMeta = codes "key"
field_name hook.DenyPrefix = codes "prefix"
field_name hook.MaxSize = codes "bytes"
field_name hook.MaxChanges = codes "count"

-- what a rule of a type denies, with this as its field
abbrev pub denial : HookType → Data → Option Deny
denial hook.RequireMeta value = option_map RequireMeta (text_within 1 128 value)
denial hook.DenyPrefix value = option_map DenyPrefix (text_within 1 1024 value)
denial hook.MaxSize value = option_map MaxSize (whole_number value)
denial hook.MaxChanges value = option_map MaxChanges (whole_number value)

-- a hook: an object with its type, its branch and the field of its type
abbrev pub hook_of : ℕ → Data → Result HookRule RuleFault
hook_of rule value =
    in_turn (object_of rule value) (λ object.
    in_turn (field_of hook_type (codes "type") rule object) (λ type.
    in_turn (field_of pattern (codes "branch") rule object) (λ branch.
    in_turn (field_of (denial type) (field_name type) rule object) (λ deny.
    Ok (record { branch = branch; deny = deny })))))

-- hooks: a list of such rules
abbrev pub hooks_of : Data → Result (List HookRule) RuleFault
hooks_of = rules_of hook_of

-- the type of a rule that denies this
abbrev pub type_of : Deny → HookType
type_of (RequireMeta key) = hook.RequireMeta
type_of (DenyPrefix prefix) = hook.DenyPrefix
type_of (MaxSize bytes) = hook.MaxSize
type_of (MaxChanges count) = hook.MaxChanges

-- what its field has
abbrev pub field_data : Deny → Data
field_data (RequireMeta key) = string key
field_data (DenyPrefix prefix) = string prefix
field_data (MaxSize bytes) = number (unsigned bytes)
field_data (MaxChanges count) = number (unsigned count)

-- what is kept of a hook: the named fields alone, keys in byte order
abbrev pub hook_data : HookRule → Data
hook_data rule =
    object (member (codes "branch") (string rule.branch)
    (member (field_name (type_of rule.deny)) (field_data rule.deny)
    (member (codes "type") (string (type_name (type_of rule.deny))) no_members)))

-- what is kept of hooks
abbrev pub hooks_data : List HookRule → Data
hooks_data rules = array (items_of (map hook_data rules))

-- the text of what is kept
abbrev pub hooks_text : List HookRule → List ℕ
hooks_text rules = compact_text (hooks_data rules)

-- a number of a rule has 64 bits
abbrev pub HasNumber : Deny → Type 0
HasNumber (RequireMeta key) = Unit {0}
HasNumber (DenyPrefix prefix) = Unit {0}
HasNumber (MaxSize bytes) = bytes < 2 ^ 64
HasNumber (MaxChanges count) = count < 2 ^ 64
