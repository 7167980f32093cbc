-- What is kept of rules reads back as the same, as data and as text.
use Rattle.std.proofs.Common.{◌≡◌, ℕ, ◌≤◌, length, List, [], ◌∷◌, true, false, map, Some, Ok, option_map, codes, Vec, Global, take, take_all, subst, refl, sym}
use Rattle.std.proofs.Common.{ap, ◌∙◌, arith}
use Rattle.std.specs.List.{list_all, AllByRecursion}
use Rattle.serde_json.specs.Data.{Data, string, array, object, no_members, put, depth}
use Rattle.serde_json.specs.Read.{read}
use Rattle.serde_json.specs.View.{view, items_of}
use Rattle.serde_json.specs.declared.value.Value.{Value, Array}
use Rattle.serde_json.proofs.Views.{view-Array}
use Rattle.serde_json.specs.Written.{has_float, compact_text}
use Rattle.serde_json.proofs.Numbers.{number_of-decimal}
use Rattle.lake_values.specs.Settings.{is_pattern_byte, IsPattern, IsDeny, IsProtection, AreHooks}
use Rattle.lake_values.specs.declared.settings.Deny.{Deny}
use Rattle.lake_values.specs.declared.settings.Deny.TheVariants.{RequireMeta, DenyPrefix, MaxSize, MaxChanges}
use Rattle.lake_values.specs.declared.settings.HookRule.{HookRule}
use Rattle.setting_forms.proofs.FormsLemmas.{option_filter-here, text_within-string}
use Rattle.setting_forms.proofs.RulesLemmas.{rules_of-written}
use Rattle.setting_forms.proofs.TextLemmas.{IsFlat, no_floats, flat, read-list, number_flat}
use Rattle.hook_rules.specs.HookForms.{pattern, pattern_of, pattern_data, protection_of, protection_data, protection_text, denial, type_of, type_name}
use Rattle.hook_rules.specs.HookForms.{field_name, field_data, hook_of, hook_data, hooks_of, hooks_data, hooks_text, HasNumber}

-- ---- patterns

all_again : (bytes : List ℕ) → AllByRecursion (λ byte. is_pattern_byte byte ≡ true) bytes → list_all is_pattern_byte bytes ≡ true
all_again [] each = refl
all_again (byte ∷ bytes) each = rw each.0 (all_again bytes each.1)

pattern-string : (text : List ℕ) → IsPattern text → pattern (string text) ≡ Some text
pattern-string text is = rw (text_within-string 1 255 text is.some is.few) (option_filter-here (list_all is_pattern_byte) text (all_again text is.bytes))

pattern_again : (rule : ℕ) (text : List ℕ) → IsPattern text → pattern_of rule (pattern_data text) ≡ Ok text
pattern_again rule text is = rw (pattern-string text is)

pub protection_again : (patterns : List (List ℕ)) → IsProtection patterns → protection_of (protection_data patterns) ≡ Ok patterns
protection_again patterns is = rules_of-written pattern_of pattern_data IsPattern pattern_again patterns is.few is.each

pub protection_floats : (patterns : List (List ℕ)) → has_float (protection_data patterns) ≡ false
protection_floats patterns = no_floats pattern_data (λ text. refl) patterns

pub protection_depth : (patterns : List (List ℕ)) → depth (protection_data patterns) ≤ 127
protection_depth patterns = omega (arith, flat pattern_data (λ text. omega arith) patterns)

each_pattern : (patterns : List (List ℕ)) → AllByRecursion (IsFlat pattern_data) patterns
each_pattern [] = tt
each_pattern (text ∷ patterns) = (record { numbers = (tt, tt); again = refl; shallow = omega arith }, each_pattern patterns)

pub protection_text_again : (patterns : List (List ℕ)) → read (protection_text patterns) ≡ Some (protection_data patterns)
protection_text_again patterns = read-list pattern_data patterns (each_pattern patterns)

-- ---- hooks

denial_again : (deny : Deny) → IsDeny deny → denial (type_of deny) (field_data deny) ≡ Some deny
denial_again (RequireMeta key) is = ap (option_map RequireMeta) (text_within-string 1 128 key is.0 is.1)
denial_again (DenyPrefix prefix) is = ap (option_map DenyPrefix) (text_within-string 1 1024 prefix is.0 is.1)
denial_again (MaxSize bytes) is = refl
denial_again (MaxChanges count) is = refl

abbrev IsHook : HookRule → Type 0
IsHook rule = IsPattern rule.branch × IsDeny rule.deny

again_as : (rule : ℕ) (branch : List ℕ) (deny : Deny) → IsPattern branch → denial (type_of deny) (field_data deny) ≡ Some deny
    → hook_of rule (hook_data (record { branch = branch; deny = deny })) ≡ Ok (record { branch = branch; deny = deny })
again_as rule branch (RequireMeta key) is e = rw (pattern-string branch is, e)
again_as rule branch (DenyPrefix prefix) is e = rw (pattern-string branch is, e)
again_as rule branch (MaxSize bytes) is e = rw (pattern-string branch is)
again_as rule branch (MaxChanges count) is e = rw (pattern-string branch is)

hook_again : (rule : ℕ) (x : HookRule) → IsHook x → hook_of rule (hook_data x) ≡ Ok x
hook_again rule x is = again_as rule x.branch x.deny is.0 (denial_again x.deny is.1)

pub hooks_again : (rules : List HookRule) → AreHooks rules → hooks_of (hooks_data rules) ≡ Ok rules
hooks_again rules is = rules_of-written hook_of hook_data IsHook hook_again rules is.few is.each

hook_floats : (branch : List ℕ) (deny : Deny) → has_float (hook_data (record { branch = branch; deny = deny })) ≡ false
hook_floats branch (RequireMeta key) = refl
hook_floats branch (DenyPrefix prefix) = refl
hook_floats branch (MaxSize bytes) = refl
hook_floats branch (MaxChanges count) = refl

hook_depth : (branch : List ℕ) (deny : Deny) → depth (hook_data (record { branch = branch; deny = deny })) ≤ 1
hook_depth branch (RequireMeta key) = omega arith
hook_depth branch (DenyPrefix prefix) = omega arith
hook_depth branch (MaxSize bytes) = omega arith
hook_depth branch (MaxChanges count) = omega arith

pub hooks_floats : (rules : List HookRule) → has_float (hooks_data rules) ≡ false
hooks_floats rules = no_floats hook_data (λ x. hook_floats x.branch x.deny) rules

pub hooks_depth : (rules : List HookRule) → depth (hooks_data rules) ≤ 127
hooks_depth rules = omega (arith, flat hook_data (λ x. hook_depth x.branch x.deny) rules)

flat_as : (branch : List ℕ) (deny : Deny) → HasNumber deny → IsFlat hook_data (record { branch = branch; deny = deny })
flat_as branch (RequireMeta key) small = record { numbers = (tt, (tt, (tt, tt))); again = refl; shallow = omega arith }
flat_as branch (DenyPrefix prefix) small = record { numbers = (tt, (tt, (tt, tt))); again = refl; shallow = omega arith }
flat_as branch (MaxSize bytes) small =
    record { numbers = (tt, (number_flat bytes small, (tt, tt))); again = rw (number_of-decimal bytes small); shallow = omega arith }
flat_as branch (MaxChanges count) small =
    record { numbers = (tt, (number_flat count small, (tt, tt))); again = rw (number_of-decimal count small); shallow = omega arith }

each_hook : (rules : List HookRule) → AllByRecursion (λ rule. HasNumber rule.deny) rules → AllByRecursion (IsFlat hook_data) rules
each_hook [] each = tt
each_hook (x ∷ rules) each = (flat_as x.branch x.deny each.0, each_hook rules each.1)

pub hooks_text_again : (rules : List HookRule) → AllByRecursion (λ rule. HasNumber rule.deny) rules → read (hooks_text rules) ≡ Some (hooks_data rules)
hooks_text_again rules each = read-list hook_data rules (each_hook rules each)

-- the named fields, put one after another
pub hook_fields : (branch : List ℕ) (deny : Deny)
    → object (put (codes "type") (string (type_name (type_of deny)))
    (put (field_name (type_of deny)) (field_data deny) (put (codes "branch") (string branch) no_members))) ≡ hook_data (record { branch = branch; deny = deny })
hook_fields branch (RequireMeta key) = refl
hook_fields branch (DenyPrefix prefix) = refl
hook_fields branch (MaxSize bytes) = refl
hook_fields branch (MaxChanges count) = refl

-- ---- the texts

module _ (value : Value) (text : List ℕ) (fits : has_float (view value) ≡ false → text ≡ compact_text (view value))
    (again : depth (view value) ≤ 127 → read text ≡ Some (view value)) where
  pub protection_written : (patterns : List (List ℕ)) → view value ≡ protection_data patterns → text ≡ protection_text patterns
  protection_written patterns is = fits (ap has_float is ∙ protection_floats patterns) ∙ ap compact_text is

  pub protection_read : (patterns : List (List ℕ)) → view value ≡ protection_data patterns → IsProtection patterns
      → option_map protection_of (read text) ≡ Some (Ok patterns)
  protection_read patterns is kept =
      ap (option_map protection_of) (again (subst (λ d. depth d ≤ 127) (sym is) (protection_depth patterns)) ∙ ap Some is)
      ∙ ap Some (protection_again patterns kept)

  pub hooks_written : (rules : List HookRule) → view value ≡ hooks_data rules → text ≡ hooks_text rules
  hooks_written rules is = fits (ap has_float is ∙ hooks_floats rules) ∙ ap compact_text is

  pub hooks_read : (rules : List HookRule) → view value ≡ hooks_data rules → AreHooks rules → option_map hooks_of (read text) ≡ Some (Ok rules)
  hooks_read rules is kept =
      ap (option_map hooks_of) (again (subst (λ d. depth d ≤ 127) (sym is) (hooks_depth rules)) ∙ ap Some is) ∙ ap Some (hooks_again rules kept)

-- the value of a list, of which the first so many have been written
pub shown : {X : Type 0} (write : X → Data) (list : Vec Value Global) (xs ys : List X) (count : ℕ) → map view list.items ≡ map write (take count xs)
    → length xs ≤ count → xs ≡ ys
    → view (Array list) ≡ array (items_of (map write ys))
shown write list xs ys count so_far all same =
    view-Array list ∙ ap (λ ds. array (items_of ds)) (so_far ∙ ap (map write) (take_all count xs all ∙ same))
