-- What was read as a rule is within the limits of one.
use Rattle.std.proofs.Common.{◌≡◌, ℕ, List, [], ◌∷◌, true, Option, Some, None, option_map, Result, Ok, codes, refl, subst, arith}
use Rattle.std.specs.List.{list_all, AllByRecursion}
use Rattle.std.proofs.lemmas.Bool.{and_parts}
use Rattle.serde_json.specs.Data.{Data, Items}
use Rattle.lake_values.specs.Settings.{is_pattern_byte, IsPattern, IsDeny, IsProtection, AreHooks}
use Rattle.lake_values.specs.declared.settings.Deny.{Deny}
use Rattle.lake_values.specs.declared.settings.Deny.TheVariants.{RequireMeta, DenyPrefix, MaxSize, MaxChanges}
use Rattle.lake_values.specs.declared.settings.HookRule.{HookRule}
use Rattle.setting_forms.specs.Forms.{text_within, whole_number, field_of, object_of, list_of, rules_from}
use Rattle.setting_forms.specs.declared.fault.RuleFault.{RuleFault}
use Rattle.setting_forms.proofs.FormsLemmas.{in_turn-Ok, field_of-Ok, option_filter-Some, text_within-Some}
use Rattle.setting_forms.proofs.RulesLemmas.{Keeps-rules_from, few_of-list_of}
use Rattle.hook_rules.specs.HookForms.{pattern, pattern_of, hook_type, denial, field_name, hook_of}
use Rattle.hook_rules.specs.declared.hook_type.HookType.{HookType}
use Rattle.hook_rules.specs.declared.hook_type.HookType.TheVariants as hook

-- ---- patterns

all_pass : (bytes : List ℕ) → list_all is_pattern_byte bytes ≡ true → AllByRecursion (λ byte. is_pattern_byte byte ≡ true) bytes
all_pass [] e = tt
all_pass (byte ∷ bytes) e = let p = and_parts (is_pattern_byte byte) (list_all is_pattern_byte bytes) e in (p.0, all_pass bytes p.1)

IsPattern-pattern : (value : Data) (text : List ℕ) → pattern value ≡ Some text → IsPattern text
IsPattern-pattern value text e =
    let p = option_filter-Some (list_all is_pattern_byte) (text_within 1 255 value) text e in
    let size = text_within-Some 1 255 value text p.0 in
    record { some = size.0; few = size.1; bytes = all_pass text p.1 }

IsPattern-field : (name : List ℕ) (rule : ℕ) (from : Data) (text : List ℕ) → field_of pattern name rule from ≡ Ok text → IsPattern text
IsPattern-field name rule from text e = let f = field_of-Ok pattern name rule from text e in IsPattern-pattern f.0 text f.1

IsPattern-pattern_of : (rule : ℕ) (value : Data) (text : List ℕ) → pattern_of rule value ≡ Ok text → IsPattern text
IsPattern-pattern_of rule value text e =
    let found = in_turn-Ok (field_of pattern (codes "pattern") rule) text (object_of rule value) e in
    IsPattern-field (codes "pattern") rule found.0 text found.2

pub IsProtection-read : (value : Data) (items : Items) (patterns : List (List ℕ)) → list_of value ≡ Ok items → rules_from pattern_of 0 items ≡ Ok patterns
    → IsProtection patterns
IsProtection-read value items patterns listed read =
    let few = few_of-list_of value items listed in
    let kept = Keeps-rules_from pattern_of IsPattern IsPattern-pattern_of 0 items patterns read in
    record { few = omega (arith, few, kept.count); each = kept.each }

-- ---- hooks

mapped : {X : Type 0} (make : X → Deny) (o : Option X) (deny : Deny) → option_map make o ≡ Some deny → (x : X) × (o ≡ Some x) × (make x ≡ deny)
mapped make None deny e = absurd (cc)
mapped make (Some x) deny e = (x, refl, cc)

IsDeny-denial : (type : HookType) (value : Data) (deny : Deny) → denial type value ≡ Some deny → IsDeny deny
IsDeny-denial hook.RequireMeta value deny e = let m = mapped RequireMeta (text_within 1 128 value) deny e in
    subst IsDeny m.2 (text_within-Some 1 128 value m.0 m.1)
IsDeny-denial hook.DenyPrefix value deny e = let m = mapped DenyPrefix (text_within 1 1024 value) deny e in
    subst IsDeny m.2 (text_within-Some 1 1024 value m.0 m.1)
IsDeny-denial hook.MaxSize value deny e = let m = mapped MaxSize (whole_number value) deny e in subst IsDeny m.2 tt
IsDeny-denial hook.MaxChanges value deny e = let m = mapped MaxChanges (whole_number value) deny e in subst IsDeny m.2 tt

abbrev IsHook : HookRule → Type 0
IsHook rule = IsPattern rule.branch × IsDeny rule.deny

abbrev is_read : HookRule → Result HookRule RuleFault
is_read x = Ok x

IsHook-hook_of : (rule : ℕ) (value : Data) (x : HookRule) → hook_of rule value ≡ Ok x → IsHook x
IsHook-hook_of rule value x e =
    let found = in_turn-Ok _ x (object_of rule value) e in
    let type = in_turn-Ok _ x (field_of hook_type (codes "type") rule found.0) found.2 in
    let branch = in_turn-Ok _ x (field_of pattern (codes "branch") rule found.0) type.2 in
    let deny = in_turn-Ok _ x (field_of (denial type.0) (field_name type.0) rule found.0) branch.2 in
    kept (record { branch = branch.0; deny = deny.0 }) x deny.2
    (IsPattern-field (codes "branch") rule found.0 branch.0 branch.1, is_deny type.0 rule found.0 deny.0 deny.1)
  where
    is_deny : (type : HookType) (rule : ℕ) (from : Data) (deny : Deny) → field_of (denial type) (field_name type) rule from ≡ Ok deny → IsDeny deny
    is_deny type rule from deny e = let f = field_of-Ok (denial type) (field_name type) rule from deny e in IsDeny-denial type f.0 deny f.1

    kept : (a b : HookRule) → is_read a ≡ Ok b → IsHook a → IsHook b
    kept a b e h = let same : a ≡ b = cc in subst IsHook same h

pub AreHooks-read : (value : Data) (items : Items) (rules : List HookRule) → list_of value ≡ Ok items → rules_from hook_of 0 items ≡ Ok rules → AreHooks rules
AreHooks-read value items rules listed read =
    let few = few_of-list_of value items listed in
    let kept = Keeps-rules_from hook_of IsHook IsHook-hook_of 0 items rules read in
    record { few = omega (arith, few, kept.count); each = kept.each }
