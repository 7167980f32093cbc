-- What the requests of settings ask, or the first refusal of their form.
use Rattle.std.specs.Prelude.{ℕ, List, codes, Result, Ok, Err}
use Rattle.lake_values.specs.declared.settings.HookRule.{HookRule}
use Rattle.setting_forms.specs.declared.fault.RuleFault.{RuleFault}
use Rattle.setting_forms.specs.declared.fault.RuleFault.TheVariants as rule
use Rattle.hook_rules.specs.HookForms.{protection_of, hooks_of}
use Rattle.lake_calls.specs.declared.call.SettingCall.{SettingCall}
use Rattle.lake_calls.specs.declared.call.SettingCall.TheVariants.{GetProtection, SetProtection, GetHooks, SetHooks}
use Rattle.lake_calls.specs.declared.reply.FormRefusal.{FormRefusal}
use Rattle.lake_calls.specs.declared.reply.FormRefusal.TheVariants.{BadRule, BadRules}
use Rattle.api_routes.specs.declared.routes.SettingRoute.{SettingRoute}
use Rattle.api_routes.specs.declared.routes.SettingRoute.TheVariants as route
use Rattle.api_routes.specs.FormSteps.{in_turn}
use Rattle.api_routes.specs.PathSegments.{repo_segment}
use Rattle.api_routes.specs.RouteTable.{FoundValue}
use Rattle.api_bodies.specs.Bodies.{json_of}
use Rattle.api_objects.specs.CallSteps.{made}

-- the refusal of rules: of a field with its rule's number, and of anything else as a whole
abbrev pub refusal_of : RuleFault → FormRefusal
refusal_of (rule.Field number name) = BadRule number name
refusal_of other = BadRules

-- what is read of rules, or their refusal
abbrev pub of_rules : {X : Type 0} → Result X RuleFault → Result X FormRefusal
of_rules (Ok rules) = Ok rules
of_rules (Err fault) = Err (refusal_of fault)

-- the protection that a body is
abbrev pub protection_body : (body : List ℕ) → Result (List (List ℕ)) FormRefusal
protection_body body = in_turn (json_of body) (λ value. of_rules (protection_of value))

-- the hooks that a body is
abbrev pub hooks_body : (body : List ℕ) → Result (List HookRule) FormRefusal
hooks_body body = in_turn (json_of body) (λ value. of_rules (hooks_of value))

-- segment: r; body: protection
abbrev pub set_protection : (repo body : List ℕ) → Result SettingCall FormRefusal
set_protection repo body = in_turn (repo_segment (codes "r") repo) (λ r. in_turn (protection_body body) (λ patterns. Ok (SetProtection r patterns)))

-- segment: r; body: hooks
abbrev pub set_hooks : (repo body : List ℕ) → Result SettingCall FormRefusal
set_hooks repo body = in_turn (repo_segment (codes "r") repo) (λ r. in_turn (hooks_body body) (λ hooks. Ok (SetHooks r hooks)))

-- the call of a route
abbrev pub setting_call : SettingRoute → FoundValue → (body : List ℕ) → Result SettingCall FormRefusal
setting_call route.GetProtection found body = made GetProtection (repo_segment (codes "r") found.repo)
setting_call route.SetProtection found body = set_protection found.repo body
setting_call route.GetHooks found body = made GetHooks (repo_segment (codes "r") found.repo)
setting_call route.SetHooks found body = set_hooks found.repo body
